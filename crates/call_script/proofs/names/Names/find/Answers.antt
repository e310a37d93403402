-- A place is in the list.
use Rattle.std.proofs.Common.{◌∙◌, bytes_eq}
use Rattle.call_script.proofs.Places.{found_below}
use Rattle.call_script.proofs.names.Names.find.Goals as goal

pub returns-clause-bound : goal.returns-clause-bound
returns-clause-bound c =
    rw (← c.self.view_is) (found_below (λ n. bytes_eq n c.args.name.now) c.self.inside.names.items c.copied.result (c.copied.ensures ∙ c.get.ensures.value ∙ c.self.invariant c.args.name.now))
