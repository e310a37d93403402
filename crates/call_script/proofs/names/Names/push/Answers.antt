-- One more name.
use Rattle.std.proofs.Common.{rules, sym, ◌∙◌}
use Rattle.call_script.proofs.Places.{finds_name}
use Rattle.call_script.proofs.names.Names.push.Goals as goal

pub invariant_of-self-in-Ok : goal.invariant_of-self-in-Ok
invariant_of-self-in-Ok c =
    let same = c.of.ensures ∙ c.in_ok-owned.ensures.items in
    rw c.in_ok-push.ensures.items
    (finds_name c.self.inside.places c.insert.new.self c.self.inside.names.items c.in_ok-key.key c.of.result
    (c.in_ok-key.ensures.items ∙ sym same) c.self.invariant (rw same (search rules)) (search rules))
