use Rattle.std.proofs.Common.{ap, ◌∙◌}
use Rattle.id_rule.specs.Parts.{part_of}
use Rattle.id_shared.proofs.Keeping.{kept_load}
use Rattle.id_shared.proofs.crowd_holding_tests.visits.Goals as goal

pub returns-in-Locked-clause-owners : goal.returns-in-Locked-clause-owners
returns-in-Locked-clause-owners g c = λ slot r h. c.settles-count.ensures.owners slot r
    ((c.try_lock.ensures.claims slot r).2 (ap (λ z. (part_of z.view slot).owner) c.load.ensures.view ∙ (kept_load c.args.pass.now.view c.args.slot c.load.result slot r).2 h))
