use Rattle.id_shared.proofs.crowd_holding_tests.holds_long.Goals as goal

pub returns-clause-owners : goal.returns-clause-owners
returns-clause-owners g c = λ slot r h. c.settles-count.ensures.owners slot r ((c.lock.ensures.claims slot r).2 h)
