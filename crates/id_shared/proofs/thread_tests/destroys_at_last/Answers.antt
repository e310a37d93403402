use Rattle.id_shared.proofs.thread_tests.destroys_at_last.Goals as goal

pub returns-in-Locked-clause-owners : goal.returns-in-Locked-clause-owners
returns-in-Locked-clause-owners g c = λ slot r h. c.destroys.ensures.owners slot r ((c.in-Locked.ensures.claims slot r).2 h)

pub returns-in-Gone-clause-owners : goal.returns-in-Gone-clause-owners
returns-in-Gone-clause-owners g c = λ slot r h. (c.in-Gone.ensures.claims slot r).2 h
