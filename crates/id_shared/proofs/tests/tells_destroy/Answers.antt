use Rattle.id_shared.proofs.tests.tells_destroy.Goals as goal

pub returns-in-Locked-clause-owners : goal.returns-in-Locked-clause-owners
returns-in-Locked-clause-owners c = λ slot r h. c.destroys.ensures.owners slot r ((c.in-Locked.ensures.claims slot r).2 h)
