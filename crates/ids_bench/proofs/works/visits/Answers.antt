use Rattle.ids_bench.proofs.works.visits.Goals as goal

pub returns-in-Locked-clause-owners : goal.returns-in-Locked-clause-owners
returns-in-Locked-clause-owners g c = λ slot r h. c.settles.ensures.owners slot r ((c.try_lock.ensures.claims slot r).2 h)
