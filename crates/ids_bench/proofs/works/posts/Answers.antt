use Rattle.ids_bench.proofs.works.posts.Goals as goal

pub returns-in-Locked-clause-owners : goal.returns-in-Locked-clause-owners
returns-in-Locked-clause-owners g c = λ slot r h. c.settles.ensures.owners slot r ((c.try_post.ensures.claims slot r).2 h)

pub returns-in-Queued-clause-owners : goal.returns-in-Queued-clause-owners
returns-in-Queued-clause-owners g c = λ slot r h. (c.try_post.ensures.claims slot r).2 h

pub returns-in-NoNode-clause-owners : goal.returns-in-NoNode-clause-owners
returns-in-NoNode-clause-owners g c = λ slot r h. (c.try_post.ensures.claims slot r).2 h

pub returns-in-Again-clause-owners : goal.returns-in-Again-clause-owners
returns-in-Again-clause-owners g c = λ slot r h. (c.try_post.ensures.claims slot r).2 h
