use Rattle.ids_bench.proofs.book.ends.Goals as goal

pub returns-clause-owners : goal.returns-clause-owners
returns-clause-owners g c = λ other r ne h. (c.join.ensures.others other ne r).2 (c.destroys.ensures.owners other r h)
