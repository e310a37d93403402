use Rattle.id_shared.proofs.crowd_holding_tests.ends.Goals as goal

pub returns-clause-others : goal.returns-clause-others
returns-clause-others g c = λ s r ne h. (c.join.ensures.others s ne r).2 (c.destroys.ensures.owners s r h)
