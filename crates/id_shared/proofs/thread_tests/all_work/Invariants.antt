use Rattle.std.proofs.Common.{All, vec_len}
use Rattle.id_shared.specs.Standing.{IsAtRest}
use Rattle.id_shared.proofs.thread_tests.all_work.Given as goal

abbrev pub invariant-loop-desk : goal.invariant-loop-desk
invariant-loop-desk g l = All (λ d. IsAtRest l.ids d.pass) l.desks.items

abbrev pub decreases-loop-desk : goal.decreases-loop-desk
decreases-loop-desk g l = vec_len l.desks
