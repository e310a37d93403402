use Rattle.id_shared.specs.Standing.{IsAtRest}
use Rattle.id_shared.proofs.thread_tests.works.Given as goal

abbrev pub invariant-loop-round : goal.invariant-loop-round
invariant-loop-round g l = IsAtRest l.ids l.now.pass
