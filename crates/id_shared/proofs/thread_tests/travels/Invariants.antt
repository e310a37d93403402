use Rattle.id_shared.specs.Standing.{IsAtRest}
use Rattle.id_shared.proofs.thread_tests.travels.Given as goal

abbrev pub invariant-loop : goal.invariant-loop
invariant-loop l = IsAtRest l.ids l.now.pass
