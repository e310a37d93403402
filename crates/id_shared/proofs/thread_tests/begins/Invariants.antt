use Rattle.id_shared.specs.Standing.{IsAtRest}
use Rattle.id_shared.proofs.thread_tests.begins.Given as goal

abbrev pub invariant-loop : goal.invariant-loop
invariant-loop g l = IsAtRest l.ids l.pass
