use Rattle.id_shared.specs.Standing.{IsAtRest}
use Rattle.id_shared.proofs.tests.check.Given as goal

abbrev pub invariant-loop-call : goal.invariant-loop-call
invariant-loop-call g l = IsAtRest l.ids l.pass
