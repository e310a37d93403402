use Rattle.id_shared.specs.Standing.{IsAtRest}
use Rattle.id_shared.proofs.retired_tests.wears_out.Given as goal

abbrev pub invariant-loop-count : goal.invariant-loop-count
invariant-loop-count g l = IsAtRest l.ids l.pass
