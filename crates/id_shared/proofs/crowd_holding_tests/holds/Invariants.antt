use Rattle.id_shared.specs.Standing.{IsAtRest}
use Rattle.id_shared.proofs.crowd_holding_tests.holds.Given as goal

abbrev pub invariant-loop : goal.invariant-loop
invariant-loop g l = IsAtRest l.ids l.pass
