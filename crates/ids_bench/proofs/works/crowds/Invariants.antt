use Rattle.id_shared.specs.Standing.{IsAtRest}
use Rattle.ids_bench.proofs.works.crowds.Given as goal

abbrev pub invariant-loop : goal.invariant-loop
invariant-loop g l = IsAtRest l.ids l.pass
