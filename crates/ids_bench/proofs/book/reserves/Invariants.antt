use Rattle.id_shared.specs.Claims.{KeepsOwners}
use Rattle.id_shared.specs.Standing.{IsAtRest}
use Rattle.ids_bench.proofs.book.reserves.Given as goal

abbrev pub invariant-loop : goal.invariant-loop
invariant-loop g l = IsAtRest l.ids l.pass × KeepsOwners l.initial.pass l.pass
