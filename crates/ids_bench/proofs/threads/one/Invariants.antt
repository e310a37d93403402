use Rattle.id_shared.specs.Standing.{IsAtRest}
use Rattle.ids_bench.proofs.threads.one.Given as goal

abbrev pub invariant-loop : goal.invariant-loop
invariant-loop g l = IsAtRest l.ids l.a × IsAtRest l.ids l.b
