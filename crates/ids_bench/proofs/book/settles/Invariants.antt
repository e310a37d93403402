use Rattle.id_shared.specs.Claims.{KeepsOwners}
use Rattle.id_shared.specs.Standing.{IsAtRest}
use Rattle.ids_bench.specs.Books.{IsOpen}
use Rattle.ids_bench.proofs.book.settles.Given as goal

abbrev pub invariant-loop : goal.invariant-loop
invariant-loop g l = IsAtRest l.ids l.pass × KeepsOwners l.initial.pass l.pass × IsOpen l.pass l.kept.0 l.kept.1
