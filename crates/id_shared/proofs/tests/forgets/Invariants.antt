use Rattle.std.proofs.Common.{◌≡◌, length}
use Rattle.id_shared.specs.Standing.{IsPassOf, HasDropped}
use Rattle.id_shared.proofs.tests.forgets.Given as goal

abbrev pub invariant-loop : goal.invariant-loop
invariant-loop g l = IsPassOf l.ids l.pass × HasDropped l.pass × (l.pass.view ≡ l.initial.pass.view)

abbrev pub decreases-loop : goal.decreases-loop
decreases-loop g l = length l.pass.scratch
