use Rattle.std.proofs.Common.{◌≡◌, length}
use Rattle.id_shared.specs.Standing.{IsPassOf, HasDropped}
use Rattle.id_shared.proofs.crowd_holding_tests.drops.Given as goal

abbrev pub invariant-loop-error : goal.invariant-loop-error
invariant-loop-error g l = IsPassOf l.ids l.pass × HasDropped l.pass × (l.pass.view ≡ l.initial.pass.view)

abbrev pub decreases-loop-error : goal.decreases-loop-error
decreases-loop-error g l = length l.pass.scratch
