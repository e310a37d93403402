-- No plan stands there so far.
use Rattle.std.proofs.Common.{ℕ, ◌≢◌, Some, slice_get}
use Rattle.sim_run.specs.declared.planning.Shared.{Shared}
use Rattle.sim_run.proofs.planning.nothing_kept.Given as goal

abbrev pub invariant-loop-place : goal.invariant-loop-place
invariant-loop-place l = record { none : (place : ℕ) (shared : Shared) → slice_get l.kept.items place ≢ Some (Some shared) }
