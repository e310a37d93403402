-- The depths that stand beside a reader's channels. This project's own choice.
use Rattle.std.specs.Prelude.{◌≡◌, ℕ, ◌<◌, ◌≤◌, List, length, Some, slice_get}
use Rattle.rpc_model.specs.declared.chan.Chan.{Chan}
use Rattle.rpc_model.specs.declared.kinds.MapKind.{MapKind}
use Rattle.rpc_model.specs.declared.kinds.MergeKind.{MergeKind}
use Rattle.rpc_model.specs.Faults.{depth}

-- the depth of each channel stands at its place
pub record AreDepths (depths : List ℕ) (chans : List (Chan MapKind MergeKind)) : Type 0 where
  pub enough : length chans ≤ length depths
  pub right : (n : ℕ) → n < length chans → slice_get depths n ≡ Some (depth chans n)
