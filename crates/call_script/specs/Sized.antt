-- What the size of a call's plan says of it. This project's own choice.
use Rattle.std.specs.Prelude.{◌≡◌, ◌≤◌, true, false, Option, None, Some}
use Rattle.rpc_model.specs.declared.kinds.MapKind.{MapKind}
use Rattle.rpc_model.specs.declared.kinds.MergeKind.{MergeKind}
use Rattle.rpc_model.specs.Plan.{Plan}
use Rattle.rpc_model.specs.Before.{attempts_of}
use Rattle.rpc_model.specs.CallLines.{is_narrow}
use Rattle.chan_tree.specs.declared.walking.Size.{Size}

-- it isn't too wide and has so many possible attempts, or else it is too wide
abbrev pub IsSized : Option Size → Option (Plan MapKind MergeKind) → Type 0
IsSized None plan = is_narrow plan ≡ false
IsSized (Some size) plan = (is_narrow plan ≡ true) × (size.attempts ≡ attempts_of plan) × (size.attempts ≤ 1024)
