-- What the replay's own type of a call stands for: a call that has begun, as the plain machine has it.
use Rattle.std.specs.Prelude.{ℕ, nat_le, List, Option, None, Some, is_some, if◌then◌else◌}
use Rattle.rpc_model.specs.declared.kinds.MapKind.{MapKind}
use Rattle.rpc_model.specs.declared.kinds.MergeKind.{MergeKind}
use Rattle.rpc_model.specs.Effects.{Mark}
use Rattle.rpc_model.specs.State.{end_of}
use Rattle.rpc_model.specs.Marks.{Begun, least_mark}
use Rattle.call_tree.specs.Running.{Bare}

-- a call, and its marks that wait
abbrev pub begun_of : Bare MapKind MergeKind → List Mark → Begun
begun_of call waiting = record { call = call.call; plan = call.plan; state = call.state; waiting = waiting }

-- the mark that comes first is taken out where it is due
abbrev pub due_least : ℕ → Begun → Option (Mark × List Mark) → Option Mark × Begun
due_least moment b None = (None, b)
due_least moment b (Some (mark, others)) = if nat_le mark.moment moment then (Some mark, record b { waiting = others }) else (None, b)

abbrev pub due_taken : ℕ → Begun → Option Mark × Begun
due_taken moment b = due_least moment b (least_mark b.waiting)

-- the mark that comes first is taken out where the call has no end
abbrev pub open_least : Begun → Option (Mark × List Mark) → Option Mark × Begun
open_least b None = (None, b)
open_least b (Some (mark, others)) = (Some mark, record b { waiting = others })

abbrev pub open_taken : Begun → Option Mark × Begun
open_taken b = if is_some (end_of b.state) then (None, b) else open_least b (least_mark b.waiting)
