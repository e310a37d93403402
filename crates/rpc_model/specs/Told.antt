-- What the joins of a script tell: the calls, the moment reached, and one line after the other. This project's own choice.
use Rattle.std.specs.Prelude.{ℕ, Bool, true, false, ◌==◌, nat_le, max, List, [], ◌∷◌, ◌++◌, find, count_by, Option, None, Some, if◌then◌else◌}
use Rattle.rpc_model.specs.declared.event.End.{End}
use Rattle.rpc_model.specs.declared.event.Event.{Event}
use Rattle.rpc_model.specs.declared.event.Event.TheVariants as event
use Rattle.rpc_model.specs.declared.kinds.MapKind.{MapKind}
use Rattle.rpc_model.specs.declared.kinds.MergeKind.{MergeKind}
use Rattle.rpc_model.specs.declared.script.Script.{Script}
use Rattle.rpc_model.specs.declared.script.Act.{Act}
use Rattle.rpc_model.specs.declared.script.Act.TheVariants.{Call, Cancel, Reply, Lose, Tick, Join}
use Rattle.rpc_model.specs.declared.told.Told.{Told}
use Rattle.rpc_model.specs.declared.told.Told.TheVariants.{Ended, Unended, Full, Gone}
use Rattle.rpc_model.specs.Plan.{Plan, plan}
use Rattle.rpc_model.specs.State.{end_of, attempts}
use Rattle.rpc_model.specs.Marks.{Begun, begin, apply, weave, finish}

-- how a call stands: begun and not told, without a slot, or told
pub data Standing : Type 0 where
  begun : Begun → Standing
  full : ℕ → Standing
  told_of : ℕ → Standing

abbrev pub number_of : Standing → ℕ
number_of (begun b) = b.call
number_of (full call) = call
number_of (told_of call) = call

abbrev pub is_call : ℕ → Standing → Bool
is_call call standing = number_of standing == call

abbrev pub is_begun : Standing → Bool
is_begun (begun b) = true
is_begun (full call) = false
is_begun (told_of call) = false

-- the moment reached, and the calls in the order of their lines
pub record Replay : Type 0 where
  pub reached : ℕ
  pub calls : List Standing

abbrev pub unbegun : Replay
unbegun = record { reached = 0; calls = [] }

-- the first element that passes the test is changed
abbrev pub change_first : {X : Type 0} → (X → Bool) → (X → X) → List X → List X
change_first test f [] = []
change_first test f (x ∷ xs) = if test x then f x ∷ xs else x ∷ change_first test f xs

-- every slot holds a call that has begun and was not told
abbrev pub is_full : Script → Replay → Bool
is_full script replay = nat_le script.slots (count_by is_begun replay.calls)

-- A call begins, or finds no slot.
abbrev pub stand_new : Bool → ℕ → Plan MapKind MergeKind → List ℕ → ℕ → Standing
stand_new true call plan text moment = full call
stand_new false call plan text moment = begun (begin call plan text moment)

abbrev pub call_after : Script → Replay → ℕ → ℕ → List ℕ → Option (Plan MapKind MergeKind) → Replay
call_after script replay moment call text None = record replay { reached = moment }
call_after script replay moment call text (Some plan) =
    record { reached = moment; calls = replay.calls ++ stand_new (is_full script replay) call plan text moment ∷ [] }

-- An outer event of a call that has begun comes after the marks that are due; of another call it does nothing.
abbrev pub event_after : Event → ℕ → Standing → Standing
event_after event moment (begun b) = begun (apply (weave moment b) event moment)
event_after event moment (full call) = full call
event_after event moment (told_of call) = told_of call

abbrev pub call_event : Replay → ℕ → ℕ → Event → Replay
call_event replay moment call event = record { reached = moment; calls = change_first (is_call call) (event_after event moment) replay.calls }

-- A join of a call that has begun takes its marks. A call whose end it finds is told from then on.
abbrev pub stand_joined : Begun → Option End → Standing
stand_joined b None = begun b
stand_joined b (Some end) = told_of b.call

abbrev pub joined : ℕ → Standing → Standing
joined reached (begun b) = let b' = (finish reached b).1 in stand_joined b' (end_of b'.state)
joined reached (full call) = full call
joined reached (told_of call) = told_of call

abbrev pub joined_moment : ℕ → Option Standing → ℕ
joined_moment reached None = reached
joined_moment reached (Some (begun b)) = (finish reached b).0
joined_moment reached (Some (full call)) = reached
joined_moment reached (Some (told_of call)) = reached

abbrev pub call_join : Replay → ℕ → Replay
call_join replay call =
    record { reached = joined_moment replay.reached (find (is_call call) replay.calls); calls = change_first (is_call call) (joined replay.reached) replay.calls }

-- what a join tells
abbrev pub join_end : Begun → Option End → Told
join_end b None = Unended b.call
join_end b (Some end) = Ended b.call end (attempts b.state)

abbrev pub join_tells : ℕ → Option Standing → List Told
join_tells reached None = []
join_tells reached (Some (begun b)) = let b' = (finish reached b).1 in join_end b' (end_of b'.state) ∷ []
join_tells reached (Some (full call)) = Gone call ∷ []
join_tells reached (Some (told_of call)) = Gone call ∷ []

-- A call without a slot is told so at once.
abbrev pub new_tells : Bool → ℕ → List Told
new_tells true call = Full call ∷ []
new_tells false call = []

abbrev pub call_tells : Bool → ℕ → Option (Plan MapKind MergeKind) → List Told
call_tells is_full call None = []
call_tells is_full call (Some plan) = new_tells is_full call

-- the replay after a line
unfoldable pub after : Script → Replay → Act → Replay
after script replay (Call at call chan text) = call_after script replay (max replay.reached at) call text (plan script.chans chan call)
after script replay (Cancel at call) = call_event replay (max replay.reached at) call event.Cancel
after script replay (Reply at call node attempt code text) = call_event replay (max replay.reached at) call (event.Reply node attempt code text)
after script replay (Lose at call node attempt code) = call_event replay (max replay.reached at) call (event.Lost node attempt code)
after script replay (Tick at) = record replay { reached = max replay.reached at }
after script replay (Join call) = call_join replay call

-- what a line tells
unfoldable pub tells : Script → Replay → Act → List Told
tells script replay (Call at call chan text) = call_tells (is_full script replay) call (plan script.chans chan call)
tells script replay (Cancel at call) = []
tells script replay (Reply at call node attempt code text) = []
tells script replay (Lose at call node attempt code) = []
tells script replay (Tick at) = []
tells script replay (Join call) = join_tells replay.reached (find (is_call call) replay.calls)

-- what the lines from here on tell
abbrev pub told_from : Script → Replay → List Act → List Told
told_from script replay [] = []
told_from script replay (act ∷ acts) = tells script replay act ++ told_from script (after script replay act) acts

-- what a script tells
unfoldable pub told : Script → List Told
told script = told_from script unbegun script.acts
