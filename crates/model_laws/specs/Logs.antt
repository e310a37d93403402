-- What a call took: the events of the lines that name it and the marks of its own, in the order in which it took them. This project's own choice.
use Rattle.std.specs.Prelude.{◌≡◌, ℕ, ◌<◌, Bool, true, false, ◌==◌, max, List, [], ◌∷◌, ◌++◌, Some, Contains, if◌then◌else◌}
use Rattle.rpc_model.specs.declared.event.End.{End}
use Rattle.rpc_model.specs.declared.event.Event.{Event}
use Rattle.rpc_model.specs.declared.event.Event.TheVariants as event
use Rattle.rpc_model.specs.declared.script.Act.{Act}
use Rattle.rpc_model.specs.declared.script.Act.TheVariants.{Call, Cancel, Reply, Lose, Tick, Join}
use Rattle.rpc_model.specs.declared.told.Told.TheVariants.{Ended}
use Rattle.rpc_model.specs.Effects.{Mark, deadline, backup}
use Rattle.rpc_model.specs.Plan.{Plan, plan}
use Rattle.rpc_model.specs.declared.kinds.MapKind.{MapKind}
use Rattle.rpc_model.specs.declared.kinds.MergeKind.{MergeKind}
use Rattle.rpc_model.specs.Kinds.{script_kinds}
use Rattle.rpc_model.specs.State.{end_of, attempts}
use Rattle.rpc_model.specs.Machine.{machine}
use Rattle.rpc_model.specs.Marks.{Begun, begin, apply, mark_event}
use Rattle.rpc_model.specs.declared.script.Script.{Script}
use Rattle.rpc_model.specs.Told.{Replay, unbegun, after, told}

-- ---- a call's own lines

-- what a line brings the call of this number, where this moment was reached before
abbrev pub own_event : ℕ → ℕ → Act → List (Event × ℕ)
own_event c reached (Call at call chan text) = []
own_event c reached (Cancel at call) = if call == c then (event.Cancel, max reached at) ∷ [] else []
own_event c reached (Reply at call node attempt code text) = if call == c then (event.Reply node attempt code text, max reached at) ∷ [] else []
own_event c reached (Lose at call node attempt code) = if call == c then (event.Lost node attempt code, max reached at) ∷ [] else []
own_event c reached (Tick at) = []
own_event c reached (Join call) = []

-- the replay after these lines
abbrev pub after_all : Script → Replay → List Act → Replay
after_all script replay [] = replay
after_all script replay (act ∷ acts) = after_all script (after script replay act) acts

-- what these lines bring it
abbrev pub own_events : ℕ → Script → Replay → List Act → List (Event × ℕ)
own_events c script replay [] = []
own_events c script replay (act ∷ acts) = own_event c replay.reached act ++ own_events c script (after script replay act) acts

-- ---- a call's own marks

abbrev pub is_mark : Event → Bool
is_mark (event.Reply node attempt code text) = false
is_mark (event.Lost node attempt code) = false
is_mark (event.Backup node) = true
is_mark (event.Deadline node) = true
is_mark event.Cancel = false

-- the events that aren't marks
abbrev pub outer : List (Event × ℕ) → List (Event × ℕ)
outer [] = []
outer (timed ∷ events) = if is_mark timed.0 then outer events else timed ∷ outer events

-- the marks that wait on when this event is taken: a mark that is taken waits no more
abbrev pub behind : Bool → List Mark → List Mark
behind false marks = marks
behind true [] = []
behind true (mark ∷ marks) = marks

-- an event is taken, be it a line's or a mark
abbrev pub take : Begun → Event × ℕ → Begun
take b timed = apply (record b { waiting = behind (is_mark timed.0) b.waiting }) timed.0 timed.1

-- this mark comes first
abbrev pub IsFirst : Mark → List Mark → Type 0
IsFirst mark [] = ⊥
IsFirst mark (m ∷ marks) = m ≡ mark

-- none of these marks is due
abbrev pub NoneIsDue : ℕ → List Mark → Type 0
NoneIsDue moment [] = Unit {0}
NoneIsDue moment (m ∷ marks) = moment < m.moment

-- A mark is taken where it comes first of those that wait, at its own moment. A line's event is taken where none is due.
abbrev pub ComesNext : Begun → Event → ℕ → Type 0
ComesNext b (event.Reply node attempt code text) moment = NoneIsDue moment b.waiting
ComesNext b (event.Lost node attempt code) moment = NoneIsDue moment b.waiting
ComesNext b (event.Backup node) moment = IsFirst (record { moment = moment; node = node; backup = backup }) b.waiting
ComesNext b (event.Deadline node) moment = IsFirst (record { moment = moment; node = node; backup = deadline }) b.waiting
ComesNext b event.Cancel moment = NoneIsDue moment b.waiting

-- each of these events comes next when the ones before it were taken
abbrev pub AreWoven : Begun → List (Event × ℕ) → Type 0
AreWoven b [] = Unit {0}
AreWoven b (timed ∷ events) = ComesNext b timed.0 timed.1 × AreWoven (take b timed) events

-- ---- the law

-- From these lines on, the call of this number ends so: it begins at a line of its own and is joined at another, and what
-- it took in between are the events of the lines that name it, in their order, woven with its own marks. The machine of these
-- events has this end and so many attempts.
pub record EndsBy (script : Script) (replay : Replay) (acts : List Act) (c : ℕ) (end : End) (count : ℕ) : Type 0 where
  pub before : List Act
  pub at : ℕ
  pub chan : ℕ
  pub text : List ℕ
  pub between : List Act
  pub rest : List Act
  pub lines : acts ≡ before ++ Call at c chan text ∷ between ++ Join c ∷ rest
  pub tree : Plan MapKind MergeKind
  pub planned : plan script.chans chan c ≡ Some tree
  pub begun : ℕ
  pub begun_at : begun ≡ max (after_all script replay before).reached at
  pub events : List (Event × ℕ)
  pub own : outer events ≡ own_events c script (after_all script replay (before ++ Call at c chan text ∷ [])) between
  pub woven : AreWoven (begin c tree text begun) events
  pub ends : end_of (machine script_kinds tree c text begun events).state ≡ Some end
  pub issued : attempts (machine script_kinds tree c text begun events).state ≡ count

-- Each end that is told is the machine's for that call's own events.
abbrev pub EndsAreTheMachines : Type 0
EndsAreTheMachines = (script : Script) (c : ℕ) (end : End) (count : ℕ) → Contains (told script) (Ended c end count) → EndsBy script unbegun script.acts c end count

-- A mark that a call takes is one that its nodes set, for this node and at this very moment.
abbrev pub TakenMarksWereSet : Type 0
TakenMarksWereSet = (tree : Plan MapKind MergeKind) (c : ℕ) (text : List ℕ) (begun : ℕ) (before : List (Event × ℕ)) (node : ℕ) (backup : Bool) (moment : ℕ)
    (rest : List (Event × ℕ)) → AreWoven (begin c tree text begun) (before ++ (mark_event node backup, moment) ∷ rest)
    → Contains (machine script_kinds tree c text begun before).marks (record { moment = moment; node = node; backup = backup })
