-- What the told ends of a script rest on: lines that name the call. This project's own choice.
use Rattle.std.specs.Prelude.{◌≡◌, ℕ, Bool, false, ◌==◌, ◌+◌, ◌≤◌, ◌⊎◌, List, [], ◌∷◌, Some, Contains, count_by, slice_get}
use Rattle.rpc_model.specs.declared.chan.LeafChan.{LeafChan}
use Rattle.rpc_model.specs.declared.event.End.{End}
use Rattle.rpc_model.specs.declared.event.End.TheVariants.{Good}
use Rattle.rpc_model.specs.declared.script.Act.{Act}
use Rattle.rpc_model.specs.declared.script.Act.TheVariants.{Call, Cancel, Reply, Lose, Tick, Join}
use Rattle.rpc_model.specs.declared.told.Told.TheVariants.{Ended, Unended, Full, Gone}
use Rattle.rpc_model.specs.declared.script.Script.{Script}
use Rattle.rpc_model.specs.declared.told.Told.{Told}
use Rattle.rpc_model.specs.declared.chan.Chan.TheVariants as chan
use Rattle.rpc_model.specs.Kinds.{script_kinds}
use Rattle.rpc_model.specs.Versions.{possible_attempts}
use Rattle.rpc_model.specs.Machine.{start}
use Rattle.rpc_model.specs.Told.{unbegun, told}
use Rattle.model_laws.specs.Earned.{HasLiveReply}
use Rattle.model_laws.specs.Logs.{EndsBy}

-- the line is a reply of code 0 to this call
abbrev pub IsReplyTo : ℕ → Act → Type 0
IsReplyTo c (Call at call chan text) = ⊥
IsReplyTo c (Cancel at call) = ⊥
IsReplyTo c (Reply at call node attempt code text) = (call ≡ c) × (code ≡ 0)
IsReplyTo c (Lose at call node attempt code) = ⊥
IsReplyTo c (Tick at) = ⊥
IsReplyTo c (Join call) = ⊥

-- one of these lines is
abbrev pub HasReplyTo : ℕ → List Act → Type 0
HasReplyTo c [] = ⊥
HasReplyTo c (act ∷ acts) = IsReplyTo c act ⊎ HasReplyTo c acts

-- A text is told only of a call that has a reply line of code 0. That reply came to an attempt that was live then, among the call's own events.
abbrev pub TextsNeedAReply : Type 0
TextsNeedAReply = (script : Script) (c count : ℕ) (text : List ℕ) → Contains (told script) (Ended c (Good text) count)
    → HasReplyTo c script.acts × ((e : EndsBy script unbegun script.acts c (Good text) count) × HasLiveReply script_kinds c (start script_kinds e.tree c e.text e.begun).state e.events)

-- A call is told to have issued no more attempts than the leaves of its plan may, on a plain channel one and its retry limit.
abbrev pub ToldAttemptsAreFew : Type 0
ToldAttemptsAreFew = (script : Script) (c count : ℕ) (end : End) → Contains (told script) (Ended c end count)
    → (e : EndsBy script unbegun script.acts c end count) × (count ≤ possible_attempts e.tree)
    × ((leaf : LeafChan) → slice_get script.chans e.chan ≡ Some (chan.Leaf leaf) → count ≤ 1 + leaf.retry)

-- the end of the call of this number is told
abbrev pub is_end_of : ℕ → Told → Bool
is_end_of call (Ended c end attempts) = c == call
is_end_of call (Unended c) = false
is_end_of call (Full c) = false
is_end_of call (Gone c) = false

-- The end of a call is told once at the most.
abbrev pub ToldOnce : Type 0
ToldOnce = (script : Script) (call : ℕ) → count_by (is_end_of call) (told script) ≤ 1
