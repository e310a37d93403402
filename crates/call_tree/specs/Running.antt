-- A call while it runs, and what each step of it must see done: this project's own choice.
use Rattle.std.specs.Prelude.{◌≡◌, ℕ, List, [], ◌∷◌, ◌++◌, Option, is_some}
use Rattle.rpc_model.specs.declared.event.Event.{Event}
use Rattle.rpc_model.specs.declared.entry.Entry.{Entry}
use Rattle.rpc_model.specs.declared.entry.Origin.{Origin}
use Rattle.rpc_model.specs.declared.mapper.Mapped.{Mapped}
use Rattle.rpc_model.specs.declared.merger.Merged.{Merged}
use Rattle.rpc_model.specs.Kinds.{Kinds}
use Rattle.rpc_model.specs.Plan.{Plan}
use Rattle.rpc_model.specs.State.{State, Run, end_of}
use Rattle.call_tree.specs.declared.effects.Effects.{Effects}

-- the plan and number of a call, the state that it is in, and the events that were applied to it
pub record Running (M G : Type 0) : Type 0 where
  pub plan : Plan M G
  pub call : ℕ
  pub state : State M G
  pub log : List Entry

-- the plan and number of a call, and the state that it is in
pub record Bare (M G : Type 0) : Type 0 where
  pub plan : Plan M G
  pub call : ℕ
  pub state : State M G

-- the kinds of mapper and merger whose answers these functions are
abbrev pub kinds_of : {M G : Type 0} → (M → ℕ → ℕ → List ℕ → Mapped) → (G → Option (List ℕ) → ℕ → List ℕ → Merged) → Kinds M G
kinds_of mapped merged = record { map = mapped; merge = merged }

abbrev pub entry_of : Event → ℕ → Origin → Entry
entry_of event moment from = record { event = event; moment = moment; from = from }

module _ {M G : Type 0} where
  -- a call without a log that has begun by this run
  abbrev pub bare_by : Plan M G → ℕ → Run M G → Bare M G
  bare_by plan call run = record { plan = plan; call = call; state = run.state }

  -- a call that has begun by this run
  abbrev pub begun_by : Plan M G → ℕ → Run M G → Running M G
  begun_by plan call run = record { plan = plan; call = call; state = run.state; log = [] }

  -- a call that took this run at this entry
  abbrev pub stepped_by : Running M G → Run M G → Entry → Running M G
  stepped_by running run entry = record running { state = run.state; log = running.log ++ entry ∷ [] }

  -- what was sent and set on a run, in order, and whether the call has an end after it
  pub record IsEffects (run : Run M G) (effects : Effects) : Type 0 where
    pub sends : effects.sends ≡ run.sends
    pub marks : effects.marks ≡ run.marks
    pub ended : effects.ended ≡ is_some (end_of run.state)
