-- What a call is after the entries of its log: this project's own choice.
use Rattle.std.specs.Prelude.{◌≡◌, ℕ, List, map, fold}
use Rattle.rpc_model.specs.declared.event.Event.{Event}
use Rattle.rpc_model.specs.declared.entry.Entry.{Entry}
use Rattle.rpc_model.specs.Kinds.{Kinds}
use Rattle.rpc_model.specs.Plan.{Plan}
use Rattle.rpc_model.specs.Machine.{start, step, machine}
use Rattle.call_tree.specs.Running.{Running, begun_by, stepped_by}

abbrev pub timed : Entry → Event × ℕ
timed entry = (entry.event, entry.moment)

module _ {M G : Type 0} (kinds : Kinds M G) where
  -- a call that applied one more entry
  abbrev pub applied : Running M G → Entry → Running M G
  applied running entry = stepped_by running (step kinds running.call running.state entry.event entry.moment) entry

  -- a call that began and applied these entries
  abbrev pub call_after : Plan M G → ℕ → List ℕ → ℕ → List Entry → Running M G
  call_after plan call request begun entries = fold applied (begun_by plan call (start kinds plan call request begun)) entries

  -- Its log has these entries, and its state is the plain machine's after their events, each at its moment.
  abbrev pub CallsAreTheMachinesOfTheirLogs : Type 0
  CallsAreTheMachinesOfTheirLogs = (plan : Plan M G) (call : ℕ) (request : List ℕ) (begun : ℕ) (entries : List Entry)
      → ((call_after plan call request begun entries).log ≡ entries) × ((call_after plan call request begun entries).state ≡ (machine kinds plan call request begun (map timed entries)).state)
