-- The ids of a call whose end a join told: none of them waits any more. This project's own choice.
use Rattle.std.specs.Prelude.{ℕ, zero, suc, List, Option, None, Some}
use Rattle.rpc_model.specs.declared.meaning.Meaning.{Meaning}
use Rattle.rpc_model.specs.declared.meaning.Meaning.TheVariants.{Node, Attempt}
use Rattle.rpc_model.specs.declared.told.Told.{Told}
use Rattle.rpc_model.specs.declared.told.Told.TheVariants.{Ended, Unended, Full, Gone}
use Rattle.rpc_model.specs.Versions.{meaning_of}
use Rattle.sim_run.specs.declared.ticket.Ticket.{Ticket}
use Rattle.id_pool.specs.Ranges.{look}
use Rattle.sim_run.specs.declared.state.Replay.{Replay}
use Rattle.sim_run.specs.Acting.{joined_by}
use Rattle.sim_run.specs.Slots.{acts_by, join_says}
use Rattle.sim_run.specs.Desk.{plan_of, width_of, attempt_id}
use Rattle.sim_run.specs.Link.{Link}
use Rattle.sim_run.specs.Sends.{server_to}
use Rattle.sim_run.specs.Wires.{on_wire, lost}

-- an id, where there is one, waits no more on the wire of this server
abbrev pub closed_id : Option ℕ → ℕ → List Link → List Link
closed_id None server wires = wires
closed_id (Some id) server wires = on_wire server (lost id) wires

-- what a version of a call is of: the id of an attempt waits no more
abbrev pub closed_one : Ticket → ℕ → Option Meaning → List Link → List Link
closed_one ticket call None wires = wires
closed_one ticket call (Some (Node node)) wires = wires
closed_one ticket call (Some (Attempt node attempt)) wires = closed_id (attempt_id ticket node attempt) (server_to (plan_of ticket) call node attempt) wires

-- the first so many ids of a call wait no more
abbrev pub closed : Ticket → ℕ → ℕ → List Link → List Link
closed ticket call zero wires = wires
closed ticket call (suc count) wires = closed_one ticket call (meaning_of (plan_of ticket) count) (closed ticket call count wires)

-- what a join told: where that is the call's end, none of its ids waits any more
abbrev pub closed_by : Told → Ticket → ℕ → List Link → List Link
closed_by (Ended number end attempts) ticket call wires = closed ticket call (width_of ticket) wires
closed_by (Unended number) ticket call wires = wires
closed_by (Full number) ticket call wires = wires
closed_by (Gone number) ticket call wires = wires

-- the moment that a join reached, and what it told
abbrev pub closed_after : Option (ℕ × Told) → Ticket → ℕ → List Link → List Link
closed_after None ticket call wires = wires
closed_after (Some said) ticket call wires = closed_by said.1 ticket call wires

-- a join of a call takes its marks, and where it tells the call's end the call's ids wait no more
abbrev pub join_wires : ℕ → Option Ticket → Replay → List Link
join_wires call None old = old.wires.items
join_wires call (Some ticket) old =
    closed_after (join_says old.reached (look ticket.first old.pool)) ticket call
    (acts_by ticket.first (joined_by old.reached) (look ticket.first old.pool) old.wires.items old.marks).0
