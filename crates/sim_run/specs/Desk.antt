-- What the replay keeps of its calls: the numbers of the calls with their ids, and the slots of the pool in which those stand that have begun and weren't told. This project's own choice.
use Rattle.std.specs.Prelude.{◌≡◌, ℕ, ◌+◌, ◌*◌, ◌<◌, ◌≤◌, ◌⊎◌, Bool, true, false, nat_eq, List, [], ◌∷◌, ◌++◌, map, take, length, count_by, Option, None, Some, is_some}
use Rattle.std.specs.List.{IsDistinct, AllByRecursion}
use Rattle.std.specs.Arc.{arc_value}
use Rattle.std.specs.Map.{keys_of, lookup}
use Rattle.std.specs.Option.{option_map}
use Rattle.rpc_model.specs.declared.kinds.MapKind.{MapKind}
use Rattle.rpc_model.specs.declared.kinds.MergeKind.{MergeKind}
use Rattle.rpc_model.specs.declared.meaning.Meaning.TheVariants.{Attempt}
use Rattle.rpc_model.specs.Effects.{Send}
use Rattle.rpc_model.specs.Plan.{Plan}
use Rattle.rpc_model.specs.Versions.{width, offset_of}
use Rattle.rpc_model.specs.declared.event.Event.{Event}
use Rattle.rpc_model.specs.Kinds.{script_kinds}
use Rattle.rpc_model.specs.State.{State, end_of}
use Rattle.rpc_model.specs.Machine.{start, machine}
use Rattle.rpc_model.specs.Marks.{Begun}
use Rattle.rpc_model.specs.Told.{Standing, begun, full, told_of, is_begun}
use Rattle.id_pool.specs.Ids.{make_id, slot_of, version_of}
use Rattle.id_pool.specs.Ranges.{Slot, Range, Vacant, Retired, Taken, Free, slot_at, look}
use Rattle.id_pool.specs.Answers.{value_says}
use Rattle.rpc_model.specs.declared.script.Script.{Script}
use Rattle.rpc_model.specs.declared.script.Act.{Act}
use Rattle.rpc_model.specs.declared.told.Told.{Told}
use Rattle.rpc_model.specs.Limits.{called}
use Rattle.rpc_model.specs.Told as spec
use Rattle.sim_run.specs.declared.ticket.Ticket.{Ticket}
use Rattle.sim_run.specs.declared.state.Replay.{Replay}
use Rattle.rpc_model.specs.Served.{AreServed}
use Rattle.sim_run.specs.Marked.{AreMarked, AreOwned, IsFit}
use Rattle.sim_run.specs.Link.{Link}
use Rattle.sim_run.specs.Sends.{server_to, posted}
use Rattle.sim_run.specs.Wires.{idle_wires, on_wire, received, lost}
use Rattle.rpc_model.specs.declared.event.Event.TheVariants as event
use Rattle.sim_run.specs.declared.turn.Turn.TheVariants as turn
use Rattle.sim_run.specs.Acting.{turned_by}
use Rattle.sim_run.specs.Slots.{acts_by, brought_wires}
use Rattle.sim_run.specs.Passages.{Passage, went_out, came_in, was_lost, passed, requests, requests_in}

-- the plan of a ticket's call, and how many ids it has
abbrev pub plan_of : Ticket → Plan MapKind MergeKind
plan_of ticket = arc_value ticket.plan

abbrev pub width_of : Ticket → ℕ
width_of ticket = width (plan_of ticket)

-- the id of an attempt of the call
abbrev pub attempt_id : Ticket → ℕ → ℕ → Option ℕ
attempt_id ticket node attempt = option_map (λ offset. ticket.first + offset) (offset_of (plan_of ticket) (Attempt node attempt))

-- how a call stands that had ids, by what its first id finds
abbrev pub stand : ℕ → Option Begun → Standing
stand call None = told_of call
stand call (Some b) = begun b

abbrev pub standing_at : List (Slot Begun) → ℕ → Option Ticket → Standing
standing_at slots call None = full call
standing_at slots call (Some range) = stand call (value_says (look range.first slots))

-- how a call stands: a call without ids found no slot
abbrev pub standing : List (Slot Begun) → ℕ × Option Ticket → Standing
standing slots entry = standing_at slots entry.0 entry.1

abbrev pub standings : List (Slot Begun) → List (ℕ × Option Ticket) → List Standing
standings slots entries = map (standing slots) entries

abbrev pub with_first : Option Ticket → List ℕ → List ℕ
with_first None firsts = firsts
with_first (Some range) firsts = range.first ∷ firsts

-- the first ids of the calls that had ids
abbrev pub firsts : List (ℕ × Option Ticket) → List ℕ
firsts [] = []
firsts (entry ∷ entries) = with_first entry.1 (firsts entries)

-- ids are those of the slot's range, or come before all that the slot will have
abbrev pub IsOf : Ticket → Slot Begun → Type 0
IsOf range (Vacant next) = version_of range.first + width_of range ≤ next
IsOf range Retired = ⊥
IsOf range (Taken r) = ((version_of range.first ≡ r.first) × (width_of range ≡ r.size)) ⊎ (version_of range.first + width_of range ≤ r.first)

abbrev pub IsOfSlot : Ticket → Option (Slot Begun) → Type 0
IsOfSlot range None = ⊥
IsOfSlot range (Some slot) = IsOf range slot

-- it is the call of this number, with the ticket's plan
abbrev pub IsNumbered : ℕ → Ticket → Option Begun → Type 0
IsNumbered call range None = Unit {0}
IsNumbered call range (Some b) = (b.call ≡ call) × (b.plan ≡ plan_of range)

-- the ids of a call are of their slot, and what they find is that call
abbrev pub IsKnown : List (Slot Begun) → ℕ → Option Ticket → Type 0
IsKnown slots call None = Unit {0}
IsKnown slots call (Some range) = (1 ≤ width_of range) × IsOfSlot range (slot_at (slot_of range.first) slots) × IsNumbered call range (value_says (look range.first slots))

abbrev pub is_taken : Slot Begun → Bool
is_taken (Vacant next) = false
is_taken Retired = false
is_taken (Taken r) = true

-- a range whose versions are below a bound and as many as its call's plan asks for
pub record IsRange (bound : ℕ) (r : Range Begun) : Type 0 where
  pub below : r.first + r.size ≤ bound
  pub free : r.standing ≡ Free
  pub sized : r.size ≡ width r.value.plan
  pub fit : IsFit r.size r.value

-- no slot is retired or locked, and its versions so far are below a bound
abbrev pub IsSlot : ℕ → Slot Begun → Type 0
IsSlot bound (Vacant next) = next ≤ bound
IsSlot bound Retired = ⊥
IsSlot bound (Taken r) = IsRange bound r

-- the calls and the slots agree: each call once, with ids of its own, and as many slots are taken as calls have begun and weren't told
pub record IsSound (slots : List (Slot Begun)) (entries : List (ℕ × Option Ticket)) : Type 0 where
  pub numbers : IsDistinct nat_eq (keys_of entries)
  pub ids : IsDistinct nat_eq (firsts entries)
  pub known : AllByRecursion (λ entry. IsKnown slots entry.0 entry.1) entries
  pub open_slots : AllByRecursion (IsSlot (1 + 1024 * length entries)) slots
  pub counted : count_by is_begun (standings slots entries) ≡ count_by is_taken slots

-- each leaf of a ticket's plan has servers, each of which is one of so many
abbrev pub IsServed : ℕ → Ticket → Type 0
IsServed servers ticket = AreServed servers (plan_of ticket)

abbrev pub IsServedIn : ℕ → Option Ticket → Type 0
IsServedIn servers None = Unit {0}
IsServedIn servers (Some ticket) = IsServed servers ticket

-- ---- what passed on the wires

-- a call that stands so is in this state; one whose end was told has an end in it
abbrev pub IsIn : Standing → State MapKind MergeKind → Type 0
IsIn (begun b) state = b.state ≡ state
IsIn (full call) state = ⊥
IsIn (told_of call) state = is_some (end_of state) ≡ true

-- what is sent is of an attempt that the plan has, and goes to one of so many servers
abbrev pub HasPlace : ℕ → Plan MapKind MergeKind → Send → Type 0
HasPlace servers plan send = (is_some (offset_of plan (Attempt send.node send.attempt)) ≡ true) × (send.server < servers)

-- the requests of a call that has ids are those of the plain machine, which some events brought to where the call stands: each that it sent, in its
-- order, and no other
pub record HasSent (servers : ℕ) (log : List Passage) (call : ℕ) (ticket : Ticket) (standing : Standing) : Type 0 where
  pub request : List ℕ
  pub moment : ℕ
  pub events : List (Event × ℕ)
  pub stands : IsIn standing (machine script_kinds (plan_of ticket) call request moment events).state
  pub sent : requests_in call log ≡ requests ticket.first (plan_of ticket) call (machine script_kinds (plan_of ticket) call request moment events).sends
  pub placed : AllByRecursion (HasPlace servers (plan_of ticket)) (machine script_kinds (plan_of ticket) call request moment events).sends

-- a call without ids sent nothing
abbrev pub IsSender : ℕ → List Passage → ℕ → Option Ticket → Standing → Type 0
IsSender servers log call None standing = requests_in call log ≡ []
IsSender servers log call (Some ticket) standing = HasSent servers log call ticket standing

-- the id is that of an attempt of a call that had ids, and the server that of the attempt
pub record IsAimed (entries : List (ℕ × Option Ticket)) (call server id : ℕ) : Type 0 where
  pub ticket : Ticket
  pub node : ℕ
  pub attempt : ℕ
  pub found : lookup (nat_eq call) entries ≡ Some (Some ticket)
  pub named : Some id ≡ attempt_id ticket node attempt
  pub to : server ≡ server_to (plan_of ticket) call node attempt

-- what passed is of a call that had ids, and what came in is of an attempt of it
abbrev pub IsPassage : List (ℕ × Option Ticket) → Passage → Type 0
IsPassage entries (went_out call server id payload) = (ticket : Ticket) × (lookup (nat_eq call) entries ≡ Some (Some ticket))
IsPassage entries (came_in call server r) = IsAimed entries call server r.id
IsPassage entries (was_lost call server id) = IsAimed entries call server id

-- The wires, one for each of so many servers, are as all that passed left them: what went out on each and which ids wait. Each call's requests are
-- the plain machine's, and nothing else passed.
pub record AreWired (servers : ℕ) (slots : List (Slot Begun)) (entries : List (ℕ × Option Ticket)) (wires : List Link) : Type 0 where
  pub log : List Passage
  pub left : wires ≡ passed log (idle_wires servers)
  pub senders : AllByRecursion (λ entry. IsSender servers log entry.0 entry.1 (standing slots entry)) entries
  pub all : AllByRecursion (IsPassage entries) log

-- the replay stands for the plain machine's: the moment reached, and the calls by their tickets
abbrev pub replay_of : Replay → spec.Replay
replay_of replay = record { reached = replay.reached; calls = standings replay.pool replay.calls.entries }

-- what holds of a replay between two lines of a script
pub record IsReady (script : Script) (replay : Replay) : Type 0 where
  pub sound : IsSound replay.pool replay.calls.entries
  pub pool : length replay.pool ≡ script.slots
  pub wired : AreWired script.servers replay.pool replay.calls.entries replay.wires.items
  pub marked : AreMarked replay.marks replay.pool
  pub owned : AreOwned replay.calls.entries replay.marks
  pub served : AllByRecursion (λ entry. IsServedIn script.servers entry.1) replay.calls.entries

-- the ticket that a look-up finds
abbrev pub ticket_in : Option (Option Ticket) → Option Ticket
ticket_in None = None
ticket_in (Some o) = o

-- the ticket of a call that had ids
abbrev pub ticket_of : ℕ → Replay → Option Ticket
ticket_of call replay = ticket_in (lookup (nat_eq call) replay.calls.entries)

-- ---- the wires after a line

-- a call begins in the slot that is free: what it sends at once goes out, under ids from its first one on
abbrev pub first_wires : Option (ℕ × ℕ) → Option (Plan MapKind MergeKind) → ℕ → List ℕ → Replay → List Link
first_wires None plan call text old = old.wires.items
first_wires (Some free) None call text old = old.wires.items
first_wires (Some free) (Some plan) call text old =
    posted (make_id free.0 free.1) plan call (start script_kinds plan call text old.reached).sends old.wires.items

-- an event comes to a call by the call's own id
abbrev pub event_wires : Option Ticket → Event → Replay → List Link
event_wires None event old = old.wires.items
event_wires (Some ticket) event old = (acts_by ticket.first (turned_by (turn.Event event old.reached)) (look ticket.first old.pool) old.wires.items old.marks).0

abbrev pub wires_by : Option ℕ → (ℕ → Link → Link) → (ℕ → ℕ → Event) → Ticket → ℕ → ℕ → ℕ → Replay → List Link
wires_by None change what ticket server node attempt old = event_wires (Some ticket) (what node attempt) old
wires_by (Some id) change what ticket server node attempt old =
    (brought_wires what old.reached id old.pool (on_wire server (change id) old.wires.items) old.marks).0

abbrev pub attempt_wires : (ℕ → Link → Link) → (ℕ → ℕ → Event) → Option Ticket → ℕ → ℕ → ℕ → Replay → List Link
attempt_wires change what None call node attempt old = old.wires.items
attempt_wires change what (Some ticket) call node attempt old =
    wires_by (attempt_id ticket node attempt) change what ticket (server_to (plan_of ticket) call node attempt) node attempt old

-- A reply to an attempt comes in on the wire of its server, under its id, and by this id to the call; so does a loss. An attempt that the call's plan
-- doesn't have has no id, and what becomes of it comes on no wire.
abbrev pub reply_wires : Option Ticket → ℕ → ℕ → ℕ → ℕ → List ℕ → Replay → List Link
reply_wires ticket call node attempt code text old =
    attempt_wires (λ id. received (record { id = id; code = code; text = text })) (λ n k. event.Reply n k code text) ticket call node attempt old

abbrev pub loss_wires : Option Ticket → ℕ → ℕ → ℕ → ℕ → Replay → List Link
loss_wires ticket call node attempt code old = attempt_wires lost (λ n k. event.Lost n k code) ticket call node attempt old

-- a call line begins a call whose number no line before it has
abbrev pub IsNew : List (ℕ × Option Ticket) → Act → Type 0
IsNew entries act = IsDistinct nat_eq (keys_of entries ++ called (act ∷ []))

-- a list that was told begins with this
abbrev pub IsFront : List Told → List Told → List Told → Type 0
IsFront before now told = (n : ℕ) × (n ≤ length told) × (now ≡ before ++ take n told)
