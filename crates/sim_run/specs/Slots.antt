-- What an event and a join do to the slot of their call: as the plain machine does to the call, in the range that holds its id. This project's own choice.
use Rattle.std.specs.Prelude.{◌≡◌, ℕ, ◌-◌, ◌^◌, ◌<◌, ◌==◌, List, Option, None, Some, is_some, true}
use Rattle.rpc_model.specs.declared.event.End.{End}
use Rattle.rpc_model.specs.declared.event.Event.{Event}
use Rattle.rpc_model.specs.declared.told.Told.{Told}
use Rattle.rpc_model.specs.State.{end_of}
use Rattle.rpc_model.specs.Marks.{Begun, apply, weave, finish}
use Rattle.rpc_model.specs.Told.{join_end}
use Rattle.id_pool.specs.Ids.{version_of}
use Rattle.sim_run.specs.declared.slots.Finished.{Finished}
use Rattle.rpc_model.specs.declared.event.Event.TheVariants as event
use Rattle.sim_run.specs.declared.wire.Reply.{Reply}
use Rattle.sim_run.specs.declared.turn.Turn.{Turn}
use Rattle.sim_run.specs.declared.turn.Turn.TheVariants as turn
use Rattle.sim_run.specs.Link.{Link}
use Rattle.rpc_model.specs.declared.meaning.Meaning.{Meaning}
use Rattle.rpc_model.specs.declared.meaning.Meaning.TheVariants.{Node, Attempt}
use Rattle.rpc_model.specs.Versions.{meaning_of}
use Rattle.timer_core.specs.declared.mark.Mark.{Mark}
use Rattle.sim_run.specs.Acting.{Acting, turned_by}
use Rattle.id_pool.specs.Ranges.{changed, look, Range, Slot, Taken, Seen, Nothing, Unlocked, Locked, Free, seen, left_by, with_value}

-- a range whose holder left this value and let it go
abbrev pub visited : {T : Type 0} → Range T → T → Range T
visited r value = record r { value = value; used = true; standing = Free }

abbrev pub visit_by : {T : Type 0} → (T → T) → Seen T → Slot T → Slot T
visit_by f Nothing slot = slot
visit_by f (Unlocked r k) slot = Taken (visited r (f r.value))
visit_by f (Locked r k waiting) slot = slot

-- the slot after the value that this version finds unlocked was changed
abbrev pub visit : {T : Type 0} → (T → T) → ℕ → Slot T → Slot T
visit f version slot = visit_by f (seen version slot) slot

abbrev pub touch_by : {T : Type 0} → (T → T) → Seen T → Slot T → Slot T
touch_by f Nothing slot = slot
touch_by f (Unlocked r k) slot = Taken (with_value r (f r.value))
touch_by f (Locked r k waiting) slot = Taken (with_value r (f r.value))

-- the slot after the value that this version finds was changed
abbrev pub touch : {T : Type 0} → (T → T) → ℕ → Slot T → Slot T
touch f version slot = touch_by f (seen version slot) slot

-- what comes to a call: an event at a moment, or the moment that is reached
abbrev pub turned : Turn → Begun → Begun
turned (turn.Event event moment) b = apply b event moment
turned (turn.Due moment) b = weave moment b

-- what comes to a call comes early enough
abbrev pub IsEarly : Turn → Type 0
IsEarly (turn.Event event moment) = moment < 2 ^ 60
IsEarly (turn.Due moment) = moment < 2 ^ 60

-- a join of the call that was found reaches a moment that is early enough
abbrev pub IsJoinedEarly : ℕ → Option Begun → Type 0
IsJoinedEarly reached None = Unit {0}
IsJoinedEarly reached (Some b) = (finish reached b).0 < 2 ^ 60

-- The id is the first of the range that it finds unlocked, if it finds one.
abbrev pub IsFirst : {T : Type 0} → ℕ → List (Slot T) → Type 0
IsFirst {T} id slots = (r : Range T) (k : ℕ) → look id slots ≡ Unlocked r k → (r.first == version_of id) ≡ true

-- a call whose marks a join took
abbrev pub finished : ℕ → Begun → Begun
finished reached b = (finish reached b).1

abbrev pub finished_of : ℕ → Begun → Finished
finished_of reached b = record { call = (finished reached b).call; reached = (finish reached b).0; over = is_some (end_of (finished reached b).state) }

-- A call that a join left: without an end it keeps its range, and with one it leaves its slot.
abbrev pub joined_to : Option End → Begun → Range Begun → Slot Begun
joined_to None b r = Taken (visited r b)
joined_to (Some end) b r = left_by r

abbrev pub join_range : ℕ → Range Begun → Slot Begun
join_range reached r = joined_to (end_of (finished reached r.value).state) (finished reached r.value) r

abbrev pub join_by : ℕ → Seen Begun → Slot Begun → Slot Begun
join_by reached Nothing slot = slot
join_by reached (Unlocked r k) slot = join_range reached r
join_by reached (Locked r k waiting) slot = slot

-- the slot after a join of the call that this version finds unlocked
abbrev pub join : ℕ → ℕ → Slot Begun → Slot Begun
join reached version slot = join_by reached (seen version slot) slot

-- the moment reached and what the join tells
abbrev pub join_says : ℕ → Seen Begun → Option (ℕ × Told)
join_says reached Nothing = None
join_says reached (Unlocked r k) = Some ((finish reached r.value).0, join_end (finished reached r.value) (end_of (finished reached r.value).state))
join_says reached (Locked r k waiting) = None

-- what the version of an id is of, in the plan of the call that it finds
abbrev pub meant : Seen Begun → Option Meaning
meant Nothing = None
meant (Unlocked r k) = meaning_of r.value.plan k
meant (Locked r k waiting) = meaning_of r.value.plan k

-- what becomes of an attempt is brought to the call by the attempt's id alone
abbrev pub brought_to : Option Meaning → (ℕ → ℕ → Event) → ℕ → ℕ → List (Slot Begun) → List (Slot Begun)
brought_to None what moment id slots = slots
brought_to (Some (Node node)) what moment id slots = slots
brought_to (Some (Attempt node attempt)) what moment id slots = changed (visit (turned (turn.Event (what node attempt) moment)) (version_of id)) id slots

abbrev pub brought : (ℕ → ℕ → Event) → ℕ → ℕ → List (Slot Begun) → List (Slot Begun)
brought what moment id slots = brought_to (meant (look id slots)) what moment id slots

-- what the call that is found does, with the first id of its range
abbrev pub acts_found : ℕ → (ℕ → Acting → Acting) → Option Begun → List Link → List Mark → List Link × List Mark
acts_found first f None wires marks = (wires, marks)
acts_found first f (Some b) wires marks = let a = f first (record { call = b; wires = wires; marks = marks }) in (a.wires, a.marks)

-- what the wires and the marks are after the call that an id finds unlocked did this
abbrev pub acts_by : ℕ → (ℕ → Acting → Acting) → Seen Begun → List Link → List Mark → List Link × List Mark
acts_by id f Nothing wires marks = (wires, marks)
acts_by id f (Unlocked r k) wires marks = acts_found (id - k) f (Some r.value) wires marks
acts_by id f (Locked r k waiting) wires marks = (wires, marks)

abbrev pub brings_to : Option Meaning → (ℕ → ℕ → Event) → ℕ → ℕ → List (Slot Begun) → List Link → List Mark → List Link × List Mark
brings_to None what moment id slots wires marks = (wires, marks)
brings_to (Some (Node node)) what moment id slots wires marks = (wires, marks)
brings_to (Some (Attempt node attempt)) what moment id slots wires marks = acts_by id (turned_by (turn.Event (what node attempt) moment)) (look id slots) wires marks

abbrev pub brought_wires : (ℕ → ℕ → Event) → ℕ → ℕ → List (Slot Begun) → List Link → List Mark → List Link × List Mark
brought_wires what moment id slots wires marks = brings_to (meant (look id slots)) what moment id slots wires marks

-- what a reply says of an attempt
abbrev pub reply_event : Reply → ℕ → ℕ → Event
reply_event reply node attempt = event.Reply node attempt reply.code reply.text

-- what the loss of an attempt says of it
abbrev pub loss_event : ℕ → ℕ → ℕ → Event
loss_event code node attempt = event.Lost node attempt code
