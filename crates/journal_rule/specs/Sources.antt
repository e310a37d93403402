-- The sources of a journal (frames, losses, marks and cancels): in a lawful one they and the entries of its logs name each other. This project's own choice.
use Rattle.std.specs.Prelude.{◌≡◌, ℕ, Bool, true, false, ◌==◌, ◌&&◌, List, ◌++◌, map, flat_map, All, slice_get, bytes_eq, Option, None, Some, if◌then◌else◌}
use Rattle.std.specs.Option.{option_map, option_and_then}
use Rattle.std.specs.List.{list_all, enumerate_from}
use Rattle.rpc_model.specs.declared.codes.TheConstants.{EBACKUPREQUEST, ERPCTIMEDOUT}
use Rattle.rpc_model.specs.declared.event.Event.{Event}
use Rattle.rpc_model.specs.declared.event.Event.TheVariants.{Reply, Lost, Backup, Deadline, Cancel}
use Rattle.rpc_model.specs.declared.kinds.MapKind.{MapKind}
use Rattle.rpc_model.specs.declared.kinds.MergeKind.{MergeKind}
use Rattle.rpc_model.specs.declared.meaning.Meaning.{Meaning}
use Rattle.rpc_model.specs.declared.meaning.Meaning.TheVariants.{Node, Attempt}
use Rattle.rpc_model.specs.declared.script.Script.{Script}
use Rattle.rpc_model.specs.declared.entry.Origin.{Origin}
use Rattle.rpc_model.specs.declared.entry.Origin.TheVariants.{Frame, Loss, Mark, Lane, Queued}
use Rattle.rpc_model.specs.declared.entry.Entry.{Entry}
use Rattle.rpc_model.specs.declared.entry.Fate.{Fate}
use Rattle.rpc_model.specs.declared.entry.Fate.TheVariants as fate
use Rattle.rpc_model.specs.declared.journal.CallLog.{CallLog}
use Rattle.rpc_model.specs.declared.journal.Came.{Came}
use Rattle.rpc_model.specs.declared.journal.LossNote.{LossNote}
use Rattle.rpc_model.specs.declared.journal.Fired.{Fired}
use Rattle.rpc_model.specs.declared.journal.CancelNote.{CancelNote}
use Rattle.rpc_model.specs.declared.journal.WireLog.{WireLog}
use Rattle.rpc_model.specs.declared.journal.LaneLog.{LaneLog}
use Rattle.rpc_model.specs.declared.journal.Journal.{Journal}
use Rattle.rpc_model.specs.Plan.{Plan}
use Rattle.journal_rule.specs.Calls.{plan_of, call_of}
use Rattle.journal_rule.specs.Runs.{meaning_in}

-- ---- sources

-- what a source says: of a frame its id, code and payload, of a loss and a mark the id and the code, of a cancel the id
pub data Said : Type 0 where
  frame : ℕ → ℕ → List ℕ → Said
  loss : ℕ → ℕ → Said
  mark : ℕ → ℕ → Said
  cancel : ℕ → Said

abbrev pub id_said : Said → ℕ
id_said (frame id code payload) = id
id_said (loss id code) = id
id_said (mark id code) = id
id_said (cancel id) = id

-- a source: its place in the journal, what it says, and what became of it
pub record Source : Type 0 where
  pub from : Origin
  pub said : Said
  pub fate : Fate

abbrev pub frame_source : ℕ → ℕ → Came → Source
frame_source wire place c = record { from = Frame wire place; said = frame c.id c.code c.payload; fate = c.fate }

abbrev pub loss_source : ℕ → ℕ → LossNote → Source
loss_source wire place l = record { from = Loss wire place; said = loss l.id l.code; fate = l.fate }

abbrev pub mark_source : ℕ → Fired → Source
mark_source place m = record { from = Mark place; said = mark m.id m.code; fate = m.fate }

abbrev pub cancel_source : ℕ → ℕ → CancelNote → Source
cancel_source lane place c = record { from = Lane lane place; said = cancel c.id; fate = c.fate }

-- the source that an origin names
abbrev pub source_at : Journal → Origin → Option Source
source_at journal (Frame wire place) =
    option_and_then (λ (w : WireLog). option_map (frame_source wire place) (slice_get w.came place)) (slice_get journal.wires wire)
source_at journal (Loss wire place) =
    option_and_then (λ (w : WireLog). option_map (loss_source wire place) (slice_get w.losses place)) (slice_get journal.wires wire)
source_at journal (Mark place) = option_map (mark_source place) (slice_get journal.marks place)
source_at journal (Lane lane place) =
    option_and_then (λ (l : LaneLog). option_map (cancel_source lane place) (slice_get l.cancels place)) (slice_get journal.lanes lane)
source_at journal (Queued pass number) = None

-- each element becomes something by its place
abbrev pub placed : {X Y : Type 0} → (ℕ → X → Y) → List X → List Y
placed f xs = map (λ p. f p.0 p.1) (enumerate_from 0 xs)

abbrev pub wire_sources : ℕ × WireLog → List Source
wire_sources w = placed (frame_source w.0) w.1.came ++ placed (loss_source w.0) w.1.losses

abbrev pub lane_sources : ℕ × LaneLog → List Source
lane_sources l = placed (cancel_source l.0) l.1.cancels

-- all sources: those of the wires, the marks, and those of the lanes
abbrev pub sources : Journal → List Source
sources journal =
    flat_map wire_sources (enumerate_from 0 journal.wires) ++ placed mark_source journal.marks ++ flat_map lane_sources (enumerate_from 0 journal.lanes)

-- ---- what a source says to a call

abbrev pub event_at_attempt : (ℕ → ℕ → Event) → Option Meaning → Option Event
event_at_attempt event None = None
event_at_attempt event (Some (Node n)) = None
event_at_attempt event (Some (Attempt n k)) = Some (event n k)

abbrev pub event_at_node : (ℕ → Option Event) → Option Meaning → Option Event
event_at_node event None = None
event_at_node event (Some (Node n)) = event n
event_at_node event (Some (Attempt n k)) = None

-- a mark's code is that of a deadline or of a backup request
abbrev pub mark_event : ℕ → ℕ → Option Event
mark_event code node = if code == ERPCTIMEDOUT then Some (Deadline node) else (if code == EBACKUPREQUEST then Some (Backup node) else None)

-- The event that a source is to a call of this plan whose range begins with this id, if it is one: a frame with an attempt's id is a reply to that attempt,
-- a loss with an attempt's id is its loss, a mark with a node's id is its deadline or backup request, and a cancel has the call's first id.
abbrev pub event_of : Option (Plan MapKind MergeKind) → ℕ → Said → Option Event
event_of plan first (frame id code payload) = event_at_attempt (λ n k. Reply n k code payload) (meaning_in plan first id)
event_of plan first (loss id code) = event_at_attempt (λ n k. Lost n k code) (meaning_in plan first id)
event_of plan first (mark id code) = event_at_node (mark_event code) (meaning_in plan first id)
event_of plan first (cancel id) = if id == first then Some Cancel else None

-- ---- entries and sources

abbrev pub fate_at : Journal → Origin → Option Fate
fate_at journal from = option_map (λ (s : Source). s.fate) (source_at journal from)

-- the event that the source which an origin names is to a call
abbrev pub event_at : Script → Journal → CallLog → Origin → Option Event
event_at script journal call from = option_and_then (λ (s : Source). event_of (plan_of script call.call) call.first s.said) (source_at journal from)

-- An entry at this place of a call's log names a source that became this very entry and is this very event.
pub record NamesItsSource (script : Script) (journal : Journal) (call : CallLog) (place : ℕ) (entry : Entry) : Type 0 where
  pub became : fate_at journal entry.from ≡ Some (fate.Entry call.call place)
  pub event : event_at script journal call entry.from ≡ Some entry.event

-- the origin of the entry at a place of a call's log
abbrev pub origin_at : Journal → ℕ → ℕ → Option Origin
origin_at journal number place =
    option_map (λ (e : Entry). e.from) (option_and_then (λ (call : CallLog). slice_get call.log place) (call_of journal number))

-- a source that became an entry is named by that entry
abbrev pub IsNamed : Journal → Origin → Fate → Type 0
IsNamed journal from (fate.Entry number place) = origin_at journal number place ≡ Some from
IsNamed journal from (fate.Gone word) = Unit {0}
IsNamed journal from fate.Stray = Unit {0}
IsNamed journal from (fate.Dropped number) = Unit {0}
IsNamed journal from (fate.Queued pass number) = Unit {0}

abbrev pub HasNamedSources : Script → Journal → CallLog → Type 0
HasNamedSources script journal call = All (λ (e : ℕ × Entry). NamesItsSource script journal call e.0 e.1) (enumerate_from 0 call.log)

-- Each entry names its source, and each source that became an entry is named by it.
pub record HasSources (script : Script) (journal : Journal) : Type 0 where
  pub entries : All (HasNamedSources script journal) journal.calls
  pub sources : All (λ (s : Source). IsNamed journal s.from s.fate) (sources journal)

-- ---- computed

abbrev pub is_event : Event → Event → Bool
is_event (Reply n k code text) (Reply m j c t) = n == m && (k == j && (code == c && bytes_eq text t))
is_event (Lost n k code) (Lost m j c) = n == m && (k == j && code == c)
is_event (Backup n) (Backup m) = n == m
is_event (Deadline n) (Deadline m) = n == m
is_event Cancel Cancel = true
is_event e f = false

abbrev pub is_origin : Origin → Origin → Bool
is_origin (Frame w p) (Frame v q) = w == v && p == q
is_origin (Loss w p) (Loss v q) = w == v && p == q
is_origin (Mark p) (Mark q) = p == q
is_origin (Lane l p) (Lane k q) = l == k && p == q
is_origin (Queued p n) (Queued q m) = p == q && n == m
is_origin f g = false

abbrev pub is_entry : ℕ → ℕ → Fate → Bool
is_entry call place (fate.Entry number p) = number == call && p == place
is_entry call place (fate.Gone word) = false
is_entry call place fate.Stray = false
is_entry call place (fate.Dropped number) = false
is_entry call place (fate.Queued pass number) = false

abbrev pub is_some_of : {X : Type 0} → (X → Bool) → Option X → Bool
is_some_of test None = false
is_some_of test (Some x) = test x

abbrev pub names_its_source : Script → Journal → CallLog → ℕ → Entry → Bool
names_its_source script journal call place entry =
    is_some_of (is_entry call.call place) (fate_at journal entry.from) && is_some_of (is_event entry.event) (event_at script journal call entry.from)

abbrev pub is_named : Journal → Origin → Fate → Bool
is_named journal from (fate.Entry number place) = is_some_of (is_origin from) (origin_at journal number place)
is_named journal from (fate.Gone word) = true
is_named journal from fate.Stray = true
is_named journal from (fate.Dropped number) = true
is_named journal from (fate.Queued pass number) = true

abbrev pub has_named_sources : Script → Journal → CallLog → Bool
has_named_sources script journal call = list_all (λ (e : ℕ × Entry). names_its_source script journal call e.0 e.1) (enumerate_from 0 call.log)

abbrev pub has_sources : Script → Journal → Bool
has_sources script journal =
    list_all (has_named_sources script journal) journal.calls && list_all (λ (s : Source). is_named journal s.from s.fate) (sources journal)
