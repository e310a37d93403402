-- A journal that is being read, line by line: what it has so far, and which lines may come next. This project's own choice.
use Rattle.std.specs.Prelude.{ℕ, ◌+◌, Bool, true, false, ◌==◌, ◌&&◌, ◌||◌, nat_lt, List, [], ◌∷◌, ◌++◌, length, None, Some, Result, Ok, Err, if◌then◌else◌}
use Rattle.std.specs.List.{slice_split}
use Rattle.std.specs.declared.option.Option.{Option}
use Rattle.rpc_model.specs.declared.sent.Sent.{Sent}
use Rattle.rpc_model.specs.declared.entry.Entry.{Entry}
use Rattle.rpc_model.specs.declared.journal.Journal.{Journal}
use Rattle.rpc_model.specs.declared.journal.CallLog.{CallLog}
use Rattle.rpc_model.specs.declared.journal.How.{How}
use Rattle.rpc_model.specs.declared.journal.WireLog.{WireLog}
use Rattle.rpc_model.specs.declared.journal.Came.{Came}
use Rattle.rpc_model.specs.declared.journal.LossNote.{LossNote}
use Rattle.rpc_model.specs.declared.journal.Fired.{Fired}
use Rattle.rpc_model.specs.declared.journal.LaneLog.{LaneLog}
use Rattle.rpc_model.specs.declared.journal.CancelNote.{CancelNote}
use Rattle.rpc_model.specs.declared.line.Line.{Line}
use Rattle.rpc_model.specs.declared.line.Line.TheVariants as line
use Rattle.journal_text.specs.declared.draft.Stage.{Stage}
use Rattle.journal_text.specs.declared.draft.Stage.TheVariants.{Calls, Wires, Marks, Lanes}
use Rattle.journal_text.specs.Empty.{is_empty}
use Rattle.journal_text.specs.Reading.{◌>>=◌, guard, line_of}

-- the call, the wire and the lane whose lines come now stand apart from those before
pub record Draft : Type 0 where
  pub stage : Stage
  pub calls : List CallLog
  pub call : Option CallLog
  pub wires : List WireLog
  pub wire : Option WireLog
  pub marks : List Fired
  pub lanes : List LaneLog
  pub lane : Option LaneLog

abbrev pub begun : Draft
begun = record { stage = Calls; calls = []; call = None; wires = []; wire = None; marks = []; lanes = []; lane = None }

-- a list and one more, if there is one
abbrev pub with_last : {A : Type 0} → List A → Option A → List A
with_last xs None = xs
with_last xs (Some x) = xs ++ x ∷ []

abbrev pub is_calls : Stage → Bool
is_calls Calls = true
is_calls Wires = false
is_calls Marks = false
is_calls Lanes = false

abbrev pub is_wires : Stage → Bool
is_wires Calls = false
is_wires Wires = true
is_wires Marks = false
is_wires Lanes = false

abbrev pub is_marks : Stage → Bool
is_marks Calls = false
is_marks Wires = false
is_marks Marks = true
is_marks Lanes = false

abbrev pub is_lanes : Stage → Bool
is_lanes Calls = false
is_lanes Wires = false
is_lanes Marks = false
is_lanes Lanes = true

-- a call: no wire came yet
abbrev pub with_call : Draft → (call first width lane moment : ℕ) → Option Draft
with_call d call first width lane moment = do
  _ ← guard (is_calls d.stage)
  Some (record d { calls = with_last d.calls d.call; call = Some (record { call = call; first = first; width = width; lane = lane; moment = moment; log = [] }) })

-- an entry: a call came, and no wire yet
abbrev pub with_entry : Draft → Entry → Option Draft
with_entry d e = do
  _ ← guard (is_calls d.stage)
  c ← d.call
  Some (record d { call = Some (record c { log = c.log ++ e ∷ [] }) })

-- a wire: its number is that of the wires before, and the line `timer` didn't come yet
abbrev pub with_wire : Draft → ℕ → How → Option Draft
with_wire d server how = do
  _ ← guard (is_calls d.stage || is_wires d.stage)
  _ ← guard (server == length (with_last d.wires d.wire))
  Some (record d { stage = Wires; wires = with_last d.wires d.wire; wire = Some (record { how = how; out = []; came = []; losses = [] }) })

-- a request: of its wire no frame and no loss came yet
abbrev pub with_out : Draft → Sent → Option Draft
with_out d s = do
  _ ← guard (is_wires d.stage)
  w ← d.wire
  _ ← guard (is_empty w.came && is_empty w.losses)
  Some (record d { wire = Some (record w { out = w.out ++ s ∷ [] }) })

-- a frame: of its wire no loss came yet
abbrev pub with_came : Draft → Came → Option Draft
with_came d c = do
  _ ← guard (is_wires d.stage)
  w ← d.wire
  _ ← guard (is_empty w.losses)
  Some (record d { wire = Some (record w { came = w.came ++ c ∷ [] }) })

abbrev pub with_loss : Draft → LossNote → Option Draft
with_loss d l = do
  _ ← guard (is_wires d.stage)
  w ← d.wire
  Some (record d { wire = Some (record w { losses = w.losses ++ l ∷ [] }) })

abbrev pub with_timer : Draft → Option Draft
with_timer d = do
  _ ← guard (is_calls d.stage || is_wires d.stage)
  Some (record d { stage = Marks })

abbrev pub with_mark : Draft → Fired → Option Draft
with_mark d m = do
  _ ← guard (is_marks d.stage)
  Some (record d { marks = d.marks ++ m ∷ [] })

-- a lane: the line `timer` came, its number is that of the lanes before, and there are at most 16
abbrev pub with_lane : Draft → ℕ → Option Draft
with_lane d n = do
  _ ← guard (is_marks d.stage || is_lanes d.stage)
  _ ← guard (n == length (with_last d.lanes d.lane))
  _ ← guard (nat_lt n 16)
  Some (record d { stage = Lanes; lanes = with_last d.lanes d.lane; lane = Some (record { cancels = [] }) })

abbrev pub with_cancel : Draft → CancelNote → Option Draft
with_cancel d c = do
  _ ← guard (is_lanes d.stage)
  l ← d.lane
  Some (record d { lane = Some (record l { cancels = l.cancels ++ c ∷ [] }) })

-- one more line, where it may come next
unfoldable pub with_line : Draft → Line → Option Draft
with_line d (line.Call call first width lane moment) = with_call d call first width lane moment
with_line d (line.Entry e) = with_entry d e
with_line d (line.Wire server how) = with_wire d server how
with_line d (line.Out s) = with_out d s
with_line d (line.In c) = with_came d c
with_line d (line.Loss l) = with_loss d l
with_line d line.Timer = with_timer d
with_line d (line.Mark m) = with_mark d m
with_line d (line.Lane n) = with_lane d n
with_line d (line.Cancel c) = with_cancel d c

-- one more line of text
abbrev pub with_text : Draft → List ℕ → Option Draft
with_text d bytes = line_of bytes >>= with_line d

abbrev pub or_else : Option Draft → ℕ → (Draft → Result Journal ℕ) → Result Journal ℕ
or_else None n next = Err n
or_else (Some d) n next = next d

-- the journal of a draft
abbrev pub journal_of_draft : Draft → Journal
journal_of_draft d = record { calls = with_last d.calls d.call; wires = with_last d.wires d.wire; marks = d.marks; lanes = with_last d.lanes d.lane }

-- behind the last newline stands nothing, and a journal has a lane; else the line of this number, which comes next, is missing or is no line
abbrev pub finished : Draft → ℕ → List ℕ → Result Journal ℕ
finished d n rest = if is_lanes d.stage && is_empty rest then Ok (journal_of_draft d) else Err n

-- a piece behind which others stand is a line
abbrev pub with_piece : Draft → ℕ → List ℕ → List (List ℕ) → (Draft → Result Journal ℕ) → Result Journal ℕ
with_piece d n t [] next = finished d n t
with_piece d n t (u ∷ us) next = or_else (with_text d t) n next

-- what the pieces of a text between its newlines make of a draft, or the number of the first that may not come; the first of these has this number
unfoldable pub with_pieces : Draft → ℕ → List (List ℕ) → Result Journal ℕ
with_pieces d n [] = Err n
with_pieces d n (t ∷ ts) = with_piece d n t ts (λ next. with_pieces next (n + 1) ts)

-- the journal that a text spells, or the number of its first line that may not come, counted from 1
unfoldable pub journal_of : List ℕ → Result Journal ℕ
journal_of bytes = with_pieces begun 1 (slice_split (λ b. b == 10) bytes)
