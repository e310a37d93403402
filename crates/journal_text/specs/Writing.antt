-- When a journal may be written: this project's own choice.
use Rattle.std.specs.Prelude.{ℕ, ◌^◌, ◌≤◌, Bool, true, false, ◌&&◌, nat_lt, List, All, length, IsTrue}
use Rattle.rpc_model.specs.declared.event.Event.{Event}
use Rattle.rpc_model.specs.declared.event.Event.TheVariants.{Reply, Lost, Backup, Deadline, Cancel}
use Rattle.rpc_model.specs.declared.entry.Origin.{Origin}
use Rattle.rpc_model.specs.declared.entry.Origin.TheVariants.{Frame, Loss, Mark, Lane}
use Rattle.rpc_model.specs.declared.entry.Fate.{Fate}
use Rattle.rpc_model.specs.declared.entry.Fate.TheVariants.{Stray, Dropped}
use Rattle.rpc_model.specs.declared.entry.Fate.TheVariants as fate
use Rattle.rpc_model.specs.declared.journal.Journal.{Journal}
use Rattle.rpc_model.specs.declared.line.Line.{Line}
use Rattle.rpc_model.specs.declared.line.Line.TheVariants as line
use Rattle.rpc_model.specs.Texts.{journal_lines}

abbrev pub is_frame : Origin → Bool
is_frame (Frame wire place) = true
is_frame from = false

abbrev pub is_loss : Origin → Bool
is_loss (Loss wire place) = true
is_loss from = false

abbrev pub is_mark : Origin → Bool
is_mark (Mark place) = true
is_mark from = false

abbrev pub is_lane : Origin → Bool
is_lane (Lane lane place) = true
is_lane from = false

-- the source of an event is of the kind that brings it: a frame a reply, a loss a lost attempt, a mark a backup request or a deadline, a lane a cancel
abbrev pub is_from : Event → Origin → Bool
is_from (Reply node attempt code text) from = is_frame from
is_from (Lost node attempt code) from = is_loss from
is_from (Backup node) from = is_mark from
is_from (Deadline node) from = is_mark from
is_from Cancel from = is_lane from

abbrev pub is_moment : ℕ → Bool
is_moment moment = nat_lt moment (2 ^ 60)

-- a frame is never dropped, and nothing of a journal is queued
abbrev pub is_frame_fate : Fate → Bool
is_frame_fate (Dropped call) = false
is_frame_fate (fate.Queued pass number) = false
is_frame_fate f = true

-- a loss, a mark and a cancel are never stray
abbrev pub is_error_fate : Fate → Bool
is_error_fate Stray = false
is_error_fate (fate.Queued pass number) = false
is_error_fate f = true

-- a line that a journal may have
abbrev pub is_line : Line → Bool
is_line (line.Call call first width on moment) = is_moment moment
is_line (line.Entry e) = is_moment e.moment && is_from e.event e.from
is_line (line.Wire server how) = true
is_line (line.Out s) = true
is_line (line.In c) = is_frame_fate c.fate
is_line (line.Loss l) = is_error_fate l.fate
is_line line.Timer = true
is_line (line.Mark m) = is_error_fate m.fate
is_line (line.Lane n) = true
is_line (line.Cancel c) = is_error_fate c.fate

-- each line is one that a journal may have
abbrev pub AreLines : List Line → Type 0
AreLines lines = All (λ (l : Line). IsTrue (is_line l)) lines

-- a journal that may be written
pub record IsWritable (j : Journal) : Type 0 where
  pub lines : AreLines (journal_lines j)
  pub some_lane : 1 ≤ length j.lanes
  pub few_lanes : length j.lanes ≤ 16
