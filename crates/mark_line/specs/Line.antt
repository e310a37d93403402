-- What a clause sees of a line of marks and of its passes.
use Rattle.std.specs.Prelude.{◌≡◌, ℕ, ◌<◌, List, []}
use Rattle.crossbeam_queue.specs.SegTies.{IsSegPassOf}
use Rattle.timer_core.specs.declared.mark.Mark.{Mark}
use Rattle.mark_line.specs.declared.line.MarkLine.{MarkLine}
use Rattle.mark_line.specs.declared.line.MarkPass.{MarkPass}
use Rattle.mark_line.specs.Log.{SawQueue}

-- the marks that a pass, and those joined into it, registered
abbrev pub registered_of : MarkPass → List Mark
registered_of pass = pass.seat.me.view.client.registered

-- the marks that they took
abbrev pub taken_of : MarkPass → List Mark
taken_of pass = pass.seat.me.view.client.taken

-- how many passes it holds
abbrev pub passes_of : MarkPass → ℕ
passes_of pass = pass.seat.me.view.client.passes

-- how many passes a line has
abbrev pub passes_of_line : MarkLine → ℕ
passes_of_line line = line.passes

-- the pass is of this line
pub record IsPassOf (line : MarkLine) (pass : MarkPass) : Type 0 where
  pub seat : IsSegPassOf line.queue pass.seat
  pub all : pass.seat.me.view.client.all ≡ line.passes
  pub some : 0 < pass.seat.me.view.client.passes

-- a pass of this line that holds one pass and has no marks
pub record IsNewPass (line : MarkLine) (pass : MarkPass) : Type 0 where
  pub of : IsPassOf line pass
  pub passes : passes_of pass ≡ 1
  pub registered : registered_of pass ≡ []
  pub taken : taken_of pass ≡ []

-- at a moment the queue of the pass's line was empty
abbrev pub WasEmpty : MarkPass → Type 0
WasEmpty pass = SawQueue pass.seat.me.view.client []
