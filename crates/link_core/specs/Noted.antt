-- What came in on a wire and what was lost on it, each in the order of noting: this project's own choice.
use Rattle.std.specs.Prelude.{List}
use Rattle.rpc_model.specs.declared.journal.Came.{Came}
use Rattle.rpc_model.specs.declared.journal.LossNote.{LossNote}

pub record Noted : Type 0 where
  pub came : List Came
  pub losses : List LossNote
