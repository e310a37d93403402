-- The marks before this one are set.
use Rattle.std.proofs.Common.{◌≡◌, drop}
use Rattle.sim_run.specs.Marked.{marked}
use Rattle.sim_run.proofs.marking.set_marks.Given as goal

abbrev pub invariant-loop-mark : goal.invariant-loop-mark
invariant-loop-mark l = marked l.first (drop l.mark-index l.set) l.marks ≡ marked l.first l.set l.fn.marks
