-- The marks before this one are set.
use Rattle.std.proofs.Common.{◌≡◌, drop}
use Rattle.rpc_model.specs.Marks.{set_all}
use Rattle.sim_run.proofs.open_call.set_marks.Given as goal

abbrev pub invariant-loop-mark : goal.invariant-loop-mark
invariant-loop-mark l = set_all (drop l.mark-index l.marks) l.waiting.items ≡ set_all l.marks l.fn.waiting.items
