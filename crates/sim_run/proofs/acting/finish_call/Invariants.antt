-- The marks that were taken so far left the call to take the others.
use Rattle.std.proofs.Common.{◌≡◌}
use Rattle.rpc_model.specs.Marks.{marks_left}
use Rattle.sim_run.specs.Acting.{acting, finished_by}
use Rattle.sim_run.proofs.acting.finish_call.Given as goal

abbrev pub invariant-taken : goal.invariant-taken
invariant-taken l = finished_by l.first l.reached (acting l.call l.wires.items l.marks) ≡ finished_by l.first l.fn.reached (acting l.fn.call l.fn.wires.items l.fn.marks)

abbrev pub decreases-taken : goal.decreases-taken
decreases-taken l = marks_left l.call
