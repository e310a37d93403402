-- The mark doesn't come before those that were passed.
use Rattle.std.proofs.Common.{◌≡◌, ◌++◌, take, drop}
use Rattle.rpc_model.specs.Marks.{set_mark}
use Rattle.sim_run.proofs.open_call.place_of.Given as goal

abbrev pub invariant-loop-other : goal.invariant-loop-other
invariant-loop-other l = record { at : l.at ≡ l.other-index; so_far : set_mark l.mark l.waiting ≡ take l.at l.waiting ++ set_mark l.mark (drop l.at l.waiting) }
