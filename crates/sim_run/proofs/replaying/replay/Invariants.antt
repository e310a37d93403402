-- What was told so far and what is left to be told are all.
use Rattle.std.proofs.Common.{◌≡◌, ◌≤◌, ◌++◌, length}
use Rattle.rpc_model.specs.Told.{told}
use Rattle.sim_run.specs.Replaying.{IsUnderWay, left}
use Rattle.sim_run.proofs.replaying.replay.Given as goal

abbrev pub invariant-told : goal.invariant-told
invariant-told l = record {
  under_way : IsUnderWay l.replaying;
  said : l.told.items ++ left l.replaying ≡ l.fn.told.items ++ told l.fn.script;
  long : length l.fn.told.items ≤ length l.told.items;
}

abbrev pub decreases-told : goal.decreases-told
decreases-told l = length (left l.replaying)
