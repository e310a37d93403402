-- What is left to be told stays.
use Rattle.std.proofs.Common.{◌≡◌, length}
use Rattle.sim_run.specs.Replaying.{IsUnderWay, left, lines_left}
use Rattle.sim_run.proofs.replaying.Replaying.next_told.Given as goal

abbrev pub invariant-lines : goal.invariant-lines
invariant-lines l = record {
  under_way : IsUnderWay l.self;
  same : left l.self ≡ left l.fn.self;
}

abbrev pub decreases-lines : goal.decreases-lines
decreases-lines l = length (lines_left l.self)
