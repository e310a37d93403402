-- The channels so far have numbers after which their plans come round.
use Rattle.std.proofs.Common.{◌≡◌, length}
use Rattle.sim_run.specs.Rounds.{ComeRound}
use Rattle.sim_run.proofs.rounds.rounds_of.Given as goal

abbrev pub invariant-loop-chan : goal.invariant-loop-chan
invariant-loop-chan l = record {
  come : ComeRound l.chans l.rounds.items;
  so_far : length l.rounds.items ≡ l.chan-index;
}
