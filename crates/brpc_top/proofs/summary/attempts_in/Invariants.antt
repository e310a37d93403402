-- The sum of those so far and of those to come is that of all, and each is a number of 32 bits.
use Rattle.std.proofs.Common.{◌≡◌, ◌+◌, ◌*◌, ◌≤◌, ◌<◌, ◌^◌, drop, sum_by, length}
use Rattle.brpc_top.specs.Summary.{attempts_of}
use Rattle.brpc_top.proofs.summary.attempts_in.Given as goal

abbrev pub invariant-loop-line : goal.invariant-loop-line
invariant-loop-line l = record {
  so_far : l.sum + sum_by attempts_of (drop l.line-index l.told) ≡ sum_by attempts_of l.told;
  small : l.sum ≤ 4294967296 * l.line-index;
  few : length l.told < 2 ^ 64;
}
