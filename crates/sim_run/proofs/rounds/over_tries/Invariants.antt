-- It is a multiple of the count of the subs, and of the numbers of those so far.
use Rattle.std.proofs.Common.{◌≡◌, ◌%◌, get_or, length, take}
use Rattle.std.specs.List.{AllByRecursion}
use Rattle.sim_run.proofs.rounds.over_tries.Given as goal

abbrev pub invariant-loop-sub : goal.invariant-loop-sub
invariant-loop-sub l = record {
  turns : l.round % length l.subs ≡ 0;
  over : AllByRecursion (λ s. l.round % get_or l.rounds s 0 ≡ 0) (take l.sub-index l.subs);
}
