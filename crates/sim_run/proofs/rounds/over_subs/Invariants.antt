-- It is a multiple of the numbers of the subs so far.
use Rattle.std.proofs.Common.{◌≡◌, ◌%◌, get_or, take}
use Rattle.std.specs.List.{AllByRecursion}
use Rattle.sim_run.proofs.rounds.over_subs.Given as goal

abbrev pub invariant-loop-sub : goal.invariant-loop-sub
invariant-loop-sub l = record { over : AllByRecursion (λ s. l.round % get_or l.rounds s.chan 0 ≡ 0) (take l.sub-index l.subs) }
