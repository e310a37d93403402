use Rattle.std.proofs.Common.{◌≡◌, ◌+◌, ◌≤◌, min, drop}
use Rattle.chan_tree.specs.Measures.{width_in, numbers_of}
use Rattle.chan_tree.specs.Counting.{total}
use Rattle.chan_tree.proofs.measuring.width_subs.Given as goal

abbrev pub invariant-loop-sub : goal.invariant-loop-sub
invariant-loop-sub g l =
    record { so_far : min 1024 (l.width + total (width_in l.before) (numbers_of (drop l.sub-index l.subs))) ≡ min 1024 (total (width_in l.before) (numbers_of l.subs)); small : l.width ≤ 1024 }
