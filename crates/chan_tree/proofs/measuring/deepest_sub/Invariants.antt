use Rattle.std.proofs.Common.{◌≡◌, max, drop}
use Rattle.rpc_model.specs.Faults.{deepest}
use Rattle.chan_tree.specs.Measures.{depth_in, numbers_of}
use Rattle.chan_tree.proofs.measuring.deepest_sub.Given as goal

abbrev pub invariant-loop-sub : goal.invariant-loop-sub
invariant-loop-sub g l = record { so_far : max l.deepest (deepest (depth_in l.before) (numbers_of (drop l.sub-index l.subs))) ≡ deepest (depth_in l.before) (numbers_of l.subs) }
