use Rattle.std.proofs.Common.{◌≡◌, max, drop}
use Rattle.rpc_model.specs.Faults.{deepest}
use Rattle.chan_tree.specs.Measures.{depth_in}
use Rattle.chan_tree.proofs.measuring.deepest.Given as goal

abbrev pub invariant-loop-sub : goal.invariant-loop-sub
invariant-loop-sub l = record { so_far : max l.deepest (deepest (depth_in l.before) (drop l.sub-index l.subs)) ≡ deepest (depth_in l.before) l.subs }
