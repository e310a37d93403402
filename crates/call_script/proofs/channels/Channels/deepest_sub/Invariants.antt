-- The deepest so far, and those that are left.
use Rattle.std.proofs.Common.{◌≡◌, max, drop}
use Rattle.rpc_model.specs.Faults.{deepest, depth}
use Rattle.chan_tree.specs.Measures.{numbers_of}
use Rattle.call_script.proofs.channels.Channels.deepest_sub.Given as goal

abbrev pub invariant-loop-sub : goal.invariant-loop-sub
invariant-loop-sub l = record { so_far : max l.deepest (deepest (depth l.self) (numbers_of (drop l.sub-index l.subs))) ≡ deepest (depth l.self) (numbers_of l.subs) }
