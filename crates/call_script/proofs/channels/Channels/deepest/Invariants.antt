-- The deepest so far, and those that are left.
use Rattle.std.proofs.Common.{◌≡◌, max, drop}
use Rattle.rpc_model.specs.Faults.{deepest, depth}
use Rattle.call_script.proofs.channels.Channels.deepest.Given as goal

abbrev pub invariant-loop-sub : goal.invariant-loop-sub
invariant-loop-sub l = record { so_far : max l.deepest (deepest (depth l.self) (drop l.sub-index l.subs)) ≡ deepest (depth l.self) l.subs }
