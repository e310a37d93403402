use Rattle.std.proofs.Common.{◌≡◌, drop}
use Rattle.rpc_model.specs.Faults.{first_missing}
use Rattle.chan_tree.specs.Measures.{missing_in, numbers_of}
use Rattle.chan_tree.proofs.measuring.missing_sub.Given as goal

abbrev pub invariant-loop-sub : goal.invariant-loop-sub
invariant-loop-sub g l = record { so_far : first_missing (missing_in l.before) (numbers_of (drop l.sub-index l.subs)) ≡ first_missing (missing_in l.before) (numbers_of l.subs) }
