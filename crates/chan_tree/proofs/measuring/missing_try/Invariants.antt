use Rattle.std.proofs.Common.{◌≡◌, ◌+◌, ◌-◌, ◌≤◌}
use Rattle.rpc_model.specs.Faults.{first_missing}
use Rattle.chan_tree.specs.Measures.{missing_in}
use Rattle.rpc_model.specs.Plan.{tries, tries_from}
use Rattle.chan_tree.proofs.measuring.missing_try.Given as goal

abbrev pub invariant-loop-at : goal.invariant-loop-at
invariant-loop-at l =
    record {
      so_far : first_missing (missing_in l.before) (tries_from l.sel.subs l.call l.at (l.count - l.at)) ≡ first_missing (missing_in l.before) (tries l.sel l.call);
      within : l.at ≤ l.count;
      count : l.count ≡ l.sel.retry + 1;
      subs : l.subs ≡ l.sel.subs;
    }

abbrev pub decreases-loop-at : goal.decreases-loop-at
decreases-loop-at l = l.count - l.at
