use Rattle.std.proofs.Common.{◌≡◌, ◌+◌, ◌-◌, ◌≤◌, min}
use Rattle.chan_tree.specs.Measures.{width_in}
use Rattle.chan_tree.specs.Counting.{total}
use Rattle.rpc_model.specs.Plan.{tries, tries_from}
use Rattle.chan_tree.proofs.measuring.width_tries.Given as goal

abbrev pub invariant-loop-at : goal.invariant-loop-at
invariant-loop-at l =
    record {
      so_far : min 1024 (l.width + total (width_in l.before) (tries_from l.sel.subs l.call l.at (l.count - l.at))) ≡ min 1024 (total (width_in l.before) (tries l.sel l.call));
      within : l.at ≤ l.count;
      count : l.count ≡ l.sel.retry + 1;
      subs : l.subs ≡ l.sel.subs;
      small : l.width ≤ 1024;
    }

abbrev pub decreases-loop-at : goal.decreases-loop-at
decreases-loop-at l = l.count - l.at
