use Rattle.std.proofs.Common.{◌≡◌, ◌+◌, ◌*◌, ◌-◌, ◌≤◌, drop}
use Rattle.rpc_model.specs.Plan.{tries, tries_from}
use Rattle.chan_tree.specs.Measures.{numbers_of}
use Rattle.chan_tree.specs.Shown.{AreLeft}
use Rattle.chan_tree.proofs.building.+build.Given as goal

abbrev pub invariant-build_subs-loop-sub : goal.invariant-build_subs-loop-sub
invariant-build_subs-loop-sub g l = record { so_far : AreLeft l.chans l.call (numbers_of l.subs) l.kids.items (numbers_of (drop l.sub-index l.subs)) }

abbrev pub invariant-build_tries-loop-at : goal.invariant-build_tries-loop-at
invariant-build_tries-loop-at g l =
    record {
      so_far : AreLeft l.chans l.call (tries l.sel l.call) l.kids.items (tries_from l.sel.subs l.call l.at (l.count - l.at));
      within : l.at ≤ l.count;
      count : l.count ≡ l.sel.retry + 1;
      subs : l.subs ≡ l.sel.subs;
    }

abbrev pub decreases-build : goal.decreases-build
decreases-build g l = 2 * l.number + 1

abbrev pub decreases-build_subs : goal.decreases-build_subs
decreases-build_subs g l = 2 * l.number

abbrev pub decreases-build_tries : goal.decreases-build_tries
decreases-build_tries g l = 2 * l.number

abbrev pub decreases-build_tries-loop-at : goal.decreases-build_tries-loop-at
decreases-build_tries-loop-at g l = l.count - l.at
