-- With the size so far, the sizes of those that are left come to those of all.
use Rattle.std.proofs.Common.{◌≡◌, ◌+◌, ◌*◌, ◌-◌, ◌≤◌, drop}
use Rattle.rpc_model.specs.Plan.{tries, tries_from}
use Rattle.chan_tree.specs.Measures.{numbers_of}
use Rattle.chan_tree.specs.Sizes.{IsSizeSoFar}
use Rattle.chan_tree.proofs.walking.+size.Given as goal

abbrev pub decreases-size_of : goal.decreases-size_of
decreases-size_of g l = 2 * l.number + 1

abbrev pub decreases-size_of_subs : goal.decreases-size_of_subs
decreases-size_of_subs g l = 2 * l.number

abbrev pub decreases-size_of_tries : goal.decreases-size_of_tries
decreases-size_of_tries g l = 2 * l.number

abbrev pub invariant-size_of_subs-loop-sub : goal.invariant-size_of_subs-loop-sub
invariant-size_of_subs-loop-sub g l = record { so_far : IsSizeSoFar l.chans (numbers_of l.subs) l.call l.size (numbers_of (drop l.sub-index l.subs)) }

abbrev pub invariant-size_of_tries-loop-at : goal.invariant-size_of_tries-loop-at
invariant-size_of_tries-loop-at g l =
    record {
      so_far : IsSizeSoFar l.chans (tries l.sel l.call) l.call l.size (tries_from l.sel.subs l.call l.at (l.count - l.at));
      within : l.at ≤ l.count;
      count : l.count ≡ l.sel.retry + 1;
      subs : l.subs ≡ l.sel.subs;
    }

abbrev pub decreases-size_of_tries-loop-at : goal.decreases-size_of_tries-loop-at
decreases-size_of_tries-loop-at g l = l.count - l.at
