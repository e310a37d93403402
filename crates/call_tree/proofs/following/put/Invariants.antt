use Rattle.std.proofs.Common.{◌≡◌, ◌+◌, ◌≤◌, length}
use Rattle.std.specs.Vec.Iter.{into_iter_items}
use Rattle.call_tree.specs.Brought.{put_from}
use Rattle.call_tree.proofs.following.put.Given as goal

abbrev pub invariant-loop-tree : goal.invariant-loop-tree
invariant-loop-tree g l = record {
  put : put_from l.at (into_iter_items l.trees) l.kids.items ≡ put_from l.initial.at (into_iter_items l.initial.trees) l.initial.kids.items;
  there : l.at + length (into_iter_items l.trees) ≤ length l.kids.items;
}

abbrev pub decreases-loop-tree : goal.decreases-loop-tree
decreases-loop-tree g l = length (into_iter_items l.trees)
