use Rattle.std.proofs.Common.{arith, ap, sym, ◌∙◌, length, ◌≡◌, ◌+◌, ◌≤◌, [], suc, set}
use Rattle.std.proofs.Math.ListN.{length-set}
use Rattle.std.specs.Vec.Iter.{into_iter_items}
use Rattle.call_tree.specs.Brought.{put_from}
use Rattle.call_tree.proofs.Followed.{put-nothing, put-next}
use Rattle.call_tree.proofs.following.put.Goals as goal

pub loop-tree-preserved : goal.loop-tree-preserved
loop-tree-preserved g c =
    let items = c.in-Some.ensures in
    let n = ap length items in
    let there = c.loop-tree.invariant.there in
    let here : c.loop-tree.at + 1 ≤ length c.loop-tree.kids.items = omega (arith, n, there) in
    let one : c.loop-tree.at + 1 ≡ suc c.loop-tree.at = omega arith in
    let same = length-set c.loop-tree.kids.items c.loop-tree.at c.in-Some.tree in
    record {
      put = ap (λ k. put_from k (into_iter_items c.next_of.new.items) (set c.loop-tree.kids.items c.loop-tree.at c.in-Some.tree)) one
          ∙ sym (put-next c.loop-tree.at c.in-Some.tree (into_iter_items c.next_of.new.items) c.loop-tree.kids.items (omega (arith, here)))
          ∙ sym (ap (λ ts. put_from c.loop-tree.at ts c.loop-tree.kids.items) items) ∙ c.loop-tree.invariant.put;
      there = omega (arith, n, there, same);
    }

pub returns : goal.returns
returns g c =
    let none : into_iter_items c.loop-tree.trees ≡ [] = c.in_default.ensures in
    sym (put-nothing c.loop-tree.at c.loop-tree.kids.items) ∙ sym (ap (λ ts. put_from c.loop-tree.at ts c.loop-tree.kids.items) none) ∙ c.loop-tree.invariant.put
    ∙ ap (λ ts. put_from c.args.at ts c.args.kids.now.items) c.into_iter-trees.ensures.rest
