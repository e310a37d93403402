-- What is below a node is smaller than it.
use Rattle.std.specs.Prelude.{◌+◌, ◌≤◌, max, List, [], ◌∷◌}
use Rattle.std.proofs.Common.{arith}
use denote.Param.Weighed.{most}
use Rattle.call_tree.specs.declared.nodes.Node.{Node}
use Rattle.call_tree.specs.declared.nodes.Node.TheVariants.{Waits, Leaf, Par, Sel}
use Rattle.call_tree.specs.declared.nodes.Tree.TheDeep.{deep-Node}
use Rattle.rpc_model.specs.State as spec
use Rattle.call_tree.specs.Shown.{states_of, state_of}

module _ {M G : Type 0} where
  pub most_le-size_of : (kids : List (spec.State M G)) → most (λ k. spec.size k + 1) kids ≤ spec.size_of (states_of kids) + 1
  most_le-size_of [] = omega arith
  most_le-size_of (k ∷ ks) = let h = most_le-size_of ks in omega (arith, h)

  pub falls : (n : Node M G) → max (deep-Node M G n) 0 ≤ spec.size (state_of n)
  falls (Waits p) = omega arith
  falls (Leaf l) = omega arith
  falls (Par p) = let h = most_le-size_of p.kids.items in omega (arith, h)
  falls (Sel p) = let h = most_le-size_of p.kids.items in omega (arith, h)
