-- A sub has fewer nodes than its parent.
use Rattle.std.specs.Prelude.{◌+◌, ◌≤◌, max, List, [], ◌∷◌}
use Rattle.std.proofs.Common.{arith}
use denote.Param.Weighed.{most}
use Rattle.chan_tree.specs.declared.tree.PlanNode.{PlanNode}
use Rattle.chan_tree.specs.declared.tree.PlanNode.TheVariants.{Leaf, Par, Sel}
use Rattle.chan_tree.specs.declared.tree.PlanTree.TheDeep.{deep-PlanNode}
use Rattle.rpc_model.specs.Plan as spec
use Rattle.rpc_model.specs.Versions.{nodes, nodes_of}
use Rattle.chan_tree.specs.Shown.{plans_of, plan_of}

module _ {M G : Type 0} where
  pub most_le-nodes_of : (kids : List (spec.Plan M G)) → most (λ k. nodes k + 1) kids ≤ nodes_of (plans_of kids) + 1
  most_le-nodes_of [] = omega arith
  most_le-nodes_of (k ∷ ks) = let h = most_le-nodes_of ks in omega (arith, h)

  pub falls : (n : PlanNode M G) → max (deep-PlanNode M G n) 0 ≤ nodes (plan_of n)
  falls (Leaf l) = omega arith
  falls (Par r p) = let h = most_le-nodes_of p.items in omega (arith, h)
  falls (Sel t p) = let h = most_le-nodes_of p.items in omega (arith, h)
