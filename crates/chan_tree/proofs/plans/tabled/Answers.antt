-- The table is that of the tree.
use Rattle.std.proofs.Common.{arith, ◌++◌, ap, ◌∙◌}
use Rattle.rpc_model.specs.Versions.{attempt_versions}
use Rattle.rpc_model.proofs.Versions.{width-is}
use Rattle.chan_tree.specs.Table.{entries_of, entries}
use Rattle.chan_tree.proofs.plans.tabled.Goals as goal

pub add_tree-requires-clause-nodes : goal.add_tree-requires-clause-nodes
add_tree-requires-clause-nodes g c = let w = width-is c.args.tree in let few = c.requires.few in omega (arith, w, few)

pub add_tree-requires-clause-attempts : goal.add_tree-requires-clause-attempts
add_tree-requires-clause-attempts g c =
    let w = width-is c.args.tree in let few = c.requires.few in omega (arith, w, few)

pub overflow_add-result : goal.overflow_add-result
overflow_add-result g c =
    let w = width-is c.args.tree in
    let few = c.requires.few in
    let nodes = c.in_ok-add_tree.ensures.nodes in
    let attempts = c.in_ok-add_tree.ensures.attempts in
    omega (arith, w, few, nodes, attempts)

pub invariant_of-result : goal.invariant_of-result
invariant_of-result g c =
    let w = width-is c.args.tree in
    let few = c.requires.few in
    let nodes = c.in_ok-add_tree.ensures.nodes in
    let attempts = c.in_ok-add_tree.ensures.attempts in
    record {
      nodes_are = omega (arith, nodes);
      width_is = omega (arith, w, nodes, attempts);
      few = omega (arith, w, few, nodes, attempts);
      leaves_are = c.in_ok-add_tree.ensures.leaves
          ∙ ap (λ xs. entries_of xs ++ entries 0 c.args.tree) c.new.ensures.items;
      meanings_are = c.in_ok-add_tree.ensures.meanings
          ∙ ap (λ xs. xs ++ attempt_versions 0 c.args.tree) c.new-2.ensures.items;
    }
