-- The leaves of one tree, and then those of the others.
use Rattle.std.proofs.Common.{rules, arith, ◌++◌, [], ◌∷◌, None, ap, sym, ◌∙◌}
use Rattle.rpc_model.specs.Versions as versions
use Rattle.chan_tree.specs.Shown.{plan_of, plans_of}
use Rattle.chan_tree.specs.Table.{entries_of, entries, entries_below}
use Rattle.chan_tree.proofs.Tables.{nodes-some, root-then}
use Rattle.chan_tree.proofs.table.+table.Goals as goal

pub add_trees-add_trees-requires : goal.add_trees-add_trees-requires
add_trees-add_trees-requires g t c κs within =
    let n = ap (λ ps. versions.nodes_of (plans_of ps)) c.in-Some.ensures.cases.0 in
    let a = ap (λ ps. versions.possible_attempts_of (plans_of ps)) c.in-Some.ensures.cases.0 in
    let some = nodes-some c.in-Some.tree.now in
    let nodes = c.in_ok-add_tree.ensures.nodes in
    let attempts = c.in_ok-add_tree.ensures.attempts in
    let rn = c.requires.nodes in
    let ra = c.requires.attempts in
    (omega (arith, n, some, c.decreases), (search rules, (search rules, (omega (arith, n, nodes, rn), omega (arith, a, attempts, ra)))))

pub add_tree-returns-in_ok-add_trees-in-Par-clause-leaves : goal.add_tree-returns-in_ok-add_trees-in-Par-clause-leaves
add_tree-returns-in_ok-add_trees-in-Par-clause-leaves g t c =
    let old = c.args.to.now.leaves.items in
    let at = c.args.to.now.attempts in
    c.in_ok-add_trees-in-Par.ensures.leaves
    ∙ ap (λ ls. entries_of ls ++ entries_below at (plans_of c.as_slice.result.now)) c.in_ok-push-in-Par.ensures.items
    ∙ ap (λ ps. entries_of (old ++ None ∷ []) ++ entries_below at (plans_of ps)) c.as_slice.ensures.value
    ∙ root-then old (entries_below at (plans_of c.in-Par.plans.items))
    ∙ ap (λ p. entries_of old ++ entries at p) (sym (ap plan_of c.in-Par.is) ∙ c.node.ensures)

pub add_tree-returns-in_ok-add_trees-in-Sel-clause-leaves : goal.add_tree-returns-in_ok-add_trees-in-Sel-clause-leaves
add_tree-returns-in_ok-add_trees-in-Sel-clause-leaves g t c =
    let old = c.args.to.now.leaves.items in
    let at = c.args.to.now.attempts in
    c.in_ok-add_trees-in-Sel.ensures.leaves
    ∙ ap
    (λ ls. entries_of ls ++ entries_below at (plans_of c.as_slice-in-Sel.result.now)) c.in_ok-push-in-Sel.ensures.items
    ∙ ap (λ ps. entries_of (old ++ None ∷ []) ++ entries_below at (plans_of ps)) c.as_slice-in-Sel.ensures.value
    ∙ root-then old (entries_below at (plans_of c.in-Sel.plans.items))
    ∙ ap (λ p. entries_of old ++ entries at p) (sym (ap plan_of c.in-Sel.is) ∙ c.node.ensures)
