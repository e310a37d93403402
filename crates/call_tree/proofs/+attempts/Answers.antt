use Rattle.std.proofs.Common.{rules, arith, ap, sym, ◌∙◌}
use Rattle.rpc_model.specs.State.{size, size_of}
use Rattle.call_tree.specs.Shown.{state_of, states_of}
use Rattle.call_tree.specs.Weights.{possible, possible_of}
use Rattle.call_tree.proofs.Attempts.{kid-small, possible-drop}
use Rattle.call_tree.proofs.+attempts.Goals as goal

pub nodes::Tree::attempts-attempts_of-requires : goal.nodes::Tree::attempts-attempts_of-requires
nodes::Tree::attempts-attempts_of-requires g t c κs within =
    let is = ap state_of (sym c.in-Par.is) ∙ c.self.view_is in
    let kids = c.as_slice.ensures.value in
    let n = ap size is in
    let p = ap possible is in
    let nk = ap (λ ss. size_of (states_of ss)) kids in
    let pk = ap (λ ss. possible_of (states_of ss)) kids in
    let few = c.requires.few in
    (omega (arith, n, nk, c.decreases), (search rules, (search rules, omega (arith, p, pk, few))))

pub nodes::Tree::attempts-attempts_of-requires-in-Sel : goal.nodes::Tree::attempts-attempts_of-requires-in-Sel
nodes::Tree::attempts-attempts_of-requires-in-Sel g t c κs within =
    let is = ap state_of (sym c.in-Sel.is) ∙ c.self.view_is in
    let kids = c.as_slice-in-Sel.ensures.value in
    let n = ap size is in
    let p = ap possible is in
    let nk = ap (λ ss. size_of (states_of ss)) kids in
    let pk = ap (λ ss. possible_of (states_of ss)) kids in
    let few = c.requires.few in
    (omega (arith, n, nk, c.decreases), (search rules, (search rules, omega (arith, p, pk, few))))

pub stepping::attempts_of-attempts-sum-requires : goal.stepping::attempts_of-attempts-sum-requires
stepping::attempts_of-attempts-sum-requires g t c κs within =
    let nodes = c.args.nodes.now in
    let n = ap size c.node-item.is in
    let p = ap possible c.node-item.is in
    let small = kid-small nodes c.loop-node.node-index c.node-item.result c.loop-node-test.true in
    let split = possible-drop nodes c.loop-node.node-index c.node-item.result c.loop-node-test.true in
    let few = c.loop-node.invariant.few in
    let most = c.requires.few in
    (omega (arith, n, small, c.decreases), (search rules, (search rules, omega (arith, p, split, few, most))))
