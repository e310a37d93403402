-- An attempt's place is below the number of all attempts.
use Rattle.std.proofs.Common.{arith, ap, sym, ◌∙◌}
use Rattle.chan_tree.specs.Table.{entry_of, entries_of, entry_at}
use Rattle.chan_tree.proofs.Tables.{place_short}
use Rattle.chan_tree.proofs.Offsets.{few_attempts}
use Rattle.chan_tree.proofs.plans.Plan.attempt.Goals as goal

pub overflow_add-place : goal.overflow_add-place
overflow_add-place g c =
    let tree = c.self.inside.tree in
    let same = ap entries_of c.as_slice.ensures.value ∙ c.self.invariant.leaves_are in
    let here = ap (λ es. entry_at es c.args.node) (sym same) ∙ sym c.in_ok-leaf.ensures in
    let place = place_short tree c.args.node c.args.attempt
    (entry_of c.in_ok-leaf.leaf.now) here c.if-attempt-leaf.false in
    let whole = few_attempts tree in
    let width = c.self.invariant.width_is in
    let few = c.self.invariant.few in
    omega (arith, place, whole, width, few)

pub overflow_add-result : goal.overflow_add-result
overflow_add-result g c =
    let tree = c.self.inside.tree in
    let same = ap entries_of c.as_slice.ensures.value ∙ c.self.invariant.leaves_are in
    let here = ap (λ es. entry_at es c.args.node) (sym same) ∙ sym c.in_ok-leaf.ensures in
    let place = place_short tree c.args.node c.args.attempt
    (entry_of c.in_ok-leaf.leaf.now) here c.if-attempt-leaf.false in
    let whole = few_attempts tree in
    let nodes = c.self.invariant.nodes_are in
    let width = c.self.invariant.width_is in
    let few = c.self.invariant.few in
    omega (arith, place, whole, nodes, width, few)
