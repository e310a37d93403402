-- The leaf of a number is looked for in one plan after another.
use Rattle.std.proofs.Common.{rules, arith, ◌≡◌, ◌+◌, ◌-◌, ◌%◌, ◌==◌, ◌<◌, ◌≤◌, ◌∷◌, slice_index_or, Some, None}
use Rattle.std.proofs.Common.{length, drop, refl, ap, sym, ◌∙◌, subst}
use Rattle.std.proofs.lemmas.Bool.Decides.{nat_tests}
use Rattle.rpc_model.specs.declared.chan.Chan.TheVariants as chan
use Rattle.rpc_model.specs.Plan.{tries_from}
use Rattle.chan_tree.specs.Sound.{AreBefore}
use Rattle.chan_tree.specs.Measures.{numbers_of}
use Rattle.chan_tree.specs.Sizes.{nodes_at, node_behind, retry_in, retry_among}
use Rattle.chan_tree.proofs.Built.{item-at, sound-here, before-drop, numbers-drop, numbers-end, try-before}
use Rattle.chan_tree.proofs.Turns.{tries_end, round_more, turn-is, turn-next}
use Rattle.chan_tree.proofs.Sizes.{retry-found, retry-next, retry-end, behind-next, behind-end, behind-more, none-if}
use Rattle.chan_tree.proofs.Sizes.{leaf-nodes, leaf-retry, part-behind, part-retry, par-retry, par-behind}
use Rattle.chan_tree.proofs.Sizes.{sel-retry, sel-behind}
use Rattle.chan_tree.proofs.walking.+retry.Goals as goal

pub retry_among_subs-retry_at-found-requires : goal.retry_among_subs-retry_at-found-requires
retry_among_subs-retry_at-found-requires g t c κs within =
    let less = before-drop c.args.number c.args.subs.now c.loop-sub.sub-index c.sub-item.result c.requires.before c.loop-sub-test.true in
    let same = ap (λ s. s.chan) c.sub-item.is in
    let there = c.requires.there in
    let rest = numbers_of (drop (c.loop-sub.sub-index + 1) c.args.subs.now) in
    let split = numbers-drop c.args.subs.now c.loop-sub.sub-index c.sub-item.result c.loop-sub-test.true
    ∙ ap (λ s. s.chan ∷ rest) (sym c.sub-item.is) in
    let place = ap (λ xs. node_behind c.args.chans.now xs c.args.call c.loop-sub.next) (sym split)
    ∙ c.loop-sub.invariant.place in
    let more = behind-more c.args.chans.now c.args.call c.sub-item.result.chan rest c.loop-sub.next in
    let few = c.requires.few in
    (omega (arith, less, same, c.decreases), (search rules, (search rules, (c.requires.sound, (omega (arith, less, same, there), omega (arith, place, more, few))))))

pub retry_among_subs-returns-then-is_some-clause-retry : goal.retry_among_subs-returns-then-is_some-clause-retry
retry_among_subs-returns-then-is_some-clause-retry g t c =
    let chans = c.args.chans.now in
    let item = c.sub-item.result in
    let rest = numbers_of (drop (c.loop-sub.sub-index + 1) c.args.subs.now) in
    let split = numbers-drop c.args.subs.now c.loop-sub.sub-index item c.loop-sub-test.true
    ∙ ap (λ s. s.chan ∷ rest) (sym c.sub-item.is) in
    retry-found chans c.args.call item.chan rest c.loop-sub.next c.args.wanted c.retry_at-found.result c.retry_at-found.ensures.retry (sym c.is_some.ensures ∙ c.if-is_some.true)
    ∙ ap (λ xs. retry_among chans xs c.args.call c.loop-sub.next c.args.wanted) (sym split) ∙ c.loop-sub.invariant.none

pub retry_among_subs-loop-sub-preserved : goal.retry_among_subs-loop-sub-preserved
retry_among_subs-loop-sub-preserved g t c =
    let chans = c.args.chans.now in
    let item = c.sub-item.result in
    let rest = numbers_of (drop (c.loop-sub.sub-index + 1) c.args.subs.now) in
    let split = numbers-drop c.args.subs.now c.loop-sub.sub-index item c.loop-sub-test.true
    ∙ ap (λ s. s.chan ∷ rest) (sym c.sub-item.is) in
    let none = none-if c.retry_at-found.result (sym c.is_some.ensures ∙ c.if-is_some.false) in
    let node = c.retry_at-found.ensures.behind none in
    record {
      place =
          ap (node_behind chans rest c.args.call) node
          ∙ sym (behind-next chans c.args.call item.chan rest c.loop-sub.next)
          ∙ ap (λ xs. node_behind chans xs c.args.call c.loop-sub.next) (sym split) ∙ c.loop-sub.invariant.place;
      none =
          ap (λ n. retry_among chans rest c.args.call n c.args.wanted) node
          ∙ sym
          (retry-next chans c.args.call item.chan rest c.loop-sub.next c.args.wanted (sym none ∙ c.retry_at-found.ensures.retry))
          ∙ ap (λ xs. retry_among chans xs c.args.call c.loop-sub.next c.args.wanted) (sym split)
          ∙ c.loop-sub.invariant.none;
    }

pub retry_among_subs-returns-clause-retry : goal.retry_among_subs-returns-clause-retry
retry_among_subs-returns-clause-retry g t c =
    let none = numbers-end c.args.subs.now c.loop-sub.sub-index
    (let past = c.loop-sub-test.false in omega (arith, past)) in
    sym (retry-end c.args.chans.now c.args.call c.loop-sub.next c.args.wanted)
    ∙ ap (λ xs. retry_among c.args.chans.now xs c.args.call c.loop-sub.next c.args.wanted) (sym none)
    ∙ c.loop-sub.invariant.none

pub retry_among_subs-returns-clause-behind : goal.retry_among_subs-returns-clause-behind
retry_among_subs-returns-clause-behind g t c is =
    let none = numbers-end c.args.subs.now c.loop-sub.sub-index
    (let past = c.loop-sub-test.false in omega (arith, past)) in
    sym (behind-end c.args.chans.now c.args.call c.loop-sub.next)
    ∙ ap (λ xs. node_behind c.args.chans.now xs c.args.call c.loop-sub.next) (sym none) ∙ c.loop-sub.invariant.place

pub retry_among_tries-returns-clause-retry : goal.retry_among_tries-returns-clause-retry
retry_among_tries-returns-clause-retry g t c =
    let count = c.from-count.result + 1 in
    let none = tries_end c.args.sel.now.subs c.args.call c.loop-at.at count
    (let past = c.loop-at-test.false in omega (arith, past)) in
    sym (retry-end c.args.chans.now c.args.call c.loop-at.next c.args.wanted)
    ∙ ap (λ xs. retry_among c.args.chans.now xs c.args.call c.loop-at.next c.args.wanted) (sym none)
    ∙ c.loop-at.invariant.none

pub retry_among_tries-returns-clause-behind : goal.retry_among_tries-returns-clause-behind
retry_among_tries-returns-clause-behind g t c is =
    let count = c.from-count.result + 1 in
    let none = tries_end c.args.sel.now.subs c.args.call c.loop-at.at count
    (let past = c.loop-at-test.false in omega (arith, past)) in
    sym (behind-end c.args.chans.now c.args.call c.loop-at.next)
    ∙ ap (λ xs. node_behind c.args.chans.now xs c.args.call c.loop-at.next) (sym none) ∙ c.loop-at.invariant.place

pub retry_at-retry_among_subs-requires : goal.retry_at-retry_among_subs-requires
retry_at-retry_among_subs-requires g t c κs within =
    let at = item-at c.args.chans.now c.args.number c.index-chans-number.result c.requires.there c.index-chans-number.is
    ∙ ap Some c.in-Par.is in
    let before = sound-here c.args.chans.now c.args.number c.requires.sound (chan.Par c.in-Par.par) at in
    let behind =
    ap (λ xs. node_behind c.args.chans.now (numbers_of xs) c.args.call (c.args.node.now + 1)) c.list.ensures
    ∙ par-behind c.args.chans.now c.args.call c.requires.sound c.args.number c.requires.there c.in-Par.par c.args.node.now at in
    let few = c.requires.few in (
      omega (arith, c.decreases),
      (search rules, (search rules, (c.requires.sound, (c.requires.there, (subst (λ xs. AreBefore c.args.number (numbers_of xs)) (sym c.list.ensures) before, omega (arith, behind, few)))))),
    )

pub retry_at-retry_among_tries-requires : goal.retry_at-retry_among_tries-requires
retry_at-retry_among_tries-requires g t c κs within =
    let at = item-at c.args.chans.now c.args.number c.index-chans-number.result c.requires.there c.index-chans-number.is
    ∙ ap Some c.in-Sel.is in
    let before = sound-here c.args.chans.now c.args.number c.requires.sound (chan.Sel c.in-Sel.sel) at in
    let behind = sel-behind c.args.chans.now c.args.call c.requires.sound c.args.number c.requires.there c.in-Sel.sel c.args.node.now at in
    let few = c.requires.few in
    (omega (arith, c.decreases), (search rules, (search rules, (c.requires.sound, (c.requires.there, (before.0, (before.1, omega (arith, behind, few))))))))

pub retry_at-overflow_add-node-in-Part : goal.retry_at-overflow_add-node-in-Part
retry_at-overflow_add-node-in-Part g t c =
    let at = item-at c.args.chans.now c.args.number c.index-chans-number.result c.requires.there c.index-chans-number.is
    ∙ ap Some c.in-Part.is in
    let behind = part-behind c.args.chans.now c.args.call c.requires.sound c.args.number c.requires.there c.in-Part.part at in
    let few = c.requires.few in
    omega (arith, behind, few)

pub retry_at-returns-then-here-clause-retry : goal.retry_at-returns-then-here-clause-retry
retry_at-returns-then-here-clause-retry g t c =
    let at = item-at c.args.chans.now c.args.number c.index-chans-number.result c.requires.there c.index-chans-number.is
    ∙ ap Some c.in-Leaf.is in
    let here : (c.args.node.now == c.args.wanted) ≡ Rattle.std.proofs.Common.true = search rules in
    sym (leaf-retry c.args.chans.now c.args.call c.requires.sound c.args.number c.requires.there c.in-Leaf.leaf c.args.node.now c.args.wanted at ∙ rw here refl)

pub retry_at-returns-else-here-clause-retry : goal.retry_at-returns-else-here-clause-retry
retry_at-returns-else-here-clause-retry g t c =
    let at = item-at c.args.chans.now c.args.number c.index-chans-number.result c.requires.there c.index-chans-number.is
    ∙ ap Some c.in-Leaf.is in
    let here : (c.args.node.now == c.args.wanted) ≡ Rattle.std.proofs.Common.false = search rules in
    sym (leaf-retry c.args.chans.now c.args.call c.requires.sound c.args.number c.requires.there c.in-Leaf.leaf c.args.node.now c.args.wanted at ∙ rw here refl)

pub retry_at-returns-else-here-clause-behind : goal.retry_at-returns-else-here-clause-behind
retry_at-returns-else-here-clause-behind g t c is =
    let at = item-at c.args.chans.now c.args.number c.index-chans-number.result c.requires.there c.index-chans-number.is
    ∙ ap Some c.in-Leaf.is in
    let one = leaf-nodes c.args.chans.now c.args.call c.requires.sound c.args.number c.requires.there c.in-Leaf.leaf at in
    omega (arith, one)

pub retry_at-returns-in-Par-clause-retry : goal.retry_at-returns-in-Par-clause-retry
retry_at-returns-in-Par-clause-retry g t c =
    let at = item-at c.args.chans.now c.args.number c.index-chans-number.result c.requires.there c.index-chans-number.is
    ∙ ap Some c.in-Par.is in
    c.retry_among_subs.ensures.retry
    ∙ ap
    (λ xs. retry_among c.args.chans.now (numbers_of xs) c.args.call (c.args.node.now + 1) c.args.wanted) c.list.ensures
    ∙ sym
    (par-retry c.args.chans.now c.args.call c.requires.sound c.args.number c.requires.there c.in-Par.par c.args.node.now c.args.wanted at)

pub retry_at-returns-in-Par-clause-behind : goal.retry_at-returns-in-Par-clause-behind
retry_at-returns-in-Par-clause-behind g t c is =
    let at = item-at c.args.chans.now c.args.number c.index-chans-number.result c.requires.there c.index-chans-number.is
    ∙ ap Some c.in-Par.is in
    c.retry_among_subs.ensures.behind is
    ∙ ap (λ xs. node_behind c.args.chans.now (numbers_of xs) c.args.call (c.args.node.now + 1)) c.list.ensures
    ∙ par-behind c.args.chans.now c.args.call c.requires.sound c.args.number c.requires.there c.in-Par.par c.args.node.now at

pub retry_at-returns-in-Sel-clause-retry : goal.retry_at-returns-in-Sel-clause-retry
retry_at-returns-in-Sel-clause-retry g t c =
    let at = item-at c.args.chans.now c.args.number c.index-chans-number.result c.requires.there c.index-chans-number.is
    ∙ ap Some c.in-Sel.is in
    c.retry_among_tries.ensures.retry
    ∙ sym
    (sel-retry c.args.chans.now c.args.call c.requires.sound c.args.number c.requires.there c.in-Sel.sel c.args.node.now c.args.wanted at)

pub retry_at-returns-in-Sel-clause-behind : goal.retry_at-returns-in-Sel-clause-behind
retry_at-returns-in-Sel-clause-behind g t c is =
    let at = item-at c.args.chans.now c.args.number c.index-chans-number.result c.requires.there c.index-chans-number.is
    ∙ ap Some c.in-Sel.is in
    c.retry_among_tries.ensures.behind is
    ∙ sel-behind c.args.chans.now c.args.call c.requires.sound c.args.number c.requires.there c.in-Sel.sel c.args.node.now at

pub retry_at-returns-in-Part-clause-retry : goal.retry_at-returns-in-Part-clause-retry
retry_at-returns-in-Part-clause-retry g t c =
    let at = item-at c.args.chans.now c.args.number c.index-chans-number.result c.requires.there c.index-chans-number.is
    ∙ ap Some c.in-Part.is in
    c.retry_of_part.ensures
    ∙ sym
    (part-retry c.args.chans.now c.args.call c.requires.sound c.args.number c.requires.there c.in-Part.part c.args.node.now c.args.wanted at)

pub retry_at-returns-in-Part-clause-behind : goal.retry_at-returns-in-Part-clause-behind
retry_at-returns-in-Part-clause-behind g t c is =
    let at = item-at c.args.chans.now c.args.number c.index-chans-number.result c.requires.there c.index-chans-number.is
    ∙ ap Some c.in-Part.is in
    let behind = part-behind c.args.chans.now c.args.call c.requires.sound c.args.number c.requires.there c.in-Part.part at in
    omega (arith, behind)

pub retry_at-retry_of_part-requires : goal.retry_at-retry_of_part-requires
retry_at-retry_of_part-requires g t c =
    let at = item-at c.args.chans.now c.args.number c.index-chans-number.result c.requires.there c.index-chans-number.is
    ∙ ap Some c.in-Part.is in
    let behind = part-behind c.args.chans.now c.args.call c.requires.sound c.args.number c.requires.there c.in-Part.part at in
    let few = c.requires.few in
    omega (arith, behind, few)

pub retry_among_subs-offset_bounds-chans-sub : goal.retry_among_subs-offset_bounds-chans-sub
retry_among_subs-offset_bounds-chans-sub g t c =
    let less = before-drop c.args.number c.args.subs.now c.loop-sub.sub-index c.sub-item.result c.requires.before c.loop-sub-test.true in
    let same = ap (λ s. s.chan) c.sub-item.is in
    let there = c.requires.there in
    omega (arith, less, same, there)

pub retry_among_subs-bounds-chans-sub : goal.retry_among_subs-bounds-chans-sub
retry_among_subs-bounds-chans-sub g t c =
    let less = before-drop c.args.number c.args.subs.now c.loop-sub.sub-index c.sub-item.result c.requires.before c.loop-sub-test.true in
    let same = ap (λ s. s.chan) c.sub-item.is in
    let there = c.requires.there in
    omega (arith, less, same, there)

pub retry_among_subs-returns-then-next-wanted-clause-retry : goal.retry_among_subs-returns-then-next-wanted-clause-retry
retry_among_subs-returns-then-next-wanted-clause-retry g t c =
    let chans = c.args.chans.now in
    let item = c.sub-item.result in
    let less = before-drop c.args.number c.args.subs.now c.loop-sub.sub-index item c.requires.before c.loop-sub-test.true in
    let same = ap (λ s. s.chan) c.sub-item.is in
    let there = c.requires.there in
    let known : item.chan < length chans = omega (arith, less, same, there) in
    let at = item-at chans item.chan c.index-chans-sub.result known c.index-chans-sub.is ∙ ap Some c.in-Leaf.is in
    let rest = numbers_of (drop (c.loop-sub.sub-index + 1) c.args.subs.now) in
    let split = numbers-drop c.args.subs.now c.loop-sub.sub-index item c.loop-sub-test.true
    ∙ ap (λ s. s.chan ∷ rest) (sym c.sub-item.is) in
    let test = c.if-next-wanted.true in
    let here : (c.loop-sub.next == c.args.wanted) ≡ Rattle.std.proofs.Common.true = grind (arith, nat_tests) in
    let found = leaf-retry chans c.args.call c.requires.sound item.chan known c.in-Leaf.leaf c.loop-sub.next c.args.wanted at
    ∙ rw here refl in
    retry-found chans c.args.call item.chan rest c.loop-sub.next c.args.wanted (Some c.in-Leaf.leaf.retry)
    (sym found) refl
    ∙ ap (λ xs. retry_among chans xs c.args.call c.loop-sub.next c.args.wanted) (sym split) ∙ c.loop-sub.invariant.none

pub retry_among_subs-overflow_add-next : goal.retry_among_subs-overflow_add-next
retry_among_subs-overflow_add-next g t c =
    let chans = c.args.chans.now in
    let item = c.sub-item.result in
    let less = before-drop c.args.number c.args.subs.now c.loop-sub.sub-index item c.requires.before c.loop-sub-test.true in
    let same = ap (λ s. s.chan) c.sub-item.is in
    let there = c.requires.there in
    let known : item.chan < length chans = omega (arith, less, same, there) in
    let at = item-at chans item.chan c.index-chans-sub.result known c.index-chans-sub.is ∙ ap Some c.in-Leaf.is in
    let one = leaf-nodes chans c.args.call c.requires.sound item.chan known c.in-Leaf.leaf at in
    let rest = numbers_of (drop (c.loop-sub.sub-index + 1) c.args.subs.now) in
    let split = numbers-drop c.args.subs.now c.loop-sub.sub-index item c.loop-sub-test.true
    ∙ ap (λ s. s.chan ∷ rest) (sym c.sub-item.is) in
    let place = ap (λ xs. node_behind chans xs c.args.call c.loop-sub.next) (sym split) ∙ c.loop-sub.invariant.place in
    let more = behind-more chans c.args.call item.chan rest c.loop-sub.next in
    let few = c.requires.few in
    omega (arith, one, place, more, few)

pub retry_among_subs-loop-sub-preserved-in-Leaf : goal.retry_among_subs-loop-sub-preserved-in-Leaf
retry_among_subs-loop-sub-preserved-in-Leaf g t c =
    let chans = c.args.chans.now in
    let item = c.sub-item.result in
    let less = before-drop c.args.number c.args.subs.now c.loop-sub.sub-index item c.requires.before c.loop-sub-test.true in
    let same = ap (λ s. s.chan) c.sub-item.is in
    let there = c.requires.there in
    let known : item.chan < length chans = omega (arith, less, same, there) in
    let at = item-at chans item.chan c.index-chans-sub.result known c.index-chans-sub.is ∙ ap Some c.in-Leaf.is in
    let one = leaf-nodes chans c.args.call c.requires.sound item.chan known c.in-Leaf.leaf at in
    let node : c.loop-sub.next + 1 ≡ c.loop-sub.next + nodes_at chans c.args.call item.chan = omega (arith, one) in
    let rest = numbers_of (drop (c.loop-sub.sub-index + 1) c.args.subs.now) in
    let split = numbers-drop c.args.subs.now c.loop-sub.sub-index item c.loop-sub-test.true
    ∙ ap (λ s. s.chan ∷ rest) (sym c.sub-item.is) in
    let test = c.if-next-wanted.false in
    let here : (c.loop-sub.next == c.args.wanted) ≡ Rattle.std.proofs.Common.false = grind (arith, nat_tests) in
    let none = leaf-retry chans c.args.call c.requires.sound item.chan known c.in-Leaf.leaf c.loop-sub.next c.args.wanted at
    ∙ rw here refl in
    record {
      place =
          ap (node_behind chans rest c.args.call) node
          ∙ sym (behind-next chans c.args.call item.chan rest c.loop-sub.next)
          ∙ ap (λ xs. node_behind chans xs c.args.call c.loop-sub.next) (sym split) ∙ c.loop-sub.invariant.place;
      none =
          ap (λ n. retry_among chans rest c.args.call n c.args.wanted) node
          ∙ sym (retry-next chans c.args.call item.chan rest c.loop-sub.next c.args.wanted (sym none))
          ∙ ap (λ xs. retry_among chans xs c.args.call c.loop-sub.next c.args.wanted) (sym split)
          ∙ c.loop-sub.invariant.none;
    }

pub retry_among_tries-retry_at-found-requires : goal.retry_among_tries-retry_at-found-requires
retry_among_tries-retry_at-found-requires g t c κs within =
    let chans = c.args.chans.now in
    let subs = c.args.sel.now.subs in
    let list = c.list-subs.result.now in
    let at = c.loop-at.at in
    let place = c.loop-at.place in
    let tried = slice_index_or list place 0 in
    let count = c.from-count.result + 1 in
    let rest = tries_from subs c.args.call (at + 1) (count - (at + 1)) in
    let turn = c.loop-at.invariant.turn in
    let split = turn-next subs list c.args.call at place count c.list-subs.ensures turn c.loop-at-test.true in
    let less = try-before c.args.number subs c.args.call at c.requires.some c.requires.before in
    let is = turn-is subs list c.args.call at place c.list-subs.ensures turn in
    let there = c.requires.there in
    let all = ap (λ xs. node_behind chans xs c.args.call c.loop-at.next) (sym split) ∙ c.loop-at.invariant.place in
    let more = behind-more chans c.args.call tried rest c.loop-at.next in
    let few = c.requires.few in (
      omega (arith, less, is, c.decreases),
      (search rules, (search rules, (c.requires.sound, (omega (arith, less, is, there), omega (arith, all, more, few))))),
    )

pub retry_among_tries-returns-then-is_some-clause-retry : goal.retry_among_tries-returns-then-is_some-clause-retry
retry_among_tries-returns-then-is_some-clause-retry g t c =
    let chans = c.args.chans.now in
    let subs = c.args.sel.now.subs in
    let list = c.list-subs.result.now in
    let at = c.loop-at.at in
    let place = c.loop-at.place in
    let tried = slice_index_or list place 0 in
    let count = c.from-count.result + 1 in
    let rest = tries_from subs c.args.call (at + 1) (count - (at + 1)) in
    let turn = c.loop-at.invariant.turn in
    let split = turn-next subs list c.args.call at place count c.list-subs.ensures turn c.loop-at-test.true in
    retry-found chans c.args.call tried rest c.loop-at.next c.args.wanted c.retry_at-found.result
    c.retry_at-found.ensures.retry (sym c.is_some.ensures ∙ c.if-is_some.true)
    ∙ ap (λ xs. retry_among chans xs c.args.call c.loop-at.next c.args.wanted) (sym split) ∙ c.loop-at.invariant.none

pub retry_among_tries-loop-at-preserved : goal.retry_among_tries-loop-at-preserved
retry_among_tries-loop-at-preserved g t c =
    let chans = c.args.chans.now in
    let subs = c.args.sel.now.subs in
    let list = c.list-subs.result.now in
    let at = c.loop-at.at in
    let place = c.loop-at.place in
    let tried = slice_index_or list place 0 in
    let count = c.from-count.result + 1 in
    let rest = tries_from subs c.args.call (at + 1) (count - (at + 1)) in
    let turn = c.loop-at.invariant.turn in
    let split = turn-next subs list c.args.call at place count c.list-subs.ensures turn c.loop-at-test.true in
    let none = none-if c.retry_at-found.result (sym c.is_some.ensures ∙ c.if-is_some.false) in
    let node = c.retry_at-found.ensures.behind none in
    let test = c.loop-at-test.true in
    record {
      place =
          ap (node_behind chans rest c.args.call) node
          ∙ sym (behind-next chans c.args.call tried rest c.loop-at.next)
          ∙ ap (λ xs. node_behind chans xs c.args.call c.loop-at.next) (sym split) ∙ c.loop-at.invariant.place;
      none =
          ap (λ n. retry_among chans rest c.args.call n c.args.wanted) node
          ∙ sym
          (retry-next chans c.args.call tried rest c.loop-at.next c.args.wanted (sym none ∙ c.retry_at-found.ensures.retry))
          ∙ ap (λ xs. retry_among chans xs c.args.call c.loop-at.next c.args.wanted) (sym split)
          ∙ c.loop-at.invariant.none;
      within = omega (arith, test);
      count = c.loop-at.invariant.count;
      subs = c.loop-at.invariant.subs;
      turn =
          c.place_behind-place.ensures ∙ ap (λ xs. (place + 1) % length xs) c.list-subs.ensures
          ∙ round_more c.args.call at place (length subs) turn;
    }

pub retry_among_tries-returns-then-next-wanted-clause-retry : goal.retry_among_tries-returns-then-next-wanted-clause-retry
retry_among_tries-returns-then-next-wanted-clause-retry g t c =
    let chans = c.args.chans.now in
    let subs = c.args.sel.now.subs in
    let list = c.list-subs.result.now in
    let at = c.loop-at.at in
    let place = c.loop-at.place in
    let tried = slice_index_or list place 0 in
    let count = c.from-count.result + 1 in
    let rest = tries_from subs c.args.call (at + 1) (count - (at + 1)) in
    let turn = c.loop-at.invariant.turn in
    let split = turn-next subs list c.args.call at place count c.list-subs.ensures turn c.loop-at-test.true in
    let less = try-before c.args.number subs c.args.call at c.requires.some c.requires.before in
    let is = turn-is subs list c.args.call at place c.list-subs.ensures turn in
    let there = c.requires.there in
    let known : tried < length chans = omega (arith, less, is, there) in
    let here = item-at chans tried c.index-chans-chan.result known c.index-chans-chan.is ∙ ap Some c.in-Leaf.is in
    let test = c.if-next-wanted.true in
    let same : (c.loop-at.next == c.args.wanted) ≡ Rattle.std.proofs.Common.true = grind (arith, nat_tests) in
    let found =
    leaf-retry chans c.args.call c.requires.sound tried known c.in-Leaf.leaf c.loop-at.next c.args.wanted here
    ∙ rw same refl in
    retry-found chans c.args.call tried rest c.loop-at.next c.args.wanted (Some c.in-Leaf.leaf.retry) (sym found) refl
    ∙ ap (λ xs. retry_among chans xs c.args.call c.loop-at.next c.args.wanted) (sym split) ∙ c.loop-at.invariant.none

pub retry_among_tries-overflow_add-next : goal.retry_among_tries-overflow_add-next
retry_among_tries-overflow_add-next g t c =
    let chans = c.args.chans.now in
    let subs = c.args.sel.now.subs in
    let list = c.list-subs.result.now in
    let at = c.loop-at.at in
    let place = c.loop-at.place in
    let tried = slice_index_or list place 0 in
    let count = c.from-count.result + 1 in
    let rest = tries_from subs c.args.call (at + 1) (count - (at + 1)) in
    let turn = c.loop-at.invariant.turn in
    let split = turn-next subs list c.args.call at place count c.list-subs.ensures turn c.loop-at-test.true in
    let less = try-before c.args.number subs c.args.call at c.requires.some c.requires.before in
    let is = turn-is subs list c.args.call at place c.list-subs.ensures turn in
    let there = c.requires.there in
    let known : tried < length chans = omega (arith, less, is, there) in
    let here = item-at chans tried c.index-chans-chan.result known c.index-chans-chan.is ∙ ap Some c.in-Leaf.is in
    let one = leaf-nodes chans c.args.call c.requires.sound tried known c.in-Leaf.leaf here in
    let all = ap (λ xs. node_behind chans xs c.args.call c.loop-at.next) (sym split) ∙ c.loop-at.invariant.place in
    let more = behind-more chans c.args.call tried rest c.loop-at.next in
    let few = c.requires.few in
    omega (arith, one, all, more, few)

pub retry_among_tries-loop-at-preserved-in-Leaf : goal.retry_among_tries-loop-at-preserved-in-Leaf
retry_among_tries-loop-at-preserved-in-Leaf g t c =
    let chans = c.args.chans.now in
    let subs = c.args.sel.now.subs in
    let list = c.list-subs.result.now in
    let at = c.loop-at.at in
    let place = c.loop-at.place in
    let tried = slice_index_or list place 0 in
    let count = c.from-count.result + 1 in
    let rest = tries_from subs c.args.call (at + 1) (count - (at + 1)) in
    let turn = c.loop-at.invariant.turn in
    let split = turn-next subs list c.args.call at place count c.list-subs.ensures turn c.loop-at-test.true in
    let less = try-before c.args.number subs c.args.call at c.requires.some c.requires.before in
    let is = turn-is subs list c.args.call at place c.list-subs.ensures turn in
    let there = c.requires.there in
    let known : tried < length chans = omega (arith, less, is, there) in
    let here = item-at chans tried c.index-chans-chan.result known c.index-chans-chan.is ∙ ap Some c.in-Leaf.is in
    let one = leaf-nodes chans c.args.call c.requires.sound tried known c.in-Leaf.leaf here in
    let node : c.loop-at.next + 1 ≡ c.loop-at.next + nodes_at chans c.args.call tried = omega (arith, one) in
    let passed = c.if-next-wanted.false in
    let other : (c.loop-at.next == c.args.wanted) ≡ Rattle.std.proofs.Common.false = grind (arith, nat_tests) in
    let none : retry_in chans tried c.args.call c.loop-at.next c.args.wanted ≡ None =
    leaf-retry chans c.args.call c.requires.sound tried known c.in-Leaf.leaf c.loop-at.next c.args.wanted here
    ∙ rw other refl in
    let test = c.loop-at-test.true in
    record {
      place =
          ap (node_behind chans rest c.args.call) node
          ∙ sym (behind-next chans c.args.call tried rest c.loop-at.next)
          ∙ ap (λ xs. node_behind chans xs c.args.call c.loop-at.next) (sym split) ∙ c.loop-at.invariant.place;
      none =
          ap (λ n. retry_among chans rest c.args.call n c.args.wanted) node
          ∙ sym (retry-next chans c.args.call tried rest c.loop-at.next c.args.wanted (sym none))
          ∙ ap (λ xs. retry_among chans xs c.args.call c.loop-at.next c.args.wanted) (sym split)
          ∙ c.loop-at.invariant.none;
      within = omega (arith, test);
      count = c.loop-at.invariant.count;
      subs = c.loop-at.invariant.subs;
      turn =
          c.place_behind-place.ensures ∙ ap (λ xs. (place + 1) % length xs) c.list-subs.ensures
          ∙ round_more c.args.call at place (length subs) turn;
    }
