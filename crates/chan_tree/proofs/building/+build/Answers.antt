-- A channel's plan from those of its subs, which come before it.
use Rattle.std.proofs.Common.{rules, arith, ◌≡◌, ◌+◌, ◌-◌, ◌%◌, ◌∷◌, slice_index, Some, length, drop, ap, sym, ◌∙◌, subst}
use Rattle.rpc_model.specs.declared.chan.Chan.TheVariants as chan
use Rattle.rpc_model.specs.Plan as spec
use Rattle.rpc_model.specs.Plan.{tries, tries_from}
use Rattle.chan_tree.specs.Sound.{AreBefore}
use Rattle.chan_tree.specs.Measures.{numbers_of}
use Rattle.chan_tree.specs.Shown.{IsPlanOf, AreLeft, ArePlansOf, plans_of as plans_shown, rule_of as rule_shown}
use Rattle.chan_tree.proofs.Built.{item-at, sound-here, leaf-built, par-built, sel-built, part-built, left-all, left-next, left-none, before-drop, numbers-drop, numbers-end, try-before}
use Rattle.chan_tree.proofs.Turns.{tries_next, tries_end}
use Rattle.chan_tree.proofs.building.+build.Goals as goal

pub build-build_subs-requires : goal.build-build_subs-requires
build-build_subs-requires g t c κs within =
    let at = item-at c.args.chans.now c.args.number c.index-chans-number.result c.requires.there c.index-chans-number.is ∙ ap Some c.in-Par.is in
    let before = sound-here c.args.chans.now c.args.number c.requires.sound (chan.Par c.in-Par.par) at in
    (omega (arith, c.decreases), (search rules, (search rules, (c.requires.sound, (c.requires.there, subst (λ xs. AreBefore c.args.number (numbers_of xs)) (sym c.list.ensures) before)))))

pub build-build_tries-requires : goal.build-build_tries-requires
build-build_tries-requires g t c κs within =
    let at = item-at c.args.chans.now c.args.number c.index-chans-number.result c.requires.there c.index-chans-number.is ∙ ap Some c.in-Sel.is in
    let before = sound-here c.args.chans.now c.args.number c.requires.sound (chan.Sel c.in-Sel.sel) at in
    (omega (arith, c.decreases), (search rules, (search rules, (c.requires.sound, (c.requires.there, (before.0, before.1))))))

pub build-returns-in_ok-tree_of-in-Leaf : goal.build-returns-in_ok-tree_of-in-Leaf
build-returns-in_ok-tree_of-in-Leaf g t c =
    let at = item-at c.args.chans.now c.args.number c.index-chans-number.result c.requires.there c.index-chans-number.is ∙ ap Some c.in-Leaf.is in
    let built = leaf-built c.args.chans.now c.args.number c.requires.sound c.args.call c.in-Leaf.leaf at in
    let leaf = subst (λ l. IsPlanOf c.args.chans.now c.args.number c.args.call (spec.leaf_plan l)) (sym c.in_ok-leaf-in-Leaf.ensures) built in
    record { tree = subst (IsPlanOf c.args.chans.now c.args.number c.args.call) (sym c.in_ok-tree_of-in-Leaf.ensures) leaf }

pub build-returns-in_ok-tree_of-in-Par : goal.build-returns-in_ok-tree_of-in-Par
build-returns-in_ok-tree_of-in-Par g t c =
    let at = item-at c.args.chans.now c.args.number c.index-chans-number.result c.requires.there c.index-chans-number.is ∙ ap Some c.in-Par.is in
    let plans = plans_shown c.in_ok-kids-in-Par.kids.items in
    let subs = subst (λ xs. ArePlansOf c.args.chans.now c.args.call (numbers_of xs) plans) c.list.ensures c.in_ok-kids-in-Par.ensures.kids in
    let built = par-built c.args.chans.now c.args.number c.requires.sound c.args.call c.in-Par.par plans at subs in
    let par = subst (λ r. IsPlanOf c.args.chans.now c.args.number c.args.call (spec.par_plan r plans)) (sym c.in_ok-rule-in-Par.ensures) built in
    record { tree = subst (IsPlanOf c.args.chans.now c.args.number c.args.call) (sym c.in_ok-tree_of-in-Par.ensures) par }

pub build-returns-in_ok-tree_of-in-Sel : goal.build-returns-in_ok-tree_of-in-Sel
build-returns-in_ok-tree_of-in-Sel g t c =
    let at = item-at c.args.chans.now c.args.number c.index-chans-number.result c.requires.there c.index-chans-number.is ∙ ap Some c.in-Sel.is in
    let built = sel-built c.args.chans.now c.args.number c.requires.sound c.args.call c.in-Sel.sel (plans_shown c.in_ok-kids-in-Sel.kids.items) at c.in_ok-kids-in-Sel.ensures.kids in
    record { tree = subst (IsPlanOf c.args.chans.now c.args.number c.args.call) (sym c.in_ok-tree_of-in-Sel.ensures) built }

pub build-returns-in_ok-tree_of-in-Part : goal.build-returns-in_ok-tree_of-in-Part
build-returns-in_ok-tree_of-in-Part g t c =
    let at = item-at c.args.chans.now c.args.number c.index-chans-number.result c.requires.there c.index-chans-number.is ∙ ap Some c.in-Part.is in
    let built = part-built c.args.chans.now c.args.number c.requires.sound c.args.call c.in-Part.part at in
    let ruled = subst (λ r. IsPlanOf c.args.chans.now c.args.number c.args.call (spec.par_plan r (spec.part_plans c.in-Part.part 0 c.in-Part.part.parts))) (sym c.in_ok-rule-in-Part.ensures) built in
    let part = subst (λ ps. IsPlanOf c.args.chans.now c.args.number c.args.call (spec.par_plan (rule_shown c.in_ok-rule-in-Part.rule) ps)) (sym c.in_ok-kids-in-Part.ensures) ruled in
    record { tree = subst (IsPlanOf c.args.chans.now c.args.number c.args.call) (sym c.in_ok-tree_of-in-Part.ensures) part }

pub build_subs-loop-sub-init : goal.build_subs-loop-sub-init
build_subs-loop-sub-init g t c =
    record {
      so_far = subst (λ built. AreLeft c.args.chans.now c.args.call (numbers_of c.args.subs.now) built (numbers_of c.args.subs.now)) (sym c.in_ok-kids.ensures.items)
          (left-all c.args.chans.now c.args.call (numbers_of c.args.subs.now));
    }

pub build_subs-build-requires : goal.build_subs-build-requires
build_subs-build-requires g t c κs within =
    let less = before-drop c.args.number c.args.subs.now c.loop-sub.sub-index c.sub-item.result c.requires.before c.loop-sub-test.true in
    let same = ap (λ s. s.chan) c.sub-item.is in
    let there = c.requires.there in
    (omega (arith, less, same, c.decreases), (search rules, (search rules, (c.requires.sound, omega (arith, less, same, there)))))

pub build_subs-loop-sub-preserved : goal.build_subs-loop-sub-preserved
build_subs-loop-sub-preserved g t c =
    let chans = c.args.chans.now in
    let all = numbers_of c.args.subs.now in
    let item = c.sub-item.result in
    let rest = numbers_of (drop (c.loop-sub.sub-index + 1) c.args.subs.now) in
    let split = numbers-drop c.args.subs.now c.loop-sub.sub-index item c.loop-sub-test.true ∙ ap (λ s. s.chan ∷ rest) (sym c.sub-item.is) in
    let before = subst (AreLeft chans c.args.call all c.loop-sub.kids.items) split c.loop-sub.invariant.so_far in
    let next = left-next chans c.args.call all c.loop-sub.kids.items item.chan rest _ before c.in_ok-build.ensures.tree in
    record { so_far = subst (λ built. AreLeft chans c.args.call all built rest) (sym c.in_ok-push.ensures.items) next }

pub build_subs-returns : goal.build_subs-returns
build_subs-returns g t c =
    let all = numbers_of c.args.subs.now in
    let none = numbers-end c.args.subs.now c.loop-sub.sub-index (let past = c.loop-sub-test.false in omega (arith, past)) in
    record { kids = left-none c.args.chans.now c.args.call all c.loop-sub.kids.items (subst (AreLeft c.args.chans.now c.args.call all c.loop-sub.kids.items) none c.loop-sub.invariant.so_far) }

pub build_tries-loop-at-init : goal.build_tries-loop-at-init
build_tries-loop-at-init g t c =
    let all = tries c.args.sel.now c.args.call in
    let count = c.from-count.ensures in
    let same : c.from-count.result + 1 - 0 ≡ c.args.sel.now.retry + 1 = omega (arith, count) in
    let begun = subst (λ built. AreLeft c.args.chans.now c.args.call all built all) (sym c.in_ok-kids.ensures.items) (left-all c.args.chans.now c.args.call all) in
    record {
      so_far = subst (λ n. AreLeft c.args.chans.now c.args.call all c.in_ok-kids.kids.items (tries_from c.args.sel.now.subs c.args.call 0 n)) (sym same) begun;
      within = omega arith;
      count = omega (arith, count);
      subs = c.list-subs.ensures;
    }

pub build_tries-build-requires : goal.build_tries-build-requires
build_tries-build-requires g t c κs within =
    let less = try-before c.args.number c.args.sel.now.subs c.args.call c.loop-at.at c.requires.some c.requires.before in
    let is = c.try_at-number.ensures ∙ ap (λ xs. slice_index xs ((c.args.call + c.loop-at.at) % length xs)) c.list-subs.ensures in
    let there = c.requires.there in
    (omega (arith, less, is, c.decreases), (search rules, (search rules, (c.requires.sound, omega (arith, less, is, there)))))

pub build_tries-loop-at-preserved : goal.build_tries-loop-at-preserved
build_tries-loop-at-preserved g t c =
    let chans = c.args.chans.now in
    let subs = c.args.sel.now.subs in
    let all = tries c.args.sel.now c.args.call in
    let count = c.from-count.result + 1 in
    let rest = tries_from subs c.args.call (c.loop-at.at + 1) (count - (c.loop-at.at + 1)) in
    let is = c.try_at-number.ensures ∙ ap (λ xs. slice_index xs ((c.args.call + c.loop-at.at) % length xs)) c.list-subs.ensures in
    let split = tries_next subs c.args.call c.loop-at.at count c.loop-at-test.true ∙ ap (λ n. n ∷ rest) (sym is) in
    let before = subst (AreLeft chans c.args.call all c.loop-at.kids.items) split c.loop-at.invariant.so_far in
    let next = left-next chans c.args.call all c.loop-at.kids.items c.try_at-number.result rest _ before c.in_ok-build.ensures.tree in
    let test = c.loop-at-test.true in
    record {
      so_far = subst (λ built. AreLeft chans c.args.call all built rest) (sym c.in_ok-push.ensures.items) next;
      within = omega (arith, test);
      count = c.loop-at.invariant.count;
      subs = c.loop-at.invariant.subs;
    }

pub build_tries-returns : goal.build_tries-returns
build_tries-returns g t c =
    let all = tries c.args.sel.now c.args.call in
    let count = c.from-count.result + 1 in
    let none = tries_end c.args.sel.now.subs c.args.call c.loop-at.at count (let past = c.loop-at-test.false in omega (arith, past)) in
    record { kids = left-none c.args.chans.now c.args.call all c.loop-at.kids.items (subst (AreLeft c.args.chans.now c.args.call all c.loop-at.kids.items) none c.loop-at.invariant.so_far) }
