-- The size of a plan from those of the plans below.
use Rattle.std.proofs.Common.{rules, arith, ◌≡◌, ◌+◌, ◌-◌, ◌%◌, ◌∷◌, slice_index, Some, length, drop, refl, ap, sym, ◌∙◌, subst}
use Rattle.rpc_model.specs.declared.chan.Chan.TheVariants as chan
use Rattle.rpc_model.specs.Plan.{tries, tries_from}
use Rattle.chan_tree.specs.Sound.{AreBefore}
use Rattle.chan_tree.specs.Measures.{numbers_of}
use Rattle.chan_tree.specs.declared.walking.Size.{Size}
use Rattle.chan_tree.specs.Sizes.{IsSize, IsSizeOf, IsSizeOver, IsSizeSoFar}
use Rattle.chan_tree.proofs.Built.{item-at, sound-here, before-drop, numbers-drop, numbers-end, try-before}
use Rattle.chan_tree.proofs.Turns.{tries_next, tries_end}
use Rattle.chan_tree.proofs.Sizes.{leaf-size, part-size, par-size, sel-size, size-first, size-wide, size-full, size-more, size-last, size-narrow, size-one}
use Rattle.chan_tree.proofs.walking.+size.Goals as goal

pub size_of-size_of_subs-requires : goal.size_of-size_of_subs-requires
size_of-size_of_subs-requires g t c κs within =
    let at = item-at c.args.chans.now c.args.number c.index-chans-number.result c.requires.there c.index-chans-number.is ∙ ap Some c.in-Par.is in
    let before = sound-here c.args.chans.now c.args.number c.requires.sound (chan.Par c.in-Par.par) at in
    (omega (arith, c.decreases), (search rules, (search rules, (c.requires.sound, (c.requires.there, subst (λ xs. AreBefore c.args.number (numbers_of xs)) (sym c.list.ensures) before)))))

pub size_of-size_of_tries-requires : goal.size_of-size_of_tries-requires
size_of-size_of_tries-requires g t c κs within =
    let at = item-at c.args.chans.now c.args.number c.index-chans-number.result c.requires.there c.index-chans-number.is ∙ ap Some c.in-Sel.is in
    let before = sound-here c.args.chans.now c.args.number c.requires.sound (chan.Sel c.in-Sel.sel) at in
    (omega (arith, c.decreases), (search rules, (search rules, (c.requires.sound, (c.requires.there, (before.0, before.1))))))

pub size_of-returns-in-Leaf : goal.size_of-returns-in-Leaf
size_of-returns-in-Leaf g t c =
    let at = item-at c.args.chans.now c.args.number c.index-chans-number.result c.requires.there c.index-chans-number.is ∙ ap Some c.in-Leaf.is in
    leaf-size c.args.chans.now c.requires.sound c.args.call c.args.number c.requires.there c.in-Leaf.leaf c.narrow.result at
    (subst (λ n. IsSize c.narrow.result 1 (n + 1)) c.from.ensures c.narrow.ensures)

pub size_of-returns-in-Par : goal.size_of-returns-in-Par
size_of-returns-in-Par g t c =
    let at = item-at c.args.chans.now c.args.number c.index-chans-number.result c.requires.there c.index-chans-number.is ∙ ap Some c.in-Par.is in
    par-size c.args.chans.now c.requires.sound c.args.call c.args.number c.requires.there c.in-Par.par c.size_of_subs.result at
    (subst (λ xs. IsSizeOver c.args.chans.now (numbers_of xs) c.args.call c.size_of_subs.result) c.list.ensures c.size_of_subs.ensures)

pub size_of-returns-in-Sel : goal.size_of-returns-in-Sel
size_of-returns-in-Sel g t c =
    let at = item-at c.args.chans.now c.args.number c.index-chans-number.result c.requires.there c.index-chans-number.is ∙ ap Some c.in-Sel.is in
    sel-size c.args.chans.now c.requires.sound c.args.call c.args.number c.requires.there c.in-Sel.sel c.size_of_tries.result at c.size_of_tries.ensures

pub size_of-returns-in-Part : goal.size_of-returns-in-Part
size_of-returns-in-Part g t c =
    let at = item-at c.args.chans.now c.args.number c.index-chans-number.result c.requires.there c.index-chans-number.is ∙ ap Some c.in-Part.is in
    part-size c.args.chans.now c.requires.sound c.args.call c.args.number c.requires.there c.in-Part.part c.size_of_parts.result at c.size_of_parts.ensures

pub size_of_subs-loop-sub-init : goal.size_of_subs-loop-sub-init
size_of_subs-loop-sub-init g t c = record { so_far = size-first c.args.chans.now c.requires.sound c.args.call c.args.number c.requires.there (numbers_of c.args.subs.now) _ refl refl }

pub size_of_subs-size_of-requires : goal.size_of_subs-size_of-requires
size_of_subs-size_of-requires g t c κs within =
    let less = before-drop c.args.number c.args.subs.now c.loop-sub.sub-index c.sub-item.result c.requires.before c.loop-sub-test.true in
    let same = ap (λ s. s.chan) c.sub-item.is in
    let there = c.requires.there in
    (omega (arith, less, same, c.decreases), (search rules, (search rules, (c.requires.sound, omega (arith, less, same, there)))))

pub size_of_subs-returns-in_default : goal.size_of_subs-returns-in_default
size_of_subs-returns-in_default g t c =
    let chans = c.args.chans.now in
    let item = c.sub-item.result in
    let rest = numbers_of (drop (c.loop-sub.sub-index + 1) c.args.subs.now) in
    let split = numbers-drop c.args.subs.now c.loop-sub.sub-index item c.loop-sub-test.true ∙ ap (λ s. s.chan ∷ rest) (sym c.sub-item.is) in
    size-wide chans c.requires.sound c.args.call c.args.number c.requires.there (numbers_of c.args.subs.now) c.loop-sub.size item.chan rest
    (subst (IsSizeSoFar chans (numbers_of c.args.subs.now) c.args.call c.loop-sub.size) split c.loop-sub.invariant.so_far)
    (subst (IsSizeOf chans item.chan c.args.call) c.in_default.is c.size_of.ensures)

pub size_of_subs-and-requires-clause-here : goal.size_of_subs-and-requires-clause-here
size_of_subs-and-requires-clause-here g t c = size-narrow c.args.chans.now _ _ c.args.call c.loop-sub.size c.loop-sub.invariant.so_far

pub size_of_subs-and-requires-clause-other : goal.size_of_subs-and-requires-clause-other
size_of_subs-and-requires-clause-other g t c =
    size-one c.args.chans.now _ c.args.call c.in-Some.more (subst (IsSizeOf c.args.chans.now c.sub-item.result.chan c.args.call) c.in-Some.is c.size_of.ensures)

pub size_of_subs-returns-in_default-and : goal.size_of_subs-returns-in_default-and
size_of_subs-returns-in_default-and g t c =
    let chans = c.args.chans.now in
    let item = c.sub-item.result in
    let rest = numbers_of (drop (c.loop-sub.sub-index + 1) c.args.subs.now) in
    let split = numbers-drop c.args.subs.now c.loop-sub.sub-index item c.loop-sub-test.true ∙ ap (λ s. s.chan ∷ rest) (sym c.sub-item.is) in
    let size = c.loop-sub.size in
    let more = c.in-Some.more in
    size-full chans c.requires.sound c.args.call c.args.number c.requires.there (numbers_of c.args.subs.now) size more item.chan rest
    (subst (IsSizeSoFar chans (numbers_of c.args.subs.now) c.args.call size) split c.loop-sub.invariant.so_far) (subst (IsSizeOf chans item.chan c.args.call) c.in-Some.is c.size_of.ensures)
    (subst (λ o. IsSize o (size.nodes + more.nodes) (size.attempts + more.attempts)) c.in_default-and.is c.and.ensures)

pub size_of_subs-loop-sub-preserved : goal.size_of_subs-loop-sub-preserved
size_of_subs-loop-sub-preserved g t c =
    let chans = c.args.chans.now in
    let item = c.sub-item.result in
    let rest = numbers_of (drop (c.loop-sub.sub-index + 1) c.args.subs.now) in
    let split = numbers-drop c.args.subs.now c.loop-sub.sub-index item c.loop-sub-test.true ∙ ap (λ s. s.chan ∷ rest) (sym c.sub-item.is) in
    let size = c.loop-sub.size in
    let more = c.in-Some.more in
    record {
      so_far =
          size-more chans c.requires.sound c.args.call c.args.number c.requires.there (numbers_of c.args.subs.now) size more c.in-Some-and.sum item.chan rest
          (subst (IsSizeSoFar chans (numbers_of c.args.subs.now) c.args.call size) split c.loop-sub.invariant.so_far) (subst (IsSizeOf chans item.chan c.args.call) c.in-Some.is c.size_of.ensures)
          (subst (λ o. IsSize o (size.nodes + more.nodes) (size.attempts + more.attempts)) c.in-Some-and.is c.and.ensures);
    }

pub size_of_subs-returns : goal.size_of_subs-returns
size_of_subs-returns g t c =
    let none = numbers-end c.args.subs.now c.loop-sub.sub-index (let past = c.loop-sub-test.false in omega (arith, past)) in
    size-last c.args.chans.now c.requires.sound c.args.call c.args.number c.requires.there (numbers_of c.args.subs.now) c.loop-sub.size
    (subst (IsSizeSoFar c.args.chans.now (numbers_of c.args.subs.now) c.args.call c.loop-sub.size) none c.loop-sub.invariant.so_far)

pub size_of_tries-loop-at-init : goal.size_of_tries-loop-at-init
size_of_tries-loop-at-init g t c =
    let all = tries c.args.sel.now c.args.call in
    let count = c.from-count.ensures in
    let same : c.from-count.result + 1 - 0 ≡ c.args.sel.now.retry + 1 = omega (arith, count) in
    let one : Size = record { nodes = 1; attempts = 0 } in
    record {
      so_far =
          subst (λ n. IsSizeSoFar c.args.chans.now all c.args.call one (tries_from c.args.sel.now.subs c.args.call 0 n)) (sym same)
          (size-first c.args.chans.now c.requires.sound c.args.call c.args.number c.requires.there all one refl refl);
      within = omega arith;
      count = omega (arith, count);
      subs = c.list-subs.ensures;
    }

pub size_of_tries-size_of-requires : goal.size_of_tries-size_of-requires
size_of_tries-size_of-requires g t c κs within =
    let less = try-before c.args.number c.args.sel.now.subs c.args.call c.loop-at.at c.requires.some c.requires.before in
    let is = c.try_at.ensures ∙ ap (λ xs. slice_index xs ((c.args.call + c.loop-at.at) % length xs)) c.list-subs.ensures in
    let there = c.requires.there in
    (omega (arith, less, is, c.decreases), (search rules, (search rules, (c.requires.sound, omega (arith, less, is, there)))))

pub size_of_tries-returns-in_default : goal.size_of_tries-returns-in_default
size_of_tries-returns-in_default g t c =
    let chans = c.args.chans.now in
    let subs = c.args.sel.now.subs in
    let all = tries c.args.sel.now c.args.call in
    let count = c.from-count.result + 1 in
    let rest = tries_from subs c.args.call (c.loop-at.at + 1) (count - (c.loop-at.at + 1)) in
    let is = c.try_at.ensures ∙ ap (λ xs. slice_index xs ((c.args.call + c.loop-at.at) % length xs)) c.list-subs.ensures in
    let split = tries_next subs c.args.call c.loop-at.at count c.loop-at-test.true ∙ ap (λ n. n ∷ rest) (sym is) in
    size-wide chans c.requires.sound c.args.call c.args.number c.requires.there all c.loop-at.size c.try_at.result rest
    (subst (IsSizeSoFar chans all c.args.call c.loop-at.size) split c.loop-at.invariant.so_far) (subst (IsSizeOf chans c.try_at.result c.args.call) c.in_default.is c.size_of.ensures)

pub size_of_tries-and-requires-clause-here : goal.size_of_tries-and-requires-clause-here
size_of_tries-and-requires-clause-here g t c = size-narrow c.args.chans.now _ _ c.args.call c.loop-at.size c.loop-at.invariant.so_far

pub size_of_tries-and-requires-clause-other : goal.size_of_tries-and-requires-clause-other
size_of_tries-and-requires-clause-other g t c = size-one c.args.chans.now _ c.args.call c.in-Some.more (subst (IsSizeOf c.args.chans.now c.try_at.result c.args.call) c.in-Some.is c.size_of.ensures)

pub size_of_tries-returns-in_default-and : goal.size_of_tries-returns-in_default-and
size_of_tries-returns-in_default-and g t c =
    let chans = c.args.chans.now in
    let subs = c.args.sel.now.subs in
    let all = tries c.args.sel.now c.args.call in
    let count = c.from-count.result + 1 in
    let rest = tries_from subs c.args.call (c.loop-at.at + 1) (count - (c.loop-at.at + 1)) in
    let is = c.try_at.ensures ∙ ap (λ xs. slice_index xs ((c.args.call + c.loop-at.at) % length xs)) c.list-subs.ensures in
    let split = tries_next subs c.args.call c.loop-at.at count c.loop-at-test.true ∙ ap (λ n. n ∷ rest) (sym is) in
    let size = c.loop-at.size in
    let more = c.in-Some.more in
    size-full chans c.requires.sound c.args.call c.args.number c.requires.there all size more c.try_at.result rest
    (subst (IsSizeSoFar chans all c.args.call size) split c.loop-at.invariant.so_far) (subst (IsSizeOf chans c.try_at.result c.args.call) c.in-Some.is c.size_of.ensures)
    (subst (λ o. IsSize o (size.nodes + more.nodes) (size.attempts + more.attempts)) c.in_default-and.is c.and.ensures)

pub size_of_tries-loop-at-preserved : goal.size_of_tries-loop-at-preserved
size_of_tries-loop-at-preserved g t c =
    let chans = c.args.chans.now in
    let subs = c.args.sel.now.subs in
    let all = tries c.args.sel.now c.args.call in
    let count = c.from-count.result + 1 in
    let rest = tries_from subs c.args.call (c.loop-at.at + 1) (count - (c.loop-at.at + 1)) in
    let is = c.try_at.ensures ∙ ap (λ xs. slice_index xs ((c.args.call + c.loop-at.at) % length xs)) c.list-subs.ensures in
    let split = tries_next subs c.args.call c.loop-at.at count c.loop-at-test.true ∙ ap (λ n. n ∷ rest) (sym is) in
    let size = c.loop-at.size in
    let more = c.in-Some.more in
    let test = c.loop-at-test.true in
    record {
      so_far =
          size-more chans c.requires.sound c.args.call c.args.number c.requires.there all size more c.in-Some-and.sum c.try_at.result rest
          (subst (IsSizeSoFar chans all c.args.call size) split c.loop-at.invariant.so_far) (subst (IsSizeOf chans c.try_at.result c.args.call) c.in-Some.is c.size_of.ensures)
          (subst (λ o. IsSize o (size.nodes + more.nodes) (size.attempts + more.attempts)) c.in-Some-and.is c.and.ensures);
      within = omega (arith, test);
      count = c.loop-at.invariant.count;
      subs = c.loop-at.invariant.subs;
    }

pub size_of_tries-returns : goal.size_of_tries-returns
size_of_tries-returns g t c =
    let all = tries c.args.sel.now c.args.call in
    let count = c.from-count.result + 1 in
    let none = tries_end c.args.sel.now.subs c.args.call c.loop-at.at count (let past = c.loop-at-test.false in omega (arith, past)) in
    size-last c.args.chans.now c.requires.sound c.args.call c.args.number c.requires.there all c.loop-at.size
    (subst (IsSizeSoFar c.args.chans.now all c.args.call c.loop-at.size) none c.loop-at.invariant.so_far)
