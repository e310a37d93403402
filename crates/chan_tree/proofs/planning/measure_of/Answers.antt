-- One channel more is measured.
use Rattle.std.proofs.Common.{arith, ◌≡◌, ◌++◌, Some, [], ◌∷◌, length, ap, sym, ◌∙◌, subst}
use Rattle.chan_tree.specs.Sound.{IsSound}
use Rattle.chan_tree.specs.Measures.{measures}
use Rattle.chan_tree.proofs.Built.{item-at, sound-here}
use Rattle.chan_tree.proofs.Judged.{leaf-measured, measured, length-measures, measures-next}
use Rattle.chan_tree.proofs.planning.measure_of.Goals as goal

pub measure_chan-measure-requires : goal.measure_chan-measure-requires
measure_chan-measure-requires g c =
    let there = c.requires.there in
    let test = c.loop-at-test.true in
    let at = item-at c.args.chans.now c.loop-at.at c.index-chans-at.result (omega (arith, test, there)) c.index-chans-at.is in
    let long = ap length (c.as_slice-in-loop-at.ensures.value ∙ c.loop-at.invariant.measured) ∙ length-measures c.args.chans.now c.args.call c.loop-at.at in
    record { sound = subst (λ n. IsSound n c.index-chans-at.result) (sym long) (sound-here c.args.chans.now c.loop-at.at c.requires.sound c.index-chans-at.result at) }

pub loop-at-preserved : goal.loop-at-preserved
loop-at-preserved g c =
    let there = c.requires.there in
    let test = c.loop-at-test.true in
    let at = item-at c.args.chans.now c.loop-at.at c.index-chans-at.result (omega (arith, test, there)) c.index-chans-at.is in
    let is =
    measured c.args.chans.now c.args.call c.requires.sound c.loop-at.at c.as_slice-in-loop-at.result.now c.index-chans-at.result c.measure_chan-measure.result
    (c.as_slice-in-loop-at.ensures.value ∙ c.loop-at.invariant.measured) at
    c.measure_chan-measure.ensures.depth c.measure_chan-measure.ensures.missing c.measure_chan-measure.ensures.width in
    record {
      measured =
          c.in_ok-push.ensures.items ∙ ap (λ xs. xs ++ c.measure_chan-measure.result ∷ []) c.loop-at.invariant.measured ∙ ap (λ m. measures c.args.chans.now c.args.call c.loop-at.at ++ m ∷ []) is
          ∙ measures-next c.args.chans.now c.args.call c.loop-at.at;
      within = omega (arith, test);
    }

pub measure_chan-requires : goal.measure_chan-requires
measure_chan-requires g c =
    let at = item-at c.args.chans.now c.args.number c.index-chans-number.result c.requires.there c.index-chans-number.is in
    let sound = subst (IsSound c.args.number) c.in-Leaf.is (sound-here c.args.chans.now c.args.number c.requires.sound c.index-chans-number.result at) in
    record { sound = rw c.in-Leaf.is sound }

pub returns-in-Leaf : goal.returns-in-Leaf
returns-in-Leaf g c =
    let at = item-at c.args.chans.now c.args.number c.index-chans-number.result c.requires.there c.index-chans-number.is in
    let here = at ∙ ap Some c.in-Leaf.is in
    let m = c.measure_chan.ensures in
    leaf-measured c.args.chans.now c.args.number c.args.call _ c.measure_chan.result here (rw c.in-Leaf.is at m.depth) (rw c.in-Leaf.is at m.missing) (rw c.in-Leaf.is at m.width)

pub measure_chan-requires-2 : goal.measure_chan-requires-2
measure_chan-requires-2 g c =
    let within = c.loop-at.invariant.within in
    let test = c.loop-at-test.false in
    let end : c.loop-at.at ≡ c.args.number = omega (arith, within, test) in
    let at = item-at c.args.chans.now c.args.number c.index-chans-number.result c.requires.there c.index-chans-number.is in
    let long = ap length (c.as_slice-2.ensures.value ∙ c.loop-at.invariant.measured) ∙ length-measures c.args.chans.now c.args.call c.loop-at.at ∙ end in
    record { sound = subst (λ n. IsSound n c.index-chans-number.result) (sym long) (sound-here c.args.chans.now c.args.number c.requires.sound c.index-chans-number.result at) }

pub returns : goal.returns
returns g c =
    let within = c.loop-at.invariant.within in
    let test = c.loop-at-test.false in
    let end : c.loop-at.at ≡ c.args.number = omega (arith, within, test) in
    let at = item-at c.args.chans.now c.args.number c.index-chans-number.result c.requires.there c.index-chans-number.is in
    measured c.args.chans.now c.args.call c.requires.sound c.args.number c.as_slice-2.result.now c.index-chans-number.result c.measure_chan-2.result
    (c.as_slice-2.ensures.value ∙ c.loop-at.invariant.measured ∙ ap (measures c.args.chans.now c.args.call) end) at c.measure_chan-2.ensures.depth c.measure_chan-2.ensures.missing
    c.measure_chan-2.ensures.width
