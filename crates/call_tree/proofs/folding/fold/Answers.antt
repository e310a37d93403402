use Rattle.std.proofs.Common.{arith, ap, sym, ◌∙◌, slice_get}
use Rattle.std.specs.Option.{option_map}
use Rattle.call_tree.proofs.Folds.{fold-step, fold-end, fold-past, less-next}
use Rattle.call_tree.proofs.folding.fold.Goals.{in-Taken, in-Fail+else-failed-limit}
use Rattle.call_tree.proofs.folding.fold.Goals as goal

pub returns-in-FailAll : goal.returns-in-FailAll
returns-in-FailAll g c =
    let turn =
    fold-step g.G.Merger.answer c.args.merges.now c.args.kids.now c.args.at (option_map (λ e. e.now) c.args.end) c.loop-kid.kid-index c.loop-kid.index c.args.limit c.loop-kid.so_far c.loop-kid.failed
    _ c.in-Some.merge.now c.kid-item.result _ c.merge_into.new.so_far c.in_ok-merge_into.field-0 _
    c.loop-kid-test.true c.kid-item.is c.loop-kid.invariant.index (ap (option_map (λ m. m.now)) c.in-Some.is) c.merger_at.ensures c.text_of-text.ensures c.in_ok-merge_into.ensures
    c.loop-kid.invariant.merged in
    turn.fail_all c.in-FailAll.is

pub returns-then-failed-limit : goal.returns-then-failed-limit
returns-then-failed-limit g c =
    let turn =
    fold-step g.G.Merger.answer c.args.merges.now c.args.kids.now c.args.at (option_map (λ e. e.now) c.args.end) c.loop-kid.kid-index c.loop-kid.index c.args.limit c.loop-kid.so_far c.loop-kid.failed
    _ c.in-Some.merge.now c.kid-item.result _ c.merge_into.new.so_far c.in_ok-merge_into.field-0 _
    c.loop-kid-test.true c.kid-item.is c.loop-kid.invariant.index (ap (option_map (λ m. m.now)) c.in-Some.is) c.merger_at.ensures c.text_of-text.ensures c.in_ok-merge_into.ensures
    c.loop-kid.invariant.merged in
    turn.fail_last c.in-Fail.is c.if-failed-limit.true

pub returns-in_default : goal.returns-in_default
returns-in_default g c =
    let none = ap (slice_get c.args.merges.now) (sym c.loop-kid.invariant.index) ∙ sym c.merger_at.ensures ∙ ap (option_map (λ m. m.now)) c.in_default.is in
    c.merged_end.ensures ∙ sym (fold-past g.G.Merger.answer c.args.merges.now _ c.loop-kid.kid-index c.args.limit c.loop-kid.so_far c.loop-kid.failed none) ∙ c.loop-kid.invariant.merged

pub returns : goal.returns
returns g c =
    c.merged_end-2.ensures
    ∙ sym (fold-end g.G.Merger.answer c.args.merges.now c.args.kids.now c.args.at (option_map (λ e. e.now) c.args.end) c.loop-kid.kid-index c.args.limit c.loop-kid.so_far c.loop-kid.failed
    c.loop-kid-test.false)
    ∙ c.loop-kid.invariant.merged

pub loop-kid-preserved : goal.loop-kid-preserved
loop-kid-preserved g c =
    let turn =
    fold-step g.G.Merger.answer c.args.merges.now c.args.kids.now c.args.at (option_map (λ e. e.now) c.args.end) c.loop-kid.kid-index c.loop-kid.index c.args.limit c.loop-kid.so_far c.loop-kid.failed
    _ c.in-Some.merge.now c.kid-item.result _ c.merge_into.new.so_far c.in_ok-merge_into.field-0 _
    c.loop-kid-test.true c.kid-item.is c.loop-kid.invariant.index (ap (option_map (λ m. m.now)) c.in-Some.is) c.merger_at.ensures c.text_of-text.ensures c.in_ok-merge_into.ensures
    c.loop-kid.invariant.merged in
    let here = c.loop-kid.invariant.open_ in
    let index = c.loop-kid.invariant.index in
    elim c.match-branch-2.branch [
      | in-Taken w ↦ record { merged = turn.taken c.match-branch-2.failed w.failed-is w.in-Taken.is; open_ = (let same = w.failed-is in omega (arith, here, same)); index = omega (arith, index) }
      | in-Fail+else-failed-limit w ↦
          let less = less-next c.loop-kid.failed c.args.limit here w.if-failed-limit.false in
          record {
            merged = turn.fail_on c.match-branch-2.failed w.failed-is w.in-Fail.is w.if-failed-limit.false;
            open_ = (let same = w.failed-is in omega (arith, less, same));
            index = omega (arith, index);
          }
    ]
