use Rattle.std.proofs.Common.{◌≡◌, List, length, arith, sym, ap, ◌∙◌}
use Rattle.std.proofs.lemmas.Bool.Decides.{nat_tests}
use Rattle.std.specs.BinaryHeap.{heap_items}
use Rattle.timer_core.specs.declared.mark.Mark.{Mark}
use Rattle.timer_core.proofs.Kept.{marks_count, nil_from_length}
use Rattle.timer_core.proofs.marks.Marks.is_empty.Goals as goal

pub returns : goal.returns
returns c =
    let n : c.self.inside.count ≡ length c.args.self.now =
    sym (ap (λ (ms : List Mark). length ms) (sym c.self.view_is) ∙ marks_count (heap_items c.self.inside.heap) c.self.inside.chains ∙ c.self.invariant.counted) in (
      (λ t. nil_from_length c.args.self.now (let z : c.self.inside.count ≡ 0 = grind (arith, nat_tests) in sym n ∙ z)),
      (λ e. let z : c.self.inside.count ≡ 0 = n ∙ ap (λ (ms : List Mark). length ms) e in grind (arith, nat_tests)),
    )
