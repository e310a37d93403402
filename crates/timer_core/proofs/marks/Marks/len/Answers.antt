use Rattle.std.proofs.Common.{List, length, sym, ap, ◌∙◌}
use Rattle.std.specs.BinaryHeap.{heap_items}
use Rattle.timer_core.specs.declared.mark.Mark.{Mark}
use Rattle.timer_core.proofs.Kept.{marks_count}
use Rattle.timer_core.proofs.marks.Marks.len.Goals as goal

pub returns : goal.returns
returns c = sym (ap (λ (ms : List Mark). length ms) (sym c.self.view_is) ∙ marks_count (heap_items c.self.inside.heap) c.self.inside.chains ∙ c.self.invariant.counted)
