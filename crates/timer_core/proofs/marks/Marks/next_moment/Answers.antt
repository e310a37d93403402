use Rattle.std.proofs.Common.{List, ap, ◌∙◌, subst}
use Rattle.std.specs.BinaryHeap.{heap_items}
use Rattle.timer_core.specs.declared.mark.Mark.{Mark}
use Rattle.timer_core.specs.Marks.{first_moment, IsSorted}
use Rattle.timer_core.proofs.Kept.{moment_told, marks_sorted}
use Rattle.timer_core.proofs.marks.Marks.next_moment.Goals as goal

pub returns-clause-moment : goal.returns-clause-moment
returns-clause-moment c =
    moment_told c.first_moment.result (heap_items c.self.inside.heap) c.self.inside.chains c.first_moment.ensures ∙ ap (λ (ms : List Mark). first_moment ms) c.self.view_is

pub returns-clause-sorted : goal.returns-clause-sorted
returns-clause-sorted c = subst (λ (ms : List Mark). IsSorted ms) c.self.view_is (marks_sorted (heap_items c.self.inside.heap) c.self.inside.chains)
