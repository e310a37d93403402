use Rattle.std.proofs.Common.{List, Some, refl, sym, ap, ◌∙◌, subst, arith}
use Rattle.std.specs.BinaryHeap.{heap_items, heap_capacity}
use Rattle.timer_core.specs.declared.mark.Mark.{Mark}
use Rattle.timer_core.specs.Entries.{mark_of}
use Rattle.timer_core.specs.Marks.{due_mark, rest_after, IsFirst, NoneIsDue}
use Rattle.timer_core.proofs.Kept.{none_wheel, none_mark, none_rest, none_due, taken_some, taken_wheel, taken_mark, taken_rest, taken_first, due_not_none}
use Rattle.timer_core.proofs.marks.Marks.due.Goals as goal

pub invariant_of-self : goal.invariant_of-self
invariant_of-self c =
    none_wheel c.self.inside.base c.self.inside.next_order c.self.inside.count (heap_capacity c.self.inside.heap) (heap_items c.self.inside.heap) (heap_items c.take.new.heap)
    c.self.inside.chains c.take.new.chains c.self.invariant c.take.new.base (heap_capacity c.take.new.heap) c.in_default.ensures.settled c.in_default.ensures.kept c.in_default.ensures.room

pub returns-in_default-clause-answer : goal.returns-in_default-clause-answer
returns-in_default-clause-answer c =
    none_mark (heap_items c.self.inside.heap) (heap_items c.take.new.heap) c.self.inside.chains c.take.new.chains c.args.now c.in_default.ensures.kept c.in_default.ensures.due
    ∙ ap (λ (ms : List Mark). due_mark c.args.now ms) c.self.view_is

pub returns-in_default-clause-after : goal.returns-in_default-clause-after
returns-in_default-clause-after c =
    none_rest (heap_items c.self.inside.heap) (heap_items c.take.new.heap) c.self.inside.chains c.take.new.chains c.args.now c.in_default.ensures.kept c.in_default.ensures.due
    ∙ ap (λ (ms : List Mark). rest_after c.args.now ms) c.self.view_is

pub returns-in_default-clause-none : goal.returns-in_default-clause-none
returns-in_default-clause-none c = (
  (λ _. subst (λ (ms : List Mark). NoneIsDue c.args.now ms) c.self.view_is
      (none_due (heap_items c.self.inside.heap) (heap_items c.take.new.heap) c.self.inside.chains c.take.new.chains c.args.now c.in_default.ensures.kept c.in_default.ensures.due)),
  (λ _. refl),
)

pub overflow_sub-self : goal.overflow_sub-self
overflow_sub-self c =
    let s = taken_some c.self.inside.base c.self.inside.next_order c.self.inside.count (heap_capacity c.self.inside.heap) (heap_items c.self.inside.heap) (heap_items c.take.new.heap)
    c.self.inside.chains c.take.new.chains c.self.invariant c.in-Some.entry c.in-Some.ensures.kept in omega (arith, s)

pub invariant_of-self-2 : goal.invariant_of-self-2
invariant_of-self-2 c =
    taken_wheel c.self.inside.base c.self.inside.next_order c.self.inside.count (heap_capacity c.self.inside.heap) (heap_items c.self.inside.heap) (heap_items c.take.new.heap)
    c.self.inside.chains c.take.new.chains c.self.invariant c.take.new.base (heap_capacity c.take.new.heap) c.in-Some.entry c.in-Some.ensures.settled c.in-Some.ensures.kept c.in-Some.ensures.room

pub returns-clause-answer : goal.returns-clause-answer
returns-clause-answer c =
    ap (λ m. Some m) c.mark.ensures
    ∙ taken_mark (heap_items c.self.inside.heap) (heap_items c.take.new.heap) c.self.inside.chains c.take.new.chains c.in-Some.entry c.args.now c.in-Some.ensures.kept c.in-Some.ensures.due.1
    c.in-Some.ensures.due.0
    ∙ ap (λ (ms : List Mark). due_mark c.args.now ms) c.self.view_is

pub returns-clause-after : goal.returns-clause-after
returns-clause-after c =
    taken_rest (heap_items c.self.inside.heap) (heap_items c.take.new.heap) c.self.inside.chains c.take.new.chains c.in-Some.entry c.args.now c.in-Some.ensures.kept c.in-Some.ensures.due.1
    c.in-Some.ensures.due.0
    ∙ ap (λ (ms : List Mark). rest_after c.args.now ms) c.self.view_is

pub returns-clause-first : goal.returns-clause-first
returns-clause-first c =
    subst (λ (m : Mark). IsFirst m c.args.self.now) (sym c.mark.ensures)
    (subst (λ (ms : List Mark). IsFirst (mark_of c.in-Some.entry) ms) c.self.view_is
    (taken_first (heap_items c.self.inside.heap) (heap_items c.take.new.heap) c.self.inside.chains c.take.new.chains c.in-Some.entry c.args.now c.in-Some.ensures.kept c.in-Some.ensures.due.1
    c.in-Some.ensures.due.0))

pub returns-clause-none : goal.returns-clause-none
returns-clause-none c = (
  (λ e. absurd (cc)),
  (λ n. absurd
      (due_not_none c.args.now c.args.self.now (mark_of c.in-Some.entry)
      (taken_mark (heap_items c.self.inside.heap) (heap_items c.take.new.heap) c.self.inside.chains c.take.new.chains c.in-Some.entry c.args.now c.in-Some.ensures.kept c.in-Some.ensures.due.1
      c.in-Some.ensures.due.0 ∙ ap (λ (ms : List Mark). due_mark c.args.now ms) c.self.view_is) n)),
)
