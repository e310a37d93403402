use Rattle.std.proofs.Common.{◌≡◌, ℕ, ◌+◌, ◌≤◌, ◌∷◌, List, sym, ap, ◌∙◌, subst, rules}
use Rattle.std.specs.BinaryHeap.{heap_items, heap_capacity}
use Rattle.timer_core.specs.declared.mark.Mark.{Mark}
use Rattle.timer_core.specs.declared.entry.Entry.{Entry}
use Rattle.timer_core.specs.Marks.{added}
use Rattle.timer_core.specs.Wheel.{waiting_of, AreAlike, IsWheel}
use Rattle.timer_core.proofs.Kept.{added_wheel, added_marks}
use Rattle.timer_core.proofs.marks.Marks.add.Goals as goal

pub invariant_of-self-2 : goal.invariant_of-self-2
invariant_of-self-2 c =
    let n : c.in-Some.next_order ≡ c.self.inside.next_order + 1 = search rules in
    let k : c.in-Some-checked_add.count ≡ c.self.inside.count + 1 = search rules in
    let a =
    subst (λ (e : Entry). AreAlike (e ∷ waiting_of (heap_items c.self.inside.heap) c.self.inside.chains) (waiting_of (heap_items c.enter.new.heap) c.enter.new.chains)) c.of.ensures
    c.in_ok-enter.ensures.after in
    subst (λ (i : ℕ). IsWheel c.self.inside.base i c.in-Some-checked_add.count (heap_capacity c.enter.new.heap) (heap_items c.enter.new.heap) c.enter.new.chains) (sym n)
    (subst (λ (i : ℕ). IsWheel c.self.inside.base (c.self.inside.next_order + 1) i (heap_capacity c.enter.new.heap) (heap_items c.enter.new.heap) c.enter.new.chains) (sym k)
    (added_wheel c.self.inside.base c.self.inside.next_order c.self.inside.count (heap_capacity c.self.inside.heap) (heap_items c.self.inside.heap) (heap_items c.enter.new.heap)
    c.self.inside.chains c.enter.new.chains c.self.invariant (heap_capacity c.enter.new.heap) c.args.mark c.in_ok-enter.ensures.settled a
    (subst (λ (i : ℕ). i ≤ heap_capacity c.enter.new.heap) k c.in_ok-enter.ensures.room)))

pub returns-clause-after : goal.returns-clause-after
returns-clause-after c =
    let a =
    subst (λ (e : Entry). AreAlike (e ∷ waiting_of (heap_items c.self.inside.heap) c.self.inside.chains) (waiting_of (heap_items c.enter.new.heap) c.enter.new.chains)) c.of.ensures
    c.in_ok-enter.ensures.after in
    added_marks c.self.inside.base c.self.inside.next_order c.self.inside.count (heap_capacity c.self.inside.heap) (heap_items c.self.inside.heap) (heap_items c.enter.new.heap)
    c.self.inside.chains c.enter.new.chains c.self.invariant c.args.mark a
    ∙ ap (λ (ms : List Mark). added c.args.mark ms) c.self.view_is
