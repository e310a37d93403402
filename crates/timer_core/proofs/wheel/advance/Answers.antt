use Rattle.std.specs.BinaryHeap.{heap_items}
use Rattle.std.proofs.Common.{ℕ, arith, subst, sym, List}
use Rattle.timer_core.specs.declared.entry.Entry.{Entry}
use Rattle.timer_core.specs.Wheel.{waiting_of, AreLater, IsSpreading, IsFirstMoment}
use Rattle.timer_core.proofs.Firsts.{none_waits, spreading_from, reached_some, lists_first}
use Rattle.timer_core.proofs.Taken.{first_later}
use Rattle.timer_core.proofs.wheel.advance.Goals as goal

pub returns-in_default-clause-none : goal.returns-in_default-clause-none
returns-in_default-clause-none c = λ h. subst (λ (es : List Entry). AreLater c.args.now es) (sym (none_waits c.args.now (heap_items c.args.heap.now) c.args.chains.now h c.in_default.ensures)) tt

pub spread-requires-clause-spreading : goal.spread-requires-clause-spreading
spread-requires-clause-spreading c =
    subst (λ (m : ℕ). IsSpreading m c.in-Some.list (heap_items c.args.heap.now) c.args.chains.now) (sym c.least-moment.ensures)
    (spreading_from c.args.base.now (heap_items c.args.heap.now) c.args.chains.now c.requires.settled c.in-Some.list c.in-Some.ensures c.requires.empty)

pub returns-then-moment-now-clause-none : goal.returns-then-moment-now-clause-none
returns-then-moment-now-clause-none c = λ h.
    absurd (reached_some c.least-moment.result (waiting_of (heap_items c.args.heap.now) c.args.chains.now) (heap_items c.spread.new.heap) c.spread.new.chains
    (subst (λ (m : ℕ). IsFirstMoment (waiting_of (heap_items c.args.heap.now) c.args.chains.now) m) (sym c.least-moment.ensures)
    (lists_first c.args.base.now (heap_items c.args.heap.now) c.args.chains.now c.requires.settled c.in-Some.list c.in-Some.ensures c.requires.empty))
    c.spread.ensures.alike c.spread.ensures.settled h)

pub returns-else-moment-now-clause-none : goal.returns-else-moment-now-clause-none
returns-else-moment-now-clause-none c = λ h.
    first_later c.args.now c.least-moment.result (waiting_of (heap_items c.args.heap.now) c.args.chains.now)
    (subst (λ (m : ℕ). IsFirstMoment (waiting_of (heap_items c.args.heap.now) c.args.chains.now) m) (sym c.least-moment.ensures)
    (lists_first c.args.base.now (heap_items c.args.heap.now) c.args.chains.now c.requires.settled c.in-Some.list c.in-Some.ensures c.requires.empty))
    (omega arith)
