use Rattle.std.specs.BinaryHeap.{heap_items}
use Rattle.std.proofs.Common.{◌∷◌, arith, subst, sym, List}
use Rattle.timer_core.specs.declared.entry.Entry.{Entry}
use Rattle.timer_core.specs.Wheel.{AreAlike, waiting_of}
use Rattle.timer_core.proofs.Spread.{pushed_alike, inserted_alike}
use Rattle.timer_core.proofs.wheel.place.Goals as goal

pub returns-then-entry-base-clause-after : goal.returns-then-entry-base-clause-after
returns-then-entry-base-clause-after c = pushed_alike (heap_items c.args.heap.now) (heap_items c.push.new.self) c.args.chains.now (record { 0 = c.args.entry }) c.in_ok-push.ensures.permutation

pub returns-clause-after : goal.returns-clause-after
returns-clause-after c =
    subst (λ (ls : List (List Entry)). AreAlike (c.args.entry ∷ waiting_of (heap_items c.args.heap.now) c.args.chains.now) (waiting_of (heap_items c.args.heap.now) ls))
    (sym c.in_ok-insert.ensures.after)
    (inserted_alike (heap_items c.args.heap.now) c.args.chains.now c.home.result c.args.entry c.home.ensures.some (omega (arith, c.home.ensures.in_lists, c.requires.made)))
