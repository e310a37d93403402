use Rattle.std.proofs.Common.{ap, arith, ◌∙◌}
use Rattle.id_shared.proofs.Lifted.{held_inside}
use Rattle.id_shared.proofs.Scratch.{scratch_empty}
use Rattle.id_shared.proofs.ending_race_tests.unlocks_past.Goals as goal

pub lift-requires-clause-hold : goal.lift-requires-clause-hold
lift-requires-clause-hold c = let s = c.a.inside.seat in let k = c.hold.inside in (
  k.first,
  k.size,
  (held_inside c.args.a c.args.hold record { slot = k.slot; first = k.first; size = k.size } s.table_id.slots _ _ _ s.me c.hold.view_is (ap (λ z. z.view) c.a.view_is) c.requires.holding.0
      c.a.invariant.0).1,
)

pub unlock_from-requires-clause-list : goal.unlock_from-requires-clause-list
unlock_from-requires-clause-list c =
    let all = ap (λ z. z.view.total) c.a.view_is ∙ c.requires.own.0.0.2 in let deep = c.a.invariant.0.deep in
    ((scratch_empty c.a.inside.pending.items c.a.inside.dropped.items (ap (λ z. z.scratch) c.a.view_is ∙ c.requires.own.0.1)).0, omega (arith, deep, all))
