use Rattle.std.proofs.Common.{◌<◌, ◌≤◌, List, ℕ, length, ap, sym, subst, arith, ◌∙◌, Some, vec_capacity}
use Rattle.id_rule.specs.declared.view.Receipt.{Receipt}
use Rattle.id_rule.specs.Parts.{part_of}
use Rattle.id_rule.specs.Receipts.{IsGrownWithout}
use Rattle.id_shared.specs.Claims.{IsHoldingWith}
use Rattle.id_shared.specs.declared.answers.Posted.{Posted}
use Rattle.id_shared.specs.declared.post_tests.Book.{Book}
use Rattle.id_shared.specs.Lifted.{IsLeftOutSince}
use Rattle.id_shared.specs.Standing.{Claim}
use Rattle.id_shared.specs.Steady.{IsSteady}
use Rattle.id_shared.specs.Views.{receipts_in_errors, view_lifted}
use Rattle.id_shared.proofs.Grown.{grown_inside}
use Rattle.id_shared.proofs.Holding.{left_out_all}
use Rattle.id_shared.proofs.Lifted.{held_inside, steady_destroyed}
use Rattle.id_shared.proofs.Parts.{lifted_part}
use Rattle.id_shared.proofs.Scratch.{scratch_empty}
use Rattle.id_shared.proofs.Tables.{table_few}
use Rattle.id_shared.proofs.Taken.{errors_long}
use Rattle.id_shared.proofs.ending_race_tests.destroys_past.Goals as goal

pub lift-requires-clause-hold : goal.lift-requires-clause-hold
lift-requires-clause-hold c = let s = c.a.inside.seat in let k = c.hold.inside in (
  k.first,
  k.size,
  (held_inside c.args.a.now c.args.hold record { slot = k.slot; first = k.first; size = k.size } s.table_id.slots _ _ _ s.me c.hold.view_is (ap (λ z. z.view) c.a.view_is) c.requires.holding.0
      c.a.invariant.0).1,
)

pub destroy_from-requires-clause-log : goal.destroy_from-requires-clause-log
destroy_from-requires-clause-log c =
    let s = c.a.inside.seat in let k = c.hold.inside in let q = c.args.a.now in let log = c.args.book.taken.items in let out = receipts_in_errors q.scratch in
    let left = left_out_all {E = Receipt} (λ r. Some r) q c.args.hold log
    (subst (λ (z : List Posted). IsHoldingWith q c.args.hold log (receipts_in_errors z)) (sym c.requires.own.0.1) c.requires.holding) in
    let lifted = ap (λ m. part_of m.0 k.slot) c.lift.ensures.me ∙ (lifted_part s.me.0 k.slot).here in (
      out,
      subst (λ (z : Claim). IsLeftOutSince (λ (r : Receipt). Some r) c.lift.new.seat.me.0 z log out) c.hold.view_is
          (grown_inside (λ l got. IsGrownWithout (λ (r : Receipt). Some r) l log got out) q c.args.hold record { slot = k.slot; first = k.first; size = k.size } s.me.0 c.lift.new.seat.me.0
          c.hold.view_is (ap (λ z. z.view) c.a.view_is) lifted left),
    )

pub destroy_from-requires-clause-list : goal.destroy_from-requires-clause-list
destroy_from-requires-clause-list c =
    let all = ap (λ z. z.view.total) c.a.view_is ∙ c.requires.own.0.0.2 in let deep = c.a.invariant.0.deeper in
    ((scratch_empty c.a.inside.pending.items c.a.inside.dropped.items (ap (λ z. z.scratch) c.a.view_is ∙ c.requires.own.0.1)).1, omega (arith, deep, all))

pub invariant_of-a : goal.invariant_of-a
invariant_of-a c =
    let s = c.a.inside.seat in let k = c.hold.inside in let answer = c.destroy_from.ensures.answer in let qs = answer.2.0 in
    let held = held_inside c.args.a.now c.args.hold record { slot = k.slot; first = k.first; size = k.size } s.table_id.slots _ _ _ s.me c.hold.view_is (ap (λ z. z.view) c.a.view_is)
    c.requires.holding.0 c.a.invariant.0 in
    let low = subst (λ (z : Claim). z.slot < s.table_id.slots) c.hold.view_is held.0 in
    let out = ap (λ m. m.0) c.lift.ensures.me ∙ ap (λ (z : Claim). view_lifted s.me.0 z.slot) c.hold.view_is in
    let few = subst (λ (z : ℕ). length qs ≤ z) (ap (λ m. m.0.total) c.lift.ensures.me ∙ ap (λ z. z.view.total) c.a.view_is ∙ c.requires.own.0.0.2) answer.2.1.few in
    let most = table_few c.ids.inside.table.shared.table_id c.ids.inside.table.shared.key c.ids.inside.sizes c.args.ids.now c.ids.view_is c.ids.invariant in
    let long = ap length answer.2.2 ∙ errors_long qs in (
      subst (λ (z : ℕ). IsSteady c.destroy_from.new.seat.table_id.slots c.destroy_from.new.seat.me c.a.inside.number c.a.inside.sent
          record { words = vec_capacity c.a.inside.words; pending = vec_capacity c.a.inside.pending; dropped = z }) (sym c.destroy_from.ensures.same.2)
          (steady_destroyed (λ (z : Book). z.taken.items) (λ (r : Receipt). Some r) s.table_id c.destroy_from.new.seat.table_id _ _ _ s.me c.lift.new.seat.me c.destroy_from.new.seat.me c.args.hold
          c.args.book c.destroy_from.new.dropped.items (c.destroy_from.ensures.same.0 ∙ c.lift.ensures.same.0) low c.a.invariant.0 out answer),
      (c.a.invariant.1.0, omega (arith, few, most, long), tt),
    )
