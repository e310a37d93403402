use Rattle.std.proofs.Common.{◌≡◌, ◌<◌, ◌≤◌, ◌++◌, length, sym, ap, subst, ◌∙◌, arith, append-nil, None, vec_len, vec_capacity, List, ℕ}
use Rattle.std.specs.Prelude.{reverse}
use Rattle.id_rule.specs.Parts.{part_of}
use Rattle.id_rule.specs.Receipts.{IsGrownWithout}
use Rattle.id_shared.specs.declared.answers.Posted.{Posted}
use Rattle.id_shared.specs.Lifted.{IsLeftOutSince}
use Rattle.id_shared.specs.Standing.{Claim}
use Rattle.id_shared.specs.Steady.{IsSteady}
use Rattle.id_shared.specs.Views.{view_lifted, view_ended, errors_of, receipts_in_errors}
use Rattle.id_shared.proofs.Grown.{grown_inside, grown_outside}
use Rattle.id_shared.proofs.Lifted.{chain_lifted, has_lifted, held_inside, steady_destroyed}
use Rattle.id_shared.proofs.Parts.{lifted_part}
use Rattle.id_shared.proofs.Scratch.{none_dropped}
use Rattle.id_shared.proofs.Tables.{table_few}
use Rattle.id_shared.proofs.Taken.{errors_long}
use Rattle.id_shared.proofs.ids.Ids.destroy_once.Goals as goal

pub lift-requires : goal.lift-requires
lift-requires g c =
    let s = c.pass.inside.seat in let k = c.hold.inside in
    let held = held_inside c.args.pass.now c.args.hold record { slot = k.slot; first = k.first; size = k.size } s.table_id.slots _ _ _ s.me c.hold.view_is (ap (λ z. z.view) c.pass.view_is)
    c.requires.hold c.pass.invariant.0 in record {
      table = ap (λ z. z.table) c.pass.view_is ∙ c.requires.own.0;
      slot = held.0;
      hold = (k.first, k.size, held.1);
      home = held.2;
    }

pub destroy_from-requires : goal.destroy_from-requires
destroy_from-requires g c =
    let s = c.pass.inside.seat in let k = c.hold.inside in
    let me = c.lift.ensures.me in let view = c.pass.view_is in
    let lifted = ap (λ m. part_of m.0 k.slot) me ∙ (lifted_part s.me.0 k.slot).here in
    let all = ap (λ z. z.view.total) view ∙ c.requires.own.2 in let deep = c.pass.invariant.0.deeper in
    let left_out = c.requires.log.0 ++ receipts_in_errors c.args.pass.now.scratch in record {
      lifted = has_lifted c.args.self.now c.args.pass.now c.args.hold record { slot = k.slot; first = k.first; size = k.size } s.table_id c.lift.new.seat.table_id _ _ _ s.me c.lift.new.seat.me
          c.hold.view_is (ap (λ z. z.view) view) (ap (λ z. z.table) view) c.requires.own c.requires.hold c.pass.invariant.0 c.lift.ensures.same.0 me;
      value = c.requires.value;
      log = (
        left_out,
        subst (λ (z : Claim). IsLeftOutSince g.T.Tenant.receipt c.lift.new.seat.me.0 z (g.T.Tenant.log c.args.value) left_out) c.hold.view_is
            (grown_inside (λ l got. IsGrownWithout g.T.Tenant.receipt l (g.T.Tenant.log c.args.value) got left_out) c.args.pass.now c.args.hold
            record { slot = k.slot; first = k.first; size = k.size } s.me.0 c.lift.new.seat.me.0 c.hold.view_is (ap (λ z. z.view) view) lifted c.requires.log.1),
      );
      list = (
        none_dropped c.args.pass.now c.pass.inside.holder c.args.hold c.pass.inside.pending.items c.pass.inside.dropped.items (ap (λ z. z.scratch) view) (ap (λ z. z.holder) view)
            c.pass.invariant.1.2 c.requires.errors,
        omega (arith, deep, all),
      );
    }

pub overflow_cast-result : goal.overflow_cast-result
overflow_cast-result g c = let answer = c.destroy_from.ensures.answer in let qs = answer.2.0 in
    let few = subst (λ (z : ℕ). length qs ≤ z) (ap (λ m. m.0.total) c.lift.ensures.me ∙ ap (λ z. z.view.total) c.pass.view_is ∙ c.requires.own.2) answer.2.1.few in
    let most = table_few c.self.inside.table.shared.table_id c.self.inside.table.shared.key c.self.inside.sizes c.args.self.now c.self.view_is c.self.invariant in
    let count : vec_len c.destroy_from.new.dropped ≡ length qs = c.destroy_from.new.dropped.ok.0 ∙ ap length answer.2.2 ∙ errors_long qs in
    let a = c.len.ensures in let b = c.len-2.ensures in let old = c.pass.invariant.1.0 in let long = c.pass.inside.pending.ok.0 in omega (arith, few, most, count, a, b, old, long)

pub invariant_of-pass : goal.invariant_of-pass
invariant_of-pass g c =
    let s = c.pass.inside.seat in let k = c.hold.inside in let answer = c.destroy_from.ensures.answer in let qs = answer.2.0 in
    let held = held_inside c.args.pass.now c.args.hold record { slot = k.slot; first = k.first; size = k.size } s.table_id.slots _ _ _ s.me c.hold.view_is (ap (λ z. z.view) c.pass.view_is)
    c.requires.hold c.pass.invariant.0 in
    let low = subst (λ (z : Claim). z.slot < s.table_id.slots) c.hold.view_is held.0 in
    let out = ap (λ m. m.0) c.lift.ensures.me ∙ ap (λ (z : Claim). view_lifted s.me.0 z.slot) c.hold.view_is in
    let few = subst (λ (z : ℕ). length qs ≤ z) (ap (λ m. m.0.total) c.lift.ensures.me ∙ ap (λ z. z.view.total) c.pass.view_is ∙ c.requires.own.2) answer.2.1.few in
    let most = table_few c.self.inside.table.shared.table_id c.self.inside.table.shared.key c.self.inside.sizes c.args.self.now c.self.view_is c.self.invariant in
    let long = ap length answer.2.2 ∙ errors_long qs in (
      subst (λ (z : ℕ). IsSteady c.destroy_from.new.seat.table_id.slots c.destroy_from.new.seat.me c.pass.inside.number c.pass.inside.sent
          record { words = vec_capacity c.pass.inside.words; pending = vec_capacity c.pass.inside.pending; dropped = z }) (sym c.destroy_from.ensures.same.2)
          (steady_destroyed g.T.Tenant.log g.T.Tenant.receipt s.table_id c.destroy_from.new.seat.table_id _ _ _ s.me c.lift.new.seat.me c.destroy_from.new.seat.me c.args.hold c.args.value
          c.destroy_from.new.dropped.items (c.destroy_from.ensures.same.0 ∙ c.lift.ensures.same.0) low c.pass.invariant.0 out answer),
      (c.pass.invariant.1.0, omega (arith, few, most, long), tt),
    )

pub returns-clause-answer : goal.returns-clause-answer
returns-clause-answer g c =
    let s = c.pass.inside.seat in let k = c.hold.inside in let view = c.pass.view_is in let answer = c.destroy_from.ensures.answer in let gone = answer.0 in let qs = answer.2.0 in
    let log = g.T.Tenant.log c.args.value in
    let out = ap (λ m. m.0) c.lift.ensures.me ∙ (λ i. view_lifted (view i).view (c.hold.view_is i).slot) in
    let lifted = ap (λ m. part_of m.0 k.slot) c.lift.ensures.me ∙ (lifted_part s.me.0 k.slot).here in
    let empty = none_dropped c.args.pass.now c.pass.inside.holder c.args.hold c.pass.inside.pending.items c.pass.inside.dropped.items (ap (λ z. z.scratch) view) (ap (λ z. z.holder) view)
    c.pass.invariant.1.2 c.requires.errors in
    let scratch_of = sym (ap (λ (z : List Posted). reverse c.pass.inside.pending.items ++ reverse z) empty ∙ append-nil (reverse c.pass.inside.pending.items)) in (
      gone,
      grown_outside (λ l got. IsGrownWithout g.T.Tenant.receipt l log got gone) c.args.pass.now c.args.hold record { slot = k.slot; first = k.first; size = k.size } s.me.0 c.lift.new.seat.me.0
          c.hold.view_is (ap (λ z. z.view) view) lifted
          (subst (λ (z : Claim). IsLeftOutSince g.T.Tenant.receipt c.lift.new.seat.me.0 z log gone) (sym c.hold.view_is) answer.1),
      (
        qs,
        chain_lifted g.T.Tenant.receipt c.args.pass.now.view c.lift.new.seat.me.0 c.args.hold.slot c.args.hold.size qs out answer.2.1,
        (λ y. record {
          table = (c.destroy_from.ensures.same.0 ∙ c.lift.ensures.same.0 ∙ ap (λ z. z.table) view) y;
          view = (ap (λ m. m.0) answer.2.3 ∙ (λ i. view_ended (out i) c.args.hold log gone qs)) y;
          words = ap (λ z. z.words) view y;
          scratch = (ap (λ (z : List Posted). reverse c.pass.inside.pending.items ++ reverse z) answer.2.2
              ∙ ap (λ (z : List Posted). z ++ reverse (errors_of qs)) (scratch_of ∙ ap (λ z. z.scratch) view)) y;
          holder = None;
        }),
      ),
    )
