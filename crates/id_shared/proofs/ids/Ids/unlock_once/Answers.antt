use Rattle.std.proofs.Common.{◌<◌, ◌≤◌, ◌++◌, length, sym, ap, ap₂, subst, ◌∙◌, arith, append-nil, Some, vec_capacity, List, ℕ}
use Rattle.std.specs.Prelude.{reverse}
use Rattle.std.proofs.lemmas.List.{length-reverse}
use Rattle.id_rule.specs.Parts.{part_of}
use Rattle.id_rule.specs.Receipts.{IsGrown}
use Rattle.id_shared.specs.declared.answers.Posted.{Posted}
use Rattle.id_shared.specs.declared.answers.UnlockEnd.TheVariants as unlock
use Rattle.id_shared.specs.Lifted.{IsGrownSince}
use Rattle.id_shared.specs.Standing.{Claim}
use Rattle.id_shared.specs.Steady.{IsSteady}
use Rattle.id_shared.specs.Views.{view_lifted, view_unlocked, view_with_chain, errors_of}
use Rattle.id_shared.proofs.Grown.{grown_inside}
use Rattle.id_shared.proofs.Lifted.{chain_lifted, has_lifted, held_inside, steady_unlocked}
use Rattle.id_shared.proofs.Parts.{lifted_part}
use Rattle.id_shared.proofs.Scratch.{scratch_empty}
use Rattle.id_shared.proofs.Tables.{table_few}
use Rattle.id_shared.proofs.Taken.{errors_long}
use Rattle.id_shared.proofs.ids.Ids.unlock_once.Goals as goal

pub lift-requires : goal.lift-requires
lift-requires g c =
    let s = c.pass.inside.seat in let k = c.hold.inside in
    let held = held_inside c.args.pass.now c.args.hold record { slot = k.slot; first = k.first; size = k.size } s.table_id.slots _ _ _ s.me c.hold.view_is (ap (λ z. z.view) c.pass.view_is)
    c.requires.hold c.pass.invariant.0 in record {
      table = ap (λ z. z.table) c.pass.view_is ∙ c.requires.own.0;
      slot = held.0;
      hold = (k.first, k.size, held.1);
      home = held.2;
    }

pub unlock_from-requires : goal.unlock_from-requires
unlock_from-requires g c =
    let s = c.pass.inside.seat in let k = c.hold.inside in
    let me = c.lift.ensures.me in let view = c.pass.view_is in
    let lifted = ap (λ m. part_of m.0 k.slot) me ∙ (lifted_part s.me.0 k.slot).here in
    let all = ap (λ z. z.view.total) view ∙ c.requires.own.2 in let deep = c.pass.invariant.0.deep in record {
      lifted = has_lifted c.args.self.now c.args.pass.now c.args.hold record { slot = k.slot; first = k.first; size = k.size } s.table_id c.lift.new.seat.table_id _ _ _ s.me c.lift.new.seat.me
          c.hold.view_is (ap (λ z. z.view) view) (ap (λ z. z.table) view) c.requires.own c.requires.hold c.pass.invariant.0 c.lift.ensures.same.0 me;
      value = c.requires.value;
      log = subst (λ (z : Claim). IsGrownSince g.T.Tenant.receipt c.lift.new.seat.me.0 z (g.T.Tenant.log c.args.value)) c.hold.view_is
          (grown_inside (λ l got. IsGrown g.T.Tenant.receipt l (g.T.Tenant.log c.args.value) got) c.args.pass.now c.args.hold
          record { slot = k.slot; first = k.first; size = k.size } s.me.0 c.lift.new.seat.me.0 c.hold.view_is (ap (λ z. z.view) view) lifted c.requires.log);
      list = (
        (scratch_empty c.pass.inside.pending.items c.pass.inside.dropped.items (ap (λ z. z.scratch) view ∙ c.requires.errors)).0,
        omega (arith, deep, all),
      );
    }

pub invariant_of-pass-in-Pending : goal.invariant_of-pass-in-Pending
invariant_of-pass-in-Pending g c =
    let s = c.pass.inside.seat in let k = c.hold.inside in let a = c.in-Pending.ensures.answer in let qs = a.4.2.0 in
    let held = held_inside c.args.pass.now c.args.hold record { slot = k.slot; first = k.first; size = k.size } s.table_id.slots _ _ _ s.me c.hold.view_is (ap (λ z. z.view) c.pass.view_is)
    c.requires.hold c.pass.invariant.0 in
    let low = subst (λ (z : Claim). z.slot < s.table_id.slots) c.hold.view_is held.0 in
    let out = ap (λ m. m.0) c.lift.ensures.me ∙ ap (λ (z : Claim). view_lifted s.me.0 z.slot) c.hold.view_is in
    let empty = scratch_empty c.pass.inside.pending.items c.pass.inside.dropped.items (ap (λ z. z.scratch) c.pass.view_is ∙ c.requires.errors) in
    let few = subst (λ (z : ℕ). length qs ≤ z) (ap (λ m. m.0.total) c.lift.ensures.me ∙ ap (λ z. z.view.total) c.pass.view_is ∙ c.requires.own.2) a.4.2.1.few in
    let most = table_few c.self.inside.table.shared.table_id c.self.inside.table.shared.key c.self.inside.sizes c.args.self.now c.self.view_is c.self.invariant in
    let long = ap length a.4.2.2 ∙ errors_long qs in let none_left = ap length empty.1 in (
      subst (λ (z : ℕ). IsSteady c.unlock_from.new.seat.table_id.slots c.unlock_from.new.seat.me c.pass.inside.number c.pass.inside.sent
          record { words = vec_capacity c.pass.inside.words; pending = z; dropped = vec_capacity c.pass.inside.dropped }) (sym c.unlock_from.ensures.same.2)
          (steady_unlocked g.T.Tenant.log g.T.Tenant.receipt s.table_id c.unlock_from.new.seat.table_id _ _ _ s.me c.lift.new.seat.me c.unlock_from.new.seat.me c.args.hold c.args.value
          c.unlock_from.new.pending.items (c.unlock_from.ensures.same.0 ∙ c.lift.ensures.same.0) low c.pass.invariant.0 out (unlock.Pending c.in-Pending.hold c.in-Pending.value c.in-Pending.count) a),
      (omega (arith, few, most, long), omega (arith, none_left), empty.1),
    )

pub returns-in-Unlocked-clause-answer : goal.returns-in-Unlocked-clause-answer
returns-in-Unlocked-clause-answer g c = let view = c.pass.view_is in let a = c.in-Unlocked.ensures.answer in
    let out = ap (λ m. m.0) c.lift.ensures.me ∙ (λ i. view_lifted (view i).view (c.hold.view_is i).slot) in
    let empty = scratch_empty c.pass.inside.pending.items c.pass.inside.dropped.items (ap (λ z. z.scratch) view ∙ c.requires.errors) in
    λ y. record {
      table = (c.unlock_from.ensures.same.0 ∙ c.lift.ensures.same.0 ∙ ap (λ z. z.table) view) y;
      view = (ap (λ m. m.0) a.0 ∙ (λ i. view_unlocked (out i) c.args.hold (g.T.Tenant.log c.args.value))) y;
      words = ap (λ z. z.words) view y;
      scratch = (ap (λ (z : List Posted). reverse z ++ reverse c.pass.inside.dropped.items) (a.1 ∙ sym empty.0) ∙ ap (λ z. z.scratch) view) y;
      holder = ap (λ z. z.holder) view y;
    }

pub returns-in-Pending-clause-answer : goal.returns-in-Pending-clause-answer
returns-in-Pending-clause-answer g c = let view = c.pass.view_is in let a = c.in-Pending.ensures.answer in let word = a.4.0 in let qs = a.4.2.0 in
    let out = ap (λ m. m.0) c.lift.ensures.me ∙ (λ i. view_lifted (view i).view (c.hold.view_is i).slot) in
    let empty = scratch_empty c.pass.inside.pending.items c.pass.inside.dropped.items (ap (λ z. z.scratch) view ∙ c.requires.errors) in
    let scratch = ap₂ (λ (a b : List Posted). reverse a ++ reverse b) a.4.2.2 empty.1 ∙ append-nil (reverse (errors_of qs)) in (
      a.0,
      a.1,
      a.2,
      a.3 ∙ ap length a.4.2.2 ∙ sym (length-reverse (errors_of qs)) ∙ ap length (sym scratch),
      (
        word,
        a.4.1,
        (
          qs,
          chain_lifted g.T.Tenant.receipt c.args.pass.now.view c.lift.new.seat.me.0 c.args.hold.slot c.args.hold.size qs out a.4.2.1,
          (λ y. record {
            table = (c.unlock_from.ensures.same.0 ∙ c.lift.ensures.same.0 ∙ ap (λ z. z.table) view) y;
            view = (ap (λ m. m.0) a.4.2.3 ∙ (λ i. view_with_chain (out i) c.args.hold word qs)) y;
            words = ap (λ z. z.words) view y;
            scratch = scratch y;
            holder = ap (λ (z : Claim). Some z.slot) c.hold.view_is y;
          }),
        ),
      ),
    )
