use Rattle.std.proofs.Common.{◌≡◌, ◌<◌, ◌≤◌, [], ℕ, false, refl, sym, ap, ◌∙◌, subst, arith, Some}
use Rattle.id_rule.specs.Changes.{do_clash, joined_view, view_after_load}
use Rattle.id_rule.specs.Parts.{HasNumber, own_number}
use Rattle.id_rule.specs.declared.rule.Sizes.{Sizes}
use Rattle.id_rule.specs.declared.view.View.{View}
use Rattle.id_rule.proofs.Joins.{join_keeps}
use Rattle.id_rule.proofs.Reserving.{look_keeps}
use Rattle.id_shared.specs.Claims.{IsKeptAt}
use Rattle.id_shared.proofs.Joined.{hand_tells, own_joined, first_stays, second_comes}
use Rattle.id_shared.proofs.Keeping.{kept_on, kept_to, kept_load}
use Rattle.id_shared.proofs.Steady.{steady_joined, steady_load}
use Rattle.id_shared.proofs.Tables.{same_table}
use Rattle.id_shared.proofs.ids.Ids.join_pass.Given.{Over}
use Rattle.id_shared.proofs.ids.Ids.join_pass.Goals.{After-load}
use Rattle.id_shared.proofs.ids.Ids.join_pass.Goals as goal

-- what the load found the pass to have
after : (g : Over) (c : After-load g) → let s = c.pass.inside.seat in
    c.load.new.seat.me ≡ (view_after_load (joined_view s.me.0 c.other.inside.seat.me.0) 0 c.load.result, s.me.1)
after g c = c.load.ensures.2.0 ∙ ap (λ m. (view_after_load m.0 0 c.load.result, m.1)) c.join_seat.ensures.2

-- it tells that no slot was claimed by both
apart : (g : Over) (c : After-load g) → let v = c.pass.inside.seat.me.0 in let w = c.other.inside.seat.me.0 in do_clash v.parts w.parts w.parts ≡ false
apart g c =
    let v = c.pass.inside.seat.me.0 in let w = c.other.inside.seat.me.0 in
    let told : (h : ℕ × ℕ × ℕ) → (joined_view v w).hand ≡ Some h → 1 ≤ h.0 = λ h is. c.load.ensures.2.4 h (ap (λ m. m.0.hand) c.join_seat.ensures.2 ∙ is) in
    hand_tells (do_clash v.parts w.parts w.parts) v.hand told

pub join_seat-requires : goal.join_seat-requires
join_seat-requires g c =
    let t = c.self.inside.table.shared in let s = c.pass.inside.seat in let o = c.other.inside.seat in let st = c.pass.invariant.0 in let so = c.other.invariant.0 in
    let v = s.me.0 in let w = o.me.0 in
    let same = same_table t.table_id s.table_id c.self.inside.sizes c.args.self.now c.args.pass.now _ c.self.view_is c.pass.view_is refl c.requires.own.0 in
    let same_too = same_table t.table_id o.table_id c.self.inside.sizes c.args.self.now c.args.other _ c.self.view_is c.other.view_is refl c.requires.own.1 in
    let slots = ap (λ z. z.slots) same_too ∙ c.self.invariant.1 ∙ ap (λ z. z.slots) (sym c.self.invariant.0) in
    let some_slot = c.self.invariant.3 in let words = c.self.invariant.2 in (
      same,
      same_too,
      so.carried,
      omega (arith, some_slot, words),
      join_keeps g.T.Tenant.log g.T.Tenant.first_id g.T.Tenant.receipt t.key s.id o.id v w so.hand so.taken
          (subst (λ z. HasNumber z v.numbers) (sym st.own) st.has) (λ slot more. so.low slot (subst (λ z. z ≤ slot) (sym slots) more)),
    )

pub load-requires : goal.load-requires
load-requires g c =
    let t = c.self.inside.table.shared in let s = c.pass.inside.seat in let some_slot = c.self.invariant.3 in let words = c.self.invariant.2 in (
      c.join_seat.ensures.0
          ∙ same_table t.table_id s.table_id c.self.inside.sizes c.args.self.now c.args.pass.now _ c.self.view_is c.pass.view_is refl c.requires.own.0,
      omega (arith, some_slot, words),
      look_keeps g.T.Tenant.log g.T.Tenant.first_id g.T.Tenant.receipt t.key _ c.join_seat.new.seat.id 0 c.join_seat.new.seat.me
          (subst (λ (z : Sizes). 0 < z.slots) (sym c.self.invariant.0) some_slot),
    )

pub invariant_of-pass : goal.invariant_of-pass
invariant_of-pass g c =
    let t = c.self.inside.table.shared in let s = c.pass.inside.seat in let o = c.other.inside.seat in let st = c.pass.invariant.0 in
    let a = (goal.at.invariant_of-pass g c).After-load in let all = joined_view s.me.0 o.me.0 in
    let same = same_table t.table_id s.table_id c.self.inside.sizes c.args.self.now c.args.pass.now _ c.self.view_is c.pass.view_is refl c.requires.own.0 in
    let same_too = same_table t.table_id o.table_id c.self.inside.sizes c.args.self.now c.args.other _ c.self.view_is c.other.view_is refl c.requires.own.1 in
    let some_slot = c.self.invariant.3 in let as_many = c.self.invariant.1 in
    let own_slots = ap (λ z. z.slots) same in let low : 0 < s.table_id.slots = omega (arith, some_slot, as_many, own_slots) in
    let mid = steady_joined s.table_id.slots o.table_id.slots _ _ _ _ _ _ s.me o.me st c.other.invariant.0 (ap (λ z. z.slots) (same ∙ sym same_too)) (apart g a) in (
      steady_load s.table_id c.load.new.seat.table_id 0 _ _ _ (all, []) c.load.new.seat.me (c.load.ensures.0 ∙ c.join_seat.ensures.0) low mid c.load.result
          (after g a ∙ ap (λ z. (view_after_load all 0 c.load.result, z)) st.carried),
      c.pass.invariant.1,
    )

pub returns-clause-own : goal.returns-clause-own
returns-clause-own g c =
    let s = c.pass.inside.seat in let st = c.pass.invariant.0 in let view = c.pass.view_is in let own = c.requires.own.0 in
    let v = s.me.0 in let w = c.other.inside.seat.me.0 in let now = after g (goal.at.returns-clause-own g c).After-load in (
      c.load.ensures.0 ∙ c.join_seat.ensures.0 ∙ ap (λ z. z.table) view ∙ own.0,
      ap (λ m. m.0.width) now ∙ ap (λ z. z.view.width) view ∙ own.1,
      ap (λ m. m.0.total) now ∙ ap (λ z. z.view.total) view ∙ own.2,
      subst (λ (z : ℕ). z < c.args.self.now.sizes.passes) (sym (ap (λ m. own_number m.0.numbers) now
          ∙ own_joined v.numbers w.numbers (subst (λ z. HasNumber z v.numbers) (sym st.own) st.has) ∙ ap (λ z. own_number z.view.numbers) view)) own.3,
    )

pub returns-clause-view : goal.returns-clause-view
returns-clause-view g c =
    let view = c.pass.view_is in let also = c.other.view_is in let now = after g (goal.at.returns-clause-view g c).After-load in (
      c.load.result,
      λ y. record {
        table = (c.load.ensures.0 ∙ c.join_seat.ensures.0 ∙ ap (λ z. z.table) view) y;
        view = (ap (λ m. m.0) now ∙ (λ i. view_after_load (joined_view (view i).view (also i).view) 0 c.load.result)) y;
        words = ap (λ z. z.words) view y;
        scratch = ap (λ z. z.scratch) view y;
        holder = ap (λ z. z.holder) view y;
      },
    )

pub returns-clause-claims : goal.returns-clause-claims
returns-clause-claims g c =
    let v = c.pass.inside.seat.me.0 in let w = c.other.inside.seat.me.0 in let a = (goal.at.returns-clause-claims g c).After-load in
    let now = ap (λ m. m.0) (after g a) in
    let x = joined_view v w in let y = view_after_load x 0 c.load.result in let z = c.load.new.seat.me.0 in (
      subst (λ (u : View g.row.T-Entry.Denot). (slot : ℕ) → IsKeptAt u z slot) (ap (λ p. p.view) c.pass.view_is)
          (λ slot. kept_to v z y slot now (kept_on v x y slot (first_stays v w slot) (kept_load x 0 c.load.result slot))),
      subst (λ (u : View g.row.T-Entry.Denot). (slot : ℕ) → IsKeptAt u z slot) (ap (λ p. p.view) c.other.view_is)
          (λ slot. kept_to w z y slot now (kept_on w x y slot (second_comes v w slot (apart g a)) (kept_load x 0 c.load.result slot))),
    )
