-- A seat that took its Hold's slot again, and what the second halves of `unlock` and `destroy` leave.
use Rattle.std.proofs.Common.{◌≡◌, ℕ, ◌+◌, ◌<◌, false, List, [], ◌∷◌, ◌++◌, refl, sym, ap, ◌∙◌, subst, Option, Some, None}
use Rattle.std.specs.Prelude.{reverse}
use Rattle.atomic_table.specs.Seated.{TableId}
use Rattle.atomic_table.specs.Table.{Me}
use Rattle.id_rule.specs.Changes.{part_with_end, part_without_hold}
use Rattle.id_rule.specs.declared.view.Part.{Part}
use Rattle.id_rule.specs.declared.view.Queued.{Queued}
use Rattle.id_rule.specs.declared.view.Receipt.{Receipt}
use Rattle.id_rule.specs.declared.view.Turn.{Turn}
use Rattle.id_rule.specs.declared.view.View.{View}
use Rattle.id_rule.specs.Nodes.{receipts_of}
use Rattle.id_rule.specs.Parts.{part_of}
use Rattle.id_rule.specs.Steps.{IsChainOf}
use Rattle.id_shared.specs.declared.answers.Posted.{Posted}
use Rattle.id_shared.specs.declared.answers.UnlockEnd.{UnlockEnd}
use Rattle.id_shared.specs.declared.answers.UnlockEnd.TheVariants as unlock
use Rattle.id_shared.specs.Lifted.{HasLifted, IsDestroyedFrom, IsUnlockedFrom}
use Rattle.id_shared.specs.Standing.{Claim, IdTable, Standing, HasHold, IsPassOf}
use Rattle.id_shared.specs.Steady.{IsSteady, Rooms}
use Rattle.id_shared.specs.Views.{view_after_destroy, view_after_pending, view_ended, view_lifted, view_unlocked, view_with_chain, view_without_hold}
use Rattle.id_shared.proofs.Parts.{destroyed_part, lifted_part, part_after_pending, pending_part, unheld_part}
use Rattle.id_shared.proofs.Steady.{changed_part, hold_is_low, steady_after, turn_is_home}
use Rattle.id_shared.proofs.Taken.{chain_outside, laid_again, lifted_turn}

module _ {T E : Type 0} (p : Standing E) (c k : Claim) (slots number sent : ℕ) (room : Rooms) (me : Me (Option T) (View E)) (claim : k ≡ c) (view : me.0 ≡ p.view) (hold : HasHold p c)
    (st : IsSteady slots me number sent room) where
  -- the Hold, as the pass has it inside: it is of a slot of the table, and the slot isn't out
  pub held_inside : (k.slot < slots) × ((part_of me.0 k.slot).hold ≡ Some (k.first, k.size)) × ((t : Turn E) → (part_of me.0 k.slot).turn ≡ Some t → t.out ≡ false)
  held_inside =
      let has : (part_of me.0 k.slot).hold ≡ Some (k.first, k.size) = subst (λ (z : Claim × View E). (part_of z.1 z.0.slot).hold ≡ Some (z.0.first, z.0.size)) (λ y. (sym claim y, sym view y)) hold in
      (hold_is_low slots number sent k.slot room me st (k.first, k.size) has, has, λ t is. (turn_is_home slots number sent k.slot room me st t is).0)

-- the seat after the load that took the Hold's slot again
pub has_lifted : {T E : Type 0} (ids : IdTable) (p : Standing E) (c k : Claim) (t t' : TableId) (number sent : ℕ) (room : Rooms) (me m : Me (Option T) (View E)) → k ≡ c → me.0 ≡ p.view
    → t ≡ p.table → IsPassOf ids p → HasHold p c → IsSteady t.slots me number sent room → t' ≡ t → m ≡ (view_lifted me.0 k.slot, (k.slot, None) ∷ me.1) → HasLifted ids c t' m
has_lifted {T} {E} ids p c k t t' number sent room me m claim view table own hold st same is =
    let held = held_inside p c k t.slots number sent room me claim view hold st in
    let lifted = ap (λ z. part_of z.0 k.slot) is ∙ (lifted_part me.0 k.slot).here in
    subst (λ (z : Claim). HasLifted ids z t' m) claim record {
      seat = record { of_table = same ∙ table ∙ own.0; width = ap (λ z. z.0.width) is ∙ ap (λ z. z.width) view ∙ own.1; total = ap (λ z. z.0.total) is ∙ ap (λ z. z.total) view ∙ own.2 };
      slot = subst (λ (z : TableId). k.slot < z.slots) (sym same) held.0;
      hold = ap (λ (z : Part E). z.hold) lifted ∙ held.1;
      taken = ap (λ z. z.0.taken) is ∙ st.taken;
      carried = ap (λ z. z.1) is ∙ ap (λ z. (k.slot, None) ∷ z) st.carried;
    }

module _ {E : Type 0} (rec : E → Option Receipt) where
  -- the chain, as the view before the slot went out has it
  pub chain_lifted : (v w : View E) (slot size : ℕ) (qs : List Queued) → w ≡ view_lifted v slot → IsChainOf rec w slot size qs → IsChainOf rec v slot size qs
  chain_lifted v w slot size qs is c = let at = ap (λ z. part_of z slot) is ∙ (lifted_part v slot).here in
      chain_outside rec v w slot size size qs (ap (λ z. z.width) is) (ap (λ z. z.total) is) refl (ap (λ (z : Part E). z.got) at)
      (λ t has. let u = lifted_turn (part_of v slot).turn t has in (u.0, ap (λ (z : Part E). z.turn) at ∙ u.1, u.2)) c

module _ {T E : Type 0} (log : T → List E) (rec : E → Option Receipt) (t t' : TableId) (number sent : ℕ) (room : Rooms) (me m me' : Me (Option T) (View E)) (c : Claim) (x : T)
    (es : List Posted) (same : t' ≡ t) (low : c.slot < t.slots) (st : IsSteady t.slots me number sent room) (out : m.0 ≡ view_lifted me.0 c.slot) where
  -- a pass is steady again after the rest of `unlock`
  pub steady_unlocked : (answer : UnlockEnd T) → IsUnlockedFrom log rec c x m answer me' es → IsSteady t'.slots me' number sent room
  steady_unlocked unlock.Unlocked a = let w = view_without_hold me.0 c (log x) in let p = part_without_hold (part_of me.0 c.slot) c.first (log x) in
      steady_after t t' c.slot number sent room me me' same low st w p sent (changed_part c.slot me.0 w p (unheld_part me.0 c (log x)) refl refl refl st.hand st.taken) st.sent_is tt
      (a.0 ∙ (λ i. (view_unlocked (out i) c (log x), [])))
  steady_unlocked (unlock.Pending again y count) a = let word : ℕ = a.4.0 in let qs : List Queued = a.4.2.0 in
      let w = view_after_pending me.0 c word qs in let p = part_after_pending (part_of me.0 c.slot) word qs in
      steady_after t t' c.slot number sent room me me' same low st w p sent (changed_part c.slot me.0 w p (pending_part me.0 c word qs) refl refl refl st.hand refl) st.sent_is
      (laid_again (part_of me.0 c.slot).turn) (a.4.2.3 ∙ (λ i. (view_with_chain (out i) c word qs, [])))

  -- a pass is steady again after the rest of `destroy`
  pub steady_destroyed : IsDestroyedFrom log rec c x m me' es → IsSteady t'.slots me' number sent room
  steady_destroyed a = let gone = a.0 in let qs = a.2.0 in let w = view_after_destroy me.0 c (log x) gone qs in
      let p = part_with_end (part_of me.0 c.slot) c.first (c.first + c.size) (log x) (gone ++ reverse (receipts_of qs)) in
      steady_after t t' c.slot number sent room me me' same low st w p sent (changed_part c.slot me.0 w p (destroyed_part me.0 c (log x) gone qs) refl refl refl st.hand refl) st.sent_is tt
      (a.2.3 ∙ (λ i. (view_ended (out i) c (log x) gone qs, [])))
