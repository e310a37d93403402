-- Which claims a pass has after `unlock` and `destroy`.
use Rattle.std.proofs.Common.{◌≡◌, ℕ, ◌+◌, true, false, List, [], ◌∷◌, ◌++◌, append-nil, refl, sym, ap, ◌∙◌, Option, Some}
use Rattle.std.specs.Prelude.{reverse}
use Rattle.std.proofs.lemmas.List.{reverse-append}
use mathlib.Core.Logic.{dite}
use native.Mathlib.Decide.{ℕ_discrete}
use Rattle.id_rule.specs.Changes.{turn_at, turn_with_out, turn_with_waits, part_with_end, part_without_hold}
use Rattle.id_rule.specs.declared.view.Part.{Part}
use Rattle.id_rule.specs.declared.view.Queued.{Queued}
use Rattle.id_rule.specs.declared.view.Receipt.{Receipt}
use Rattle.id_rule.specs.declared.view.View.{View}
use Rattle.id_rule.specs.declared.view.Turn.{Turn}
use Rattle.id_rule.specs.Nodes.{receipts_of, numbers_of}
use Rattle.id_rule.specs.Receipts.{occurrences, receipts_in}
use Rattle.std.proofs.lemmas.Option.{same_Some}
use Rattle.id_rule.specs.Parts.{part_of}
use Rattle.id_shared.specs.Answers.{IsUnlocked, IsDestroyed, HasGrown, HasLeftOut}
use Rattle.id_shared.specs.Claims.{IsHolding, IsHoldingWith, KeepsOthers, KeepsOwners, KeepsHolding}
use Rattle.id_shared.specs.declared.answers.Posted.{Posted}
use Rattle.id_shared.specs.declared.answers.UnlockEnd.{UnlockEnd}
use Rattle.id_shared.specs.declared.answers.UnlockEnd.TheVariants as unlock
use Rattle.id_shared.specs.Standing.{Claim, Standing}
use Rattle.id_shared.specs.Views.{errors_of, receipts_in_errors, view_without_hold, view_after_pending, view_after_destroy}
use Rattle.id_shared.proofs.Keeping.{kept_part, kept_to, kept_at_part}
use Rattle.id_shared.proofs.Parts.{HasPart, part_after_pending, unheld_part, pending_part, destroyed_part}

-- the receipts of two lists of errors, one behind the other
errors_append : (xs ys : List Posted) → receipts_in_errors (xs ++ ys) ≡ receipts_in_errors xs ++ receipts_in_errors ys
errors_append [] ys = refl
errors_append (x ∷ xs) ys = ap (λ z. x.receipt ∷ z) (errors_append xs ys)

-- the receipts of a chain's errors, first queued first
pub errors_receipts : (qs : List Queued) → receipts_in_errors (reverse (errors_of qs)) ≡ reverse (receipts_of qs)
errors_receipts [] = refl
errors_receipts (q ∷ qs) = ap receipts_in_errors (reverse-append (record { offset = q.offset; code = q.code; receipt = q.receipt } ∷ []) (errors_of qs))
    ∙ errors_append (reverse (errors_of qs)) (record { offset = q.offset; code = q.code; receipt = q.receipt } ∷ [])
    ∙ ap (λ z. z ++ q.receipt ∷ []) (errors_receipts qs) ∙ sym (reverse-append (q.receipt ∷ []) (receipts_of qs))

module _ {E : Type 0} where
  -- the Owners stay where a part's Owner does
  owners_at : (i : ℕ) (v w : View E) (p : Part E) → HasPart i v p w → p.owner ≡ (part_of v i).owner → (slot : ℕ) (r : ℕ × ℕ) → (part_of v slot).owner ≡ Some r → (part_of w slot).owner ≡ Some r
  owners_at i v w p has same slot r h = dite (ℕ_discrete slot i)
      (λ e. ap (λ (z : ℕ). (part_of w z).owner) e ∙ ap (λ (z : Part E). z.owner) has.here ∙ same ∙ ap (λ (z : ℕ). (part_of v z).owner) (sym e) ∙ h)
      (λ ne. ap (λ (z : Part E). z.owner) (has.there slot ne) ∙ h)

  -- the same where the view after is known by an equation
  owners_to : (u v w : View E) → u ≡ w → ((slot : ℕ) (r : ℕ × ℕ) → (part_of v slot).owner ≡ Some r → (part_of w slot).owner ≡ Some r)
      → (slot : ℕ) (r : ℕ × ℕ) → (part_of v slot).owner ≡ Some r → (part_of u slot).owner ≡ Some r
  owners_to u v w same all slot r h = ap (λ z. (part_of z slot).owner) same ∙ all slot r h

module _ {T E : Type 0} (log : T → List E) (rec : E → Option Receipt) (c : Claim) (x : T) (p q : Standing E) where
  -- `unlock` keeps the Hold that it hands back
  pub unlocked_holding : (answer : UnlockEnd T) → IsUnlocked log rec c x p answer q → KeepsHolding c p answer q
  unlocked_holding unlock.Unlocked a = tt
  unlocked_holding (unlock.Pending same y count) a =
      let word : ℕ = a.4.0 in let qs : List Queued = a.4.2.0 in let is = a.4.2.2 in
      let has = pending_part p.view c word qs in
      let view : q.view ≡ view_after_pending p.view c word qs = ap (λ z. z.view) is in
      let here : part_of q.view c.slot ≡ part_after_pending (part_of p.view c.slot) word qs = ap (λ z. part_of z c.slot) view ∙ has.here in (
        (λ slot. kept_to p.view q.view (view_after_pending p.view c word qs) slot view
            (kept_at_part c.slot p.view (view_after_pending p.view c word qs) (part_after_pending (part_of p.view c.slot) word qs) has (λ r. ((λ h. h), (λ h. h), (λ h. h))) slot)),
        (λ l got h. (
          ap (λ (z : Part E). z.hold) here ∙ h.0,
          ap (λ (z : Part E). z.turn) here ∙ ap (λ z. turn_with_out false (turn_with_waits false (turn_with_waits true (turn_with_out true z)))) h.1,
          ap (λ (z : Part E). z.got) here ∙ (λ i. h.2 i ++ (sym (errors_receipts qs) ∙ ap (λ (z : Standing E). receipts_in_errors z.scratch) (sym is)) i),
        )),
      )

  -- `unlock` keeps Owners
  pub unlocked_owners : (answer : UnlockEnd T) → IsUnlocked log rec c x p answer q → KeepsOwners p q
  unlocked_owners unlock.Unlocked a slot r h = owners_to q.view p.view (view_without_hold p.view c (log x)) (ap (λ z. z.view) a)
      (owners_at c.slot p.view (view_without_hold p.view c (log x)) (part_without_hold (part_of p.view c.slot) c.first (log x)) (unheld_part p.view c (log x)) refl) slot r h
  unlocked_owners (unlock.Pending same y count) a slot r h = ((unlocked_holding (unlock.Pending same y count) a).0 slot r).2 h

  -- `unlock` keeps the claims on other slots
  pub unlocked_others : (answer : UnlockEnd T) → IsUnlocked log rec c x p answer q → KeepsOthers c.slot p q
  unlocked_others unlock.Unlocked a slot ne = kept_to p.view q.view (view_without_hold p.view c (log x)) slot (ap (λ z. z.view) a)
      (kept_part p.view (view_without_hold p.view c (log x)) slot ((unheld_part p.view c (log x)).there slot ne))
  unlocked_others (unlock.Pending same y count) a slot ne = (unlocked_holding (unlock.Pending same y count) a).0 slot

  -- `destroy` keeps Owners
  pub destroyed_owners : IsDestroyed log rec c x p q → KeepsOwners p q
  destroyed_owners a = let w = view_after_destroy p.view c (log x) a.0 a.2.0 in
      owners_to q.view p.view w (ap (λ z. z.view) a.2.2)
      (owners_at c.slot p.view w (part_with_end (part_of p.view c.slot) c.first (c.first + c.size) (log x) (a.0 ++ reverse (receipts_of a.2.0)))
      (destroyed_part p.view c (log x) a.0 a.2.0) refl)

  -- `destroy` keeps the claims on other slots
  pub destroyed_others : IsDestroyed log rec c x p q → KeepsOthers c.slot p q
  destroyed_others a slot ne = let w = view_after_destroy p.view c (log x) a.0 a.2.0 in
      kept_to p.view q.view w slot (ap (λ z. z.view) a.2.2) (kept_part p.view w slot ((destroyed_part p.view c (log x) a.0 a.2.0).there slot ne))

module _ {E : Type 0} (rec : E → Option Receipt) (q : Standing E) (c : Claim) where
  -- a log that hasn't changed since the lock has grown by nothing
  pub grown_none : (log : List E) → IsHolding q c log → HasGrown rec q c log
  grown_none log h t is = let same = same_Some (turn_at false log) t (sym h.1 ∙ is) in
      ([], append-nil t.log ∙ ap (λ (z : Turn E). z.log) (sym same), λ a n. ap (λ (z : List Receipt). occurrences n (numbers_of a z)) h.2)

  -- the errors of the first Pending, of which the log has none, are all left out
  pub left_out_all : (log : List E) → IsHoldingWith q c log (receipts_in_errors q.scratch) → HasLeftOut rec q c log []
  left_out_all log h t is = let same = same_Some (turn_at false log) t (sym h.1 ∙ is) in
      ([], append-nil t.log ∙ ap (λ (z : Turn E). z.log) (sym same), λ a n. ap (λ (z : List Receipt). occurrences n (numbers_of a z)) h.2)

  -- a log with each receipt that was handed out since the lock, in order
  pub grown_all : (old new log : List E) → old ++ new ≡ log → IsHoldingWith q c old (receipts_in rec new) → HasGrown rec q c log
  grown_all old new log whole h t is = let same = same_Some (turn_at false old) t (sym h.1 ∙ is) in
      (new, ap (λ (z : Turn E). z.log ++ new) (sym same) ∙ whole, λ a n. ap (λ (z : List Receipt). occurrences n (numbers_of a z)) h.2)
