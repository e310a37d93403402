-- The errors that a pass has still to hand out, when one of them is.
use Rattle.std.proofs.Common.{⊎_elim, ◌≡◌, ℕ, List, [], ◌∷◌, ◌++◌, append-nil, length, length-append, ◌+◌, arith, refl, sym, ap, ap₂, ◌∙◌, subst, Option, Some, None}
use Rattle.std.specs.Prelude.{reverse, option_to_list, MatchOption}
use Rattle.std.proofs.lemmas.List.{reverse-append, length-reverse}
use Rattle.std.proofs.lemmas.Option.{none-some}
use Rattle.atomic_table.specs.Seated.{TableId}
use Rattle.id_rule.specs.declared.view.View.{View}
use Rattle.id_shared.specs.Answers.{HasNext}
use Rattle.id_shared.specs.declared.answers.Posted.{Posted}
use Rattle.id_shared.specs.Standing.{Claim, Standing, HasErrorsOf}
use Rattle.id_shared.specs.Steady.{IsAlone}

-- the last of a list is the first of it in the other order
last_first : (x : Posted) (xs more : List Posted) → reverse (xs ++ x ∷ []) ++ more ≡ x ∷ (reverse xs ++ more)
last_first x xs more = ap (λ z. z ++ more) (reverse-append xs (x ∷ []))

-- what holds of no answer
pub pop_none : {A : Type 0} (o : Option Posted) (P : A → Type 0) (a : A) (Q : Posted → Type 0) → MatchOption o (P a) Q → o ≡ None → P a
pop_none {A} None P a Q m e = m
pop_none {A} (Some x) P a Q m e = absurd (none-some x (sym e))

-- a list of no length is empty
pub none_long : (xs : List Posted) → length xs ≡ 0 → xs ≡ []
none_long [] e = refl
none_long (x ∷ xs) e = absurd (omega (arith, e))

-- where nothing is left to hand out, both lists are empty
pub scratch_empty : (a b : List Posted) → reverse a ++ reverse b ≡ [] → (a ≡ []) × (b ≡ [])
scratch_empty a b e =
    let long : length (reverse a) + length (reverse b) ≡ 0 = sym (length-append (reverse a) (reverse b)) ∙ ap length e in
    let first = length-reverse a in let second = length-reverse b in
    (none_long a (omega (arith, long, first)), none_long b (omega (arith, long, second)))

-- no error of a range that was destroyed before is left, where those left are of a Hold
pub none_dropped : {E : Type 0} (p : Standing E) (holder : Option ℕ) (c : Claim) (a b : List Posted) → reverse a ++ reverse b ≡ p.scratch → holder ≡ p.holder → IsAlone holder b
    → HasErrorsOf p c → b ≡ []
none_dropped {E} p holder c a b is same alone errors = ⊎_elim (λ none. (scratch_empty a b (is ∙ none)).1) (λ h. subst (λ z. IsAlone z b) (same ∙ h) alone) errors

module _ {E : Type 0} where
  -- a pass with these lists
  abbrev pub standing_with : TableId → View E → List ℕ → Option ℕ → List Posted → List Posted → Standing E
  standing_with t v words holder pending dropped = record { table = t; view = v; words = words; scratch = reverse pending ++ reverse dropped; holder = holder }

  -- the next error of a Pending, or of what it left when the range was destroyed
  pub next_first : (p : Standing E) (t : TableId) (v : View E) (words : List ℕ) (holder : Option ℕ) (old new dropped : List Posted) (x : Posted)
      → standing_with t v words holder old dropped ≡ p → old ≡ new ++ x ∷ [] → HasNext p (Some x) (standing_with t v words holder new dropped)
  next_first p t v words holder old new dropped x is popped = (
    reverse new ++ reverse dropped,
    sym (ap (λ (z : Standing E). z.scratch) is) ∙ ap (λ z. reverse z ++ reverse dropped) popped ∙ last_first x new (reverse dropped),
    ap (λ (z : Standing E). record z { scratch = reverse new ++ reverse dropped }) is,
  )

  -- nothing more is left
  none_left : (p : Standing E) (t : TableId) (v : View E) (words : List ℕ) (holder : Option ℕ) (old new dropped rest : List Posted) → standing_with t v words holder old dropped ≡ p → old ≡ []
      → old ≡ new ++ [] → dropped ≡ rest → p.scratch ≡ [] → HasNext p None (standing_with t v words holder new rest)
  none_left p t v words holder old new dropped rest is empty popped same nothing =
      (nothing, ap₂ (λ a b. standing_with t v words holder a b) (sym (append-nil new) ∙ sym popped) (sym same) ∙ is)

  -- the next error that was taken when the range was destroyed
  pub next_second : (p : Standing E) (t : TableId) (v : View E) (words : List ℕ) (holder : Option ℕ) (old new dropped rest : List Posted) (answer : Option Posted)
      → standing_with t v words holder old dropped ≡ p → old ≡ [] → old ≡ new ++ [] → dropped ≡ rest ++ option_to_list answer → (answer ≡ None → dropped ≡ [])
      → HasNext p answer (standing_with t v words holder new rest)
  next_second p t v words holder old new dropped rest None is empty popped more done =
      let none_dropped = done refl in
      none_left p t v words holder old new dropped rest is empty popped (more ∙ append-nil rest)
      (sym (ap (λ (z : Standing E). z.scratch) is) ∙ ap₂ (λ (a b : List Posted). reverse a ++ reverse b) empty none_dropped)
  next_second p t v words holder old new dropped rest (Some x) is empty popped more done =
      let bare : new ≡ [] = sym (append-nil new) ∙ sym popped ∙ empty in (
        reverse rest,
        sym (ap (λ (z : Standing E). z.scratch) is) ∙ ap₂ (λ (a b : List Posted). reverse a ++ reverse b) empty more ∙ reverse-append rest (x ∷ []),
        ap (λ z. standing_with t v words holder z rest) bare ∙ ap (λ (z : Standing E). record z { scratch = reverse rest }) is,
      )

  -- the next error of a Hold's last Pending
  pub next_pending_is : (p : Standing E) (t : TableId) (v : View E) (words : List ℕ) (holder : Option ℕ) (c : Claim) (old new dropped : List Posted) (answer : Option Posted)
      → standing_with t v words holder old dropped ≡ p → IsAlone holder dropped → HasErrorsOf p c → old ≡ new ++ option_to_list answer → (answer ≡ None → old ≡ [])
      → HasNext p answer (standing_with t v words holder new dropped)
  next_pending_is p t v words holder c old new dropped None is alone errors popped done =
      let empty = done refl in
      let from_hold : holder ≡ Some c.slot → p.scratch ≡ [] = λ h. sym (ap (λ (z : Standing E). z.scratch) is)
      ∙ ap₂ (λ (a b : List Posted). reverse a ++ reverse b) empty (subst (λ z. IsAlone z dropped) h alone) in
      none_left p t v words holder old new dropped dropped is empty popped refl (⊎_elim (λ n. n) (λ h. from_hold (ap (λ (z : Standing E). z.holder) is ∙ h)) errors)
  next_pending_is p t v words holder c old new dropped (Some x) is alone errors popped done = next_first p t v words holder old new dropped x is popped
