-- A pass after it took in another.
use Rattle.std.proofs.Common.{⊎_elim, ◌≡◌, ℕ, ◌≤◌, true, false, Bool, List, [], ◌∷◌, ◌++◌, refl, sym, ap, ap₂, ◌∙◌, arith, Option, Some, None, inl, inr}
use Rattle.std.specs.Prelude.{◌&&◌, ◌||◌, is_some, if◌then◌else◌}
use Rattle.id_rule.specs.Changes.{either_of, joined_part, joined_view, do_both_claim, do_clash}
use Rattle.id_rule.specs.declared.view.Part.{Part}
use Rattle.id_rule.specs.declared.view.Turn.{Turn}
use Rattle.id_rule.specs.declared.view.View.{View}
use Rattle.id_rule.specs.Parts.{HasNumber, own_number, blank_part, part_of}
use Rattle.id_rule.proofs.Clashes.{clash_at, kept_second, first_not, second_not}
use Rattle.id_rule.proofs.Seats.{joined_is}
use Rattle.id_shared.specs.Claims.{IsKeptAt}
use Rattle.id_shared.specs.Steady.{IsUnclaimed, IsLaid}
use Rattle.std.proofs.lemmas.Option.{none-some}

-- where the hand has no node that there isn't, no claims clash
pub hand_tells : (clash : Bool) (hand : Option (ℕ × ℕ × ℕ)) → ((h : ℕ × ℕ × ℕ) → (if clash then Some (0, 0, 0) else hand) ≡ Some h → 1 ≤ h.0) → clash ≡ false
hand_tells true hand told = let no = told (0, 0, 0) refl in absurd (omega (arith, no))
hand_tells false hand told = refl

-- the first of both numbers stays
pub own_joined : (ns ms : List ℕ) → HasNumber (own_number ns) ns → own_number (ns ++ ms) ≡ own_number ns
own_joined [] ms has = absurd has
own_joined (n ∷ ns) ms has = refl

-- a number of the first is there
pub has_first : (a : ℕ) (ns ms : List ℕ) → HasNumber a ns → HasNumber a (ns ++ ms)
has_first a [] ms has = absurd has
has_first a (n ∷ ns) ms has = ⊎_elim inl (λ t. inr (has_first a ns ms t)) has

module _ {E : Type 0} where
  -- either of two that are laid is
  pub laid_joined : (o u : Option (Turn E)) → IsLaid o → IsLaid u → IsLaid (either_of o u)
  laid_joined None u a b = b
  laid_joined (Some t) u a b = a

  -- nothing of both is nothing
  pub unclaimed_joined : (p q : Part E) → IsUnclaimed p → IsUnclaimed q → IsUnclaimed (joined_part p q)
  unclaimed_joined p q a b = (ap₂ either_of a.0 b.0, ap₂ either_of a.1 b.1, ap₂ either_of a.2 b.2)

  -- the first's claims stay
  pub first_stays : (v w : View E) (slot : ℕ) → IsKeptAt v (joined_view v w) slot
  first_stays v w slot r = let is = joined_is v.parts w.parts slot in (
    (λ h. ap (λ (z : Part E). z.spot) is ∙ ap (λ z. either_of z (part_of w slot).spot) h),
    (λ h. ap (λ (z : Part E). z.hold) is ∙ ap (λ z. either_of z (part_of w slot).hold) h),
    (λ h. ap (λ (z : Part E). z.owner) is ∙ ap (λ z. either_of z (part_of w slot).owner) h),
  )

  -- the other's claims come, where they don't clash
  pub second_comes : (v w : View E) (slot : ℕ) → do_clash v.parts w.parts w.parts ≡ false → IsKeptAt w (joined_view v w) slot
  second_comes v w slot none = ⊎_elim {A = do_both_claim (part_of v slot) (part_of w slot) ≡ false} {B = part_of w slot ≡ blank_part}
      (λ (apart : do_both_claim (part_of v slot) (part_of w slot) ≡ false) r. let p = part_of v slot in let q = part_of w slot in let is = joined_is v.parts w.parts slot in
      let a = is_some p.spot && is_some q.spot in let b = is_some p.hold && is_some q.hold in let c = is_some p.owner && is_some q.owner in
      let some = first_not (a || b) c apart in (
        (λ h. ap (λ (z : Part E). z.spot) is ∙ ap₂ either_of (kept_second p.spot q.spot r (first_not a b some) h) h),
        (λ h. ap (λ (z : Part E). z.hold) is ∙ ap₂ either_of (kept_second p.hold q.hold r (second_not a b some) h) h),
        (λ h. ap (λ (z : Part E). z.owner) is ∙ ap₂ either_of (kept_second p.owner q.owner r (second_not (a || b) c apart) h) h),
      ))
      (λ blank r. (
        (λ h. absurd (none-some r (sym (ap (λ (z : Part E). z.spot) blank) ∙ h))),
        (λ h. absurd (none-some r (sym (ap (λ (z : Part E). z.hold) blank) ∙ h))),
        (λ h. absurd (none-some r (sym (ap (λ (z : Part E). z.owner) blank) ∙ h))),
      ))
      (clash_at v.parts w.parts w.parts slot none)
