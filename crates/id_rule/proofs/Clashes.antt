-- No two passes have a claim on one slot, so that one which takes in another has the claims of both.
use Rattle.std.proofs.Common.{⊎_elim, inl, inr, ◌⊎◌, ◌≡◌, ◌≢◌, ℕ, ◌<◌, ◌≤◌, ne_eqb, Bool, true, false, true≢false, List, [], ◌∷◌, refl, sym, ap, ap₂, ◌∙◌, subst, arith, Option, Some, None}
use Rattle.std.specs.Prelude.{◌&&◌, ◌||◌, is_some, if◌then◌else◌}
use Rattle.std.proofs.lemmas.Option.{none-some}
use mathlib.Core.Logic.{dite}
use mathlib.Core.Option.{some}
use native.Mathlib.Decide.{ℕ_discrete, dec_le}
use lib.ListN.{get_elem?}
use Rattle.atomic_table.specs.Table.{State}
use Rattle.id_rule.specs.Changes.{do_both_claim, do_clash}
use Rattle.id_rule.specs.declared.rule.Sizes.{Sizes}
use Rattle.id_rule.specs.declared.view.Part.{Part}
use Rattle.id_rule.specs.declared.view.Receipt.{Receipt}
use Rattle.id_rule.specs.declared.view.View.{View}
use Rattle.id_rule.specs.Parts.{blank_part, part_at, part_of}
use Rattle.id_rule.specs.Rule.{IsKept}
use Rattle.id_rule.proofs.Single.{one_spot, one_hold, one_owner}

-- not both are there
not_both : {A : Type 0} (o u : Option A) → ((r q : A) → o ≡ Some r → u ≡ Some q → ⊥) → (is_some o && is_some u) ≡ false
not_both None u away = refl
not_both (Some r) None away = refl
not_both (Some r) (Some q) away = absurd (away r q refl refl)

-- none of three
none_of : (a b c : Bool) → a ≡ false → b ≡ false → c ≡ false → (a || b || c) ≡ false
none_of a b c x y z = λ i. x i || y i || z i

-- the parts of a choice that isn't true
pub first_not : (a b : Bool) → (a || b) ≡ false → a ≡ false
first_not true b e = e
first_not false b e = refl

pub second_not : (a b : Bool) → (a || b) ≡ false → b ≡ false
second_not true b e = absurd (true≢false e)
second_not false b e = e

-- where not both are there, the second isn't lost
pub kept_second : {A : Type 0} (o u : Option A) (r : A) → (is_some o && is_some u) ≡ false → u ≡ Some r → o ≡ None
kept_second None u r apart is = refl
kept_second (Some q) None r apart is = absurd (cc)
kept_second (Some q) (Some s) r apart is = absurd (true≢false apart)

module _ {E : Type 0} where
  -- what a slot's parts are, where no two parts clash
  pub clash_at : (ps qs ks : List (ℕ × Part E)) (slot : ℕ) → do_clash ps qs ks ≡ false → (do_both_claim (part_at ps slot) (part_at qs slot) ≡ false) ⊎ (part_at ks slot ≡ blank_part)
  clash_at ps qs [] slot none = inr refl
  clash_at ps qs (k ∷ ks) slot none = dite (ℕ_discrete k.0 slot)
      (λ same. inl (subst (λ (z : ℕ). do_both_claim (part_at ps z) (part_at qs z) ≡ false) same (first_not (do_both_claim (part_at ps k.0) (part_at qs k.0)) (do_clash ps qs ks) none)))
      (λ ne. ⊎_elim inl (λ t. inr (ap (λ b. if b then k.1 else part_at ks slot) (ne_eqb k.0 slot ne) ∙ t))
      (clash_at ps qs ks slot (second_not (do_both_claim (part_at ps k.0) (part_at qs k.0)) (do_clash ps qs ks) none)))

  -- no parts clash
  no_clash : (ps qs ks : List (ℕ × Part E)) → ((slot : ℕ) → do_both_claim (part_at ps slot) (part_at qs slot) ≡ false) → do_clash ps qs ks ≡ false
  no_clash ps qs [] all = refl
  no_clash ps qs (k ∷ ks) all = ap₂ (λ a b. a || b) (all k.0) (no_clash ps qs ks all)

-- two passes' views don't clash
pub views_apart : {T E : Type 0} (log : T → List E) (first_id : T → ℕ) (rec : E → Option Receipt) (sizes : Sizes) (s : State (Option T) (View E)) (id other : ℕ) (v w : View E)
    → IsKept log first_id rec sizes s → get_elem? s.views id ≡ some v → get_elem? s.views other ≡ some w → other ≢ id
    → ((slot : ℕ) → sizes.slots ≤ slot → ((part_of w slot).spot ≡ None) × ((part_of w slot).hold ≡ None) × ((part_of w slot).owner ≡ None))
    → do_clash v.parts w.parts w.parts ≡ false
views_apart {T} {E} log first_id rec sizes s id other v w kept at at2 apart low = no_clash v.parts w.parts w.parts (λ slot. dite (dec_le sizes.slots slot)
    (λ more. none_of _ _ _
    (not_both (part_of v slot).spot (part_of w slot).spot (λ r q e h. none-some q (sym (low slot more).0 ∙ h)))
    (not_both (part_of v slot).hold (part_of w slot).hold (λ r q e h. none-some q (sym (low slot more).1 ∙ h)))
    (not_both (part_of v slot).owner (part_of w slot).owner (λ r q e h. none-some q (sym (low slot more).2 ∙ h))))
    (λ less. let k = kept.at.1 slot (subst (λ (z : ℕ). slot < z) (sym kept.at.0) (omega (arith, less))) in
    let a = k.1.fits id v at in let b = k.1.fits other w at2 in none_of _ _ _
    (not_both (part_of v slot).spot (part_of w slot).spot (λ r q e h. apart (sym (one_spot k.0 id other r q (sym a.spot ∙ e) (sym b.spot ∙ h)))))
    (not_both (part_of v slot).hold (part_of w slot).hold (λ r q e h. apart (sym (one_hold k.0 id other r q (sym a.hold ∙ e) (sym b.hold ∙ h)))))
    (not_both (part_of v slot).owner (part_of w slot).owner (λ r q e h. apart (sym (one_owner k.0 id other r q (sym a.owner ∙ e) (sym b.owner ∙ h)))))))
