-- The history after a range ended: its last log, what was dropped, and who destroyed it.
use Rattle.std.proofs.Common.{⊎_elim, inl, inr, ◌⊎◌, ◌≡◌, ◌≢◌, ℕ, eq-eqb, ne_eqb, Bool, true, false, List, [], ◌∷◌, ◌++◌, append-nil, refl, sym}
use Rattle.std.proofs.Common.{ap, ap₂, ◌∙◌, subst, Option, Some}
use Rattle.std.specs.Prelude.{◌==◌, if◌then◌else◌}
use Rattle.std.proofs.lemmas.Option.{none-some, same_Some}
use mathlib.Core.Logic.{dite}
use native.Mathlib.Decide.{ℕ_discrete}
use Rattle.id_rule.specs.Nodes.{numbers_of}
use Rattle.id_rule.specs.Receipts.{History, IsGoingOn, receipts_of_range, receipts_in, AreSettled}
use Rattle.id_rule.specs.Parts.{HasNumber, part_of, HasLog}
use Rattle.id_rule.specs.Changes.{receipts_for, part_with_end}
use Rattle.id_rule.specs.Rule.{IsInformed}
use Rattle.id_rule.specs.declared.view.Receipt.{Receipt}
use Rattle.id_rule.specs.declared.view.Part.{Part}
use Rattle.id_rule.specs.declared.view.View.{View}
use Rattle.id_rule.proofs.Receipts.{at_append}
use Rattle.id_rule.proofs.Lists.{yes_if, no_if, bare}

-- another value at one slot and range
abbrev pub keyed : {X : Type 0} → ℕ → ℕ → X → (ℕ → ℕ → X) → ℕ → ℕ → X
keyed slot first new old s f = if s == slot then (if f == first then new else old s f) else old s f

module _ {X : Type 0} (slot first : ℕ) (new : X) (old : ℕ → ℕ → X) where
  -- the value at the key
  pub key_here : keyed slot first new old slot first ≡ new
  key_here = ap (λ b. if b then (if first == first then new else old slot first) else old slot first) (eq-eqb slot slot refl)
      ∙ ap (λ b. if b then new else old slot first) (eq-eqb first first refl)

  -- a choice between equals
  same_if : (b : Bool) (x : X) → (if b then x else x) ≡ x
  same_if true x = refl
  same_if false x = refl

  -- the value at any other key
  pub key_else : (s f : ℕ) → (s ≡ slot → f ≢ first) → keyed slot first new old s f ≡ old s f
  key_else s f away = dite (ℕ_discrete s slot)
      (λ same. ap (λ c. if s == slot then (if c then new else old s f) else old s f) (ne_eqb f first (away same)) ∙ same_if (s == slot) (old s f))
      (λ ne. ap (λ b. if b then (if f == first then new else old s f) else old s f) (ne_eqb s slot ne))

-- a slot and range are the key, or not
pub key_cases : (slot first s f : ℕ) → ((s ≡ slot) × (f ≡ first)) ⊎ (s ≡ slot → f ≢ first)
key_cases slot first s f = dite (ℕ_discrete s slot)
    (λ same. dite (ℕ_discrete f first) (λ e. inl (same, e)) (λ ne. inr (λ _. ne)))
    (λ ne. inr (λ same. absurd (ne same)))

-- what was told, when a range ended with this log and these were dropped
abbrev pub over_with : {E : Type 0} → History E → ℕ → ℕ → List E → List Receipt → ℕ → History E
over_with g slot first log lost by = record g { last = keyed slot first (Some log) g.last; lost = keyed slot first lost g.lost; ender = keyed slot first by g.ender }

-- receipts marked with a range are of it
at_range : (first : ℕ) (rs : List Receipt) → receipts_of_range first (receipts_for first rs) ≡ rs
at_range first [] = refl
at_range first (r ∷ rs) = ap (λ b. (if b then r ∷ [] else []) ++ receipts_of_range first (receipts_for first rs)) (eq-eqb first first refl) ∙ ap (λ z. r ∷ z) (at_range first rs)

-- receipts marked with a range are of no other
at_other : (f first : ℕ) (rs : List Receipt) → f ≢ first → receipts_of_range f (receipts_for first rs) ≡ []
at_other f first [] ne = refl
at_other f first (r ∷ rs) ne = ap (λ b. (if b then r ∷ [] else []) ++ receipts_of_range f (receipts_for first rs)) (ne_eqb first f (λ e. ne (sym e))) ∙ at_other f first rs ne

-- a choice between nothing and nothing
pub no_choice : (n m : ℕ) → (if n == m then bare else bare) ≡ bare
no_choice n m = dite (ℕ_discrete n m) (λ e. yes_if n m bare bare e) (λ ne. no_if n m bare bare ne)

module _ {E : Type 0} (g : History E) (slot first : ℕ) (lg : List E) (lost : List Receipt) (id : ℕ) (on : IsGoingOn g slot first) where
  -- last logs that were known stay
  pub last_kept : (s f : ℕ) (l : List E) → g.last s f ≡ Some l → (over_with g slot first lg lost id).last s f ≡ Some l
  last_kept s f l e = ⊎_elim
      (λ t. absurd (none-some l (sym on.0 ∙ ap₂ g.last (sym t.0) (sym t.1) ∙ e)))
      (λ away. key_else slot first (Some lg) g.last s f away ∙ e)
      (key_cases slot first s f)

  -- who destroyed a range stays
  pub ender_kept : (by s f : ℕ) → (g.ender s f ≡ by) × ((l : List E) × (g.last s f ≡ Some l)) → ((over_with g slot first lg lost id).ender s f ≡ by)
      × ((l : List E) × ((over_with g slot first lg lost id).last s f ≡ Some l))
  ender_kept by s f t = (
    ⊎_elim
        (λ z. absurd (none-some t.1.0 (sym on.0 ∙ ap₂ g.last (sym z.0) (sym z.1) ∙ t.1.1)))
        (λ away. key_else slot first id g.ender s f away ∙ t.0)
        (key_cases slot first s f),
    (t.1.0, last_kept s f t.1.0 t.1.1),
  )

  -- what another view dropped
  pub dropped_else : (by s f : ℕ) → by ≢ id → (if g.ender s f == by then g.lost s f else bare) ≡ (if keyed slot first id g.ender s f == by then keyed slot first lost g.lost s f else bare)
  dropped_else by s f ne = ⊎_elim
      (λ t. ap (λ (z : List Receipt). if g.ender s f == by then z else bare) (ap₂ g.lost t.0 t.1 ∙ on.1) ∙ no_choice (g.ender s f) by
      ∙ sym (no_if (keyed slot first id g.ender s f) by (keyed slot first lost g.lost s f) bare (λ e. ne (sym e ∙ ap₂ (keyed slot first id g.ender) t.0 t.1 ∙ key_here slot first id g.ender))))
      (λ away. ap₂ (λ (x : ℕ) (y : List Receipt). if x == by then y else bare) (sym (key_else slot first id g.ender s f away)) (sym (key_else slot first lost g.lost s f away)))
      (key_cases slot first s f)

  -- what the view dropped that ended the range
  pub dropped_here : (s f : ℕ) (ds : List (ℕ × Receipt)) → receipts_of_range f ds ≡ (if g.ender s f == id then g.lost s f else bare) → s ≡ slot
      → receipts_of_range f (ds ++ receipts_for first lost) ≡ (if keyed slot first id g.ender s f == id then keyed slot first lost g.lost s f else bare)
  dropped_here s f ds was same = at_append f ds (receipts_for first lost) ∙ ap (λ z. z ++ receipts_of_range f (receipts_for first lost)) was ∙ dite (ℕ_discrete f first)
      (λ e. ap₂ (λ (x y : List Receipt). x ++ y) (ap (λ (z : List Receipt). if g.ender s f == id then z else bare) (ap₂ g.lost same e ∙ on.1) ∙ no_choice (g.ender s f) id)
      (ap (λ (z : ℕ). receipts_of_range z (receipts_for first lost)) e ∙ at_range first lost)
      ∙ sym (yes_if (keyed slot first id g.ender s f) id (keyed slot first lost g.lost s f) bare (ap₂ (keyed slot first id g.ender) same e ∙ key_here slot first id g.ender)
      ∙ ap₂ (keyed slot first lost g.lost) same e ∙ key_here slot first lost g.lost))
      (λ ne. ap (λ z. (if g.ender s f == id then g.lost s f else bare) ++ z) (at_other f first lost ne) ∙ append-nil (if g.ender s f == id then g.lost s f else bare)
      ∙ ap₂ (λ (x : ℕ) (y : List Receipt). if x == id then y else bare) (sym (key_else slot first id g.ender s f (λ _. ne))) (sym (key_else slot first lost g.lost s f (λ _. ne))))

  -- what was dropped at another slot stays
  dropped_slot : (s f : ℕ) → s ≢ slot → (if g.ender s f == id then g.lost s f else bare) ≡ (if keyed slot first id g.ender s f == id then keyed slot first lost g.lost s f else bare)
  dropped_slot s f ne = ap₂ (λ (x : ℕ) (y : List Receipt). if x == id then y else bare) (sym (key_else slot first id g.ender s f (λ e. absurd (ne e))))
      (sym (key_else slot first lost g.lost s f (λ e. absurd (ne e))))

  -- other views know as much as before
  pub tells_other : (holder : ℕ → ℕ) (by : ℕ) (u : View E) → by ≢ id → IsInformed g holder by u → IsInformed (over_with g slot first lg lost id) holder by u
  tells_other holder by u ne all s f = ((all s f).0, (all s f).1 ∙ dropped_else by s f ne, λ l h. last_kept s f l ((all s f).2 l h), λ h. ender_kept by s f ((all s f).3 h))

  -- the view that destroyed the range knows its last log and what it dropped
  pub tells_end : (holder : ℕ → ℕ) (v w : View E) (ended_below : ℕ) → part_of w slot ≡ part_with_end (part_of v slot) first ended_below lg lost → ((s : ℕ) → s ≢ slot → part_of w s ≡ part_of v s)
      → IsInformed g holder id v → IsInformed (over_with g slot first lg lost id) holder id w
  tells_end holder v w ended_below here else_where all s f = dite (ℕ_discrete s slot)
      (λ same. let there : part_of w s ≡ part_with_end (part_of v s) first ended_below lg lost = ap (part_of w) same ∙ here
      ∙ ap (λ (z : ℕ). part_with_end (part_of v z) first ended_below lg lost) (sym same) in (
        (λ a. ap (λ (z : Part E). numbers_of a (receipts_of_range f z.receipts)) there ∙ (all s f).0 a),
        ap (λ (z : Part E). receipts_of_range f z.dropped) there ∙ dropped_here s f (part_of v s).dropped (all s f).1 same,
        (λ l h. last_kept s f l ((all s f).2 l (subst (λ (z : Part E). HasLog z.last f l) there h))),
        (λ h. ⊎_elim
            (λ e. (
              ap₂ (keyed slot first id g.ender) same (sym e) ∙ key_here slot first id g.ender,
              (lg, ap₂ (keyed slot first (Some lg) g.last) same (sym e) ∙ key_here slot first (Some lg) g.last),
            ))
            (λ t. ender_kept id s f ((all s f).3 t)) (subst (λ (z : Part E). HasNumber f z.destroyed) there h)),
      ))
      (λ ne. let there = else_where s ne in (
        (λ a. ap (λ (z : Part E). numbers_of a (receipts_of_range f z.receipts)) there ∙ (all s f).0 a),
        ap (λ (z : Part E). receipts_of_range f z.dropped) there ∙ (all s f).1 ∙ dropped_slot s f ne,
        (λ l h. last_kept s f l ((all s f).2 l (subst (λ (z : Part E). HasLog z.last f l) there h))),
        (λ h. ender_kept id s f ((all s f).3 (subst (λ (z : Part E). HasNumber f z.destroyed) there h))),
      ))

  -- the receipts of each ended range are settled, of this one too
  pub over_more : (rec : E → Option Receipt) → AreSettled (g.numbered slot first) (receipts_in rec lg) lost
      → ((s f : ℕ) (l : List E) → g.last s f ≡ Some l → AreSettled (g.numbered s f) (receipts_in rec l) (g.lost s f))
      → (s f : ℕ) (l : List E) → (over_with g slot first lg lost id).last s f ≡ Some l → AreSettled (g.numbered s f) (receipts_in rec l) ((over_with g slot first lg lost id).lost s f)
  over_more rec now before s f l e = ⊎_elim
      (λ t. let is : lg ≡ l = same_Some lg l (sym (ap₂ (keyed slot first (Some lg) g.last) t.0 t.1 ∙ key_here slot first (Some lg) g.last) ∙ e) in
      subst (λ (z : (ℕ → List ℕ) × List E × List Receipt). AreSettled z.0 (receipts_in rec z.1) z.2)
      (λ y. (ap₂ g.numbered (sym t.0) (sym t.1) y, is y, (sym (ap₂ (keyed slot first lost g.lost) t.0 t.1 ∙ key_here slot first lost g.lost)) y)) now)
      (λ away. subst (AreSettled (g.numbered s f) (receipts_in rec l)) (sym (key_else slot first lost g.lost s f away)) (before s f l (sym (key_else slot first (Some lg) g.last s f away) ∙ e)))
      (key_cases slot first s f)
