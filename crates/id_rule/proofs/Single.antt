-- Two passes that have the same claim on a slot are one, and an owned slot isn't vacant.
use Rattle.std.proofs.Common.{◌≡◌, ◌≢◌, ℕ, ◌<◌, List, sym, ap, ◌∙◌, subst, arith, Option, Some, None}
use Rattle.std.specs.Prelude.{◌==◌, if◌then◌else◌}
use Rattle.std.proofs.lemmas.Option.{none-some, same_Some}
use mathlib.Core.Logic.{dite}
use mathlib.Core.Option.{some-injective}
use native.Mathlib.Decide.{ℕ_discrete}
use Rattle.rpc_model.specs.Gone.{code_in, first_in}
use Rattle.id_rule.specs.Laws.{OneHolder, OwnedSlotsStay}
use Rattle.id_rule.specs.declared.view.Receipt.{Receipt}
use Rattle.id_rule.specs.Nodes.{head_of}
use Rattle.id_rule.specs.Phases.{Phase, vacant, reserved, free, locked, ended, taken, retired, slot_word, spot_of, hold_of, owner_of, IsSound}
use Rattle.id_rule.proofs.Lists.{code_is, first_is}
use Rattle.id_rule.proofs.Lists.{yes_if, no_if}

-- who has something by a choice is the one that was chosen
chosen : {A : Type 0} (n m : ℕ) (x y : A) → (if n == m then Some x else None) ≡ Some y → (n ≡ m) × (x ≡ y)
chosen n m x y e = dite (ℕ_discrete n m)
    (λ same. (same, same_Some x y (sym (yes_if n m (Some x) None same) ∙ e)))
    (λ ne. absurd (none-some y (sym (no_if n m (Some x) None ne) ∙ e)))

module _ {T E : Type 0} where
  -- one seat has the Spot
  pub one_spot : (ph : Phase T E) (a b : ℕ) (r q : ℕ × ℕ) → spot_of ph a ≡ Some r → spot_of ph b ≡ Some q → a ≡ b
  one_spot (vacant f) a b r q e h = absurd (none-some r e)
  one_spot (reserved f k who) a b r q e h = sym (chosen who a (f, k) r e).0 ∙ (chosen who b (f, k) q h).0
  one_spot (free g x) a b r q e h = absurd (none-some r e)
  one_spot (locked g who l qs got) a b r q e h = absurd (none-some r e)
  one_spot (ended g x) a b r q e h = absurd (none-some r e)
  one_spot (taken g l) a b r q e h = absurd (none-some r e)
  one_spot (retired f) a b r q e h = absurd (none-some r e)

  -- one seat has the Hold
  pub one_hold : (ph : Phase T E) (a b : ℕ) (r q : ℕ × ℕ) → hold_of ph a ≡ Some r → hold_of ph b ≡ Some q → a ≡ b
  one_hold (vacant f) a b r q e h = absurd (none-some r e)
  one_hold (reserved f k who) a b r q e h = absurd (none-some r e)
  one_hold (free g x) a b r q e h = absurd (none-some r e)
  one_hold (locked g who l qs got) a b r q e h = sym (chosen who a (g.first, g.size) r e).0 ∙ (chosen who b (g.first, g.size) q h).0
  one_hold (ended g x) a b r q e h = absurd (none-some r e)
  one_hold (taken g l) a b r q e h = absurd (none-some r e)
  one_hold (retired f) a b r q e h = absurd (none-some r e)

  -- one seat has the Owner
  pub one_owner : (ph : Phase T E) (a b : ℕ) (r q : ℕ × ℕ) → owner_of ph a ≡ Some r → owner_of ph b ≡ Some q → a ≡ b
  one_owner (vacant f) a b r q e h = absurd (none-some r e)
  one_owner (reserved f k who) a b r q e h = absurd (none-some r e)
  one_owner (free g x) a b r q e h = sym (chosen g.owner a (g.first, g.size) r e).0 ∙ (chosen g.owner b (g.first, g.size) q h).0
  one_owner (locked g who l qs got) a b r q e h = sym (chosen g.owner a (g.first, g.size) r e).0 ∙ (chosen g.owner b (g.first, g.size) q h).0
  one_owner (ended g x) a b r q e h = sym (chosen g.owner a (g.first, g.size) r e).0 ∙ (chosen g.owner b (g.first, g.size) q h).0
  one_owner (taken g l) a b r q e h = absurd (none-some r e)
  one_owner (retired f) a b r q e h = absurd (none-some r e)

  -- the word of an owned slot is live or ended, with the owned range's first version
  owned_word : (first_id : T → ℕ) (slot : ℕ) (ph : Phase T E) (a : ℕ) (r : ℕ × ℕ) → IsSound first_id slot ph → owner_of ph a ≡ Some r
      → (code_in (slot_word ph) ≢ 0) × (first_in (slot_word ph) ≡ r.0)
  owned_word first_id slot (vacant f) a r ok e = absurd (none-some r e)
  owned_word first_id slot (reserved f k who) a r ok e = absurd (none-some r e)
  owned_word first_id slot (free g x) a r ok e = (
    (λ z. omega (arith, code_is g.first g.size 2 0 (omega (arith, ok.0.3)) (omega arith) (omega arith), z)),
    first_is g.first g.size 2 0 (omega (arith, ok.0.1)) (omega (arith, ok.0.3)) (omega arith) (omega arith) ∙ ap (λ t. t.0) (chosen g.owner a (g.first, g.size) r e).1,
  )
  owned_word first_id slot (locked g who l qs got) a r ok e = (
    (λ z. omega (arith, code_is g.first g.size 3 (head_of qs) (omega (arith, ok.0.3)) (omega arith) ok.1, z)),
    first_is g.first g.size 3 (head_of qs) (omega (arith, ok.0.1)) (omega (arith, ok.0.3)) (omega arith) ok.1 ∙ ap (λ t. t.0) (chosen g.owner a (g.first, g.size) r e).1,
  )
  owned_word first_id slot (ended g x) a r ok e = (
    (λ z. omega (arith, code_is g.first g.size 4 0 (omega (arith, ok.0.3)) (omega arith) (omega arith), z)),
    first_is g.first g.size 4 0 (omega (arith, ok.0.1)) (omega (arith, ok.0.3)) (omega arith) (omega arith) ∙ ap (λ t. t.0) (chosen g.owner a (g.first, g.size) r e).1,
  )
  owned_word first_id slot (taken g l) a r ok e = absurd (none-some r e)
  owned_word first_id slot (retired f) a r ok e = absurd (none-some r e)

module _ {T E : Type 0} (log : T → List E) (first_id : T → ℕ) (rec : E → Option Receipt) where
  -- a slot has at most one Spot, one Hold and one Owner
  pub one_holder : OneHolder log first_id rec
  one_holder = (
    (λ sizes s slot a b v w r q kept low at there e h.
        let k = kept.at.1 slot (subst (λ (z : ℕ). slot < z) (sym kept.at.0) low) in one_spot k.0 a b r q (sym (k.1.fits a v at).spot ∙ e) (sym (k.1.fits b w there).spot ∙ h)),
    (λ sizes s slot a b v w r q kept low at there e h.
        let k = kept.at.1 slot (subst (λ (z : ℕ). slot < z) (sym kept.at.0) low) in one_hold k.0 a b r q (sym (k.1.fits a v at).hold ∙ e) (sym (k.1.fits b w there).hold ∙ h)),
    (λ sizes s slot a b v w r q kept low at there e h.
        let k = kept.at.1 slot (subst (λ (z : ℕ). slot < z) (sym kept.at.0) low) in one_owner k.0 a b r q (sym (k.1.fits a v at).owner ∙ e) (sym (k.1.fits b w there).owner ∙ h)),
  )

  -- an owned slot isn't vacant
  pub owned_slots_stay : OwnedSlotsStay log first_id rec
  owned_slots_stay sizes s slot a word v r kept low at has is =
      let k = kept.at.1 slot (subst (λ (z : ℕ). slot < z) (sym kept.at.0) low) in
      let same : slot_word k.0 ≡ word = some-injective (slot_word k.0) word (sym k.1.word ∙ is) in
      subst (λ (z : ℕ). (code_in z ≢ 0) × (first_in z ≡ r.0)) same (owned_word first_id slot k.0 a r k.1.sound (sym (k.1.fits a v at).owner ∙ has))
