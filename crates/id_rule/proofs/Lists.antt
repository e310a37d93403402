-- Lists, views and words, when one of them changes.
use Rattle.std.proofs.Common.{⊎_elim, inl, inr, ◌⊎◌, ◌≡◌, ◌≢◌, ℕ, zero, suc, ◌<◌, eq-eqb, ne_eqb, List, [], ◌∷◌, ◌++◌, length, set, refl, sym, ap}
use Rattle.std.proofs.Common.{◌∙◌, subst, arith}
use Rattle.std.specs.Prelude.{◌==◌, if◌then◌else◌, slice_index}
use Rattle.id_rule.specs.declared.view.Receipt.{Receipt}
use mathlib.Core.Option.{some, some-injective, some-ne-none}
use lib.ListN.{get_elem?}
use Rattle.atomic_table.proofs.Lists.{at_set}
use Rattle.rpc_model.specs.Gone.{code_in, range_in, first_in}
use Rattle.id_rule.specs.Words.{packed_word}
use Rattle.id_rule.specs.Parts.{HasNumber, part_at, AreAll}
use Rattle.id_rule.specs.declared.view.Part.{Part}
use Rattle.id_rule.specs.declared.view.View.{View}

module _ {A : Type 0} where
  -- an element that is there can be replaced
  pub set_there : (l : List A) (i : ℕ) (a b : A) → get_elem? l i ≡ some a → get_elem? (set l i b) i ≡ some b
  set_there [] i a b e = absurd (some-ne-none a (sym e))
  set_there (x ∷ xs) zero a b e = refl
  set_there (x ∷ xs) (suc i) a b e = set_there xs i a b e

  -- what was put into a list stands there
  pub set_stands : (l : List A) (i : ℕ) (b : A) → i < length l → get_elem? (set l i b) i ≡ some b
  set_stands [] i b less = absurd (omega (arith, less))
  set_stands (x ∷ xs) zero b less = refl
  set_stands (x ∷ xs) (suc i) b less = set_stands xs i b (omega (arith, less))

  -- what stands in a list stands below its length
  pub there_below : (l : List A) (i : ℕ) (a : A) → get_elem? l i ≡ some a → i < length l
  there_below [] i a e = absurd (some-ne-none a (sym e))
  there_below (x ∷ xs) zero a e = omega arith
  there_below (x ∷ xs) (suc i) a e = let h = there_below xs i a e in omega arith

  -- what stands in a list with one more at its end
  pub at_end : (l : List A) (a b : A) (j : ℕ) → get_elem? (l ++ a ∷ []) j ≡ some b → (get_elem? l j ≡ some b) ⊎ ((j ≡ length l) × (a ≡ b))
  at_end [] a b zero e = inr (refl, some-injective a b e)
  at_end [] a b (suc j) e = absurd (some-ne-none b (sym e))
  at_end (x ∷ xs) a b zero e = inl e
  at_end (x ∷ xs) a b (suc j) e = ⊎_elim inl (λ t. inr (ap suc t.0, t.1)) (at_end xs a b j e)

-- reading a list by index gives what stands there
pub index_is : (l : List ℕ) (i n : ℕ) → get_elem? l i ≡ some n → slice_index l i ≡ n
index_is [] i n e = absurd (some-ne-none n (sym e))
index_is (x ∷ xs) zero n e = some-injective x n e
index_is (x ∷ xs) (suc i) n e = index_is xs i n e

module _ {E : Type 0} where
  -- the part that was put in last is the slot's
  pub part_here : (ps : List (ℕ × Part E)) (i : ℕ) (p : Part E) → part_at ((i, p) ∷ ps) i ≡ p
  part_here ps i p = ap (λ b. if b then p else part_at ps i) (eq-eqb i i refl)

  -- the parts of other slots stay
  pub part_else : (ps : List (ℕ × Part E)) (i j : ℕ) (p : Part E) → j ≢ i → part_at ((i, p) ∷ ps) j ≡ part_at ps j
  part_else ps i j p ne = ap (λ b. if b then p else part_at ps j) (ne_eqb i j (λ e. ne (sym e)))

-- each view after one view changed
pub views_after : {E : Type 0} (vs : List (View E)) (id : ℕ) (w : View E) (P : ℕ → View E → Type 0) → P id w → ((by : ℕ) (u : View E) → by ≢ id → get_elem? vs by ≡ some u → P by u)
    → (by : ℕ) (u : View E) → get_elem? (set vs id w) by ≡ some u → P by u
views_after {E} vs id w P mine others by u e = ⊎_elim
    (λ (t : (by ≡ id) × (w ≡ u)). subst (λ (z : ℕ × View E). P z.0 z.1) (λ y. (sym t.0 y, t.1 y)) mine)
    (λ t. others by u t.0 t.1)
    (at_set vs id by w u e)

-- the holder of a number in a view's list is its seat
pub holds_it : (a count id : ℕ) (holder : ℕ → ℕ) (ns : List ℕ) → HasNumber a ns → AreAll (λ n. (n < count) × (holder n ≡ id)) ns → holder a ≡ id
holds_it a count id holder [] has all = absurd has
holds_it a count id holder (n ∷ ns) has all = ⊎_elim (λ e. ap holder (sym e) ∙ all.0.1) (λ t. holds_it a count id holder ns t all.1) has

-- a number in a view's list was handed out
pub below_it : (a count id : ℕ) (holder : ℕ → ℕ) (ns : List ℕ) → HasNumber a ns → AreAll (λ n. (n < count) × (holder n ≡ id)) ns → a < count
below_it a count id holder [] has all = absurd has
below_it a count id holder (n ∷ ns) has all = ⊎_elim (λ e. subst (λ (z : ℕ). z < count) e all.0.0) (λ t. below_it a count id holder ns t all.1) has

-- what follows for each element holds of the list
pub all_map : {X : Type 0} (P Q : X → Type 0) (xs : List X) → ((x : X) → P x → Q x) → AreAll P xs → AreAll Q xs
all_map {X} P Q [] f a = tt
all_map {X} P Q (x ∷ xs) f a = (f x a.0, all_map P Q xs f a.1)

-- the code of a word that was put together
pub code_is : (f r c h : ℕ) → r < 2048 → c < 8 → h < 65536 → code_in (packed_word f r c h) ≡ c
code_is f r c h a b d = omega arith

-- the first version of a word that was put together
pub first_is : (f r c h : ℕ) → f < 4294967296 → r < 2048 → c < 8 → h < 65536 → first_in (packed_word f r c h) ≡ f
first_is f r c h z a b d = omega arith

-- the size of the range of a word that was put together
pub range_is : (f r c h : ℕ) → r < 2048 → c < 8 → h < 65536 → range_in (packed_word f r c h) ≡ r
range_is f r c h a b d = omega arith

-- a choice by two equal numbers, and by two that differ
pub yes_if : {A : Type 0} (n m : ℕ) (a b : A) → n ≡ m → (if n == m then a else b) ≡ a
yes_if n m a b e = ap (λ c. if c then a else b) (eq-eqb n m e)

-- a choice whose seats differ
pub no_if : {A : Type 0} (n m : ℕ) (a b : A) → n ≢ m → (if n == m then a else b) ≡ b
no_if n m a b ne = ap (λ c. if c then a else b) (ne_eqb n m ne)

-- no receipts
abbrev pub bare : List Receipt
bare = []
