-- The first element that passes a test: where it stands, what it is, and the list with it changed.
use Rattle.std.proofs.Common.{◌≡◌, ℕ, zero, suc, ◌+◌, ◌<◌, ◌≤◌, Bool, true, false, not, cond, List, [], ◌∷◌, length, get_or, set, find, position, Some, None, arith, ap, refl, subst}
use Rattle.std.specs.List.{position_or_len, prefix_len}
use Rattle.std.proofs.lemmas.List.Sums.{fails_before_first, passes_at_first}
use Rattle.rpc_model.specs.Told.{change_first}

-- no element passes
pub position_none : {X : Type 0} (t : X → Bool) (xs : List X) → position t xs ≡ None → length xs ≤ position_or_len t xs
position_none t xs e = grind arith

-- the element at this place is the first that passes
pub position_some : {X : Type 0} (t : X → Bool) (xs : List X) (i : ℕ) → position t xs ≡ Some i → (position_or_len t xs ≡ i) × (i < length xs)
position_some t xs i e = grind arith

pub change_first-none : {X : Type 0} (t : X → Bool) (f : X → X) (xs : List X) → length xs ≤ position_or_len t xs → change_first t f xs ≡ xs
change_first-none t f [] h = refl
change_first-none t f (x ∷ xs) h =
    elim (t x) as (λ b. t x ≡ b → cond b (f x ∷ xs) (x ∷ change_first t f xs) ≡ x ∷ xs) [
      | true ↦ λ e. absurd (omega (arith, ap (λ b. cond (not b) (1 + prefix_len (λ y. not (t y)) xs) 0) e))
      | false ↦ λ e. ap (λ ys. x ∷ ys) (change_first-none t f xs (omega (arith, ap (λ b. cond (not b) (1 + prefix_len (λ y. not (t y)) xs) 0) e)))
    ] refl

pub find-none : {X : Type 0} (t : X → Bool) (xs : List X) → length xs ≤ position_or_len t xs → find t xs ≡ None
find-none t [] h = refl
find-none t (x ∷ xs) h =
    elim (t x) as (λ b. t x ≡ b → cond b (Some x) (find t xs) ≡ None) [
      | true ↦ λ e. absurd (omega (arith, ap (λ b. cond (not b) (1 + prefix_len (λ y. not (t y)) xs) 0) e))
      | false ↦ λ e. find-none t xs (omega (arith, ap (λ b. cond (not b) (1 + prefix_len (λ y. not (t y)) xs) 0) e))
    ] refl

pub change_first-at : {X : Type 0} (t : X → Bool) (f : X → X) (xs : List X) (i : ℕ) (d : X) → i < length xs → ((k : ℕ) → k < i → t (get_or xs k d) ≡ false) → t (get_or xs i d) ≡ true
    → change_first t f xs ≡ set xs i (f (get_or xs i d))
change_first-at t f [] i d h before here = absurd (omega arith)
change_first-at t f (x ∷ xs) zero d h before here = rw here
change_first-at t f (x ∷ xs) (suc i) d h before here =
    let e : t x ≡ false = before 0 (omega arith) in
    rw e (ap (λ ys. x ∷ ys) (change_first-at t f xs i d (omega arith) (λ k less. before (suc k) (omega arith)) here))

pub find-at : {X : Type 0} (t : X → Bool) (xs : List X) (i : ℕ) (d : X) → i < length xs → ((k : ℕ) → k < i → t (get_or xs k d) ≡ false) → t (get_or xs i d) ≡ true
    → find t xs ≡ Some (get_or xs i d)
find-at t [] i d h before here = absurd (omega arith)
find-at t (x ∷ xs) zero d h before here = rw here
find-at t (x ∷ xs) (suc i) d h before here =
    let e : t x ≡ false = before 0 (omega arith) in
    rw e (find-at t xs i d (omega arith) (λ k less. before (suc k) (omega arith)) here)

-- The first that passes, at its place.
pub changed : {X : Type 0} (t : X → Bool) (f : X → X) (xs : List X) (i : ℕ) (d : X) → position t xs ≡ Some i → change_first t f xs ≡ set xs i (f (get_or xs i d))
changed t f xs i d e =
    let p = position_some t xs i e in
    change_first-at t f xs i d p.1 (λ k less. fails_before_first t xs k d (omega (arith, p.0))) (subst (λ (n : ℕ). t (get_or xs n d) ≡ true) p.0 (passes_at_first t xs d (omega (arith, p.0, p.1))))

pub found : {X : Type 0} (t : X → Bool) (xs : List X) (i : ℕ) (d : X) → position t xs ≡ Some i → find t xs ≡ Some (get_or xs i d)
found t xs i d e =
    let p = position_some t xs i e in
    find-at t xs i d p.1 (λ k less. fails_before_first t xs k d (omega (arith, p.0))) (subst (λ (n : ℕ). t (get_or xs n d) ≡ true) p.0 (passes_at_first t xs d (omega (arith, p.0, p.1))))

pub unchanged : {X : Type 0} (t : X → Bool) (f : X → X) (xs : List X) → position t xs ≡ None → change_first t f xs ≡ xs
unchanged t f xs e = change_first-none t f xs (position_none t xs e)

pub unfound : {X : Type 0} (t : X → Bool) (xs : List X) → position t xs ≡ None → find t xs ≡ None
unfound t xs e = find-none t xs (position_none t xs e)
