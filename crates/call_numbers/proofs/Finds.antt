-- What is found after one more number.
use Rattle.std.proofs.Common.{◌≡◌, ℕ, ◌-◌, ◌≤◌, zero, suc, nat_eq, Bool, true, false, cond, ◌||◌, List, [], ◌∷◌, ◌++◌, length, length-append, position, Some, None, arith, ap, sym, ◌∙◌, refl}
use Rattle.std.proofs.Common.{nat_cmp, inl, inr, ◌⊎◌}
use Rattle.std.specs.List.{IsDistinct, list_any, position_or_len}
use Rattle.std.specs.Cmp.{unsigned_ties, nat_eq_equiv}
use Rattle.std.specs.Map.{lookup}
use Rattle.std.specs.BTreeMap.{BTreeMap, get, Updates}
use Rattle.std.proofs.lemmas.Bool.{cases_Bool, eqb-true}
use Rattle.std.proofs.lemmas.Bool.Decides.{nat_tests}
use Rattle.std.proofs.lemmas.List.Folds.{position_or_len_push}
use Rattle.std.proofs.lemmas.List.Sums.{prefix_len-le-length}
use Rattle.std.proofs.lemmas.Map.Keys.{IsDistinct-push}
use Rattle.rpc_model.proofs.First.{position_none}
use Rattle.call_numbers.specs.Found.{guess, follows, stands, found, AreFound}

-- Tests of equal and of different numbers.
same-eq : (a b : ℕ) → a ≡ b → nat_eq a b ≡ true
same-eq a b e = grind (arith, nat_tests)

turned : (x y : ℕ) → nat_eq y x ≡ false → nat_eq x y ≡ false
turned x y differs = grind (arith, nat_tests)

true-false : true ≡ false → ⊥
true-false e = absurd cc

some-none : {X : Type 0} {x : X} → Some x ≡ None → ⊥
some-none e = absurd cc

-- The place of the first that passes, after one more that passes only where none does.
position_push : (p : ℕ → Bool) (xs : List ℕ) (y : ℕ) → (p y ≡ true → position p xs ≡ None) → position p (xs ++ y ∷ []) ≡ cond (p y) (Some (length xs)) (position p xs)
position_push p xs y alone = grind (arith, position_or_len_push, prefix_len-le-length, length-append)

-- Elsewhere than behind the last one stands what stood there.
stands-elsewhere : (xs : List ℕ) (x number place : ℕ) → (place ≡ length xs → ⊥) → stands (xs ++ x ∷ []) number place ≡ stands xs number place
stands-elsewhere [] x number zero other = absurd (other refl)
stands-elsewhere [] x number (suc place) other = refl
stands-elsewhere (y ∷ xs) x number zero other = refl
stands-elsewhere (y ∷ xs) x number (suc place) other = stands-elsewhere xs x number place (λ e. other (ap suc e))

-- Behind the last one stands the new one, and stood none.
stands-last : (xs : List ℕ) (x number : ℕ) → stands (xs ++ x ∷ []) number (length xs) ≡ nat_eq number x
stands-last [] x number = refl
stands-last (y ∷ xs) x number = stands-last xs x number

stands-none : (xs : List ℕ) (number : ℕ) → stands xs number (length xs) ≡ false
stands-none [] number = refl
stands-none (y ∷ xs) number = stands-none xs number

-- Where the new one is another number, what stands at a place is the same as before.
stands-same : (xs : List ℕ) (x number place : ℕ) → nat_eq number x ≡ false → stands (xs ++ x ∷ []) number place ≡ stands xs number place
stands-same xs x number place differs = at (cases_Bool (nat_eq place (length xs)))
  where
    at : ((nat_eq place (length xs) ≡ true) ⊎ (nat_eq place (length xs) ≡ false)) → stands (xs ++ x ∷ []) number place ≡ stands xs number place
    at (inl same) =
        let e = eqb-true place (length xs) same in
        ap (stands (xs ++ x ∷ []) number) e ∙ stands-last xs x number ∙ differs ∙ sym (stands-none xs number) ∙ ap (stands xs number) (sym e)
    at (inr other) = stands-elsewhere xs x number place (λ e. true-false (sym (same-eq place (length xs) e) ∙ other))

-- Another number is found as before.
other-found : (old new : BTreeMap ℕ ℕ) (xs : List ℕ) (x y : ℕ) → nat_eq y x ≡ false → get nat_cmp new y ≡ get nat_cmp old y → found new (xs ++ x ∷ []) y ≡ found old xs y
other-found old new [] x y differs same = ap (λ b. cond b (Some (y - x)) (get nat_cmp new y)) (stands-same [] x y (y - x) differs) ∙ same
other-found old new (z ∷ zs) x y differs same =
    ap (λ b. cond b (Some (y - z)) (get nat_cmp new y)) (stands-same (z ∷ zs) x y (y - z) differs) ∙ ap (cond (stands (z ∷ zs) y (y - z)) (Some (y - z))) same

-- Behind others a number follows where its own place is behind the last.
follows-some : (z : ℕ) (zs : List ℕ) (x : ℕ) → follows (z ∷ zs) x ≡ nat_eq (x - z) (length (z ∷ zs))
follows-some z zs x = ap (λ b. b || nat_eq (x - z) (length (z ∷ zs))) (none-none (length zs))
  where
    none-none : (n : ℕ) → nat_eq (suc n) 0 ≡ false
    none-none n = grind (arith, nat_tests)

-- The new one is found where all follow each other.
found-at : (places : BTreeMap ℕ ℕ) (xs : List ℕ) (x at : ℕ) → at ≡ length xs → cond (stands (xs ++ x ∷ []) x at) (Some at) (get nat_cmp places x) ≡ Some (length xs)
found-at places xs x at e =
    ap (λ k. cond (stands (xs ++ x ∷ []) x k) (Some k) (get nat_cmp places x)) e
    ∙ ap (λ b. cond b (Some (length xs)) (get nat_cmp places x)) (stands-last xs x x ∙ same-eq x x refl)

new-follows : (places : BTreeMap ℕ ℕ) (xs : List ℕ) (x : ℕ) → follows xs x ≡ true → found places (xs ++ x ∷ []) x ≡ Some (length xs)
new-follows places [] x h = found-at places [] x (x - x) (omega arith)
new-follows places (z ∷ zs) x h = found-at places (z ∷ zs) x (x - z) (eqb-true (x - z) (length (z ∷ zs)) (sym (follows-some z zs x) ∙ h))

-- The new one is found by the tree elsewhere, since it stands nowhere yet.
stands-nowhere : (places : BTreeMap ℕ ℕ) (xs : List ℕ) (x : ℕ) (b : Bool) → stands xs x (guess xs x) ≡ b → found places xs x ≡ None → b ≡ false
stands-nowhere places xs x true e none = absurd (some-none (sym (ap (λ c. cond c (Some (guess xs x)) (get nat_cmp places x)) e) ∙ none))
stands-nowhere places xs x false e none = refl

new-placed : (old new : BTreeMap ℕ ℕ) (xs : List ℕ) (x : ℕ) → follows xs x ≡ false → found old xs x ≡ None → get nat_cmp new x ≡ Some (length xs) → found new (xs ++ x ∷ []) x ≡ Some (length xs)
new-placed old new [] x other none is = absurd (true-false other)
new-placed old new (z ∷ zs) x other none is =
    ap (λ b. cond b (Some (x - z)) (get nat_cmp new x))
    (stands-elsewhere (z ∷ zs) x x (x - z) (λ e. true-false (sym (same-eq (x - z) (length (z ∷ zs)) e) ∙ (sym (follows-some z zs x) ∙ other)))
    ∙ stands-nowhere old (z ∷ zs) x (stands (z ∷ zs) x (x - z)) refl none) ∙ is

-- No number passes a test that has no place.
none-passes : (p : ℕ → Bool) (xs : List ℕ) → length xs ≤ position_or_len p xs → list_any p xs ≡ false
none-passes p [] h = refl
none-passes p (x ∷ xs) h = at (p x) refl (none-passes p xs)
  where
    at : (b : Bool) → p x ≡ b → (length xs ≤ position_or_len p xs → list_any p xs ≡ false) → list_any p (x ∷ xs) ≡ false
    at true e next = absurd (let z : position_or_len p (x ∷ xs) ≡ 0 = grind arith in omega (arith, h, z))
    at false e next = let z : position_or_len p (x ∷ xs) ≡ suc (position_or_len p xs) = grind arith in ap (λ b. b || list_any p xs) e ∙ next (omega (arith, h, z))

once-more : (xs : List ℕ) (x : ℕ) → position (nat_eq x) xs ≡ None → IsDistinct nat_eq xs → IsDistinct nat_eq (xs ++ x ∷ [])
once-more xs x none once = IsDistinct-push nat_eq_equiv xs x once (none-passes (nat_eq x) xs (position_none (nat_eq x) xs none))

-- All are found after one more, if it is and the others are found as before.
more : (old new : BTreeMap ℕ ℕ) (xs : List ℕ) (x : ℕ) → AreFound old xs → position (nat_eq x) xs ≡ None → ((y : ℕ) → nat_eq y x ≡ false → get nat_cmp new y ≡ get nat_cmp old y)
    → found new (xs ++ x ∷ []) x ≡ Some (length xs) → AreFound new (xs ++ x ∷ [])
more old new xs x h none others here = record { finds = λ y. at y (cases_Bool (nat_eq y x)); once = once-more xs x none h.once }
  where
    at : (y : ℕ) → ((nat_eq y x ≡ true) ⊎ (nat_eq y x ≡ false)) → found new (xs ++ x ∷ []) y ≡ position (nat_eq y) (xs ++ x ∷ [])
    at y (inl same) =
        let e = eqb-true y x same in
        ap (found new (xs ++ x ∷ [])) e ∙ here
        ∙ sym (ap (λ n. position (nat_eq n) (xs ++ x ∷ [])) e ∙ position_push (nat_eq x) xs x (λ _. none) ∙ ap (λ b. cond b (Some (length xs)) (position (nat_eq x) xs)) (same-eq x x refl))
    at y (inr differs) =
        other-found old new xs x y differs (others y differs) ∙ h.finds y
        ∙ sym (position_push (nat_eq y) xs x (λ same. absurd (true-false (sym same ∙ differs))) ∙ ap (λ b. cond b (Some (length xs)) (position (nat_eq y) xs)) differs)

-- One more that follows the others.
pub one_follows : (places : BTreeMap ℕ ℕ) (xs : List ℕ) (x : ℕ) → AreFound places xs → position (nat_eq x) xs ≡ None → follows xs x ≡ true → AreFound places (xs ++ x ∷ [])
one_follows places xs x h none here = more places places xs x h none (λ y differs. refl) (new-follows places xs x here)

-- One more that doesn't, and goes into the tree.
pub one_placed : (old new : BTreeMap ℕ ℕ) (xs : List ℕ) (x : ℕ) → AreFound old xs → position (nat_eq x) xs ≡ None → follows xs x ≡ false → Updates nat_cmp old new x (Some (length xs))
    → AreFound new (xs ++ x ∷ [])
one_placed old new xs x h none other updates =
    more old new xs x h none (λ y differs. looked y ∙ ap (λ b. cond b (Some (length xs)) (get nat_cmp old y)) (turned x y differs))
    (new-placed old new xs x other (h.finds x ∙ none) (looked x ∙ ap (λ b. cond b (Some (length xs)) (get nat_cmp old x)) (same-eq x x refl)))
  where
    looked : (y : ℕ) → get nat_cmp new y ≡ cond (nat_eq x y) (Some (length xs)) (get nat_cmp old y)
    looked y = updates.0 y ∙ ap (λ b. cond b (Some (length xs)) (get nat_cmp old y)) (sym (unsigned_ties x y))

-- No number, no place.
pub none_found : (places : BTreeMap ℕ ℕ) → places.entries ≡ [] → AreFound places []
unfolding IsDistinct
none_found places empty = record { finds = λ y. ap (lookup _) empty; once = tt }
