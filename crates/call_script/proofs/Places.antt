-- What the tree beside a list finds, and what it finds after one more.
use Rattle.std.proofs.Common.{◌≡◌, ℕ, ◌<◌, ◌==◌, Bool, true, false, cond, List, [], ◌∷◌, ◌++◌, length, length-append, position, find, get_or, Option, Some, None, arith, ap, sym, ◌∙◌, refl, subst}
use Rattle.std.proofs.Common.{nat_cmp, nat_eq, nat_lt, map, bytes_eq, inl, inr, ◌⊎◌}
use Rattle.std.proofs.lemmas.List.{length-map}
use Rattle.std.specs.List.{position_or_len}
use Rattle.std.specs.Option.{option_map, IfSome}
use Rattle.std.specs.Global.{Vec}
use Rattle.std.specs.Ordering.{is_eq}
use Rattle.std.specs.Cmp.{eq_by_cmp_equiv}
use Rattle.std.specs.Cmp.Lexicographic.{slice_cmp, nat_list_cmp_total, nat_list_eq_equiv}
use Rattle.std.specs.Map.{lookup, IsKeyTest, AreApart, KeepsOthers}
use Rattle.std.specs.BTreeMap.{BTreeMap, get_by, Updates}
use Rattle.std.proofs.lemmas.Bool.Decides.{nat_tests}
use Rattle.std.proofs.lemmas.Bool.{cases_Bool, cond-true, cond-false}
use Rattle.std.proofs.lemmas.Option.{none-some}
use Rattle.std.proofs.lemmas.Slice.Eq.{bytes_eq-Decides}
use Rattle.std.proofs.lemmas.List.Folds.{position_or_len_push}
use Rattle.std.proofs.lemmas.List.Sums.{prefix_len-le-length}
use Rattle.std.proofs.lemmas.Map.Text.{is_eq-slice_cmp}
use Rattle.rpc_model.specs.Words.{index_of}
use Rattle.rpc_model.proofs.First.{position_some, found, unfound}
use Rattle.call_script.specs.Places.{FindsNames, AreNumbers}

-- The place of the first that passes, after one more that passes only where none does.
position_push : {X : Type 0} (p : X → Bool) (xs : List X) (y : X) → (p y ≡ true → position p xs ≡ None) → position p (xs ++ y ∷ []) ≡ cond (p y) (Some (length xs)) (position p xs)
position_push p xs y alone = grind (arith, position_or_len_push, prefix_len-le-length, length-append)

-- The place of the first that passes is in the list.
pub found_below : {X : Type 0} (p : X → Bool) (xs : List X) (o : Option ℕ) → o ≡ position p xs → IfSome o (λ at. at < length xs)
found_below p xs None e = tt
found_below p xs (Some at) e = (position_some p xs at (sym e)).1

-- Where the search finds no call of a number, none has it.
no_call : (calls : List (ℕ × ℕ)) (number : ℕ) → option_map (λ c. c.1) (find (λ c. c.0 == number) calls) ≡ None → position (λ c. c.0 == number) calls ≡ None
no_call calls number none = at (position (λ c. c.0 == number) calls) refl
  where
    at : (o : Option ℕ) → position (λ c. c.0 == number) calls ≡ o → o ≡ None
    at None e = refl
    at (Some i) e = absurd (none-some (get_or calls i (0, 0)).1 (sym none ∙ ap (option_map (λ c. c.1)) (found (λ c. c.0 == number) calls i (0, 0) e)))

-- The channel of a call that is found nowhere, and of one that is found at a place.
pub no_chan : (calls : List (ℕ × ℕ)) (number : ℕ) → None ≡ position (λ c. c.0 == number) calls → option_map (λ c. c.1) (find (λ c. c.0 == number) calls) ≡ None
no_chan calls number e = ap (option_map (λ c. c.1)) (unfound (λ c. c.0 == number) calls (sym e))

pub chan_at : (calls : List (ℕ × ℕ)) (number i : ℕ) (call : ℕ × ℕ) → Some i ≡ position (λ c. c.0 == number) calls → call ≡ get_or calls i call
    → option_map (λ c. c.1) (find (λ c. c.0 == number) calls) ≡ Some call.1
chan_at calls number i call e is = ap (option_map (λ c. c.1)) (found (λ c. c.0 == number) calls i call (sym e) ∙ ap (λ c. Some c) (sym is))

-- The place of a number among the numbers is that of its call.
place-or-len : (calls : List (ℕ × ℕ)) (number : ℕ) → position_or_len (nat_eq number) (map (λ c. c.0) calls) ≡ position_or_len (λ c. c.0 == number) calls
place-or-len [] number = refl
place-or-len (c ∷ calls) number = at (cases_Bool (nat_eq number c.0)) (place-or-len calls number)
  where
    turned : (b : Bool) → nat_eq number c.0 ≡ b → (c.0 == number) ≡ b
    turned true e = grind (arith, nat_tests)
    turned false e = grind (arith, nat_tests)

    at : ((nat_eq number c.0 ≡ true) ⊎ (nat_eq number c.0 ≡ false)) → position_or_len (nat_eq number) (map (λ c. c.0) calls) ≡ position_or_len (λ c. c.0 == number) calls
        → position_or_len (nat_eq number) (map (λ c. c.0) (c ∷ calls)) ≡ position_or_len (λ c. c.0 == number) (c ∷ calls)
    at (inl same) next = let other = turned true same in grind arith
    at (inr differs) next = let other = turned false differs in grind arith

pub place_is : (calls : List (ℕ × ℕ)) (number : ℕ) → position (nat_eq number) (map (λ c. c.0) calls) ≡ position (λ c. c.0 == number) calls
place_is calls number =
    ap (λ n. cond (nat_lt n (length (map (λ c. c.0) calls))) (Some n) None) (place-or-len calls number)
    ∙ ap (λ n. cond (nat_lt (position_or_len (λ c. c.0 == number) calls) n) (Some (position_or_len (λ c. c.0 == number) calls)) None) (length-map calls (λ c. c.0))

-- A number of no call is none of the numbers.
pub new_number : (numbers : List ℕ) (calls : List (ℕ × ℕ)) (number : ℕ) → AreNumbers numbers calls → option_map (λ c. c.1) (find (λ c. c.0 == number) calls) ≡ None
    → position (nat_eq number) numbers ≡ None
new_number numbers calls number are none = ap (position (nat_eq number)) are ∙ place_is calls number ∙ no_call calls number none

-- The place that the numbers give is that of the call.
pub found_place : (numbers : List ℕ) (calls : List (ℕ × ℕ)) (number : ℕ) (o : Option ℕ) → AreNumbers numbers calls → o ≡ position (nat_eq number) numbers → o ≡ position (λ c. c.0 == number) calls
found_place numbers calls number o are is = is ∙ ap (position (nat_eq number)) are ∙ place_is calls number

-- A change at one key leaves what a search for others finds.
other_entries : {K X : Type 0} (eq : K → K → Bool) (test : K → Bool) (old new : List (K × X)) → KeepsOthers eq test old new → (other : K → Bool)
    → IsKeyTest eq other → AreApart test other → lookup other new ≡ lookup other old
unfolding KeepsOthers
other_entries eq test old new keeps = keeps

-- One more name.
finds_key : (old new : BTreeMap (Vec ℕ) ℕ) (names : List (List ℕ)) (key : Vec ℕ) → FindsNames old names → index_of names key.items ≡ None
    → Updates (λ x y. slice_cmp nat_cmp x.items y.items) old new key (Some (length names)) → FindsNames new (names ++ key.items ∷ [])
finds_key old new names key finds none updates name =
    at (cases_Bool (bytes_eq key.items name))
    ∙ sym (position_push (λ n. bytes_eq n name) names key.items (λ same. subst (λ n. index_of names n ≡ None) ((bytes_eq-Decides key.items name).0 same) none))
  where
    apart : (k : List ℕ) → bytes_eq key.items name ≡ false → is_eq (slice_cmp nat_cmp key.items k) ≡ true → is_eq (slice_cmp nat_cmp name k) ≡ false
    apart k differs same = is_eq-slice_cmp name k ∙ nat_list_eq_equiv.symm name k ∙ sym (nat_list_eq_equiv.congr key.items k name (sym (is_eq-slice_cmp key.items k) ∙ same)) ∙ differs

    at : ((bytes_eq key.items name ≡ true) ⊎ (bytes_eq key.items name ≡ false))
        → get_by (λ k. slice_cmp nat_cmp name k.items) new ≡ cond (bytes_eq key.items name) (Some (length names)) (index_of names name)
    at (inl same) = subst (λ n. get_by (λ k. slice_cmp nat_cmp n k.items) new ≡ Some (length names)) ((bytes_eq-Decides key.items name).0 same) updates.1
        ∙ sym (cond-true (bytes_eq key.items name) (Some (length names)) (index_of names name) same)
    at (inr differs) =
        other_entries _ _ _ _ updates.3 (λ k. is_eq (slice_cmp nat_cmp name k.items)) (λ x y. (eq_by_cmp_equiv nat_list_cmp_total).congr name x.items y.items) (λ k. apart k.items differs)
        ∙ finds name ∙ sym (cond-false (bytes_eq key.items name) (Some (length names)) (index_of names name) differs)

pub finds_name : (old new : BTreeMap (Vec ℕ) ℕ) (names : List (List ℕ)) (key : Vec ℕ) (name : List ℕ) → key.items ≡ name → FindsNames old names → index_of names name ≡ None
    → Updates (λ x y. slice_cmp nat_cmp x.items y.items) old new key (Some (length names)) → FindsNames new (names ++ name ∷ [])
finds_name old new names key name same finds none updates =
    subst (λ n. FindsNames new (names ++ n ∷ [])) same (finds_key old new names key finds (subst (λ n. index_of names n ≡ None) (sym same) none) updates)
