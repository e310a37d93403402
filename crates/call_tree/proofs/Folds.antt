-- One sub more in the merging of a parallel node.
use Rattle.std.proofs.Common.{◌≡◌, ℕ, zero, suc, ◌+◌, ◌<◌, ◌≤◌, Bool, true, false, cond, ◌==◌, nat_lt, List, [], ◌∷◌, length, get_or, drop, set, Option, Some, None, unwrap_or, arith, refl}
use Rattle.std.proofs.Common.{ap, sym, ◌∙◌, subst, add-one, slice_get}
use Rattle.std.proofs.Math.Seq.{drop-cons}
use Rattle.std.proofs.lemmas.Bool.Decides.{nat_tests}
use Rattle.rpc_model.specs.declared.codes.TheConstants.{ETOOMANYFAILS, ERESPONSE}
use Rattle.rpc_model.specs.declared.event.End.{End}
use Rattle.rpc_model.specs.declared.event.End.TheVariants.{Good, Bad}
use Rattle.rpc_model.specs.declared.merger.Merged.{Merged}
use Rattle.rpc_model.specs.declared.merger.Merged.TheVariants as answer
use Rattle.rpc_model.specs.declared.merger.Verdict.{Verdict}
use Rattle.rpc_model.specs.declared.merger.Verdict.TheVariants as verdict
use Rattle.rpc_model.specs.Kinds.{merged_into}
use Rattle.rpc_model.specs.Parallel.{fold_from, fold_on, parts_from}
use Rattle.rpc_model.specs.State.{State, end_of, ends_of}
use Rattle.call_tree.specs.Shown.{states_of}
use Rattle.call_tree.proofs.Leaves.{same-number}
use Rattle.call_tree.specs.Folding.{with_last, or_end, text_in, merged_with}

-- what comes after a sub was merged
abbrev pub fold_after : (Option (List ℕ) → ℕ → End) → ℕ → ℕ → Option (List ℕ) → Verdict → End
fold_after next fails limit so_far verdict.Taken = next so_far fails
fold_after next fails limit so_far verdict.Fail = if_limit
  where
    if_limit : End
    if_limit = cond (fails + 1 == limit) (Bad ETOOMANYFAILS) (next so_far (fails + 1))
fold_after next fails limit so_far verdict.FailAll = Bad ERESPONSE

abbrev pub folded_pair : (Option (List ℕ) → ℕ → End) → ℕ → ℕ → Option (List ℕ) × Verdict → End
folded_pair next fails limit (so_far, verdict) = fold_after next fails limit so_far verdict

on-answer : (next : Option (List ℕ) → ℕ → End) (so_far : Option (List ℕ)) (fails limit : ℕ) (m : Merged) → fold_on next so_far fails limit m ≡ folded_pair next fails limit (merged_into so_far m)
on-answer next so_far fails limit (answer.Merged text) = refl
on-answer next so_far fails limit answer.Fail = refl
on-answer next so_far fails limit answer.FailAll = refl

pub other-number : (a b : ℕ) → (a ≡ b → ⊥) → (a == b) ≡ false
other-number a b differ = by (a == b) refl
  where
    by : (v : Bool) → (a == b) ≡ v → (a == b) ≡ false
    by true e = absurd (differ (grind (arith, nat_tests)))
    by false e = e

pub less-next : (a b : ℕ) → a < b → (a + 1 ≡ b → ⊥) → a + 1 < b
less-next a b less differ = by (nat_lt (a + 1) b) refl
  where
    by : (v : Bool) → nat_lt (a + 1) b ≡ v → a + 1 < b
    by true e = grind (arith, nat_tests)
    by false e = absurd (differ (grind (arith, nat_tests)))

-- what follows of a verdict
pub record IsTurn (next : Option (List ℕ) → ℕ → End) (fails limit : ℕ) (now : Option (List ℕ)) (v : Verdict) (all : End) : Type 0 where
  pub fail_all : v ≡ verdict.FailAll → Bad ERESPONSE ≡ all
  pub fail_last : v ≡ verdict.Fail → fails + 1 ≡ limit → Bad ETOOMANYFAILS ≡ all
  pub fail_on : (n : ℕ) → n ≡ fails + 1 → v ≡ verdict.Fail → (fails + 1 ≡ limit → ⊥) → next now n ≡ all
  pub taken : (n : ℕ) → n ≡ fails → v ≡ verdict.Taken → next now n ≡ all

turn-of : (next : Option (List ℕ) → ℕ → End) (fails limit : ℕ) (now : Option (List ℕ)) (v : Verdict) (all : End) → folded_pair next fails limit (now, v) ≡ all → IsTurn next fails limit now v all
turn-of next fails limit now v all h = record {
  fail_all = λ is. sym (ap (λ x. folded_pair next fails limit (now, x)) is) ∙ h;
  fail_last = λ is last. sym (ap (λ b. cond b (Bad ETOOMANYFAILS) (next now (fails + 1))) (same-number (fails + 1) limit last)) ∙ sym (ap (λ x. folded_pair next fails limit (now, x)) is) ∙ h;
  fail_on = λ n same is differ. ap (next now) same ∙ sym (ap (λ b. cond b (Bad ETOOMANYFAILS) (next now (fails + 1))) (other-number (fails + 1) limit differ))
      ∙ sym (ap (λ x. folded_pair next fails limit (now, x)) is) ∙ h;
  taken = λ n same is. ap (next now) same ∙ sym (ap (λ x. folded_pair next fails limit (now, x)) is) ∙ h;
}

module _ {G : Type 0} (answer_of : G → Option (List ℕ) → ℕ → List ℕ → Merged) where
  fold-one : (i : ℕ) (merge : G) (merges : List G) (end : Option End) (ends : List (Option End)) (limit : ℕ) (so_far : Option (List ℕ)) (fails : ℕ)
      → fold_from answer_of (parts_from i (merge ∷ merges) (end ∷ ends)) limit so_far fails
      ≡ folded_pair (fold_from answer_of (parts_from (i + 1) merges ends) limit) fails limit (merged_with answer_of merge so_far i (text_in end))
  fold-one i merge merges None ends limit so_far fails = refl
  fold-one i merge merges (Some (Good text)) ends limit so_far fails = on-answer (fold_from answer_of (parts_from (i + 1) merges ends) limit) so_far fails limit (answer_of merge so_far i text)
  fold-one i merge merges (Some (Bad code)) ends limit so_far fails = refl

  no-merges : (i : ℕ) (ends : List (Option End)) (limit : ℕ) (so_far : Option (List ℕ)) (fails : ℕ) → fold_from answer_of (parts_from i [] ends) limit so_far fails ≡ Good (unwrap_or so_far [])
  no-merges i ends limit so_far fails = refl

  no-ends : (i : ℕ) (merges : List G) (limit : ℕ) (so_far : Option (List ℕ)) (fails : ℕ) → fold_from answer_of (parts_from i merges []) limit so_far fails ≡ Good (unwrap_or so_far [])
  no-ends i [] limit so_far fails = refl
  no-ends i (merge ∷ merges) limit so_far fails = refl

set-here : (es : List (Option End)) (at : ℕ) (o : Option End) → at < length es → get_or (set es at o) at None ≡ o
set-here [] at o less = absurd (omega (arith, less))
set-here (x ∷ es) zero o less = refl
set-here (x ∷ es) (suc at) o less = set-here es at o (omega (arith, less))

set-there : (es : List (Option End)) (at i : ℕ) (o : Option End) → (i ≡ at → ⊥) → get_or (set es at o) i None ≡ get_or es i None
set-there [] at i o differ = refl
set-there (x ∷ es) zero zero o differ = absurd (differ refl)
set-there (x ∷ es) zero (suc i) o differ = refl
set-there (x ∷ es) (suc at) zero o differ = refl
set-there (x ∷ es) (suc at) (suc i) o differ = set-there es at i o (λ e. differ (ap suc e))

get-set : (es : List (Option End)) (at i : ℕ) (e : End) (b : Bool) → (i == at) ≡ b → i < length es → get_or (set es at (Some e)) i None ≡ or_end (cond b (Some e) None) (get_or es i None)
get-set es at i e true test less =
    let same : i ≡ at = grind (arith, nat_tests) in subst (λ k. get_or (set es at (Some e)) k None ≡ Some e) (sym same) (set-here es at (Some e) (omega (arith, same, less)))
get-set es at i e false test less = set-there es at i (Some e) (λ same. let wrong : (i == at) ≡ true = grind (arith, nat_tests) in cc)

no-choice : (b : Bool) → cond {A = Option End} b None None ≡ None
no-choice true = refl
no-choice false = refl

get-last : (es : List (Option End)) (at i : ℕ) (last : Option End) → i < length es → get_or (with_last es at last) i None ≡ or_end (cond (i == at) last None) (get_or es i None)
get-last es at i None less = ap (λ o. or_end o (get_or es i None)) (sym (no-choice (i == at)))
get-last es at i (Some e) less = get-set es at i e (i == at) refl less

length-set : (es : List (Option End)) (at : ℕ) (o : Option End) → length (set es at o) ≡ length es
length-set [] at o = refl
length-set (x ∷ es) zero o = refl
length-set (x ∷ es) (suc at) o = ap suc (length-set es at o)

length-last : (es : List (Option End)) (at : ℕ) (last : Option End) → length (with_last es at last) ≡ length es
length-last es at None = refl
length-last es at (Some e) = length-set es at (Some e)

none-left : {X : Type 0} (xs : List X) (i : ℕ) → length xs ≤ i → drop i xs ≡ []
none-left [] zero h = refl
none-left [] (suc i) h = refl
none-left (x ∷ xs) zero h = absurd (omega (arith, h))
none-left (x ∷ xs) (suc i) h = none-left xs i (omega (arith, h))

found-here : {X : Type 0} (xs : List X) (i : ℕ) (x : X) → slice_get xs i ≡ Some x → drop i xs ≡ x ∷ drop (suc i) xs
found-here [] i x h = absurd (cc)
found-here (y ∷ xs) zero x h = let e : y ≡ x = cc in ap (λ z. z ∷ xs) e
found-here (y ∷ xs) (suc i) x h = found-here xs i x h

not-found : {X : Type 0} (xs : List X) (i : ℕ) → slice_get xs i ≡ None → drop i xs ≡ []
not-found [] zero h = refl
not-found [] (suc i) h = refl
not-found (y ∷ xs) zero h = absurd (cc)
not-found (y ∷ xs) (suc i) h = not-found xs i h

module _ {G : Type 0} (answer_of : G → Option (List ℕ) → ℕ → List ℕ → Merged) where
  -- no merger is left
  pub fold-past : (merges : List G) (ends : List (Option End)) (i limit : ℕ) (so_far : Option (List ℕ)) (fails : ℕ) → slice_get merges i ≡ None
      → fold_from answer_of (parts_from i (drop i merges) (drop i ends)) limit so_far fails ≡ Good (unwrap_or so_far [])
  fold-past merges ends i limit so_far fails none = ap (λ ms. fold_from answer_of (parts_from i ms (drop i ends)) limit so_far fails) (not-found merges i none)

module _ {M G : Type 0} where
  pub ends-length : (ss : List (State M G)) → length (ends_of (states_of ss)) ≡ length ss
  ends-length [] = refl
  ends-length (s ∷ ss) = ap suc (ends-length ss)

  pub ends-get : (ss : List (State M G)) (i : ℕ) (s : State M G) → i < length ss → s ≡ get_or ss i s → get_or (ends_of (states_of ss)) i None ≡ end_of s
  ends-get [] i s h is = absurd (omega (arith, h))
  ends-get (x ∷ ss) zero s h is = ap end_of (sym is)
  ends-get (x ∷ ss) (suc i) s h is = ends-get ss i s (omega (arith, h)) is

  module _ (answer_of : G → Option (List ℕ) → ℕ → List ℕ → Merged) where
    -- the next sub is merged
    pub fold-turn : (merges : List G) (kids : List (State M G)) (at : ℕ) (last : Option End) (i limit : ℕ) (so_far : Option (List ℕ)) (fails : ℕ) (merge : G) (kid : State M G)
        → i < length kids → kid ≡ get_or kids i kid → slice_get merges i ≡ Some merge
        → let ends = with_last (ends_of (states_of kids)) at last in
        fold_from answer_of (parts_from i (drop i merges) (drop i ends)) limit so_far fails
        ≡ folded_pair (fold_from answer_of (parts_from (i + 1) (drop (i + 1) merges) (drop (i + 1) ends)) limit) fails limit
        (merged_with answer_of merge so_far i (text_in (or_end (cond (i == at) last None) (end_of kid))))
    fold-turn merges kids at last i limit so_far fails merge kid less is found =
        let add_one : i + 1 ≡ suc i = omega arith in
        let all = ends_of (states_of kids) in
        let ends = with_last all at last in
        let here : i < length all = (let n = ends-length kids in omega (arith, n, less)) in
        let short : i < length ends = (let n = length-last all at last in omega (arith, n, here)) in
        let now : get_or ends i None ≡ or_end (cond (i == at) last None) (end_of kid) = get-last all at i last here ∙ ap (or_end (cond (i == at) last None)) (ends-get kids i kid less is) in
        let split : drop i ends ≡ or_end (cond (i == at) last None) (end_of kid) ∷ drop (i + 1) ends = rw (add-one, drop-cons ends i None short) (ap (λ o. o ∷ drop (suc i) ends) now) in
        ap (λ ms. fold_from answer_of (parts_from i ms (drop i ends)) limit so_far fails) (found-here merges i merge found ∙ ap (λ k. merge ∷ drop k merges) (sym add_one))
        ∙ ap (λ es. fold_from answer_of (parts_from i (merge ∷ drop (i + 1) merges) es) limit so_far fails) split
        ∙ fold-one answer_of i merge (drop (i + 1) merges) (or_end (cond (i == at) last None) (end_of kid)) (drop (i + 1) ends) limit so_far fails

    -- no sub is left
    pub fold-end : (merges : List G) (kids : List (State M G)) (at : ℕ) (last : Option End) (i limit : ℕ) (so_far : Option (List ℕ)) (fails : ℕ) → length kids ≤ i
        → let ends = with_last (ends_of (states_of kids)) at last in fold_from answer_of (parts_from i (drop i merges) (drop i ends)) limit so_far fails ≡ Good (unwrap_or so_far [])
    fold-end merges kids at last i limit so_far fails past =
        let all = ends_of (states_of kids) in
        let ends = with_last all at last in
        let none = none-left ends i (let n = length-last all at last in let m = ends-length kids in omega (arith, n, m, past)) in
        ap (λ es. fold_from answer_of (parts_from i (drop i merges) es) limit so_far fails) none ∙ no-ends answer_of i (drop i merges) limit so_far fails

    -- the same, by what the code found
    pub fold-step : (merges : List G) (kids : List (State M G)) (at : ℕ) (last : Option End) (i index limit : ℕ) (so_far : Option (List ℕ)) (fails : ℕ) (found : Option G) (merge : G)
        (kid : State M G) (text now : Option (List ℕ)) (v : Verdict) (all : End)
        → i < length kids
        → kid ≡ get_or kids i kid → index ≡ i → found ≡ Some merge → found ≡ slice_get merges index → text ≡ text_in (or_end (cond (index == at) last None) (end_of kid))
        → (now, v) ≡ merged_with answer_of merge so_far index text
        → let ends = with_last (ends_of (states_of kids)) at last in
        fold_from answer_of (parts_from i (drop i merges) (drop i ends)) limit so_far fails ≡ all
        → IsTurn (fold_from answer_of (parts_from (i + 1) (drop (i + 1) merges) (drop (i + 1) ends)) limit) fails limit now v all
    fold-step merges kids at last i index limit so_far fails found merge kid text now v all less is same got look told into before =
        let ends = with_last (ends_of (states_of kids)) at last in
        let next = fold_from answer_of (parts_from (i + 1) (drop (i + 1) merges) (drop (i + 1) ends)) limit in
        let here : slice_get merges i ≡ Some merge = ap (slice_get merges) (sym same) ∙ sym look ∙ got in
        turn-of next fails limit now v all
        (ap (folded_pair next fails limit) into
        ∙ ap (λ t. folded_pair next fails limit (merged_with answer_of merge so_far index t)) told
        ∙ ap (λ n. folded_pair next fails limit (merged_with answer_of merge so_far n (text_in (or_end (cond (n == at) last None) (end_of kid))))) same
        ∙ sym (fold-turn merges kids at last i limit so_far fails merge kid less is here)
        ∙ before)
