-- A number of calls, read by the standard library.
use Rattle.std.proofs.Common.{◌≡◌, ◌≢◌, ℕ, ◌+◌, ◌*◌, ◌-◌, ◌^◌, ◌<◌, ◌≤◌, Bool, true, false, not, ◌==◌, ◌&&◌, ◌||◌, nat_le, List, [], ◌∷◌, length, get_or, Some, None, Ok, Err, refl, sym, ap, ◌∙◌}
use Rattle.std.proofs.Common.{rules, arith}
use Rattle.std.specs.Str.Parse.{ParsesUnsigned}
use Rattle.std.proofs.lemmas.Bool.{true≢false, and_parts, and_from, ne_eqb}
use Rattle.std.proofs.lemmas.Bool.Decides.{nat_tests}
use Rattle.std.proofs.lemmas.Str.Parse.{IsNumeralModel, IsDigitsTest, numerals_by_fold, parse_plain}
use Rattle.rpc_model.specs.Words.{all_within, is_numeral, digits_after}
use Rattle.rpc_model.proofs.Digits.{digits_after-le}
use Rattle.brpc_top.specs.Words.{count_of, count_where, is_started}

abbrev digits : List ℕ → Bool
digits ds = all_within 48 57 ds

tells : IsDigitsTest (λ ds. digits ds ≡ true)
tells = record {
  empty = refl;
  parts = λ c cs h. let p = and_parts (nat_le 48 c && nat_le c 57) (digits cs) h in
      (let low : 48 ≤ c = grind (arith, nat_tests, p.0) in let high : c ≤ 57 = grind (arith, nat_tests, p.0) in (low, high), p.1);
  more = λ c cs r h. and_from (nat_le 48 c && nat_le c 57) (digits cs) (let low : 48 ≤ c = r.0 in let high : c ≤ 57 = r.1 in grind (arith, nat_tests)) h;
}

own : IsNumeralModel (λ ds. digits ds ≡ true) (digits_after 0)
own = numerals_by_fold _ tells digits_after (search rules)

started : (b : ℕ) → (nat_le 49 b && nat_le b 57) ≡ true → (49 ≤ b) × (b ≤ 57)
started b h = let low : 49 ≤ b = grind (arith, nat_tests) in let high : b ≤ 57 = grind (arith, nat_tests) in (low, high)

or-second : (a b : Bool) → b ≡ true → (a || b) ≡ true
or-second true b e = refl
or-second false b e = e

-- Of a word that begins with a digit that is no zero, the digits and the greatest count decide.
started-count : (bs : List ℕ) → is_started bs ≡ true → count_of bs ≡ count_where (digits bs && nat_le (digits_after 0 bs) 100000) (digits_after 0 bs)
started-count [] h = absurd (true≢false (sym h))
started-count (b ∷ bs) h =
    let s = started b h in
    let no_zero : (length bs == 0 || not (b == 48)) ≡ true = or-second (length bs == 0) (not (b == 48)) (ap (λ (t : Bool). not t) (ne_eqb b 48 (λ e. absurd (omega (arith, e, s.0))))) in
    let some : nat_le 1 (digits_after (10 * 0 + (b - 48)) bs) ≡ true = at_least (digits_after (10 * 0 + (b - 48)) bs) (omega (arith, digits_after-le (10 * 0 + (b - 48)) bs, s.0)) in
    ap (λ (t : Bool). count_where (t && (nat_le 1 (digits_after 0 (b ∷ bs)) && nat_le (digits_after 0 (b ∷ bs)) 100000)) (digits_after 0 (b ∷ bs)))
    (ap (λ (t : Bool). digits (b ∷ bs) && t) no_zero ∙ and-true (digits (b ∷ bs)))
    ∙ ap (λ (t : Bool). count_where (digits (b ∷ bs) && (t && nat_le (digits_after 0 (b ∷ bs)) 100000)) (digits_after 0 (b ∷ bs))) some
  where
    at_least : (n : ℕ) → 1 ≤ n → nat_le 1 n ≡ true
    at_least n h = grind (arith, nat_tests)

    and-true : (t : Bool) → (t && true) ≡ t
    and-true true = refl
    and-true false = refl

-- A word that begins otherwise is no count.
pub unstarted : (bs : List ℕ) → is_started bs ≡ false → count_of bs ≡ None
unstarted [] h = refl
unstarted (b ∷ []) h = by (nat_le 48 b && nat_le b 57) refl
  where
    zero_is : (b : ℕ) → (nat_le 49 b && nat_le b 57) ≡ false → (nat_le 48 b && nat_le b 57) ≡ true → b ≡ 48
    zero_is b h q = grind (arith, nat_tests)

    by : (t : Bool) → (nat_le 48 b && nat_le b 57) ≡ t → count_of (b ∷ []) ≡ None
    by true q = rw (zero_is b h q) refl
    by false q = rw q refl
unstarted (b ∷ c ∷ bs) h = by (nat_le 48 b && nat_le b 57) refl
  where
    zero_is : (b : ℕ) → (nat_le 49 b && nat_le b 57) ≡ false → (nat_le 48 b && nat_le b 57) ≡ true → b ≡ 48
    zero_is b h q = grind (arith, nat_tests)

    and-false : (t : Bool) → (t && false) ≡ false
    and-false true = refl
    and-false false = refl

    by : (t : Bool) → (nat_le 48 b && nat_le b 57) ≡ t → count_of (b ∷ c ∷ bs) ≡ None
    by true q =
        let few : (length (c ∷ bs) == 0) ≡ false = ne_eqb (length (c ∷ bs)) 0 (λ e. absurd (omega (arith, e))) in
        rw (zero_is b h q) (ap (λ (t : Bool). count_where
        ((digits (48 ∷ c ∷ bs) && (t || false)) && (nat_le 1 (digits_after 0 (48 ∷ c ∷ bs)) && nat_le (digits_after 0 (48 ∷ c ∷ bs)) 100000)) (digits_after 0 (48 ∷ c ∷ bs))) few
        ∙ ap (λ (t : Bool). count_where (t && (nat_le 1 (digits_after 0 (48 ∷ c ∷ bs)) && nat_le (digits_after 0 (48 ∷ c ∷ bs)) 100000)) (digits_after 0 (48 ∷ c ∷ bs)))
        (and-false (digits (48 ∷ c ∷ bs))))
    by false q = rw q refl

no_plus : (bs : List ℕ) → is_started bs ≡ true → get_or bs 0 0 ≢ 43
no_plus [] h e = absurd (true≢false (sym h))
no_plus (b ∷ bs) h e = let s = started b h in absurd (omega (arith, e, s.0))

some-byte : (bs : List ℕ) → is_started bs ≡ true → 0 < length bs
some-byte [] h = absurd (true≢false (sym h))
some-byte (b ∷ bs) h = omega arith

-- A number that was read is the count where it isn't too great.
pub read-count : (E : Type 0) (bs : List ℕ) (n : ℕ) → is_started bs ≡ true → ParsesUnsigned {E = E} 32 10 bs (Ok n) → count_of bs ≡ count_where (nat_le n 100000) n
read-count E bs n s h =
    let p = parse_plain own {E = E} 32 bs (Ok n) h (no_plus bs s) in
    started-count bs s ∙ (ap (λ (t : Bool). count_where (t && nat_le (digits_after 0 bs) 100000) (digits_after 0 bs)) p.0.0 ∙ ap (λ (v : ℕ). count_where (nat_le v 100000) v) (sym p.1))

-- What isn't read is no count.
pub unread-count : (E : Type 0) (bs : List ℕ) (e : E) → is_started bs ≡ true → ParsesUnsigned {E = E} 32 10 bs (Err e) → count_of bs ≡ None
unread-count E bs e s h = by (digits bs) (nat_le (digits_after 0 bs) 100000) refl refl
  where
    small : (v : ℕ) → nat_le v 100000 ≡ true → v < 2 ^ 32
    small v h = grind (arith, nat_tests)

    by : (d t : Bool) → digits bs ≡ d → nat_le (digits_after 0 bs) 100000 ≡ t → count_of bs ≡ None
    by false t q r = started-count bs s ∙ rw q refl
    by true false q r = started-count bs s ∙ rw (q, r) refl
    by true true q r = absurd (parse_plain own {E = E} 32 bs (Err e) h (no_plus bs s) (q, some-byte bs s, small (digits_after 0 bs) r))

pub within-limit : (n : ℕ) → n ≤ 100000 → count_where (nat_le n 100000) n ≡ Some n
within-limit n h = let e : nat_le n 100000 ≡ true = grind (arith, nat_tests) in rw e refl

pub past-limit : (n : ℕ) → 100000 < n → count_where (nat_le n 100000) n ≡ None
past-limit n h = let e : nat_le n 100000 ≡ false = grind (arith, nat_tests) in rw e refl

bounds : (v : ℕ) → (nat_le 1 v && nat_le v 100000) ≡ true → (1 ≤ v) × (v ≤ 100000)
bounds v h = let low : 1 ≤ v = grind (arith, nat_tests) in let high : v ≤ 100000 = grind (arith, nat_tests) in (low, high)

where-is : (fits : Bool) (v k : ℕ) → count_where fits v ≡ Some k → (fits ≡ true) × (v ≡ k)
where-is true v k e = (refl, let same : v ≡ k = cc in same)
where-is false v k e = cc

-- A count is one of 1 to 100,000.
pub count-bounds : (word : List ℕ) (k : ℕ) → count_of word ≡ Some k → (1 ≤ k) × (k ≤ 100000)
count-bounds word k e =
    let v = digits_after 0 word in
    let p = where-is (is_numeral word && (nat_le 1 (digits_after 0 word) && nat_le (digits_after 0 word) 100000)) (digits_after 0 word) k e in
    let parts = and_parts (is_numeral word) (nat_le 1 (digits_after 0 word) && nat_le (digits_after 0 word) 100000) p.0 in
    let b = bounds (digits_after 0 word) parts.1 in
    let low : 1 ≤ k = omega (arith, b.0, p.1) in
    let high : k ≤ 100000 = omega (arith, b.1, p.1) in
    (low, high)
