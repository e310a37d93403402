-- What the words of a set tell of its numbers.
use Rattle.std.proofs.Common.{◌≡◌, ◌≢◌, ℕ, zero, suc, ◌+◌, ◌*◌, ◌/◌, ◌%◌, ◌^◌, ◌<◌, ◌==◌, inl, inr, Bool, false, List, length, set, replicate, arith, refl, sym, ap, ◌∙◌, subst}
use Rattle.std.proofs.Common.{get_or-set_other, get_or-set_same, length-set, eq-eqb}
use Rattle.std.proofs.lemmas.Bool.{cases_lt, cases_eq}
use Rattle.std.proofs.lemmas.Bool.Decides.{nat_tests}
use Rattle.std.proofs.lemmas.List.{get_or_past}
use Rattle.std.proofs.lemmas.Nat.Bits.{bit_at-zero, bit_at-trailing_zeros}
use Rattle.std.specs.Int.{bit_at, w64, trailing_zeros}
use Rattle.bit_set.specs.Bits.{word_at, is_in, AreNone, IsLeast, AreUsed}

no_bit : (words : List ℕ) (k : ℕ) → bit_at (word_at words (k / 64)) (k % 64) ≡ 0 → is_in words k ≡ false
no_bit words k h = zero_test (bit_at (word_at words (k / 64)) (k % 64)) h
  where
    zero_test : (n : ℕ) → n ≡ 0 → (n == 1) ≡ false
    zero_test n e = grind (arith, nat_tests)

no_word : (words : List ℕ) (k : ℕ) → word_at words (k / 64) ≡ 0 → is_in words k ≡ false
no_word words k h = no_bit words k (ap (λ n. bit_at n (k % 64)) h ∙ bit_at-zero (k % 64))

zeros : (n w : ℕ) → word_at (replicate n 0) w ≡ 0
zeros zero w = refl
zeros (suc n) zero = refl
zeros (suc n) (suc w) = zeros n w

pub zero_word : (w : ℕ) → word_at (replicate 64 0) w ≡ 0
zero_word w = zeros 64 w

pub new_none : AreNone (replicate 64 0)
new_none k = no_word (replicate 64 0) k (zero_word (k / 64))

pub new_used : AreUsed 0 (replicate 64 0)
new_used = record {
  count = refl;
  small = omega arith;
  fit = λ w. let z = zero_word w in omega (arith, z);
  none = λ w l h. zero_word w;
  some = λ w l h. absurd (let z = bit_at-zero w in omega (arith, z, h));
}

-- where no word is used no number is in the set
pub none_used : (words : List ℕ) → AreUsed 0 words → AreNone words
none_used words u k = elim (cases_lt (k / 64) 64) [
  | inl l ↦ no_word words k (u.none (k / 64) l (bit_at-zero (k / 64)))
  | inr g ↦ no_word words k (get_or_past words (k / 64) 0 (omega (arith, g, u.count)))
]

module _ (used : ℕ) (words : List ℕ) (u : AreUsed used words) (some : 0 < used) where
  first_word : (trailing_zeros w64 used < 64) × (bit_at used (trailing_zeros w64 used) ≡ 1) × ((i : ℕ) → i < trailing_zeros w64 used → bit_at used i ≡ 0)
  first_word = bit_at-trailing_zeros w64 used some u.small

  first_bit : (trailing_zeros w64 (word_at words (trailing_zeros w64 used)) < 64) ×
      (bit_at (word_at words (trailing_zeros w64 used)) (trailing_zeros w64 (word_at words (trailing_zeros w64 used))) ≡ 1)
      × ((i : ℕ) → i < trailing_zeros w64 (word_at words (trailing_zeros w64 used)) → bit_at (word_at words (trailing_zeros w64 used)) i ≡ 0)
  first_bit = bit_at-trailing_zeros w64 (word_at words (trailing_zeros w64 used)) (u.some (trailing_zeros w64 used) first_word.0 first_word.1) (u.fit (trailing_zeros w64 used))

  least_at : (w b : ℕ) → w ≡ trailing_zeros w64 used → b ≡ trailing_zeros w64 (word_at words (trailing_zeros w64 used)) → IsLeast words (w * 64 + b)
  least_at w b i j =
      let wl : w < 64 = let l = first_word.0 in omega (arith, i, l) in
      let bl : b < 64 = let l = first_bit.0 in omega (arith, j, l) in
      let q : (w * 64 + b) / 64 ≡ w = omega (arith, bl) in
      let r : (w * 64 + b) % 64 ≡ b = omega (arith, bl, q) in
      let one : bit_at (word_at words w) b ≡ 1 = ap (λ n. bit_at (word_at words n) b) i ∙ ap (λ n. bit_at (word_at words (trailing_zeros w64 used)) n) j ∙ first_bit.1 in
      record {
        below = omega (arith, wl, bl);
        in_it = eq-eqb (bit_at (word_at words ((w * 64 + b) / 64)) ((w * 64 + b) % 64)) 1 (ap (λ n. bit_at (word_at words n) ((w * 64 + b) % 64)) q ∙ ap (λ n. bit_at (word_at words w) n) r ∙ one);
        first = λ k l. elim (cases_lt (k / 64) w) [
          | inl low ↦ no_word words k (u.none (k / 64) (omega (arith, low, wl)) (first_word.2 (k / 64) (omega (arith, low, i))))
          | inr high ↦
              let same : k / 64 ≡ w = omega (arith, high, l, bl) in
              let under : k % 64 < b = omega (arith, same, l) in
              no_bit words k (ap (λ n. bit_at (word_at words n) (k % 64)) (same ∙ i) ∙ first_bit.2 (k % 64) (omega (arith, under, j)))
        ];
      }

  -- the least number is the lowest bit of the first word that has one
  pub least : IsLeast words (trailing_zeros w64 used * 64 + trailing_zeros w64 (word_at words (trailing_zeros w64 used)))
  least = least_at (trailing_zeros w64 used) (trailing_zeros w64 (word_at words (trailing_zeros w64 used))) refl refl

-- one word changes, and what is told of it
pub changed_used : (used more : ℕ) (words : List ℕ) (w x : ℕ) → AreUsed used words → w < 64 → x < 2 ^ 64 → more < 2 ^ 64 → (bit_at more w ≡ 0 → x ≡ 0) → (bit_at more w ≡ 1 → 0 < x)
    → ((i : ℕ) → i < 64 → i ≢ w → bit_at more i ≡ bit_at used i) → AreUsed more (set words w x)
changed_used used more words w x u l f s none some others =
    let long : length (set words w x) ≡ length words = length-set words w x in
    let here : word_at (set words w x) w ≡ x = get_or-set_same words w x 0 (omega (arith, l, u.count)) in
    record {
      count = long ∙ u.count;
      small = s;
      fit = λ i. elim (cases_eq i w) [
        | inl e ↦ subst (λ n. word_at (set words w x) n < 2 ^ 64) (sym e) (subst (λ n. n < 2 ^ 64) (sym here) f)
        | inr n ↦ subst (λ n. n < 2 ^ 64) (sym (get_or-set_other words w i x 0 n)) (u.fit i)
      ];
      none = λ i k h. elim (cases_eq i w) [
        | inl e ↦ ap (λ n. word_at (set words w x) n) e ∙ here ∙ none (sym (ap (λ n. bit_at more n) e) ∙ h)
        | inr n ↦ get_or-set_other words w i x 0 n ∙ u.none i k (sym (others i k n) ∙ h)
      ];
      some = λ i k h. elim (cases_eq i w) [
        | inl e ↦ subst (λ n. 0 < word_at (set words w x) n) (sym e) (subst (λ n. 0 < n) (sym here) (some (sym (ap (λ n. bit_at more n) e) ∙ h)))
        | inr n ↦ subst (λ n. 0 < n) (sym (get_or-set_other words w i x 0 n)) (u.some i k (sym (others i k n) ∙ h))
      ];
    }

-- a number's bit is told by its word
module _ (words : List ℕ) (number x : ℕ) (c : length words ≡ 64) (l : number < 4096) where
  here : word_at (set words (number / 64) x) (number / 64) ≡ x
  here = get_or-set_same words (number / 64) x 0 (omega (arith, c, l))

  pub bit_here : (b : Bool) → (bit_at x (number % 64) == 1) ≡ b → is_in (set words (number / 64) x) number ≡ b
  bit_here b h = ap (λ n. bit_at n (number % 64) == 1) here ∙ h

  pub bit_there : ((i : ℕ) → i < 64 → i ≢ number % 64 → bit_at x i ≡ bit_at (word_at words (number / 64)) i) → (k : ℕ) → k ≢ number → is_in (set words (number / 64) x) k ≡ is_in words k
  bit_there others k n = elim (cases_eq (k / 64) (number / 64)) [
    | inl e ↦
        let apart : k % 64 ≢ number % 64 = λ s. n (omega (arith, e, s)) in
        ap (λ w. bit_at (word_at (set words (number / 64) x) w) (k % 64) == 1) e ∙ ap (λ m. bit_at m (k % 64) == 1) here ∙ ap (λ m. m == 1) (others (k % 64) (omega arith) apart)
        ∙ ap (λ w. bit_at (word_at words w) (k % 64) == 1) (sym e)
    | inr d ↦ ap (λ m. bit_at m (k % 64) == 1) (get_or-set_other words (number / 64) (k / 64) x 0 d)
  ]

pub has_bit : (x b : ℕ) → bit_at x b ≡ 1 → 0 < x
has_bit x b h = elim (cases_lt 0 x) [
  | inl l ↦ l
  | inr g ↦ let z : x ≡ 0 = omega (arith, g) in let o = ap (λ n. bit_at n b) z in let y = bit_at-zero b in absurd (omega (arith, o, y, h))
]
