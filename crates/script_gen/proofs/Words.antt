-- Words of a line, how a line of them is cut, and numbers that are read again.
use Rattle.std.proofs.Common.{◌≡◌, ℕ, ◌+◌, ◌*◌, ◌%◌, ◌^◌, ◌<◌, ◌≤◌, Bool, true, false, not, cond, ◌&&◌, ◌||◌, ◌==◌, eq-eqb, nat_le, List, [], ◌∷◌, ◌++◌, length, get_or, refl, ap, ◌∙◌, rules}
use Rattle.std.proofs.Common.{arith, length-append, Ok, Err}
use Rattle.std.specs.Fmt.{decimal}
use Rattle.std.specs.List.{list_all, slice_split, onto_first}
use Rattle.std.proofs.lemmas.Bool.{and_parts, and_from, ne_eqb}
use Rattle.std.proofs.lemmas.Bool.Decides.{nat_tests}
use Rattle.std.proofs.lemmas.Fmt.{decimal_by_steps, decimal_nonempty, first_decimal, length-decimal-le, digits_value-decimal}
use Rattle.std.proofs.lemmas.Str.Parse.{IsNumeralModel, numerals_by_fold}
use Rattle.std.specs.Str.{all_ascii_digits}
use Rattle.rpc_model.specs.declared.script.Cause.{Cause}
use Rattle.rpc_model.specs.Words.{all_within, digits_after, is_numeral, in_range, number_or}
use Rattle.rpc_model.specs.Lines.{is_word}

-- ---- bytes

wider : (l h m k x : ℕ) → m ≤ l → h ≤ k → (nat_le l x && nat_le x h) ≡ true → (nat_le m x && nat_le x k) ≡ true
wider l h m k x low high e = grind (arith, nat_tests)

other_byte : (l h c x : ℕ) → c < l → (nat_le l x && nat_le x h) ≡ true → (x == c) ≡ false
other_byte l h c x low e = grind (arith, nat_tests)

digit_byte : (n : ℕ) → n < 10 → (nat_le 48 (48 + n) && nat_le (48 + n) 57) ≡ true
digit_byte n h = grind (arith, nat_tests)

pub within-wider : (l h m k : ℕ) (w : List ℕ) → m ≤ l → h ≤ k → all_within l h w ≡ true → all_within m k w ≡ true
within-wider l h m k [] low high e = refl
within-wider l h m k (x ∷ w) low high e =
    let p = and_parts (nat_le l x && nat_le x h) (all_within l h w) e in
    and_from (nat_le m x && nat_le x k) (all_within m k w) (wider l h m k x low high p.0) (within-wider l h m k w low high p.1)

pub within-append : (l h : ℕ) (xs ys : List ℕ) → all_within l h xs ≡ true → all_within l h ys ≡ true → all_within l h (xs ++ ys) ≡ true
within-append l h [] ys e f = f
within-append l h (x ∷ xs) ys e f =
    let p = and_parts (nat_le l x && nat_le x h) (all_within l h xs) e in
    and_from (nat_le l x && nat_le x h) (all_within l h (xs ++ ys)) p.0 (within-append l h xs ys p.1 f)

-- ---- cutting

-- the first piece
pub split_front : (l h c : ℕ) (w rest : List ℕ) → c < l → all_within l h w ≡ true → slice_split (λ b. b == c) (w ++ c ∷ rest) ≡ w ∷ slice_split (λ b. b == c) rest
split_front l h c [] rest low e = ap (λ (b : Bool). cond b ([] ∷ slice_split (λ b. b == c) rest) (onto_first c (slice_split (λ b. b == c) rest))) (eq-eqb c c refl)
split_front l h c (x ∷ w) rest low e =
    let p = and_parts (nat_le l x && nat_le x h) (all_within l h w) e in
    ap (λ (t : Bool). cond t ([] ∷ slice_split (λ b. b == c) (w ++ c ∷ rest)) (onto_first x (slice_split (λ b. b == c) (w ++ c ∷ rest)))) (other_byte l h c x low p.0)
    ∙ ap (λ (ps : List (List ℕ)). onto_first x ps) (split_front l h c w rest low p.1)

-- the only piece
pub split_none : (l h c : ℕ) (w : List ℕ) → c < l → all_within l h w ≡ true → slice_split (λ b. b == c) w ≡ w ∷ []
split_none l h c [] low e = refl
split_none l h c (x ∷ w) low e =
    let p = and_parts (nat_le l x && nat_le x h) (all_within l h w) e in
    ap (λ (t : Bool). cond t ([] ∷ slice_split (λ b. b == c) w) (onto_first x (slice_split (λ b. b == c) w))) (other_byte l h c x low p.0)
    ∙ ap (λ (ps : List (List ℕ)). onto_first x ps) (split_none l h c w low p.1)

-- ---- words

-- A word of a generated line: short, and without spaces.
pub record IsWord (w : List ℕ) : Type 0 where
  pub some : is_word w ≡ true
  pub bytes : all_within 33 126 w ≡ true
  pub short : length w ≤ 7

abbrev pub AreWords : List (List ℕ) → Type 0
AreWords [] = Unit {0}
AreWords (w ∷ ws) = IsWord w × AreWords ws

-- words with a space between them
abbrev pub spaced : List (List ℕ) → List ℕ
spaced [] = []
spaced (w ∷ []) = w
spaced (w ∷ v ∷ ws) = w ++ 32 ∷ spaced (v ∷ ws)

pub words-cut : (w : List ℕ) (ws : List (List ℕ)) → AreWords (w ∷ ws) → slice_split (λ b. b == 32) (spaced (w ∷ ws)) ≡ w ∷ ws
words-cut w [] h = split_none 33 126 32 w (omega arith) h.0.bytes
words-cut w (v ∷ ws) h =
    split_front 33 126 32 w (spaced (v ∷ ws)) (omega arith) h.0.bytes ∙ ap (λ (ps : List (List ℕ)). w ∷ ps) (words-cut v ws h.1)

pub words-within : (w : List ℕ) (ws : List (List ℕ)) → AreWords (w ∷ ws) → all_within 32 126 (spaced (w ∷ ws)) ≡ true
words-within w [] h = within-wider 33 126 32 126 w (omega arith) (omega arith) h.0.bytes
words-within w (v ∷ ws) h =
    within-append 32 126 w (32 ∷ spaced (v ∷ ws)) (within-wider 33 126 32 126 w (omega arith) (omega arith) h.0.bytes) (words-within v ws h.1)

pub words-short : (w : List ℕ) (ws : List (List ℕ)) → AreWords (w ∷ ws) → length (spaced (w ∷ ws)) + 1 ≤ 8 * length (w ∷ ws)
words-short w [] h = omega (arith, h.0.short)
words-short w (v ∷ ws) h = omega (arith, h.0.short, length-append w (32 ∷ spaced (v ∷ ws)), words-short v ws h.1)

pub words-some : (ws : List (List ℕ)) → AreWords ws → list_all is_word ws ≡ true
words-some [] h = refl
words-some (w ∷ ws) h = and_from (is_word w) (list_all is_word ws) h.0.some (words-some ws h.1)

-- ---- numbers

own : IsNumeralModel (λ ds. all_ascii_digits ds ≡ true) (digits_after 0)
own = numerals_by_fold _ (search rules) digits_after (search rules)

decimal-within : (n : ℕ) → n < 2 ^ 64 → all_within 48 57 (decimal n) ≡ true
decimal-within n h =
    decimal_by_steps (λ k ds. all_within 48 57 ds ≡ true) (λ k lt. and_from (nat_le 48 (48 + k) && nat_le (48 + k) 57) true (digit_byte k lt) refl)
    (λ k ds le so_far. within-append 48 57 ds ((48 + k % 10) ∷ []) so_far (and_from (nat_le 48 (48 + k % 10) && nat_le (48 + k % 10) 57) true (digit_byte (k % 10) (omega arith)) refl)) n h

or-second : (a b : Bool) → b ≡ true → (a || b) ≡ true
or-second true b e = refl
or-second false b e = e

not-zero : (b : ℕ) → 48 < b → not (b == 48) ≡ true
not-zero b h = ap (λ (t : Bool). not t) (ne_eqb b 48 (λ e. absurd (omega (arith, e, h))))

numeral-from : (ds : List ℕ) → all_within 48 57 ds ≡ true → 0 < length ds → 48 < get_or ds 0 0 → is_numeral ds ≡ true
numeral-from [] h some first = absurd (omega arith)
numeral-from (b ∷ bs) h some first = and_from (all_within 48 57 (b ∷ bs)) (length bs == 0 || not (b == 48)) h (or-second (length bs == 0) (not (b == 48)) (not-zero b first))

decimal-numeral : (n : ℕ) → 0 < n → n < 2 ^ 64 → is_numeral (decimal n) ≡ true
decimal-numeral n some h = numeral-from (decimal n) (decimal-within n h) (decimal_nonempty n h) (first_decimal n some h)

in-range-is : (cause : Cause) (low high n : ℕ) → low ≤ n → n ≤ high → in_range cause low high n ≡ Ok n
in-range-is cause low high n l h = ap (λ (b : Bool). cond b (Ok n) (Err cause)) (both low high n l h)
  where
    both : (low high n : ℕ) → low ≤ n → n ≤ high → (nat_le low n && nat_le n high) ≡ true
    both low high n l h = grind (arith, nat_tests)

-- A number is read as itself.
pub number-is : (cause : Cause) (low high n : ℕ) → 0 < n → low ≤ n → n ≤ high → n < 2 ^ 64 → number_or cause low high (decimal n) ≡ Ok n
unfolding number_or
number-is cause low high n some l h small =
    let value : digits_after 0 (decimal n) ≡ n = digits_value-decimal own n small in
    ap (λ (b : Bool). cond b (in_range cause low high (digits_after 0 (decimal n))) (Err cause)) (decimal-numeral n some small)
    ∙ (ap (λ (k : ℕ). in_range cause low high k) value ∙ in-range-is cause low high n l h)

nonempty : (ds : List ℕ) → 0 < length ds → is_word ds ≡ true
nonempty [] h = absurd (omega arith)
nonempty (b ∷ bs) h = ap (λ (t : Bool). not t) (ne_eqb (length (b ∷ bs)) 0 (λ e. absurd (omega (arith, e, h))))

-- A number is a word.
pub decimal-word : (n : ℕ) → n < 10000000 → IsWord (decimal n)
decimal-word n h = record {
  some = nonempty (decimal n) (decimal_nonempty n (omega arith));
  bytes = within-wider 48 57 33 126 (decimal n) (omega arith) (omega arith) (decimal-within n (omega arith));
  short = length-decimal-le 7 n (omega arith) (omega arith) (omega arith);
}
