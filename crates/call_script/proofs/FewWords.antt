-- The words of a line as they are found one after the other.
use Rattle.std.proofs.Common.{◌≡◌, ℕ, zero, suc, ◌+◌, ◌<◌, ◌≤◌, ◌==◌, Bool, true, false, not, cond, ◌&&◌, List, [], ◌∷◌, ◌++◌, length, get_or, map, set}
use Rattle.std.proofs.Common.{take, drop, Bor, position, Some, None, arith, refl, ap, sym, ◌∙◌, append_assoc, length-append, add-one, ◌-◌, length-drop}
use Rattle.std.proofs.Math.Seq.{drop-cons}
use Rattle.std.proofs.Math.ListN.{length-set, length-take}
use Rattle.std.proofs.lemmas.List.{take_all, take_more_set, get_or-drop, drop-drop, append-nil, map-append, drop_all}
use Rattle.std.proofs.lemmas.List.Folds.{list_all-append}
use Rattle.std.proofs.lemmas.List.Sums.{fails_before_first}
use Rattle.std.specs.Cmp.Lexicographic.{pointwise}
use Rattle.rpc_model.proofs.First.{position_none, position_some}
use Rattle.call_script.specs.Spelled.{AreFewWords, line_of}
use Rattle.std.specs.Prelude.{nat_le, nat_eq}
use Rattle.std.specs.List.{list_all, slice_split, onto_first}
use Rattle.std.specs.Char.{is_ascii_graphic}
use Rattle.std.proofs.lemmas.Bool.Decides.{nat_tests}
use Rattle.rpc_model.specs.Words.{all_within}
use Rattle.rpc_model.specs.Lines.{is_word, says_nothing, line_says, words_say, kind_says}
use Rattle.rpc_model.specs.Before.{Before}

-- no byte ahead of this place is anything but a part of a word
abbrev pub IsPlain : List ℕ → ℕ → Type 0
IsPlain xs i = (k : ℕ) → k < i → not (is_ascii_graphic (get_or xs k 0)) ≡ false

-- A part of a word is a right byte, and no space.
plain-within : (b : ℕ) → not (is_ascii_graphic b) ≡ false → (nat_le 32 b && nat_le b 126) ≡ true
plain-within b h = grind (arith, nat_tests)

plain-apart : (b : ℕ) → not (is_ascii_graphic b) ≡ false → (b == 32) ≡ false
plain-apart b h = grind (arith, nat_tests)

later : (x : ℕ) (xs : List ℕ) (i : ℕ) → IsPlain (x ∷ xs) (suc i) → IsPlain xs i
later x xs i plain k h = plain (suc k) (omega arith)

plain-inside : (b : ℕ) → not (is_ascii_graphic b) ≡ false → (b == 10) ≡ false
plain-inside b h = grind (arith, nat_tests)

-- The bytes are right where those behind a word are.
pub bytes_ahead : (xs tail : List ℕ) (i : ℕ) → i ≤ length xs → IsPlain xs i → all_within 32 126 (take i xs ++ tail) ≡ all_within 32 126 tail
bytes_ahead xs tail zero h plain = refl
bytes_ahead [] tail (suc i) h plain = absurd (omega arith)
bytes_ahead (x ∷ xs) tail (suc i) h plain = rw (plain-within x (plain zero (omega arith))) (bytes_ahead xs tail i (omega arith) (later x xs i plain))

-- The first word ends at the first space.
pub word_ahead : (xs tail : List ℕ) (i : ℕ) → i ≤ length xs → IsPlain xs i
    → slice_split (λ b. b == 32) (take i xs ++ 32 ∷ tail) ≡ take i xs ∷ slice_split (λ b. b == 32) tail
word_ahead xs tail zero h plain = refl
word_ahead [] tail (suc i) h plain = absurd (omega arith)
word_ahead (x ∷ xs) tail (suc i) h plain =
    rw (plain-apart x (plain zero (omega arith))) (ap (onto_first x) (word_ahead xs tail i (omega arith) (later x xs i plain)))

-- The last word goes to the end.
pub last_word : (xs : List ℕ) (i : ℕ) → i ≤ length xs → IsPlain xs i → slice_split (λ b. b == 32) (take i xs) ≡ take i xs ∷ []
last_word xs zero h plain = refl
last_word [] (suc i) h plain = absurd (omega arith)
last_word (x ∷ xs) (suc i) h plain = rw (plain-apart x (plain zero (omega arith))) (ap (onto_first x) (last_word xs i (omega arith) (later x xs i plain)))

-- A word is a part of the first line.
pub line_ahead : (xs : List ℕ) (i : ℕ) → i ≤ length xs → IsPlain xs i → line_of xs ≡ take i xs ++ line_of (drop i xs)
line_ahead xs zero h plain = refl
line_ahead [] (suc i) h plain = absurd (omega arith)
line_ahead (x ∷ xs) (suc i) h plain =
    rw (plain-inside x (plain zero (omega arith))) (ap (λ (line : List ℕ). x ∷ line) (line_ahead xs i (omega arith) (later x xs i plain)))

-- what is read so far of a line: its first words, and what is left of it
pub record AreRead (line : List ℕ) (few : List (Bor (List ℕ))) (count : ℕ) (rest : List ℕ) : Type 0 where
  pub room : length few ≡ 8
  pub many : count ≤ 8
  pub less : length rest ≤ length line
  pub bytes : all_within 32 126 rest ≡ all_within 32 126 line
  pub cut : map (λ w. w.now) (take count few) ++ slice_split (λ b. b == 32) rest ≡ slice_split (λ b. b == 32) line
  pub full : list_all is_word (map (λ w. w.now) (take count few)) ≡ true

-- a byte that is no part of a word
abbrev pub is_special : ℕ → Bool
is_special b = not (is_ascii_graphic b)

front_length : (i : ℕ) (xs : List ℕ) → i ≤ length xs → length (take i xs) ≡ i
front_length i xs h = omega (arith, length-take i xs)

-- What is known of a list with one word more.
more_words : (few : List (Bor (List ℕ))) (count : ℕ) (word : Bor (List ℕ)) → count < length few
    → map (λ w. w.now) (take (count + 1) (set few count word)) ≡ map (λ w. w.now) (take count few) ++ word.now ∷ []
more_words few count word h = rw (take_more_set few count word h, map-append (λ (w : Bor (List ℕ)). w.now) (take count few) (word ∷ []))

more_full : (words : List (List ℕ)) (word : List ℕ) → list_all is_word words ≡ true → 0 < length word → list_all is_word (words ++ word ∷ []) ≡ true
more_full words word full some = rw (list_all-append is_word words (word ∷ []), full) (grind (arith, nat_tests))

-- the same of the first line of a text
pub record AreReadIn (text : List ℕ) (few : List (Bor (List ℕ))) (count : ℕ) (rest : List ℕ) : Type 0 where
  pub read : AreRead (line_of text) few count (line_of rest)
  pub far : length rest + length (line_of text) ≡ length text + length (line_of rest)

-- What stands from a place on, where its byte is known.
at_byte : (rest : List ℕ) (at : ℕ) (behind : List ℕ) (b : ℕ) → at < length rest → behind ≡ drop at rest → get_or behind 0 0 ≡ b → drop at rest ≡ b ∷ drop (suc at) rest
at_byte rest at behind b h back here =
    let start : at ≡ at + 0 = omega arith in
    let byte : get_or rest at 0 ≡ b = ap (λ (n : ℕ). get_or rest n 0) start ∙ sym (get_or-drop at rest 0 0) ∙ ap (λ (bytes : List ℕ). get_or bytes 0 0) (sym back) ∙ here in
    drop-cons rest at 0 h ∙ ap (λ (x : ℕ). x ∷ drop (suc at) rest) byte

-- A line of some bytes that doesn't begin with a # says something.
says_some : (text : List ℕ) → 0 < length (line_of text) → pointwise nat_eq (35 ∷ []) (take 1 text) ≡ false → says_nothing (line_of text) ≡ false
says_some [] some apart = absurd (omega arith)
says_some (b ∷ bs) some apart =
    elim (b == 10) as (λ z. 0 < length (cond z [] (b ∷ line_of bs)) → says_nothing (cond z [] (b ∷ line_of bs)) ≡ false) [
      | true ↦ λ none. absurd (omega (arith, none))
      | false ↦ λ more. grind (arith, nat_tests)
    ] some

-- The line ends at a newline, or at the end.
pub line_to_newline : (rest : List ℕ) (at : ℕ) (behind : List ℕ) → at < length rest → IsPlain rest at → behind ≡ drop at rest → get_or behind 0 0 ≡ 10 → line_of rest ≡ take at rest
line_to_newline rest at behind p plain back here =
    line_ahead rest at (omega (arith, p)) plain ∙ ap (λ (r : List ℕ). take at rest ++ line_of r) (at_byte rest at behind 10 p back here) ∙ append-nil (take at rest)

pub line_to_end : (rest : List ℕ) → IsPlain rest (length rest) → line_of rest ≡ take (length rest) rest
line_to_end rest plain =
    line_ahead rest (length rest) (omega arith) plain ∙ ap (λ (r : List ℕ). take (length rest) rest ++ line_of r) (drop_all (length rest) rest (omega arith))
    ∙ append-nil (take (length rest) rest)

pub some_bytes : (bytes : List ℕ) → (length bytes == 0) ≡ false → 0 < length bytes
some_bytes [] apart = grind (arith, nat_tests)
some_bytes (b ∷ bs) apart = omega arith

-- No byte ahead of the first special one is special.
pub plain_ahead : (xs : List ℕ) (i : ℕ) → position is_special xs ≡ Some i → (i < length xs) × IsPlain xs i
plain_ahead xs i first = let p = position_some is_special xs i first in (p.1, λ k h. fails_before_first is_special xs k 0 (omega (arith, p.0)))

pub plain_all : (xs : List ℕ) → position is_special xs ≡ None → IsPlain xs (length xs)
plain_all xs none = let far = position_none is_special xs none in λ k h. fails_before_first is_special xs k 0 (omega (arith, far))

-- One more word stands ahead of a space.
pub word_read : (text : List ℕ) (few : List (Bor (List ℕ))) (count : ℕ) (rest : List ℕ) (at : ℕ) (word : Bor (List ℕ)) → AreReadIn text few count rest → at < length rest → IsPlain rest at
    → word.now ≡ take at rest → 0 < at → drop at rest ≡ 32 ∷ drop (suc at) rest → count < 8 → AreReadIn text (set few count word) (count + 1) (drop (suc at) rest)
word_read text few count rest at word so p plain front some behind room =
    let line : line_of rest ≡ take at rest ++ 32 ∷ line_of (drop (suc at) rest) = line_ahead rest at (omega (arith, p)) plain ∙ ap (λ (r : List ℕ). take at rest ++ line_of r) behind in
    let ahead : slice_split (λ b. b == 32) (line_of rest) ≡ take at rest ∷ slice_split (λ b. b == 32) (line_of (drop (suc at) rest)) =
    ap (slice_split (λ b. b == 32)) line ∙ word_ahead rest (line_of (drop (suc at) rest)) at (omega (arith, p)) plain in
    let within : all_within 32 126 (line_of rest) ≡ all_within 32 126 (line_of (drop (suc at) rest)) =
    ap (all_within 32 126) line ∙ bytes_ahead rest (32 ∷ line_of (drop (suc at) rest)) at (omega (arith, p)) plain in
    let long : length (line_of rest) ≡ at + suc (length (line_of (drop (suc at) rest))) =
    ap length line ∙ length-append (take at rest) (32 ∷ line_of (drop (suc at) rest)) ∙ ap (λ (n : ℕ). n + suc (length (line_of (drop (suc at) rest)))) (front_length at rest (omega (arith, p))) in
    let more = more_words few count word (omega (arith, so.read.room)) in
    record {
      read = record {
        room = length-set few count word ∙ so.read.room;
        many = omega arith;
        less = omega (arith, long, so.read.less);
        bytes = sym within ∙ so.read.bytes;
        cut = rw (more, append_assoc, front, ← ahead) so.read.cut;
        full = rw more (more_full (map (λ w. w.now) (take count few)) word.now so.read.full (rw front (omega (arith, p, length-take at rest))));
      };
      far = omega (arith, long, so.far, length-drop (suc at) rest, p);
    }

-- One more word stands ahead of a space, with what stands behind it.
pub next_read : (text : List ℕ) (few : List (Bor (List ℕ))) (count : ℕ) (rest : List ℕ) (at : ℕ) (word : Bor (List ℕ)) (behind : List ℕ) → AreReadIn text few count rest
    → position is_special rest ≡ Some at → word.now ≡ take at rest → behind ≡ drop at rest → 0 < at → get_or behind 0 0 ≡ 32 → count < 8
    → AreReadIn text (set few count word) (count + 1) (take (length behind - 1) (drop 1 behind))
next_read text few count rest at word behind so first front back some space room =
    let p = plain_ahead rest at first in
    let left : take (length behind - 1) (drop 1 behind) ≡ drop (suc at) rest =
    take_all (length behind - 1) (drop 1 behind) (omega (arith, length-drop 1 behind)) ∙ ap (drop 1) back ∙ drop-drop 1 at rest ∙ ap (λ (n : ℕ). drop n rest) (add-one at) in
    rw left (word_read text few count rest at word so p.0 p.1 front some (at_byte rest at behind 32 p.0 back space) room)

-- The last word ends the line.
pub words_read : (text : List ℕ) (few : List (Bor (List ℕ))) (count : ℕ) (rest : List ℕ) (at : ℕ) (word : Bor (List ℕ)) → AreReadIn text few count rest → at ≤ length rest → IsPlain rest at
    → line_of rest ≡ take at rest → word.now ≡ take at rest → 0 < at → pointwise nat_eq (35 ∷ []) (take 1 text) ≡ false → count < 8
    → AreFewWords (line_of text) (map (λ w. w.now) (take (count + 1) (set few count word)))
words_read text few count rest at word so p plain line front some apart room =
    let more = more_words few count word (omega (arith, so.read.room)) in
    let short : length (line_of rest) ≡ at = ap length line ∙ front_length at rest p in
    record {
      bytes = sym so.read.bytes ∙ ap (all_within 32 126) (line ∙ sym (append-nil (take at rest))) ∙ bytes_ahead rest [] at p plain;
      says = says_some text (omega (arith, short, so.read.less)) apart;
      cut = more ∙ ap (λ (words : List (List ℕ)). map (λ w. w.now) (take count few) ++ words)
          (ap (λ (w : List ℕ). w ∷ []) front ∙ sym (last_word rest at p plain) ∙ ap (slice_split (λ b. b == 32)) (sym line)) ∙ so.read.cut;
      full = rw more (more_full (map (λ w. w.now) (take count few)) word.now so.read.full (rw front (omega (arith, p, length-take at rest))));
    }

-- A line of few words says what they say.
pub few_say : (before : Before) (line : List ℕ) (words : List (List ℕ)) → length line ≤ 65536 → AreFewWords line words → line_says before line ≡ kind_says before words
unfolding line_says words_say
few_say before line words short few =
    let long : nat_le (length line) 65536 ≡ true = grind (arith, nat_tests) in rw (long, few.bytes, few.says, ← few.cut, few.full) refl

-- How long the line is that ends at a place.
pub length_read : (text : List ℕ) (few : List (Bor (List ℕ))) (count : ℕ) (rest : List ℕ) (at : ℕ) (behind : List ℕ) → AreReadIn text few count rest → at ≤ length rest
    → line_of rest ≡ take at rest → behind ≡ drop at rest → length text - length behind ≡ length (line_of text)
length_read text few count rest at behind so p line back =
    let short : length (line_of rest) ≡ at = ap length line ∙ front_length at rest p in
    let left : length behind + at ≡ length rest = omega (arith, ap length back, length-drop at rest, p) in
    omega (arith, so.far, so.read.less, short, left)

pub length_whole : (text : List ℕ) (few : List (Bor (List ℕ))) (count : ℕ) (rest : List ℕ) → AreReadIn text few count rest → line_of rest ≡ take (length rest) rest
    → length text ≡ length (line_of text)
length_whole text few count rest so line =
    let short : length (line_of rest) ≡ length rest = ap length line ∙ front_length (length rest) rest (omega arith) in omega (arith, so.far, short)
