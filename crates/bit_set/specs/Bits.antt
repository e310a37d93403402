-- A set of numbers as words of 64 bits. This project's own choice.
use Rattle.std.specs.Prelude.{◌≡◌, ℕ, ◌/◌, ◌%◌, ◌<◌, ◌^◌, ◌==◌, Bool, true, false, List, length, get_or}
use Rattle.std.specs.Int.{bit_at}

-- the word that a number's bit is in
abbrev pub word_at : List ℕ → ℕ → ℕ
word_at words w = get_or words w 0

-- whether a number is in the set
abbrev pub is_in : List ℕ → ℕ → Bool
is_in words k = bit_at (word_at words (k / 64)) (k % 64) == 1

-- no number is in it
abbrev pub AreNone : List ℕ → Type 0
AreNone words = (k : ℕ) → is_in words k ≡ false

-- this number is, and no lower one
pub record IsLeast (words : List ℕ) (k : ℕ) : Type 0 where
  pub below : k < 4096
  pub in_it : is_in words k ≡ true
  pub first : (j : ℕ) → j < k → is_in words j ≡ false

-- there are 64 words of 64 bits, and those that have a bit are told
pub record AreUsed (used : ℕ) (words : List ℕ) : Type 0 where
  pub count : length words ≡ 64
  pub small : used < 2 ^ 64
  pub fit : (w : ℕ) → word_at words w < 2 ^ 64
  pub none : (w : ℕ) → w < 64 → bit_at used w ≡ 0 → word_at words w ≡ 0
  pub some : (w : ℕ) → w < 64 → bit_at used w ≡ 1 → 0 < word_at words w
