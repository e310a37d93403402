-- What the quick ways of reading a line's words find. This project's own choice.
use Rattle.std.specs.Prelude.{◌≡◌, ℕ, ◌≤◌, ◌==◌, Bool, true, false, ◌&&◌, nat_le, List, [], ◌∷◌, if◌then◌else◌, Option, None, Some}
use Rattle.std.specs.List.{list_all, slice_split}
use Rattle.rpc_model.specs.Words.{all_within, digits_after}
use Rattle.rpc_model.specs.Lines.{is_word, says_nothing}

-- the first line of a text, and the lines behind it
abbrev pub line_of : List ℕ → List ℕ
line_of [] = []
line_of (b ∷ bs) = if b == 10 then [] else b ∷ line_of bs

abbrev pub lines_behind : List ℕ → List (List ℕ)
lines_behind [] = []
lines_behind (b ∷ bs) = if b == 10 then slice_split (λ b. b == 10) bs else lines_behind bs

-- these are the words of the line, which has no bad byte, no empty word, and is no comment
pub record AreFewWords (line : List ℕ) (words : List (List ℕ)) : Type 0 where
  pub bytes : all_within 32 126 line ≡ true
  pub says : says_nothing line ≡ false
  pub cut : words ≡ slice_split (λ b. b == 32) line
  pub full : list_all is_word words ≡ true

-- the number that the word spells, if it is right and the number at most high
abbrev pub IsNumber : Option ℕ → Bool → List ℕ → ℕ → Type 0
IsNumber None right word high = (right && nat_le (digits_after 0 word) high) ≡ false
IsNumber (Some n) right word high = (right ≡ true) × (n ≡ digits_after 0 word) × (n ≤ high)
