-- The word of an id's slot, and when it shows an id gone. The layout is this project's own choice: from bit 0 on, 16 bits for the head of the errors
-- that wait, 3 for the state, 11 for the size of the range and 32 for its first version.
use Rattle.std.specs.Prelude.{ℕ, Bool, not, ◌==◌, ◌&&◌, ◌||◌, nat_le, nat_lt, ◌+◌, ◌/◌, ◌%◌, ◌^◌}

-- the node at the head of the errors that wait, 0 where none does
abbrev pub head_in : ℕ → ℕ
head_in word = word % 65536

-- the state: 0 vacant, 1 reserved, 2 free, 3 locked, 4 ended, 5 retired
abbrev pub code_in : ℕ → ℕ
code_in word = word / 65536 % 8

-- the size of the range
abbrev pub range_in : ℕ → ℕ
range_in word = word / 524288 % 2048

-- the first version of the range
abbrev pub first_in : ℕ → ℕ
first_in word = word / 1073741824 % 4294967296

-- the version is live in the word: the range is free or locked, and has the version
abbrev pub is_live_in : ℕ → ℕ → Bool
is_live_in word version = (code_in word == 2 || code_in word == 3) && nat_le (first_in word) version && nat_lt version (first_in word + range_in word)

-- the word shows the id gone: the version in its low 32 bits isn't live
abbrev pub gone_by : ℕ → ℕ → Bool
gone_by word id = not (is_live_in word (id % 2 ^ 32))
