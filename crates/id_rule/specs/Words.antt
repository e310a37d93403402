-- The word of a slot, put together and taken apart. The layout is this project's own choice; its fields stand in rpc_model's module Gone.
use Rattle.std.specs.Prelude.{ℕ, ◌==◌, if◌then◌else◌, ◌+◌, ◌*◌}
use Rattle.rpc_model.specs.Gone.{head_in, code_in, range_in, first_in}
use Rattle.id_rule.specs.declared.word.State.{State}
use Rattle.id_rule.specs.declared.word.State.TheVariants.{Vacant, Reserved, Free, Locked, Ended, Retired, Unused}
use Rattle.id_rule.specs.declared.word.Word.{Word}

-- the number of a state
abbrev pub code_of : State → ℕ
code_of Vacant = 0
code_of Reserved = 1
code_of Free = 2
code_of Locked = 3
code_of Ended = 4
code_of Retired = 5
code_of Unused = 6

-- the states 4 and 5, or none that a slot has
abbrev pub later_state : ℕ → State
later_state n = if n == 4 then Ended else (if n == 5 then Retired else Unused)

-- the state with this number
abbrev pub state_of : ℕ → State
state_of n = if n == 0 then Vacant else (if n == 1 then Reserved else (if n == 2 then Free else (if n == 3 then Locked else later_state n)))

-- the word with these fields
abbrev pub packed_word : ℕ → ℕ → ℕ → ℕ → ℕ
packed_word first range code head = first * 1073741824 + range * 524288 + code * 65536 + head

-- the fields of a word
abbrev pub unpacked_word : ℕ → Word
unpacked_word n = record { first = first_in n; range = range_in n; state = state_of (code_in n); head = head_in n }

-- each version below it is of a range that has ended, as the word says
abbrev pub ended_below_in : ℕ → ℕ
ended_below_in n = if code_in n == 4 then first_in n + range_in n else (if code_in n == 5 then 4294967296 else first_in n)
