-- The ids that wait for a reply, each with its call's number, in the order of adding. This project's own choice.
use Rattle.std.specs.Prelude.{ℕ, Bool, nat_eq, List, slice_get, is_some}
use Rattle.std.specs.List.{IsDistinct}
use Rattle.std.specs.Map.{keys_of, lookup, remove_entry}
use Rattle.std.specs.declared.option.Option.{Option}

-- the call of an id, where the id waits
abbrev pub call_of : ℕ → List (ℕ × ℕ) → Option ℕ
call_of id waiting = lookup (nat_eq id) waiting

-- whether an id waits
abbrev pub is_outstanding : ℕ → List (ℕ × ℕ) → Bool
is_outstanding id waiting = is_some (call_of id waiting)

-- the others, in their order
abbrev pub without : ℕ → List (ℕ × ℕ) → List (ℕ × ℕ)
without id waiting = remove_entry (nat_eq id) waiting

-- the one that was added first
abbrev pub first : List (ℕ × ℕ) → Option (ℕ × ℕ)
first waiting = slice_get waiting 0

-- no id waits twice
abbrev pub IsEachOnce : List (ℕ × ℕ) → Type 0
IsEachOnce waiting = IsDistinct nat_eq (keys_of waiting)
