-- How a number is found among numbers that differ: where it stands if all follow each other, and else by a tree. This project's own choice.
use Rattle.std.specs.Prelude.{◌≡◌, ℕ, ◌-◌, nat_eq, Bool, false, ◌||◌, length, List, slice_get, get_or, position, Option, None, Some, if◌then◌else◌}
use Rattle.std.specs.List.{IsDistinct}
use Rattle.std.specs.Ordering.{nat_cmp}
use Rattle.std.specs.BTreeMap.{BTreeMap, get}

-- where a number stands if all follow each other
abbrev pub guess : List ℕ → ℕ → ℕ
guess numbers number = number - get_or numbers 0 0

-- whether a number stands behind the last one where all follow each other
abbrev pub follows : List ℕ → ℕ → Bool
follows numbers number = nat_eq (length numbers) 0 || nat_eq (guess numbers number) (length numbers)

abbrev pub is_number : ℕ → Option ℕ → Bool
is_number number None = false
is_number number (Some other) = nat_eq number other

-- whether a number stands at a place
abbrev pub stands : List ℕ → ℕ → ℕ → Bool
stands numbers number place = is_number number (slice_get numbers place)

-- the place that is found
abbrev pub found : BTreeMap ℕ ℕ → List ℕ → ℕ → Option ℕ
found places numbers number = if stands numbers number (guess numbers number) then Some (guess numbers number) else get nat_cmp places number

-- each number is found where it stands, no other is found, and none stands twice
pub record AreFound (places : BTreeMap ℕ ℕ) (numbers : List ℕ) : Type 0 where
  pub finds : (number : ℕ) → found places numbers number ≡ position (nat_eq number) numbers
  pub once : IsDistinct nat_eq numbers
