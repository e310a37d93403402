-- In which list of a timer's wheel a mark stands, by its moment and the moment that the wheel has reached. This project's own choice.
use Rattle.std.specs.Prelude.{ℕ, zero, suc, ◌+◌, ◌*◌, ◌/◌, ◌%◌, ◌==◌, if◌then◌else◌}

-- The list of a later moment, where so many levels follow: by the lowest byte of the moment where the two differ in no other, else the list of the rest of both on the next level.
unfoldable pub list_from : ℕ → ℕ → ℕ → ℕ → ℕ
list_from zero list moment base = list
list_from (suc levels) list moment base = if moment / 256 == base / 256 then list + moment % 256 else list_from levels (list + 256) (moment / 256) (base / 256)

-- The list of a moment later than the base: by the highest byte in which the two differ, and this byte of the moment. List 0 is of no moment.
unfoldable pub home_of : ℕ → ℕ → ℕ
home_of base moment = list_from 8 1 moment base

-- how many numbers there are of so many bytes
abbrev pub span_of : ℕ → ℕ
span_of zero = 1
span_of (suc bytes) = 256 * span_of bytes
