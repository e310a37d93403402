-- The order in which a timer's marks are taken: by moment, then by rank, then in the order of adding. This project's own choice.
use Rattle.std.specs.Prelude.{◌≡◌, ℕ, Bool, false, ◌==◌, ◌&&◌, ◌||◌, ltb, leb, if◌then◌else◌, List, [], ◌∷◌, Some, None}
use Rattle.std.specs.List.{AllByRecursion}
use Rattle.std.specs.declared.option.Option.{Option}
use Rattle.timer_core.specs.declared.mark.Mark.{Mark}

-- whether a mark comes after another by its moment, or in the same moment by its rank
abbrev pub comes_after : Mark → Mark → Bool
comes_after mark other = ltb other.moment mark.moment || (other.moment == mark.moment && ltb other.rank mark.rank)

-- the marks with one more, behind all that do not come after it
abbrev pub added : Mark → List Mark → List Mark
added mark [] = mark ∷ []
added mark (m ∷ ms) = if comes_after m mark then mark ∷ m ∷ ms else m ∷ added mark ms

-- whether a mark is due
abbrev pub is_due : ℕ → Mark → Bool
is_due now mark = leb mark.moment now

-- the mark that is taken: the first one, where it is due
abbrev pub due_mark : ℕ → List Mark → Option Mark
due_mark now [] = None
due_mark now (m ∷ ms) = if is_due now m then Some m else None

-- the marks that are left then
abbrev pub rest_after : ℕ → List Mark → List Mark
rest_after now [] = []
rest_after now (m ∷ ms) = if is_due now m then ms else m ∷ ms

-- the moment of the first mark
abbrev pub first_moment : List Mark → Option ℕ
first_moment [] = None
first_moment (m ∷ ms) = Some m.moment

-- the mark comes after none of the marks
abbrev pub IsFirst : Mark → List Mark → Type 0
IsFirst mark marks = AllByRecursion (λ other. comes_after mark other ≡ false) marks

-- no mark is due
abbrev pub NoneIsDue : ℕ → List Mark → Type 0
NoneIsDue now marks = AllByRecursion (λ m. is_due now m ≡ false) marks

-- the marks stand in the order in which they are taken: none comes after one that stands behind it
abbrev pub IsSorted : List Mark → Type 0
IsSorted [] = Unit {0}
IsSorted (m ∷ ms) = IsFirst m ms × IsSorted ms
