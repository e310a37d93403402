-- What holds of the marks of a timer, however they are added and taken.
use Rattle.std.specs.Prelude.{◌≡◌, ℕ, Bool, ◌==◌, ◌&&◌, List, [], ◌∷◌, filter, Some, None}
use Rattle.std.specs.List.Sorted.{IsPermutation}
use Rattle.timer_core.specs.declared.mark.Mark.{Mark}
use Rattle.timer_core.specs.Marks.{added, due_mark, rest_after, IsSorted}

-- the marks after more were added, one after the other
abbrev pub all_added : List Mark → List Mark → List Mark
all_added marks [] = marks
all_added marks (m ∷ more) = all_added (added m marks) more

-- Marks that were added to none are sorted, and stay so as marks are added and taken.
abbrev pub MarksAreSorted : Type 0
MarksAreSorted = ((more : List Mark) → IsSorted (all_added [] more))
    × ((mark : Mark) (marks : List Mark) → IsSorted marks → IsSorted (added mark marks))
    × ((now : ℕ) (marks : List Mark) → IsSorted marks → IsSorted (rest_after now marks))

-- Adding loses no mark and doubles none, and taking takes the mark that is handed out and no other.
abbrev pub MarksAreKept : Type 0
MarksAreKept = ((mark : Mark) (marks : List Mark) → IsPermutation (mark ∷ marks) (added mark marks))
    × ((more : List Mark) → IsPermutation more (all_added [] more))
    × ((now : ℕ) (mark : Mark) (marks : List Mark) → due_mark now marks ≡ Some mark → marks ≡ mark ∷ rest_after now marks)
    × ((now : ℕ) (marks : List Mark) → due_mark now marks ≡ None → marks ≡ rest_after now marks)

-- whether a mark has this moment and this rank
abbrev pub is_at : ℕ → ℕ → Mark → Bool
is_at moment rank mark = mark.moment == moment && mark.rank == rank

-- Marks of one moment and one rank stand in the order of adding.
abbrev pub EqualMarksKeepTheirOrder : Type 0
EqualMarksKeepTheirOrder = (moment rank : ℕ) (more : List Mark)
    → filter (is_at moment rank) (all_added [] more) ≡ filter (is_at moment rank) more
