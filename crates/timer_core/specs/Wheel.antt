-- What a timer's wheel stands for: the marks of its heap and of its lists, in the order in which they are taken. This project's own choice.
use Rattle.std.specs.Prelude.{◌≡◌, ℕ, ◌<◌, ◌≤◌, ◌≢◌, Bool, true, false, ◌==◌, ◌&&◌, ◌||◌, ltb, if◌then◌else◌, List, [], ◌∷◌, ◌++◌, map, length, set, sum_by}
use Rattle.std.specs.List.{AllByRecursion}
use Rattle.std.specs.declared.cmp.Ordering.{Ordering}
use Rattle.std.specs.Ordering.{nat_cmp, ordering_then}
use Rattle.std.specs.BinaryHeap.{IsHeap}
use Rattle.std.specs.declared.cmp.Reverse.{Reverse}
use Rattle.timer_core.specs.declared.mark.Mark.{Mark}
use Rattle.timer_core.specs.declared.entry.Entry.{Entry}
use Rattle.timer_core.specs.Entries.{mark_of}
use Rattle.timer_core.specs.Chains.{list_at, rest_of}
use Rattle.timer_core.specs.Homes.{home_of}

-- the same of entries of one moment and one rank: by the order of adding, and then by what else they hold
abbrev pub is_added_after : Entry → Entry → Bool
is_added_after e f = ltb f.order e.order || (f.order == e.order && (ltb f.id e.id || (f.id == e.id && ltb f.code e.code)))

-- whether an entry comes after another: by moment, by rank, and then by the order of adding
abbrev pub is_after : Entry → Entry → Bool
is_after e f = ltb f.moment e.moment || (f.moment == e.moment && (ltb f.rank e.rank || (f.rank == e.rank && is_added_after e f)))

-- the entries with one more, in front of those that come after it
abbrev pub with_entry : Entry → List Entry → List Entry
with_entry e [] = e ∷ []
with_entry e (f ∷ fs) = if is_after f e then e ∷ f ∷ fs else f ∷ with_entry e fs

-- the entries in the order in which they are taken
abbrev pub in_order : List Entry → List Entry
in_order [] = []
in_order (e ∷ es) = with_entry e (in_order es)

-- the entries of all lists
abbrev pub all_of : List (List Entry) → List Entry
all_of [] = []
all_of (es ∷ lists) = es ++ all_of lists

-- the lists but the first, whose nodes are free
abbrev pub used_lists : List (List Entry) → List (List Entry)
used_lists [] = []
used_lists (free ∷ lists) = lists

-- the entries of a heap that has the first one on top
abbrev pub heap_entries : List (Reverse Entry) → List Entry
heap_entries items = map (λ (r : Reverse Entry). r.0) items

-- the entries that wait
abbrev pub waiting_of : List (Reverse Entry) → List (List Entry) → List Entry
waiting_of heap lists = heap_entries heap ++ all_of (used_lists lists)

-- the marks that wait, in the order in which they are taken
abbrev pub marks_of : List (Reverse Entry) → List (List Entry) → List Mark
marks_of heap lists = map mark_of (in_order (waiting_of heap lists))

-- how the heap compares entries of one moment and one rank
abbrev pub by_adding : Reverse Entry → Reverse Entry → Ordering
by_adding x y = ordering_then (nat_cmp y.0.order x.0.order) (ordering_then (nat_cmp y.0.id x.0.id) (nat_cmp y.0.code x.0.code))

-- and how it compares all
abbrev pub by_entry : Reverse Entry → Reverse Entry → Ordering
by_entry x y = ordering_then (nat_cmp y.0.moment x.0.moment) (ordering_then (nat_cmp y.0.rank x.0.rank) (by_adding x y))

-- an entry stands in the list of its moment, which the base hasn't reached
pub record IsHome (base list : ℕ) (e : Entry) : Type 0 where
  pub later : base < e.moment
  pub within : e.moment < 18446744073709551616
  pub home : home_of base e.moment ≡ list

-- where each entry stands: those whose moment is reached in the heap, the others in the lists of their moments
pub record IsSettled (base : ℕ) (heap : List (Reverse Entry)) (lists : List (List Entry)) : Type 0 where
  pub reached : AllByRecursion (λ (r : Reverse Entry). r.0.moment ≤ base) heap
  pub ordered : IsHeap by_entry heap
  pub homes : (k : ℕ) → 0 < k → AllByRecursion (IsHome base k) (list_at lists k)

-- an entry of a list whose first moment the base has reached: it goes to the heap, or to an earlier list
pub record IsSinking (base list : ℕ) (e : Entry) : Type 0 where
  pub from : base ≤ e.moment
  pub within : e.moment < 18446744073709551616
  pub sinks : base < e.moment → home_of base e.moment < list

-- the same while the entries of one list go where they stand from now on
pub record IsSpreading (base list : ℕ) (heap : List (Reverse Entry)) (lists : List (List Entry)) : Type 0 where
  pub reached : AllByRecursion (λ (r : Reverse Entry). r.0.moment ≤ base) heap
  pub ordered : IsHeap by_entry heap
  pub homes : (k : ℕ) → 0 < k → k ≢ list → AllByRecursion (IsHome base k) (list_at lists k)
  pub sinking : AllByRecursion (IsSinking base list) (list_at lists list)

-- the same entries, each as often, in another order
pub record AreAlike (xs ys : List Entry) : Type 0 where
  pub same : (w : Entry → ℕ) → sum_by w xs ≡ sum_by w ys

-- an entry comes after none of the entries
abbrev pub IsLeast : Entry → List Entry → Type 0
IsLeast e es = AllByRecursion (λ f. is_after e f ≡ false) es

-- no entry is due
abbrev pub AreLater : ℕ → List Entry → Type 0
AreLater now es = AllByRecursion (λ (e : Entry). now < e.moment) es

-- the least moment of some entries
pub record IsFirstMoment (es : List Entry) (moment : ℕ) : Type 0 where
  pub least : AllByRecursion (λ (e : Entry). moment ≤ e.moment) es
  pub there : AreLater moment es → ⊥

-- the lists hold the same, whatever their number
pub record HoldTheSame (old new : List (List Entry)) : Type 0 where
  pub all : all_of (used_lists new) ≡ all_of (used_lists old)
  pub each : (k : ℕ) → list_at new k ≡ list_at old k

-- the first list that has an entry
pub record IsFirstList (lists : List (List Entry)) (list : ℕ) : Type 0 where
  pub used : 0 < list
  pub within : list < length lists
  pub some : list_at lists list ≢ []
  pub first : (k : ℕ) → 0 < k → k < list → list_at lists k ≡ []

-- the lists with one entry more in front of one, for which a free node is used where there is one
abbrev pub inserted : ℕ → Entry → List (List Entry) → List (List Entry)
inserted list e lists = set (set lists 0 (rest_of (list_at lists 0))) list (e ∷ list_at lists list)

-- What a wheel keeps: where each entry stands, that each was added before the next one, how many there are, and that the heap has room for all of them.
pub record IsWheel (base next count room : ℕ) (heap : List (Reverse Entry)) (lists : List (List Entry)) : Type 0 where
  pub settled : IsSettled base heap lists
  pub orders : AllByRecursion (λ (e : Entry). ltb e.order next ≡ true) (waiting_of heap lists)
  pub counted : length (waiting_of heap lists) ≡ count
  pub roomy : count ≤ room
