-- What the order of marks gives: adding keeps a list sorted, keeps each mark, and keeps equal ones in the order of adding.
use Rattle.std.proofs.Common.{◌≡◌, ℕ, Bool, true, false, ◌==◌, ◌&&◌, ◌||◌, cond, ltb, leb, List, [], ◌∷◌, ◌++◌, filter, Some, None, arith, refl, sym, ap, ◌∙◌, subst}
use Rattle.std.specs.List.{AllByRecursion}
use Rattle.std.specs.List.Sorted.{IsPermutation}
use Rattle.std.proofs.lemmas.Bool.Decides.{nat_tests}
use Rattle.std.proofs.lemmas.List.Elements.{filter-append}
use Rattle.std.proofs.lemmas.List.{append-nil, append_assoc}
use Rattle.std.proofs.lemmas.List.Sorted.{IsPermutation-refl, IsPermutation-cons, IsPermutation-sym, IsPermutation-trans, IsPermutation-middle, IsPermutation-append_left}
use Rattle.timer_core.specs.declared.mark.Mark.{Mark}
use Rattle.timer_core.specs.Marks.{comes_after, added, is_due, due_mark, rest_after, IsFirst, NoneIsDue, IsSorted}
use Rattle.timer_core.specs.Laws.{all_added, is_at}

-- ---- the order, on numbers

-- whether a moment and rank come after another
abbrev pub is_later : (m r n s : ℕ) → Bool
is_later m r n s = ltb n m || (n == m && ltb s r)

later_apart : (m r n s : ℕ) → is_later m r n s ≡ true → is_later n s m r ≡ false
later_apart m r n s h = grind (arith, nat_tests)

later_itself : (m r : ℕ) → is_later m r m r ≡ false
later_itself m r = grind (arith, nat_tests)

not_later_trans : (m r n s o t : ℕ) → is_later m r n s ≡ true → is_later m r o t ≡ false → is_later n s o t ≡ false
not_later_trans m r n s o t h k = grind (arith, nat_tests)

later_trans : (m r n s o t : ℕ) → is_later m r n s ≡ true → is_later m r o t ≡ false → is_later o t n s ≡ true
later_trans m r n s o t h k = grind (arith, nat_tests)

later_differs : (m r n s a b : ℕ) → is_later m r n s ≡ true → (n == a && s == b) ≡ true → (m == a && r == b) ≡ false
later_differs m r n s a b h k = grind (arith, nat_tests)

not_later_due : (m r n s now : ℕ) → is_later m r n s ≡ false → leb m now ≡ false → leb n now ≡ false
not_later_due m r n s now h k = grind (arith, nat_tests)

-- ---- what holds of each mark

all_weaker : {X : Type 0} (P Q : X → Type 0) → ((x : X) → P x → Q x) → (xs : List X) → AllByRecursion P xs → AllByRecursion Q xs
all_weaker P Q f [] h = tt
all_weaker P Q f (x ∷ xs) h = (f x h.0, all_weaker P Q f xs h.1)

all_added_if : (P : Mark → Type 0) (mark m : Mark) (ms rest : List Mark) (b : Bool) → P mark → P m → AllByRecursion P ms → AllByRecursion P rest → AllByRecursion P (cond b (mark ∷ m ∷ ms) (m ∷ rest))
all_added_if P mark m ms rest true h k a r = (h, (k, a))
all_added_if P mark m ms rest false h k a r = (k, r)

all_with_one : (P : Mark → Type 0) (mark : Mark) (ms : List Mark) → P mark → AllByRecursion P ms → AllByRecursion P (added mark ms)
all_with_one P mark [] h a = (h, tt)
all_with_one P mark (m ∷ ms) h a = all_added_if P mark m ms (added mark ms) (comes_after m mark) h a.0 a.1 (all_with_one P mark ms h a.1)

-- ---- sorted

sorted_if : (mark m : Mark) (ms rest : List Mark) (b : Bool) → comes_after m mark ≡ b → IsSorted (m ∷ ms)
    → (comes_after m mark ≡ false → IsFirst m rest) → IsSorted rest → IsSorted (cond b (mark ∷ m ∷ ms) (m ∷ rest))
sorted_if mark m ms rest true e h k r = (
  (
    later_apart m.moment m.rank mark.moment mark.rank e,
    all_weaker (λ other. comes_after m other ≡ false) (λ other. comes_after mark other ≡ false)
        (λ other n. not_later_trans m.moment m.rank mark.moment mark.rank other.moment other.rank e n) ms h.0,
  ),
  h,
)
sorted_if mark m ms rest false e h k r = (k e, r)

-- a list that is sorted stays so with one more mark
pub sorted_added : (mark : Mark) (ms : List Mark) → IsSorted ms → IsSorted (added mark ms)
sorted_added mark [] h = (tt, tt)
sorted_added mark (m ∷ ms) h =
    sorted_if mark m ms (added mark ms) (comes_after m mark) refl h (λ e. all_with_one (λ other. comes_after m other ≡ false) mark ms e h.0) (sorted_added mark ms h.1)

pub sorted_all_added : (marks more : List Mark) → IsSorted marks → IsSorted (all_added marks more)
sorted_all_added marks [] h = h
sorted_all_added marks (m ∷ more) h = sorted_all_added (added m marks) more (sorted_added m marks h)

sorted_rest_if : (b : Bool) (m : Mark) (ms : List Mark) → IsSorted (m ∷ ms) → IsSorted (cond b ms (m ∷ ms))
sorted_rest_if true m ms h = h.1
sorted_rest_if false m ms h = h

-- and when one was taken
pub sorted_rest : (now : ℕ) (ms : List Mark) → IsSorted ms → IsSorted (rest_after now ms)
sorted_rest now [] h = tt
sorted_rest now (m ∷ ms) h = sorted_rest_if (is_due now m) m ms h

-- ---- no mark is lost

kept_if : (mark m : Mark) (ms rest : List Mark) (b : Bool) → IsPermutation (mark ∷ ms) rest → IsPermutation (mark ∷ m ∷ ms) (cond b (mark ∷ m ∷ ms) (m ∷ rest))
kept_if mark m ms rest true h = IsPermutation-refl (mark ∷ m ∷ ms)
kept_if mark m ms rest false h =
    IsPermutation-trans (mark ∷ m ∷ ms) (m ∷ mark ∷ ms) (m ∷ rest) (IsPermutation-sym (m ∷ mark ∷ ms) (mark ∷ m ∷ ms) (IsPermutation-middle (m ∷ []) mark ms)) (IsPermutation-cons m (mark ∷ ms) rest h)

pub kept : (mark : Mark) (ms : List Mark) → IsPermutation (mark ∷ ms) (added mark ms)
kept mark [] = IsPermutation-refl (mark ∷ [])
kept mark (m ∷ ms) = kept_if mark m ms (added mark ms) (comes_after m mark) (kept mark ms)

pub all_kept : (marks more : List Mark) → IsPermutation (marks ++ more) (all_added marks more)
all_kept marks [] = subst (λ (xs : List Mark). IsPermutation xs marks) (sym (append-nil marks)) (IsPermutation-refl marks)
all_kept marks (m ∷ more) =
    IsPermutation-trans (marks ++ m ∷ more) (m ∷ (marks ++ more)) (all_added (added m marks) more) (IsPermutation-middle marks m more)
    (IsPermutation-trans (m ∷ (marks ++ more)) (added m marks ++ more) (all_added (added m marks) more) (IsPermutation-append_left more (m ∷ marks) (added m marks) (kept m marks))
    (all_kept (added m marks) more))

took_if : (b : Bool) (m mark : Mark) (ms : List Mark) → cond b (Some m) None ≡ Some mark → m ∷ ms ≡ mark ∷ cond b ms (m ∷ ms)
took_if true m mark ms e = cc
took_if false m mark ms e = absurd (cc)

pub took : (now : ℕ) (mark : Mark) (ms : List Mark) → due_mark now ms ≡ Some mark → ms ≡ mark ∷ rest_after now ms
took now mark [] e = absurd (cc)
took now mark (m ∷ ms) e = took_if (is_due now m) m mark ms e

left_if : (b : Bool) (m : Mark) (ms : List Mark) → cond b (Some m) None ≡ None → m ∷ ms ≡ cond b ms (m ∷ ms)
left_if true m ms e = absurd (cc)
left_if false m ms e = refl

pub left : (now : ℕ) (ms : List Mark) → due_mark now ms ≡ None → ms ≡ rest_after now ms
left now [] e = refl
left now (m ∷ ms) e = left_if (is_due now m) m ms e

-- ---- equal marks

filter_none : {X : Type 0} (p : X → Bool) (xs : List X) → AllByRecursion (λ x. p x ≡ false) xs → filter p xs ≡ []
filter_none p [] h = refl
filter_none p (x ∷ xs) h = ap (λ b. cond b (x ∷ filter p xs) (filter p xs)) h.0 ∙ filter_none p xs h.1

-- a mark in front of marks that come after it, or behind them
filter_moved : (p : Mark → Bool) (mark : Mark) (ms : List Mark) (b : Bool) → p mark ≡ b → (b ≡ true → AllByRecursion (λ m. p m ≡ false) ms)
    → cond b (mark ∷ filter p ms) (filter p ms) ≡ filter p ms ++ cond b (mark ∷ []) []
filter_moved p mark ms true e h = let n = filter_none p ms (h refl) in ap (λ zs. mark ∷ zs) n ∙ ap (λ zs. zs ++ mark ∷ []) (sym n)
filter_moved p mark ms false e h = sym (append-nil (filter p ms))

apart : (moment rank : ℕ) (mark m : Mark) (ms : List Mark) → comes_after m mark ≡ true → IsFirst m ms → is_at moment rank mark ≡ true
    → AllByRecursion (λ other. is_at moment rank other ≡ false) (m ∷ ms)
apart moment rank mark m ms e h k = (
  later_differs m.moment m.rank mark.moment mark.rank moment rank e k,
  all_weaker (λ other. comes_after m other ≡ false) (λ other. is_at moment rank other ≡ false)
      (λ other n. later_differs other.moment other.rank mark.moment mark.rank moment rank (later_trans m.moment m.rank mark.moment mark.rank other.moment other.rank e n) k) ms h,
)

equal_if : (moment rank : ℕ) (mark m : Mark) (ms rest : List Mark) (b : Bool) → comes_after m mark ≡ b → IsSorted (m ∷ ms)
    → filter (is_at moment rank) rest ≡ filter (is_at moment rank) (ms ++ mark ∷ [])
    → filter (is_at moment rank) (cond b (mark ∷ m ∷ ms) (m ∷ rest)) ≡ filter (is_at moment rank) (m ∷ ms ++ mark ∷ [])
equal_if moment rank mark m ms rest true e h r =
    filter_moved (is_at moment rank) mark (m ∷ ms) (is_at moment rank mark) refl (λ k. apart moment rank mark m ms e h.0 k) ∙ sym (filter-append (is_at moment rank) (m ∷ ms) (mark ∷ []))
equal_if moment rank mark m ms rest false e h r = ap (λ zs. cond (is_at moment rank m) (m ∷ zs) zs) r

-- one more mark comes last among those of its moment and rank
pub equal_added : (moment rank : ℕ) (mark : Mark) (ms : List Mark) → IsSorted ms → filter (is_at moment rank) (added mark ms) ≡ filter (is_at moment rank) (ms ++ mark ∷ [])
equal_added moment rank mark [] h = refl
equal_added moment rank mark (m ∷ ms) h = equal_if moment rank mark m ms (added mark ms) (comes_after m mark) refl h (equal_added moment rank mark ms h.1)

pub equal_all_added : (moment rank : ℕ) (marks more : List Mark) → IsSorted marks → filter (is_at moment rank) (all_added marks more) ≡ filter (is_at moment rank) (marks ++ more)
equal_all_added moment rank marks [] h = ap (λ xs. filter (is_at moment rank) xs) (sym (append-nil marks))
equal_all_added moment rank marks (m ∷ more) h =
    equal_all_added moment rank (added m marks) more (sorted_added m marks h)
    ∙ filter-append (is_at moment rank) (added m marks) more
    ∙ ap (λ xs. xs ++ filter (is_at moment rank) more) (equal_added moment rank m marks h)
    ∙ sym (filter-append (is_at moment rank) (marks ++ m ∷ []) more)
    ∙ ap (λ xs. filter (is_at moment rank) xs) (append_assoc marks (m ∷ []) more)

-- ---- the first is taken

-- a sorted list begins with a mark that comes after none
pub first : (m : Mark) (ms : List Mark) → IsSorted (m ∷ ms) → IsFirst m (m ∷ ms)
first m ms h = (later_itself m.moment m.rank, h.0)

none_if : (now : ℕ) (b : Bool) (m : Mark) (ms : List Mark) → is_due now m ≡ b → IsFirst m ms → cond b (Some m) None ≡ None → NoneIsDue now (m ∷ ms)
none_if now true m ms t h e = absurd (cc)
none_if now false m ms t h e =
    (t, all_weaker (λ other. comes_after m other ≡ false) (λ other. is_due now other ≡ false) (λ other n. not_later_due m.moment m.rank other.moment other.rank now n t) ms h)

-- where none is taken none is due
pub none_taken : (now : ℕ) (ms : List Mark) → IsSorted ms → due_mark now ms ≡ None → NoneIsDue now ms
none_taken now [] h e = tt
none_taken now (m ∷ ms) h e = none_if now (is_due now m) m ms refl h.0 e
