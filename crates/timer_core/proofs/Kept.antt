-- A timer's wheel when a mark was added or taken: what it stands for, and that each entry still stands in its place.
use Rattle.std.proofs.Common.{◌≡◌, ℕ, ◌+◌, ◌-◌, ◌<◌, ◌≤◌, ltb, true, List, [], ◌∷◌, ◌++◌, map, length, arith, refl, sym, ap, ◌∙◌, subst, Some, None, cond, MatchOption}
use Rattle.std.specs.List.{AllByRecursion}
use Rattle.std.specs.declared.cmp.Reverse.{Reverse}
use Rattle.std.specs.declared.option.Option.{Option}
use Rattle.std.proofs.lemmas.Bool.Decides.{nat_tests}
use Rattle.std.proofs.lemmas.List.{length-map}
use Rattle.timer_core.specs.declared.mark.Mark.{Mark}
use Rattle.timer_core.specs.declared.entry.Entry.{Entry}
use Rattle.timer_core.specs.Entries.{mark_of, entry_of}
use Rattle.timer_core.specs.Marks.{added, due_mark, rest_after, first_moment, IsFirst, NoneIsDue, IsSorted}
use Rattle.timer_core.specs.Wheel.{in_order, heap_entries, waiting_of, marks_of, IsHome, IsSettled, IsWheel, AreAlike, IsLeast, AreLater, IsFirstMoment, HoldTheSame}
use Rattle.timer_core.proofs.Order.{first, none_taken}
use Rattle.timer_core.proofs.Ordered.{all_weaker, all_in_order, ascending_in_order, marks_with}
use Rattle.timer_core.proofs.Alike.{pass_alike, length_alike}
use Rattle.timer_core.proofs.Taken.{order_same, order_taken, order_added, due_first, rest_first, due_none, rest_none, sorted_marks, first_told, alike_order}

below_test : (m n : ℕ) → m < n → ltb m n ≡ true
below_test m n h = grind (arith, nat_tests)

test_below : (m n : ℕ) → ltb m n ≡ true → m < n
test_below m n h = grind (arith, nat_tests)

-- ---- the same lists

pub same_settled : (base : ℕ) (heap : List (Reverse Entry)) (old new : List (List Entry)) → HoldTheSame old new → IsSettled base heap old → IsSettled base heap new
same_settled base heap old new h s = record {
  reached = s.reached;
  ordered = s.ordered;
  homes = λ k u. subst (λ (es : List Entry). AllByRecursion (IsHome base k) es) (sym (h.each k)) (s.homes k u);
}

pub same_waiting : (heap more : List (Reverse Entry)) (old new : List (List Entry)) → HoldTheSame old new → more ≡ heap → waiting_of more new ≡ waiting_of heap old
same_waiting heap more old new h e = ap (λ (xs : List (Reverse Entry)). waiting_of xs new) e ∙ ap (λ (es : List Entry). heap_entries heap ++ es) h.all

-- ---- a mark is added

module _ (base next count room : ℕ) (heap more : List (Reverse Entry)) (old new : List (List Entry)) (w : IsWheel base next count room heap old) where
  numbered : AllByRecursion (λ (e : Entry). e.order < next) (waiting_of heap old)
  numbered = all_weaker (λ (e : Entry). ltb e.order next ≡ true) (λ (e : Entry). e.order < next) (λ e h. test_below e.order next h) (waiting_of heap old) w.orders

  pub added_wheel : (room' : ℕ) (mark : Mark) → IsSettled base more new → AreAlike (entry_of next mark ∷ waiting_of heap old) (waiting_of more new) → count + 1 ≤ room'
      → IsWheel base (next + 1) (count + 1) room' more new
  added_wheel room' mark s a r = record {
    settled = s;
    orders = pass_alike (λ (e : Entry). ltb e.order (next + 1)) (entry_of next mark ∷ waiting_of heap old) (waiting_of more new) a (
      below_test next (next + 1) (omega arith),
      all_weaker (λ (e : Entry). e.order < next) (λ (e : Entry). ltb e.order (next + 1) ≡ true)
          (λ e h. below_test e.order (next + 1) (omega (arith, h))) (waiting_of heap old) numbered,
    );
    counted = let l = length_alike (entry_of next mark ∷ waiting_of heap old) (waiting_of more new) a in omega (arith, l, w.counted);
    roomy = r;
  }

  pub added_marks : (mark : Mark) → AreAlike (entry_of next mark ∷ waiting_of heap old) (waiting_of more new) → marks_of more new ≡ added mark (marks_of heap old)
  added_marks mark a =
      ap (λ (es : List Entry). map mark_of es) (order_added (waiting_of heap old) (waiting_of more new) (entry_of next mark) a)
      ∙ marks_with mark next (in_order (waiting_of heap old)) (all_in_order (λ (e : Entry). e.order < next) (waiting_of heap old) numbered)

  pub failed_wheel : (room' : ℕ) → IsSettled base more new → waiting_of more new ≡ waiting_of heap old → room ≤ room' → IsWheel base next count room' more new
  failed_wheel room' s a r = record {
    settled = s;
    orders = subst (λ (es : List Entry). AllByRecursion (λ (e : Entry). ltb e.order next ≡ true) es) (sym a) w.orders;
    counted = ap (λ (es : List Entry). length es) a ∙ w.counted;
    roomy = omega (arith, r, w.roomy);
  }

  pub failed_marks : waiting_of more new ≡ waiting_of heap old → marks_of more new ≡ marks_of heap old
  failed_marks a = ap (λ (es : List Entry). map mark_of (in_order es)) a

  -- ---- a mark is taken

  pub taken_wheel : (base' room' : ℕ) (e : Entry) → IsSettled base' more new → AreAlike (waiting_of heap old) (e ∷ waiting_of more new) → room ≤ room' → IsWheel base' next (count - 1) room' more new
  taken_wheel base' room' e s a r = record {
    settled = s;
    orders = (pass_alike (λ (e : Entry). ltb e.order next) (waiting_of heap old) (e ∷ waiting_of more new) a w.orders).1;
    counted = let l = length_alike (waiting_of heap old) (e ∷ waiting_of more new) a in omega (arith, l, w.counted);
    roomy = omega (arith, r, w.roomy);
  }

  pub taken_some : (e : Entry) → AreAlike (waiting_of heap old) (e ∷ waiting_of more new) → 0 < count
  taken_some e a = let l = length_alike (waiting_of heap old) (e ∷ waiting_of more new) a in omega (arith, l, w.counted)

  pub none_wheel : (base' room' : ℕ) → IsSettled base' more new → AreAlike (waiting_of heap old) (waiting_of more new) → room ≤ room' → IsWheel base' next count room' more new
  none_wheel base' room' s a r = record {
    settled = s;
    orders = pass_alike (λ (e : Entry). ltb e.order next) (waiting_of heap old) (waiting_of more new) a w.orders;
    counted = sym (length_alike (waiting_of heap old) (waiting_of more new) a) ∙ w.counted;
    roomy = omega (arith, r, w.roomy);
  }

module _ (heap more : List (Reverse Entry)) (old new : List (List Entry)) (e : Entry) (now : ℕ) (a : AreAlike (waiting_of heap old) (e ∷ waiting_of more new))
    (l : IsLeast e (waiting_of more new)) (d : e.moment ≤ now) where
  order : marks_of heap old ≡ map mark_of (e ∷ in_order (waiting_of more new))
  order = ap (λ (es : List Entry). map mark_of es) (order_taken (waiting_of heap old) (waiting_of more new) e a l)

  pub taken_mark : Some (mark_of e) ≡ due_mark now (marks_of heap old)
  taken_mark = sym (ap (λ (ms : List Mark). due_mark now ms) order ∙ due_first now e (in_order (waiting_of more new)) d)

  pub taken_rest : marks_of more new ≡ rest_after now (marks_of heap old)
  taken_rest = sym (ap (λ (ms : List Mark). rest_after now ms) order ∙ rest_first now e (in_order (waiting_of more new)) d)

  pub taken_first : IsFirst (mark_of e) (marks_of heap old)
  taken_first =
      subst (λ (ms : List Mark). IsFirst (mark_of e) ms) (sym order)
      (first (mark_of e) (map mark_of (in_order (waiting_of more new)))
      (subst (λ (ms : List Mark). IsSorted ms) order (sorted_marks (in_order (waiting_of heap old)) (ascending_in_order (waiting_of heap old)))))

module _ (heap more : List (Reverse Entry)) (old new : List (List Entry)) (now : ℕ) (a : AreAlike (waiting_of heap old) (waiting_of more new)) (l : AreLater now (waiting_of more new)) where
  same_order : marks_of heap old ≡ marks_of more new
  same_order = ap (λ (es : List Entry). map mark_of es) (order_same (waiting_of heap old) (waiting_of more new) a)

  later_order : AreLater now (in_order (waiting_of more new))
  later_order = all_in_order (λ (e : Entry). now < e.moment) (waiting_of more new) l

  pub none_mark : None ≡ due_mark now (marks_of heap old)
  none_mark = sym (ap (λ (ms : List Mark). due_mark now ms) same_order ∙ due_none now (in_order (waiting_of more new)) later_order)

  pub none_rest : marks_of more new ≡ rest_after now (marks_of heap old)
  none_rest = sym (ap (λ (ms : List Mark). rest_after now ms) same_order ∙ rest_none now (in_order (waiting_of more new)) later_order)

  pub none_due : NoneIsDue now (marks_of heap old)
  none_due = none_taken now (marks_of heap old) (sorted_marks (in_order (waiting_of heap old)) (ascending_in_order (waiting_of heap old))) (sym none_mark)

-- ---- what is told

pub marks_sorted : (heap : List (Reverse Entry)) (lists : List (List Entry)) → IsSorted (marks_of heap lists)
marks_sorted heap lists = sorted_marks (in_order (waiting_of heap lists)) (ascending_in_order (waiting_of heap lists))

pub marks_count : (heap : List (Reverse Entry)) (lists : List (List Entry)) → length (marks_of heap lists) ≡ length (waiting_of heap lists)
marks_count heap lists =
    length-map (in_order (waiting_of heap lists)) mark_of ∙ length_alike (in_order (waiting_of heap lists)) (waiting_of heap lists) (alike_order (waiting_of heap lists))

pub nil_from_length : (ms : List Mark) → length ms ≡ 0 → ms ≡ []
nil_from_length [] h = refl
nil_from_length (m ∷ ms) h = absurd (omega (arith, h))

-- the first moment that waits is that of the first mark
pub moment_told : (result : Option ℕ) (heap : List (Reverse Entry)) (lists : List (List Entry))
    → MatchOption result (waiting_of heap lists ≡ []) (λ m. IsFirstMoment (waiting_of heap lists) m) → result ≡ first_moment (marks_of heap lists)
moment_told None heap lists h = sym (ap (λ (es : List Entry). first_moment (map mark_of (in_order es))) h)
moment_told (Some m) heap lists h = first_told m (waiting_of heap lists) h

-- where none is due none is taken
pub due_not_none : (now : ℕ) (ms : List Mark) (m : Mark) → Some m ≡ due_mark now ms → NoneIsDue now ms → ⊥
due_not_none now [] m e h = absurd (cc)
due_not_none now (n ∷ ns) m e h = let f : due_mark now (n ∷ ns) ≡ None = ap (λ b. cond b (Some n) None) h.0 in absurd (cc)
