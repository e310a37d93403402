-- The first entry is taken: the heap's top, and the marks that the entries stand for.
use Rattle.std.proofs.Common.{◌≡◌, ℕ, ◌+◌, ◌<◌, ◌≤◌, ◌==◌, ◌&&◌, ◌||◌, inl, inr, ltb, leb, Bool, true, false, cond, List, [], ◌∷◌, map, length, get_or, Some, None, arith, refl, sym, ap, ◌∙◌}
use Rattle.std.specs.List.{AllByRecursion}
use Rattle.std.specs.List.Sorted.{IsPermutation}
use Rattle.std.specs.BinaryHeap.{IsHeap, IsUpperBound}
use Rattle.std.specs.declared.cmp.Ordering.{Ordering}
use Rattle.std.specs.declared.cmp.Ordering.TheVariants.{Less, Equal, Greater}
use Rattle.std.specs.declared.cmp.Reverse.{Reverse}
use Rattle.std.specs.Ordering.{nat_cmp, ordering_then, is_lt}
use Rattle.std.proofs.lemmas.Bool.{cases_lt}
use Rattle.std.proofs.lemmas.Bool.Decides.{nat_tests}
use Rattle.timer_core.specs.declared.mark.Mark.{Mark}
use Rattle.timer_core.specs.declared.entry.Entry.{Entry}
use Rattle.timer_core.specs.Entries.{mark_of}
use Rattle.timer_core.specs.Marks.{comes_after, is_due, due_mark, rest_after, first_moment, IsSorted}
use Rattle.timer_core.specs.Wheel.{is_after, with_entry, in_order, all_of, used_lists, heap_entries, waiting_of, by_entry, IsSettled, AreAlike, IsLeast, AreLater, IsFirstMoment}
use Rattle.timer_core.proofs.Ordered.{AreAscending, all_weaker, all_append, all_left, all_in_order, ascending_in_order, sum_in_order, one_order, not_past, past_moment}
use Rattle.timer_core.proofs.Alike.{lists_later, later_alike}
use Rattle.timer_core.proofs.Spread.{all_permuted, all_entries}
use Rattle.std.proofs.lemmas.List.Sums.{sum_by-cons}

-- ---- the heap's order is that of entries

then_if : (p q : Bool) (o : Ordering) → is_lt (ordering_then (cond p Less (cond q Equal Greater)) o) ≡ (p || (q && is_lt o))
then_if true true o = refl
then_if true false o = refl
then_if false true o = refl
then_if false false o = refl

then_is : (a b : ℕ) (o : Ordering) → is_lt (ordering_then (nat_cmp a b) o) ≡ (ltb a b || (a == b && is_lt o))
then_is a b o = then_if (ltb a b) (a == b) o

last_if : (p q : Bool) → is_lt (cond p Less (cond q Equal Greater)) ≡ p
last_if true true = refl
last_if true false = refl
last_if false true = refl
last_if false false = refl

lt_is : (x y : Reverse Entry) → is_lt (by_entry x y) ≡ is_after x.0 y.0
lt_is x y =
    then_is y.0.moment x.0.moment (ordering_then (nat_cmp y.0.rank x.0.rank) (ordering_then (nat_cmp y.0.order x.0.order) (ordering_then (nat_cmp y.0.id x.0.id) (nat_cmp y.0.code x.0.code))))
    ∙ ap (λ (b : Bool). ltb y.0.moment x.0.moment || (y.0.moment == x.0.moment && b))
    (then_is y.0.rank x.0.rank (ordering_then (nat_cmp y.0.order x.0.order) (ordering_then (nat_cmp y.0.id x.0.id) (nat_cmp y.0.code x.0.code)))
    ∙ ap (λ (b : Bool). ltb y.0.rank x.0.rank || (y.0.rank == x.0.rank && b)) (then_is y.0.order x.0.order (ordering_then (nat_cmp y.0.id x.0.id) (nat_cmp y.0.code x.0.code))
    ∙ ap (λ (b : Bool). ltb y.0.order x.0.order || (y.0.order == x.0.order && b)) (then_is y.0.id x.0.id (nat_cmp y.0.code x.0.code)
    ∙ ap (λ (b : Bool). ltb y.0.id x.0.id || (y.0.id == x.0.id && b)) (last_if (ltb y.0.code x.0.code) (y.0.code == x.0.code)))))

-- a heap's top comes after none of its entries
pub top_is_least : (x : Reverse Entry) (ys : List (Reverse Entry)) → IsUpperBound by_entry x ys → AllByRecursion (λ (y : Reverse Entry). is_after x.0 y.0 ≡ false) ys
top_is_least x ys h = all_weaker (λ (y : Reverse Entry). is_lt (by_entry x y) ≡ false) (λ (y : Reverse Entry). is_after x.0 y.0 ≡ false) (λ y g. sym (lt_is x y) ∙ g) ys h

no_lower : (x : Reverse Entry) (ys : List (Reverse Entry)) → AllByRecursion (λ (y : Reverse Entry). is_after x.0 y.0 ≡ false) ys
    → AllByRecursion (λ (e : Entry). x.0.moment ≤ e.moment) (heap_entries ys)
no_lower x ys h =
    all_entries (λ (e : Entry). x.0.moment ≤ e.moment) ys
    (all_weaker (λ (y : Reverse Entry). is_after x.0 y.0 ≡ false) (λ (y : Reverse Entry). x.0.moment ≤ y.0.moment)
    (λ y g. past_moment x.0.moment x.0.rank x.0.order x.0.id x.0.code y.0.moment y.0.rank y.0.order y.0.id y.0.code g) ys h)

-- so it has the first moment
pub top_first : (x : Reverse Entry) (ys : List (Reverse Entry)) → 0 < length ys → x ≡ get_or ys 0 x → IsUpperBound by_entry x ys → IsFirstMoment (heap_entries ys) x.0.moment
top_first x [] l s h = absurd (omega (arith, l))
top_first x (y ∷ ys) l s h = record {
  least = no_lower x (y ∷ ys) (top_is_least x (y ∷ ys) h);
  there = λ g. let a = g.0 in let b : x.0.moment ≡ y.0.moment = ap (λ (r : Reverse Entry). r.0.moment) s in omega (arith, a, b);
}

-- which the base has reached
pub first_reached : (base m : ℕ) (heap : List (Reverse Entry)) → AllByRecursion (λ (r : Reverse Entry). r.0.moment ≤ base) heap → IsFirstMoment (heap_entries heap) m → m ≤ base
first_reached base m [] h f = absurd (f.there tt)
first_reached base m (r ∷ rs) h f = let a = f.least.0 in let b = h.0 in omega (arith, a, b)

-- and no entry of the lists is earlier
pub heap_first : (base m : ℕ) (heap : List (Reverse Entry)) (lists : List (List Entry)) → IsSettled base heap lists → IsFirstMoment (heap_entries heap) m → IsFirstMoment (waiting_of heap lists) m
heap_first base m heap lists s f = record {
  least = all_append (λ (e : Entry). m ≤ e.moment) (heap_entries heap) (all_of (used_lists lists)) f.least
      (all_weaker (λ (e : Entry). m < e.moment) (λ (e : Entry). m ≤ e.moment) (λ e h. omega (arith, h)) (all_of (used_lists lists))
      (lists_later base m heap lists (first_reached base m heap s.reached f) s));
  there = λ l. f.there (all_left (λ (e : Entry). m < e.moment) (heap_entries heap) (all_of (used_lists lists)) l);
}

-- where the first moment is later than now nothing is due
pub first_later : (now m : ℕ) (es : List Entry) → IsFirstMoment es m → now < m → AreLater now es
first_later now m es f l = all_weaker (λ (e : Entry). m ≤ e.moment) (λ (e : Entry). now < e.moment) (λ e h. omega (arith, h, l)) es f.least

-- ---- the top is taken out

module _ (base : ℕ) (heap new : List (Reverse Entry)) (lists : List (List Entry)) (x : Reverse Entry) (s : IsSettled base heap lists) (p : IsPermutation heap (x ∷ new)) where
  pub popped_settled : IsHeap by_entry new → IsSettled base new lists
  popped_settled o = record {
    reached = (all_permuted (λ (r : Reverse Entry). r.0.moment ≤ base) heap (x ∷ new) p s.reached).1;
    ordered = o;
    homes = s.homes;
  }

  pub popped_due : (now m : ℕ) → m ≤ now → IsFirstMoment (heap_entries heap) m → IsUpperBound by_entry x heap → x.0.moment ≤ now
  popped_due now m l f h = elim (cases_lt now x.0.moment) [
    | inl later ↦ absurd
        (f.there (all_weaker (λ (e : Entry). x.0.moment ≤ e.moment) (λ (e : Entry). m < e.moment) (λ e g. omega (arith, g, later, l)) (heap_entries heap) (no_lower x heap (top_is_least x heap h))))
    | inr due ↦ due
  ]

  pub popped_least : IsUpperBound by_entry x new → IsLeast x.0 (waiting_of new lists)
  popped_least h =
      let there : x.0.moment ≤ base = (all_permuted (λ (r : Reverse Entry). r.0.moment ≤ base) heap (x ∷ new) p s.reached).0 in
      all_append (λ (f : Entry). is_after x.0 f ≡ false) (heap_entries new) (all_of (used_lists lists))
      (all_entries (λ (f : Entry). is_after x.0 f ≡ false) new (top_is_least x new h))
      (all_weaker (λ (f : Entry). x.0.moment < f.moment) (λ (f : Entry). is_after x.0 f ≡ false)
      (λ f l. not_past x.0.moment x.0.rank x.0.order x.0.id x.0.code f.moment f.rank f.order f.id f.code l) (all_of (used_lists lists)) (lists_later base x.0.moment heap lists there s))

-- ---- the marks

pub order_same : (xs ys : List Entry) → AreAlike xs ys → in_order xs ≡ in_order ys
order_same xs ys a = one_order (in_order xs) (in_order ys) (ascending_in_order xs) (ascending_in_order ys) (record { same = λ w. sum_in_order w xs ∙ a.same w ∙ sym (sum_in_order w ys) })

pub order_taken : (xs ys : List Entry) (e : Entry) → AreAlike xs (e ∷ ys) → IsLeast e ys → in_order xs ≡ e ∷ in_order ys
order_taken xs ys e a h =
    one_order (in_order xs) (e ∷ in_order ys) (ascending_in_order xs) (all_in_order (λ f. is_after e f ≡ false) ys h, ascending_in_order ys)
    (record { same = λ w. sum_in_order w xs ∙ a.same w ∙ sum_by-cons w e ys ∙ ap (λ n. w e + n) (sym (sum_in_order w ys)) ∙ sym (sum_by-cons w e (in_order ys)) })

pub order_added : (xs ys : List Entry) (e : Entry) → AreAlike (e ∷ xs) ys → in_order ys ≡ with_entry e (in_order xs)
order_added xs ys e a = sym (order_same (e ∷ xs) ys a)

le_test : (m n : ℕ) → m ≤ n → leb m n ≡ true
le_test m n l = grind (arith, nat_tests)

pub due_is : (e : Entry) (now : ℕ) → e.moment ≤ now → is_due now (mark_of e) ≡ true
due_is e now h = le_test e.moment now h

later_not_due : (m now : ℕ) → now < m → leb m now ≡ false
later_not_due m now h = grind (arith, nat_tests)

pub due_first : (now : ℕ) (e : Entry) (es : List Entry) → e.moment ≤ now → due_mark now (map mark_of (e ∷ es)) ≡ Some (mark_of e)
due_first now e es h = ap (λ (b : Bool). cond b (Some (mark_of e)) None) (due_is e now h)

pub rest_first : (now : ℕ) (e : Entry) (es : List Entry) → e.moment ≤ now → rest_after now (map mark_of (e ∷ es)) ≡ map mark_of es
rest_first now e es h = ap (λ (b : Bool). cond b (map mark_of es) (mark_of e ∷ map mark_of es)) (due_is e now h)

pub due_none : (now : ℕ) (es : List Entry) → AreLater now es → due_mark now (map mark_of es) ≡ None
due_none now [] h = refl
due_none now (e ∷ es) h = ap (λ (b : Bool). cond b (Some (mark_of e)) None) (later_not_due e.moment now h.0)

pub rest_none : (now : ℕ) (es : List Entry) → AreLater now es → rest_after now (map mark_of es) ≡ map mark_of es
rest_none now [] h = refl
rest_none now (e ∷ es) h = ap (λ (b : Bool). cond b (map mark_of es) (mark_of e ∷ map mark_of es)) (later_not_due e.moment now h.0)

order_told : (m r o i k n s p j l : ℕ) → (ltb n m || (n == m && (ltb s r || (s == r && (ltb p o || (p == o && (ltb j i || (j == i && ltb l k)))))))) ≡ false → (ltb n m || (n == m && ltb s r)) ≡ false
order_told m r o i k n s p j l h = grind (arith, nat_tests)

first_marks : (e : Entry) (es : List Entry) → IsLeast e es → AllByRecursion (λ (o : Mark). comes_after (mark_of e) o ≡ false) (map mark_of es)
first_marks e [] h = tt
first_marks e (f ∷ fs) h = (order_told e.moment e.rank e.order e.id e.code f.moment f.rank f.order f.id f.code h.0, first_marks e fs h.1)

pub sorted_marks : (es : List Entry) → AreAscending es → IsSorted (map mark_of es)
sorted_marks [] h = tt
sorted_marks (e ∷ es) h = (first_marks e es h.0, sorted_marks es h.1)

-- the first mark has the first moment
first_at : (m : ℕ) (xs : List Entry) (zs : List Entry) → AreAscending zs → AllByRecursion (λ (e : Entry). m ≤ e.moment) zs → (AreLater m zs → ⊥) → Some m ≡ first_moment (map mark_of zs)
first_at m xs [] a l t = absurd (t tt)
first_at m xs (e ∷ es) a l t = elim (cases_lt m e.moment) [
  | inl later ↦ absurd
      (t (
        later,
        all_weaker (λ f. is_after e f ≡ false) (λ (f : Entry). m < f.moment)
            (λ f h. let g = past_moment e.moment e.rank e.order e.id e.code f.moment f.rank f.order f.id f.code h in omega (arith, g, later)) es a.0,
      ))
  | inr low ↦ let b = l.0 in let same : m ≡ e.moment = omega (arith, b, low) in ap (λ n. Some n) same
]

pub alike_order : (xs : List Entry) → AreAlike (in_order xs) xs
alike_order xs = record { same = λ w. sum_in_order w xs }

pub first_told : (m : ℕ) (xs : List Entry) → IsFirstMoment xs m → Some m ≡ first_moment (map mark_of (in_order xs))
first_told m xs f = first_at m xs (in_order xs) (ascending_in_order xs) (all_in_order (λ (e : Entry). m ≤ e.moment) xs f.least) (λ l. f.there (later_alike m (in_order xs) xs (alike_order xs) l))
