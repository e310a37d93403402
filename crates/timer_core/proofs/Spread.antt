-- The steps of a timer's wheel: what goes from list to list or to the heap, and that nothing else changes.
use Rattle.std.proofs.Common.{◌≡◌, ℕ, zero, suc, ◌+◌, ◌-◌, ◌<◌, ◌≤◌, ◌≢◌, inl, inr, List, [], ◌∷◌, ◌++◌, length, set, sum_by, arith, refl, sym, ap, ◌∙◌, subst, get_or-set_other}
use Rattle.std.proofs.Common.{get_or-set_same, length-set, Ok, Err, IsOk, OnOk}
use Rattle.std.specs.List.{AllByRecursion}
use Rattle.std.specs.declared.result.Result.{Result}
use Rattle.std.specs.List.Sorted.{IsPermutation}
use Rattle.std.specs.BinaryHeap.{IsHeap}
use Rattle.std.specs.declared.cmp.Reverse.{Reverse}
use Rattle.std.proofs.lemmas.Bool.{cases_eq}
use Rattle.std.proofs.lemmas.List.Sums.{sum_by-cons, sum_by-append}
use Rattle.std.proofs.lemmas.List.Elements.{All-from_recursion, recursion_from_All}
use Rattle.std.proofs.lemmas.List.Sorted.{sum_by-IsPermutation, IsPermutation-map, All-permutation}
use Rattle.timer_core.specs.declared.entry.Entry.{Entry}
use Rattle.timer_core.specs.Chains.{list_at, rest_of, front_before, IsShifted}
use Rattle.timer_core.specs.Homes.{home_of}
use Rattle.timer_core.specs.Wheel.{all_of, used_lists, heap_entries, waiting_of, by_entry, IsHome, IsSettled, IsSinking, IsSpreading, AreAlike, HoldTheSame, inserted}
use Rattle.timer_core.proofs.Ordered.{one_each}
use Rattle.timer_core.proofs.Alike.{each_one}

-- ---- sums over the lists

used_set0 : (lists : List (List Entry)) (es : List Entry) → used_lists (set lists 0 es) ≡ used_lists lists
used_set0 [] es = refl
used_set0 (l ∷ ls) es = refl

used_set : (lists : List (List Entry)) (k : ℕ) (es : List Entry) → used_lists (set lists (suc k) es) ≡ set (used_lists lists) k es
used_set [] k es = refl
used_set (l ∷ ls) k es = refl

all_set : (w : Entry → ℕ) (lists : List (List Entry)) (k : ℕ) (es : List Entry) → k < length lists
    → sum_by w (all_of (set lists k es)) + sum_by w (list_at lists k) ≡ sum_by w (all_of lists) + sum_by w es
all_set w [] k es h = absurd (omega (arith, h))
all_set w (l ∷ ls) zero es h = omega (arith, sum_by-append w es (all_of ls), sum_by-append w l (all_of ls))
all_set w (l ∷ ls) (suc k) es h = let r = all_set w ls k es (omega (arith, h)) in omega (arith, r, sum_by-append w l (all_of (set ls k es)), sum_by-append w l (all_of ls))

used_sum_at : (w : Entry → ℕ) (lists : List (List Entry)) (k : ℕ) (es : List Entry) → suc k < length lists
    → sum_by w (all_of (used_lists (set lists (suc k) es))) + sum_by w (list_at lists (suc k)) ≡ sum_by w (all_of (used_lists lists)) + sum_by w es
used_sum_at w [] k es h = absurd (omega (arith, h))
used_sum_at w (l ∷ ls) k es h = all_set w ls k es (omega (arith, h))

used_sum : (w : Entry → ℕ) (lists : List (List Entry)) (k : ℕ) (es : List Entry) → 0 < k → k < length lists
    → sum_by w (all_of (used_lists (set lists k es))) + sum_by w (list_at lists k) ≡ sum_by w (all_of (used_lists lists)) + sum_by w es
used_sum w lists k es u h =
    let s : k ≡ suc (k - 1) = omega arith in
    subst (λ (i : ℕ). sum_by w (all_of (used_lists (set lists i es))) + sum_by w (list_at lists i) ≡ sum_by w (all_of (used_lists lists)) + sum_by w es) (sym s)
    (used_sum_at w lists (k - 1) es (omega (arith, h, s)))

waiting_sum : (w : Entry → ℕ) (heap : List (Reverse Entry)) (lists : List (List Entry)) → sum_by w (waiting_of heap lists) ≡ sum_by w (heap_entries heap) + sum_by w (all_of (used_lists lists))
waiting_sum w heap lists = sum_by-append w (heap_entries heap) (all_of (used_lists lists))

heap_sum : (w : Entry → ℕ) (xs ys : List (Reverse Entry)) → IsPermutation xs ys → sum_by w (heap_entries ys) ≡ sum_by w (heap_entries xs)
heap_sum w xs ys p = sum_by-IsPermutation w (heap_entries xs) (heap_entries ys) (IsPermutation-map (λ (r : Reverse Entry). r.0) xs ys p)

-- ---- what a step keeps

pub alike_then : (xs ys zs : List Entry) → AreAlike xs ys → AreAlike ys zs → AreAlike xs zs
alike_then xs ys zs a b = record { same = λ w. a.same w ∙ b.same w }

-- an entry that goes into the heap
pub pushed_alike : (heap new : List (Reverse Entry)) (lists : List (List Entry)) (r : Reverse Entry) → IsPermutation (r ∷ heap) new → AreAlike (r.0 ∷ waiting_of heap lists) (waiting_of new lists)
pushed_alike heap new lists r p = record {
  same = λ w. omega (arith, waiting_sum w heap lists, waiting_sum w new lists, heap_sum w (r ∷ heap) new p, sum_by-cons w r.0 (heap_entries heap), sum_by-cons w r.0 (waiting_of heap lists));
}

-- the first entry that is taken out of the heap
pub popped_alike : (heap new : List (Reverse Entry)) (lists : List (List Entry)) (r : Reverse Entry) → IsPermutation heap (r ∷ new) → AreAlike (waiting_of heap lists) (r.0 ∷ waiting_of new lists)
popped_alike heap new lists r p = record {
  same = λ w. omega (arith, waiting_sum w heap lists, waiting_sum w new lists, heap_sum w heap (r ∷ new) p, sum_by-cons w r.0 (heap_entries new), sum_by-cons w r.0 (waiting_of new lists));
}

-- an entry that goes into a list
pub inserted_alike : (heap : List (Reverse Entry)) (lists : List (List Entry)) (k : ℕ) (e : Entry) → 0 < k → k < length lists
    → AreAlike (e ∷ waiting_of heap lists) (waiting_of heap (inserted k e lists))
inserted_alike heap lists k e u h = record {
  same = λ w.
      let first : List (List Entry) = set lists 0 (rest_of (list_at lists 0)) in
      let there : sum_by w (list_at (set lists 0 (rest_of (list_at lists 0))) k) ≡ sum_by w (list_at lists k) =
      ap (sum_by w) (get_or-set_other lists 0 k (rest_of (list_at lists 0)) [] (λ s. omega (arith, s, u))) in
      let all : sum_by w (all_of (used_lists (set lists 0 (rest_of (list_at lists 0))))) ≡ sum_by w (all_of (used_lists lists)) =
      ap (λ (ls : List (List Entry)). sum_by w (all_of ls)) (used_set0 lists (rest_of (list_at lists 0))) in
      let s =
      used_sum w (set lists 0 (rest_of (list_at lists 0))) k (e ∷ list_at lists k) u
      (let long : length (set lists 0 (rest_of (list_at lists 0))) ≡ length lists = length-set lists 0 (rest_of (list_at lists 0)) in omega (arith, h, long)) in
      omega (arith, s, all, there, sum_by-cons w e (list_at lists k), sum_by-cons w e (waiting_of heap lists), waiting_sum w heap lists, waiting_sum w heap (inserted k e lists));
}

module _ (lists new : List (List Entry)) (from : ℕ) (e : Entry) (u : 0 < from) (f : from < length lists) (front : list_at lists from ≡ e ∷ rest_of (list_at lists from)) where
  cut_sum : (w : Entry → ℕ) → sum_by w (all_of (used_lists (set lists from (rest_of (list_at lists from))))) + w e ≡ sum_by w (all_of (used_lists lists))
  cut_sum w =
      let s = used_sum w lists from (rest_of (list_at lists from)) u f in
      let whole : sum_by w (list_at lists from) ≡ w e + sum_by w (rest_of (list_at lists from)) = ap (sum_by w) front ∙ sum_by-cons w e (rest_of (list_at lists from)) in
      omega (arith, s, whole)

  before_is : (es : List Entry) → front_before (list_at lists from) es ≡ e ∷ es
  before_is es = ap (λ (zs : List Entry). front_before zs es) front

  -- the first entry of a list that goes to another
  pub shifted_sum : (to : ℕ) → 0 < to → to < length lists → from ≢ to → IsShifted from to lists new → (w : Entry → ℕ) → sum_by w (all_of (used_lists new)) ≡ sum_by w (all_of (used_lists lists))
  shifted_sum to v t apart is w =
      let long : length (set lists from (rest_of (list_at lists from))) ≡ length lists = length-set lists from (rest_of (list_at lists from)) in
      let s = used_sum w (set lists from (rest_of (list_at lists from))) to (front_before (list_at lists from) (list_at lists to)) v (omega (arith, t, long)) in
      let there : sum_by w (list_at (set lists from (rest_of (list_at lists from))) to) ≡ sum_by w (list_at lists to) =
      ap (sum_by w) (get_or-set_other lists from to (rest_of (list_at lists from)) [] (λ s. apart (sym s))) in
      let whole : sum_by w (front_before (list_at lists from) (list_at lists to)) ≡ w e + sum_by w (list_at lists to) =
      ap (sum_by w) (before_is (list_at lists to)) ∙ sum_by-cons w e (list_at lists to) in
      let same : sum_by w (all_of (used_lists new)) ≡ sum_by w (all_of (used_lists (set (set lists from (rest_of (list_at lists from))) to (front_before (list_at lists from) (list_at lists to))))) =
      ap (λ (ls : List (List Entry)). sum_by w (all_of (used_lists ls))) is in
      omega (arith, s, there, whole, same, cut_sum w)

  -- and one whose node becomes free
  pub freed_sum : IsShifted from 0 lists new → (w : Entry → ℕ) → sum_by w (all_of (used_lists new)) + w e ≡ sum_by w (all_of (used_lists lists))
  freed_sum is w =
      let same : sum_by w (all_of (used_lists new)) ≡ sum_by w (all_of (used_lists (set lists from (rest_of (list_at lists from))))) =
      ap (λ (ls : List (List Entry)). sum_by w (all_of (used_lists ls))) is
      ∙ ap (λ (ls : List (List Entry)). sum_by w (all_of ls)) (used_set0 (set lists from (rest_of (list_at lists from))) (front_before (list_at lists from) (list_at lists 0))) in
      omega (arith, same, cut_sum w)

  -- the lists after a shift
  pub shifted_from : (to : ℕ) → from ≢ to → IsShifted from to lists new → list_at new from ≡ rest_of (list_at lists from)
  shifted_from to apart is =
      ap (λ (ls : List (List Entry)). list_at ls from) is
      ∙ get_or-set_other (set lists from (rest_of (list_at lists from))) to from (front_before (list_at lists from) (list_at lists to)) [] apart
      ∙ get_or-set_same lists from (rest_of (list_at lists from)) [] f

  pub shifted_to : (to : ℕ) → to < length lists → IsShifted from to lists new → list_at new to ≡ e ∷ list_at lists to
  shifted_to to t is =
      ap (λ (ls : List (List Entry)). list_at ls to) is
      ∙ get_or-set_same (set lists from (rest_of (list_at lists from))) to (front_before (list_at lists from) (list_at lists to)) []
      (let long : length (set lists from (rest_of (list_at lists from))) ≡ length lists = length-set lists from (rest_of (list_at lists from)) in omega (arith, t, long))
      ∙ before_is (list_at lists to)

  pub shifted_other : (to k : ℕ) → k ≢ from → k ≢ to → IsShifted from to lists new → list_at new k ≡ list_at lists k
  shifted_other to k a b is =
      ap (λ (ls : List (List Entry)). list_at ls k) is ∙ get_or-set_other (set lists from (rest_of (list_at lists from))) to k (front_before (list_at lists from) (list_at lists to)) [] b
      ∙ get_or-set_other lists from k (rest_of (list_at lists from)) [] a

  pub shifted_long : (to : ℕ) → IsShifted from to lists new → length new ≡ length lists
  shifted_long to is =
      ap (λ (ls : List (List Entry)). length ls) is ∙ length-set (set lists from (rest_of (list_at lists from))) to (front_before (list_at lists from) (list_at lists to))
      ∙ length-set lists from (rest_of (list_at lists from))

-- ---- the heap

pub all_permuted : (P : Reverse Entry → Type 0) (xs ys : List (Reverse Entry)) → IsPermutation xs ys → AllByRecursion P xs → AllByRecursion P ys
all_permuted P xs ys p h = recursion_from_All P ys (All-permutation P xs ys p (All-from_recursion P xs h))

pub all_entries : (P : Entry → Type 0) (xs : List (Reverse Entry)) → AllByRecursion (λ (r : Reverse Entry). P r.0) xs → AllByRecursion P (heap_entries xs)
all_entries P [] h = tt
all_entries P (x ∷ xs) h = (h.0, all_entries P xs h.1)

-- ---- the steps of a list that spreads

all_rest : (P : Entry → Type 0) (es : List Entry) → AllByRecursion P es → AllByRecursion P (rest_of es)
all_rest P [] h = tt
all_rest P (e ∷ es) h = h.1

all_front : (P : Entry → Type 0) (e : Entry) (es fs : List Entry) → es ≡ e ∷ fs → AllByRecursion P es → P e
all_front P e es fs s h = (subst (λ (zs : List Entry). AllByRecursion P zs) s h).0

module _ (heap : List (Reverse Entry)) (lists new : List (List Entry)) (list base : ℕ) (e : Entry) (u : 0 < list) (f : list < length lists)
    (front : list_at lists list ≡ e ∷ rest_of (list_at lists list)) (s : IsSpreading base list heap lists) where
  pub front_sinks : IsSinking base list e
  front_sinks = all_front (IsSinking base list) e (list_at lists list) (rest_of (list_at lists list)) front s.sinking

  pub moved_spreading : base < e.moment → IsShifted list (home_of base e.moment) lists new → IsSpreading base list heap new
  moved_spreading l is =
      let below = front_sinks.sinks l in
      record {
        reached = s.reached;
        ordered = s.ordered;
        homes = λ k v apart. elim (cases_eq k (home_of base e.moment)) [
          | inl same ↦
              subst (λ (es : List Entry). AllByRecursion (IsHome base k) es)
              (sym (ap (λ (i : ℕ). list_at new i) same ∙ shifted_to lists new list e u f front (home_of base e.moment) (omega (arith, below, f)) is ∙ ap (λ (i : ℕ). e ∷ list_at lists i) (sym same)))
              (record { later = l; within = front_sinks.within; home = sym same }, s.homes k v apart)
          | inr other ↦ subst (λ (es : List Entry). AllByRecursion (IsHome base k) es) (sym (shifted_other lists new list e u f front (home_of base e.moment) k apart other is)) (s.homes k v apart)
        ];
        sinking = subst (λ (es : List Entry). AllByRecursion (IsSinking base list) es)
            (sym (shifted_from lists new list e u f front (home_of base e.moment) (λ q. omega (arith, q, below)) is)) (all_rest (IsSinking base list) (list_at lists list) s.sinking);
      }

  pub freed_spreading : (more : List (Reverse Entry)) → e.moment ≤ base → IsPermutation (record { 0 = e } ∷ heap) more → IsHeap by_entry more → IsShifted list 0 lists new
      → IsSpreading base list more new
  freed_spreading more l p o is = record {
    reached = all_permuted (λ (r : Reverse Entry). r.0.moment ≤ base) (record { 0 = e } ∷ heap) more p (l, s.reached);
    ordered = o;
    homes = λ k v apart. subst (λ (es : List Entry). AllByRecursion (IsHome base k) es) (sym (shifted_other lists new list e u f front 0 k apart (λ q. omega (arith, q, v)) is)) (s.homes k v apart);
    sinking = subst (λ (es : List Entry). AllByRecursion (IsSinking base list) es) (sym (shifted_from lists new list e u f front 0 (λ q. omega (arith, q, u)) is))
        (all_rest (IsSinking base list) (list_at lists list) s.sinking);
  }

-- when its entries are gone, each entry stands in its place
pub spread_settled : (base list : ℕ) (heap : List (Reverse Entry)) (lists : List (List Entry)) → IsSpreading base list heap lists → list_at lists list ≡ [] → IsSettled base heap lists
spread_settled base list heap lists s none = record {
  reached = s.reached;
  ordered = s.ordered;
  homes = λ k v. elim (cases_eq k list) [
    | inl same ↦ subst (λ (es : List Entry). AllByRecursion (IsHome base k) es) (sym (ap (λ (i : ℕ). list_at lists i) same ∙ none)) tt
    | inr other ↦ s.homes k v other
  ];
}

-- ---- the same entries after a step

module _ (heap : List (Reverse Entry)) (lists new : List (List Entry)) (list base : ℕ) (e : Entry) (u : 0 < list) (f : list < length lists)
    (front : list_at lists list ≡ e ∷ rest_of (list_at lists list)) (s : IsSpreading base list heap lists) where
  pub moved_alike : base < e.moment → 0 < home_of base e.moment → IsShifted list (home_of base e.moment) lists new → AreAlike (waiting_of heap lists) (waiting_of heap new)
  moved_alike l v is =
      let below = (front_sinks heap lists new list base e u f front s).sinks l in
      record {
        same = λ w. omega (
          arith,
          waiting_sum w heap lists,
          waiting_sum w heap new,
          shifted_sum lists new list e u f front (home_of base e.moment) v (omega (arith, below, f))
              (λ q. omega (arith, q, below)) is w,
        );
      }

  pub freed_alike : (more : List (Reverse Entry)) → IsPermutation (record { 0 = e } ∷ heap) more → IsShifted list 0 lists new → AreAlike (waiting_of heap lists) (waiting_of more new)
  freed_alike more p is =
      let r : Reverse Entry = record { 0 = e } in
      record {
        same = λ w. omega (
          arith,
          waiting_sum w heap lists,
          waiting_sum w more new,
          heap_sum w (record { 0 = e } ∷ heap) more p,
          sum_by-cons w e (heap_entries heap),
          freed_sum lists new list
              e u f front is w,
        );
      }

  -- there is one entry more than the heap holds
  pub heap_shorter : length heap < length (waiting_of heap lists)
  heap_shorter =
      let w = one_each in
      let all = waiting_sum one_each heap lists in
      let cut = cut_sum lists new list e u f front one_each in
      omega (arith, all, cut, each_one (waiting_of heap lists), each_one (heap_entries heap), heap_length heap)
    where
      heap_length : (xs : List (Reverse Entry)) → length (heap_entries xs) ≡ length xs
      heap_length [] = refl
      heap_length (x ∷ xs) = omega (arith, heap_length xs)

-- ---- an empty list more

push_each : (lists : List (List Entry)) (k : ℕ) → list_at (lists ++ [] ∷ []) k ≡ list_at lists k
push_each [] zero = refl
push_each [] (suc k) = refl
push_each (l ∷ ls) zero = refl
push_each (l ∷ ls) (suc k) = push_each ls k

push_in : (lists : List (List Entry)) → all_of (lists ++ [] ∷ []) ≡ all_of lists
push_in [] = refl
push_in (l ∷ ls) = ap (λ (es : List Entry). l ++ es) (push_in ls)

push_all : (lists : List (List Entry)) → all_of (used_lists (lists ++ [] ∷ [])) ≡ all_of (used_lists lists)
push_all [] = refl
push_all (l ∷ ls) = push_in ls

pub pushed_same : (old mid new : List (List Entry)) → HoldTheSame old mid → new ≡ mid ++ [] ∷ [] → HoldTheSame old new
pushed_same old mid new h n = record {
  all = ap (λ (ls : List (List Entry)). all_of (used_lists ls)) n ∙ push_all mid ∙ h.all;
  each = λ k. ap (λ (ls : List (List Entry)). list_at ls k) n ∙ push_each mid k ∙ h.each k;
}

-- what holds where a call succeeds
pub from_ok : {A E : Type 0} (r : Result A E) (P : Type 0) → IsOk r → OnOk r P → P
from_ok (Ok a) P i h = h
from_ok (Err e) P i h = absurd (cc)
