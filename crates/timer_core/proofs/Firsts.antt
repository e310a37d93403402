-- The first moment of all entries, and the list that has it.
use Rattle.std.proofs.Common.{◌≡◌, ℕ, suc, ◌<◌, ◌≤◌, ◌≢◌, inl, inr, List, [], ◌∷◌, ◌++◌, min, arith, refl, sym, ap, ◌∙◌, subst}
use Rattle.std.specs.List.{AllByRecursion}
use Rattle.std.specs.declared.cmp.Reverse.{Reverse}
use Rattle.std.proofs.lemmas.Bool.{cases_lt, cases_eq}
use Rattle.timer_core.specs.declared.entry.Entry.{Entry}
use Rattle.timer_core.specs.Chains.{list_at, least_of}
use Rattle.timer_core.specs.Homes.{home_of}
use Rattle.timer_core.specs.Wheel.{all_of, used_lists, waiting_of, IsHome, IsSettled, IsSinking, IsSpreading, AreAlike, AreLater, IsFirstMoment, IsFirstList}
use Rattle.timer_core.proofs.Placed.{home_rises, home_stays, home_sinks}
use Rattle.timer_core.proofs.Ordered.{all_weaker}
use Rattle.timer_core.proofs.Alike.{all_used, used_all, lists_later, later_alike}

-- ---- the first moment

least_all : (es : List Entry) → AllByRecursion (λ (e : Entry). least_of es ≤ e.moment) es
least_all [] = tt
least_all (e ∷ es) = (omega arith, all_weaker (λ (f : Entry). least_of es ≤ f.moment) (λ (f : Entry). min e.moment (least_of es) ≤ f.moment) (λ f h. omega (arith, h)) es (least_all es))

-- the least moment of a list's entries is of that list
least_home : (base k : ℕ) (e : Entry) (es : List Entry) → AllByRecursion (IsHome base k) (e ∷ es) → (base < least_of (e ∷ es)) × (home_of base (least_of (e ∷ es)) ≡ k)
least_home base k e [] h =
    let m : min e.moment 18446744073709551615 ≡ e.moment = let w = h.0.within in omega (arith, w) in
    subst (λ (i : ℕ). (base < i) × (home_of base i ≡ k)) (sym m) (h.0.later, h.0.home)
least_home base k e (f ∷ fs) h = let r = least_home base k f fs h.1 in elim (cases_lt e.moment (least_of (f ∷ fs))) [
  | inl l ↦ let m : min e.moment (least_of (f ∷ fs)) ≡ e.moment = omega (arith, l) in subst (λ (i : ℕ). (base < i) × (home_of base i ≡ k)) (sym m) (h.0.later, h.0.home)
  | inr g ↦ let m : min e.moment (least_of (f ∷ fs)) ≡ least_of (f ∷ fs) = omega (arith, g) in subst (λ (i : ℕ). (base < i) × (home_of base i ≡ k)) (sym m) r
]

-- and one of them has it
least_there : (base k : ℕ) (e : Entry) (es : List Entry) → AllByRecursion (IsHome base k) (e ∷ es) → AreLater (least_of (e ∷ es)) (e ∷ es) → ⊥
least_there base k e [] h l = let w = h.0.within in let m = l.0 in omega (arith, w, m)
least_there base k e (f ∷ fs) h l =
    let m = l.0 in
    least_there base k f fs h.1 (all_weaker (λ (x : Entry). min e.moment (least_of (f ∷ fs)) < x.moment) (λ (x : Entry). least_of (f ∷ fs) < x.moment) (λ x t. omega (arith, t, m)) (f ∷ fs) l.1)

module _ (base : ℕ) (heap : List (Reverse Entry)) (lists : List (List Entry)) (s : IsSettled base heap lists) (list : ℕ) (first : IsFirstList lists list) where
  least_facts_at : (es : List Entry) → list_at lists list ≡ es → es ≢ [] → (base < least_of es) × (home_of base (least_of es) ≡ list) × (AreLater (least_of es) es → ⊥)
  least_facts_at [] is some = absurd (some refl)
  least_facts_at (e ∷ es) is some =
      let h = subst (λ (zs : List Entry). AllByRecursion (IsHome base list) zs) is (s.homes list first.used) in
      let r = least_home base list e es h in
      (r.0, r.1, least_there base list e es h)

  pub least_facts : (base < least_of (list_at lists list)) × (home_of base (least_of (list_at lists list)) ≡ list) × (AreLater (least_of (list_at lists list)) (list_at lists list) → ⊥)
  least_facts = least_facts_at (list_at lists list) refl first.some

  -- the entries of the lists behind it are later
  behind_later : (k : ℕ) → list < k → (e : Entry) → IsHome base k e → least_of (list_at lists list) < e.moment
  behind_later k l e h = elim (cases_lt (least_of (list_at lists list)) e.moment) [
    | inl a ↦ a
    | inr b ↦ let up = home_rises base e.moment (least_of (list_at lists list)) (omega (arith, h.later)) b in let x = h.home in let y = least_facts.1 in absurd (omega (arith, up, x, y, l))
  ]

  list_from_least : (k : ℕ) → 0 < k → k ≢ list → AllByRecursion (λ (e : Entry). (least_of (list_at lists list) < e.moment) × IsHome base k e) (list_at lists k)
  list_from_least k u apart = elim (cases_lt k list) [
    | inl l ↦ subst (λ (es : List Entry). AllByRecursion (λ (e : Entry). (least_of (list_at lists list) < e.moment) × IsHome base k e) es) (sym (first.first k u l)) tt
    | inr g ↦ let l : list < k = omega (arith, g, apart) in
        all_weaker (IsHome base k) (λ (e : Entry). (least_of (list_at lists list) < e.moment) × IsHome base k e) (λ e h. (behind_later k l e h, h)) (list_at lists k) (s.homes k u)
  ]

  least_of_all : AllByRecursion (λ (e : Entry). least_of (list_at lists list) ≤ e.moment) (all_of (used_lists lists))
  least_of_all = all_used (λ (e : Entry). least_of (list_at lists list) ≤ e.moment) lists (λ k u. elim (cases_eq k list) [
    | inl same ↦ subst (λ (i : ℕ). AllByRecursion (λ (e : Entry). least_of (list_at lists list) ≤ e.moment) (list_at lists i)) (sym same) (least_all (list_at lists list))
    | inr other ↦
        all_weaker (λ (e : Entry). (least_of (list_at lists list) < e.moment) × IsHome base k e) (λ (e : Entry). least_of (list_at lists list) ≤ e.moment)
        (λ e h. let l = h.0 in omega (arith, l)) (list_at lists k) (list_from_least k u other)
  ])

  -- where the heap is empty the first list has the first moment
  pub lists_first : heap ≡ [] → IsFirstMoment (waiting_of heap lists) (least_of (list_at lists list))
  lists_first none =
      subst (λ (h : List (Reverse Entry)). IsFirstMoment (waiting_of h lists) (least_of (list_at lists list))) (sym none)
      (record { least = least_of_all; there = λ l. least_facts.2 (used_all (λ (e : Entry). least_of (list_at lists list) < e.moment) lists list first.used l) })

  -- and its entries may spread by it
  pub spreading_from : heap ≡ [] → IsSpreading (least_of (list_at lists list)) list heap lists
  spreading_from none = record {
    reached = subst (λ (h : List (Reverse Entry)). AllByRecursion (λ (r : Reverse Entry). r.0.moment ≤ least_of (list_at lists list)) h) (sym none) tt;
    ordered = s.ordered;
    homes = λ k u apart.
        all_weaker (λ (e : Entry). (least_of (list_at lists list) < e.moment) × IsHome base k e) (IsHome (least_of (list_at lists list)) k)
        (λ e h. let l = h.0 in let b = least_facts.0 in record {
          later = h.0;
          within = h.1.within;
          home = home_stays base (least_of (list_at lists list)) e.moment (omega (arith, b)) (omega (arith, l)) (λ q. apart (sym h.1.home ∙ q ∙ least_facts.1)) ∙ h.1.home;
        }) (list_at lists k) (list_from_least k u apart);
    sinking = sinking_all (list_at lists list) (least_all (list_at lists list)) (s.homes list first.used);
  }
    where
      sinking_all : (es : List Entry) → AllByRecursion (λ (e : Entry). least_of (list_at lists list) ≤ e.moment) es → AllByRecursion (IsHome base list) es
          → AllByRecursion (IsSinking (least_of (list_at lists list)) list) es
      sinking_all [] a h = tt
      sinking_all (e ∷ es) a h =
          let b = least_facts.0 in (
            record {
              from = a.0;
              within = h.0.within;
              sinks = λ l. subst (λ (i : ℕ). home_of (least_of (list_at lists list)) e.moment < i) least_facts.1
                  (home_sinks base (least_of (list_at lists list)) e.moment (omega (arith, b)) l h.0.within (h.0.home ∙ sym least_facts.1));
            },
            sinking_all es a.1 h.1,
          )

pub none_listed : (lists : List (List Entry)) → ((k : ℕ) → 0 < k → list_at lists k ≡ []) → all_of (used_lists lists) ≡ []
none_listed [] h = refl
none_listed (l ∷ ls) h = none_in ls (λ k. h (suc k) (omega arith))
  where
    none_in : (zs : List (List Entry)) → ((k : ℕ) → list_at zs k ≡ []) → all_of zs ≡ []
    none_in [] g = refl
    none_in (z ∷ zs) g = ap (λ (es : List Entry). es ++ all_of zs) (g 0) ∙ none_in zs (λ k. g (suc k))

-- after the base went to the first moment, an entry is in the heap
pub reached_some : (moment : ℕ) (old : List Entry) (heap : List (Reverse Entry)) (lists : List (List Entry)) → IsFirstMoment old moment → AreAlike old (waiting_of heap lists)
    → IsSettled moment heap lists → heap ≡ [] → ⊥
reached_some moment old heap lists f a s none =
    f.there (later_alike moment (waiting_of heap lists) old (record { same = λ w. sym (a.same w) })
    (subst (λ (h : List (Reverse Entry)). AreLater moment (waiting_of h lists)) (sym none) (lists_later moment moment heap lists (omega arith) s)))

-- nothing waits
pub none_waits : (now : ℕ) (heap : List (Reverse Entry)) (lists : List (List Entry)) → heap ≡ [] → ((k : ℕ) → 0 < k → list_at lists k ≡ []) → waiting_of heap lists ≡ []
none_waits now heap lists h n = ap (λ (xs : List (Reverse Entry)). waiting_of xs lists) h ∙ none_listed lists n
