-- What the set of vacant slots is once a slot changes.
use Rattle.std.proofs.Common.{◌≡◌, ◌≢◌, ℕ, zero, suc, ◌<◌, ◌≤◌, ltb, Bool, true, false, List, [], ◌∷◌, ◌++◌, length, get_or, set, refl, sym, ◌∙◌, ap, subst, inl, inr, arith, add-one, Some}
use Rattle.std.proofs.Common.{None, Ok, Err}
use Rattle.std.proofs.lemmas.List.{length-set}
use Rattle.std.proofs.lemmas.Bool.{cases_eq}
use Rattle.std.proofs.lemmas.Bool.Decides.{nat_tests}
use Rattle.bit_set.specs.Bits.{is_in, AreNone, IsLeast}
use Rattle.id_pool.specs.Ranges.{Slot, Vacant, Retired, Taken, opened, lowest, later, created, created_at, fresh, is_width}
use Rattle.id_pool.specs.Ids.{make_id}
use Rattle.id_pool.specs.Answers.{create_says, create_at}
use Rattle.id_pool.specs.declared.answers.Refused.TheVariants.{Full}
use Rattle.id_pool.proofs.Places.{change_within}
use Rattle.id_pool.specs.Vacancies.{is_vacant, vacant_at, IsListed, IsFilled, IsRelisted}

pub length-opened : (T : Type 0) (n : ℕ) → length (opened {T = T} n) ≡ n
length-opened T zero = refl
length-opened T (suc n) = ap suc (length-opened T n)

pub opened_more : (T : Type 0) (n : ℕ) → opened {T = T} n ++ Vacant 1 ∷ [] ≡ opened {T = T} (suc n)
opened_more T zero = refl
opened_more T (suc n) = ap (λ ss. Vacant 1 ∷ ss) (opened_more T n)

below_none : (k : ℕ) → ltb k 0 ≡ false
below_none k = grind (arith, nat_tests)

below_first : (n : ℕ) → ltb 0 (suc n) ≡ true
below_first n = grind (arith, nat_tests)

below_more : (k n : ℕ) → ltb (suc k) (suc n) ≡ ltb k n
below_more k n = grind (arith, nat_tests)

vacant-opened : (T : Type 0) (n k : ℕ) → ltb k n ≡ vacant_at (opened {T = T} n) k
vacant-opened T zero k = below_none k
vacant-opened T (suc n) zero = below_first n
vacant-opened T (suc n) (suc k) = below_more k n ∙ vacant-opened T n k

-- the slots of a new pool are all vacant
pub opened_listed : (T : Type 0) (n : ℕ) (slots : List (Slot T)) (xs : List ℕ) → n ≤ 4096 → slots ≡ opened n → IsFilled n xs → IsListed slots xs
opened_listed T n slots xs l e f = record {
  listed = λ k. f k ∙ vacant-opened T n k ∙ ap (λ ss. vacant_at ss k) (sym e);
  few = let n : length slots ≡ n = ap length e ∙ length-opened T n in omega (arith, n, l);
}

-- ---- a slot changes

vacant_here : {T : Type 0} (i : ℕ) (ss : List (Slot T)) (s : Slot T) → i < length ss → s ≡ get_or ss i s → vacant_at ss i ≡ is_vacant s
vacant_here i [] s h r = absurd (omega (arith, h))
vacant_here zero (x ∷ ss) s h r = ap is_vacant (sym r)
vacant_here (suc i) (x ∷ ss) s h r = vacant_here i ss s (omega (arith, h)) r

vacant_set : {T : Type 0} (i : ℕ) (ss : List (Slot T)) (t : Slot T) → i < length ss → vacant_at (set ss i t) i ≡ is_vacant t
vacant_set i [] t h = absurd (omega (arith, h))
vacant_set zero (x ∷ ss) t h = refl
vacant_set (suc i) (x ∷ ss) t h = vacant_set i ss t (omega (arith, h))

vacant_other : {T : Type 0} (i k : ℕ) (ss : List (Slot T)) (t : Slot T) → k ≢ i → vacant_at (set ss i t) k ≡ vacant_at ss k
vacant_other i k [] t n = refl
vacant_other zero zero (x ∷ ss) t n = absurd (n refl)
vacant_other zero (suc k) (x ∷ ss) t n = refl
vacant_other (suc i) zero (x ∷ ss) t n = refl
vacant_other (suc i) (suc k) (x ∷ ss) t n = vacant_other i k ss t (λ e. n (ap suc e))

-- the set after a slot changed, told at this slot and at the others
changed_listed : {T : Type 0} (i : ℕ) (ss : List (Slot T)) (t : Slot T) (xs ys : List ℕ) → IsListed ss xs → i < length ss → is_in ys i ≡ is_vacant t
    → ((k : ℕ) → k ≢ i → is_in ys k ≡ is_in xs k) → IsListed (set ss i t) ys
changed_listed i ss t xs ys l h here others = record {
  listed = λ k. elim (cases_eq k i) [
    | inl e ↦ ap (λ n. is_in ys n) e ∙ here ∙ sym (vacant_set i ss t h) ∙ ap (λ n. vacant_at (set ss i t) n) (sym e)
    | inr n ↦ others k n ∙ l.listed k ∙ sym (vacant_other i k ss t n)
  ];
  few = let n : length (set ss i t) ≡ length ss = length-set ss i t in omega (arith, n, l.few);
}

-- a slot that changes and is vacant as before
pub still_listed : {T : Type 0} (i : ℕ) (ss : List (Slot T)) (s t : Slot T) (xs : List ℕ) → IsListed ss xs → i < length ss → s ≡ get_or ss i s → is_vacant t ≡ is_vacant s → IsListed (set ss i t) xs
still_listed i ss s t xs l h r e = changed_listed i ss t xs xs l h (l.listed i ∙ vacant_here i ss s h r ∙ sym e) (λ k n. refl)

kept_vacant : (was is : Bool) → is ≡ false → (was ≡ true → is ≡ true) → was ≡ is
kept_vacant true is e m = sym (m refl)
kept_vacant false is e m = sym e

relisted_by : {T : Type 0} (is : Bool) (i : ℕ) (ss : List (Slot T)) (s t : Slot T) (xs ys : List ℕ) → is_vacant t ≡ is → IsListed ss xs → s ≡ get_or ss i s → i < length ss
    → (is_vacant s ≡ true → is_vacant t ≡ true) → IsRelisted is i xs ys → IsListed (set ss i t) ys
relisted_by true i ss s t xs ys e l r h m put = changed_listed i ss t xs ys l h (put.in_it ∙ sym e) put.others
relisted_by false i ss s t xs ys e l r h m same =
    subst (λ (zs : List ℕ). IsListed (set ss i t) zs) (sym same) (still_listed i ss s t xs l h r (sym (kept_vacant (is_vacant s) (is_vacant t) e m)))

-- a slot that may have become vacant, once it was put in
pub relisted : {T : Type 0} (i : ℕ) (ss : List (Slot T)) (s t : Slot T) (xs ys : List ℕ) → IsListed ss xs → s ≡ get_or ss i s → i < length ss → (is_vacant s ≡ true → is_vacant t ≡ true)
    → IsRelisted (is_vacant t) i xs ys → IsListed (set ss i t) ys
relisted i ss s t xs ys l r h m put = relisted_by (is_vacant t) i ss s t xs ys refl l r h m put

-- ---- the lowest vacant slot

vacant_within : {T : Type 0} (i : ℕ) (ss : List (Slot T)) → vacant_at ss i ≡ true → i < length ss
vacant_within i [] h = absurd (cc)
vacant_within zero (s ∷ ss) h = omega arith
vacant_within (suc i) (s ∷ ss) h = let l = vacant_within i ss h in omega (arith, l)

lowest_first : {T : Type 0} (x : Slot T) (ss : List (Slot T)) (first : ℕ) → x ≡ Vacant first → lowest (x ∷ ss) ≡ Some (0, first)
lowest_first (Vacant next) ss first e = let n : next ≡ first = cc in ap (λ m. Some (0, m)) n
lowest_first Retired ss first e = absurd (cc)
lowest_first (Taken r) ss first e = absurd (cc)

lowest_past : {T : Type 0} (x : Slot T) (ss : List (Slot T)) → is_vacant x ≡ false → lowest (x ∷ ss) ≡ later (lowest ss)
lowest_past (Vacant next) ss e = absurd (cc)
lowest_past Retired ss e = refl
lowest_past (Taken r) ss e = refl

lowest_at : {T : Type 0} (i : ℕ) (ss : List (Slot T)) (s : Slot T) (first : ℕ) → i < length ss → ((j : ℕ) → j < i → vacant_at ss j ≡ false) → s ≡ get_or ss i s → s ≡ Vacant first
    → lowest ss ≡ Some (i, first)
lowest_at i [] s first h low r e = absurd (omega (arith, h))
lowest_at zero (x ∷ ss) s first h low r e = lowest_first x ss first (sym r ∙ e)
lowest_at (suc i) (x ∷ ss) s first h low r e =
    lowest_past x ss (low 0 (omega arith)) ∙ ap later (lowest_at i ss s first (omega (arith, h)) (λ j l. low (suc j) (omega (arith, l))) r e) ∙ ap (λ j. Some (j, first)) (add-one i)

-- with no vacant slot there is no lowest one
pub lowest-none : {T : Type 0} (ss : List (Slot T)) (xs : List ℕ) → IsListed ss xs → AreNone xs → lowest ss ≡ None
lowest-none ss xs l n = none_in ss (λ k. sym (l.listed k) ∙ n k)
  where
    none_in : {T : Type 0} (zs : List (Slot T)) → ((k : ℕ) → vacant_at zs k ≡ false) → lowest zs ≡ None
    none_in [] h = refl
    none_in (z ∷ zs) h = lowest_past z zs (h 0) ∙ ap later (none_in zs (λ k. h (suc k)))

-- the least number of the set is within the slots, and its slot is vacant
pub least_within : {T : Type 0} (i : ℕ) (ss : List (Slot T)) (xs : List ℕ) → IsListed ss xs → IsLeast xs i → i < length ss
least_within i ss xs l t = vacant_within i ss (sym (l.listed i) ∙ t.in_it)

pub least_vacant : {T : Type 0} (i : ℕ) (ss : List (Slot T)) (xs : List ℕ) (s : Slot T) → IsListed ss xs → IsLeast xs i → s ≡ get_or ss i s → is_vacant s ≡ true
least_vacant i ss xs s l t r = sym (vacant_here i ss s (least_within i ss xs l t) r) ∙ sym (l.listed i) ∙ t.in_it

-- a width, told by its tests
pub widths : (n : ℕ) → 1 ≤ n → n ≤ 1024 → is_width n ≡ true
widths n low high = grind (arith, nat_tests)

-- a create that takes the lowest vacant slot
pub record Takes {T : Type 0} (slot first : ℕ) (whole ss : List (Slot T)) (xs : List ℕ) (s : Slot T) : Type 0 where
  pub same : ss ≡ whole
  pub listed : IsListed ss xs
  pub least : IsLeast xs slot
  pub read : s ≡ get_or ss slot s
  pub was : s ≡ Vacant first

place_of : {T : Type 0} (slot first : ℕ) (whole ss : List (Slot T)) (xs : List ℕ) (s : Slot T) → Takes slot first whole ss xs s → lowest ss ≡ Some (slot, first)
place_of slot first whole ss xs s t = lowest_at slot ss s first (least_within slot ss xs t.listed t.least) (λ j l. sym (t.listed.listed j) ∙ t.least.first j l) t.read t.was

pub create-taken : {T : Type 0} (range : ℕ) (value : T) (slot first : ℕ) (whole ss : List (Slot T)) (xs : List ℕ) (s : Slot T) → is_width range ≡ true → Takes slot first whole ss xs s
    → Ok (make_id slot first) ≡ create_says range value whole
create-taken range value slot first whole ss xs s w t =
    sym (ap (λ zs. create_says range value zs) (sym t.same) ∙ ap (λ b. create_at b (lowest ss) value) w ∙ ap (λ o. create_at true o value) (place_of slot first whole ss xs s t))

pub created-taken : {T : Type 0} (range : ℕ) (value : T) (slot first : ℕ) (whole ss : List (Slot T)) (xs : List ℕ) (s t : Slot T) → is_width range ≡ true → Takes slot first whole ss xs s
    → t ≡ Taken (fresh first range value) → set ss slot t ≡ created range value whole
created-taken range value slot first whole ss xs s t w k u =
    change_within slot (λ x. Taken (fresh first range value)) ss s t k.read u
    ∙ sym (ap (λ zs. created range value zs) (sym k.same) ∙ ap (λ b. created_at b (lowest ss) range value ss) w ∙ ap (λ o. created_at true o range value ss) (place_of slot first whole ss xs s k))

-- a create without a vacant slot
pub create-full : {T : Type 0} (range : ℕ) (value : T) (whole ss : List (Slot T)) → is_width range ≡ true → ss ≡ whole → lowest ss ≡ None → Err (Full value) ≡ create_says range value whole
create-full range value whole ss w same none =
    sym (ap (λ xs. create_says range value xs) (sym same) ∙ ap (λ b. create_at b (lowest ss) value) w ∙ ap (λ o. create_at true o value) none)

pub created-full : {T : Type 0} (range : ℕ) (value : T) (whole ss : List (Slot T)) → is_width range ≡ true → ss ≡ whole → lowest ss ≡ None → ss ≡ created range value whole
created-full range value whole ss w same none =
    sym (ap (λ xs. created range value xs) (sym same) ∙ ap (λ b. created_at b (lowest ss) range value ss) w ∙ ap (λ o. created_at true o range value ss) none)

-- the set once the lowest vacant slot was taken
pub taken_listed : {T : Type 0} (slot first : ℕ) (whole ss : List (Slot T)) (s t : Slot T) (xs ys : List ℕ) → Takes slot first whole ss xs s → is_vacant t ≡ false → is_in ys slot ≡ false
    → ((k : ℕ) → k ≢ slot → is_in ys k ≡ is_in xs k) → IsListed (set ss slot t) ys
taken_listed slot first whole ss s t xs ys k v out others = changed_listed slot ss t xs ys k.listed (least_within slot ss xs k.listed k.least) (out ∙ sym v) others
