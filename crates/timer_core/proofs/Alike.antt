-- All entries of the lists, and what holds of the same entries in another order.
use Rattle.std.proofs.Common.{◌≡◌, ℕ, zero, suc, ◌<◌, ◌≤◌, ltb, Bool, true, false, cond, List, [], ◌∷◌, length, sum_by, arith, refl, sym, ap, ◌∙◌}
use Rattle.std.specs.List.{AllByRecursion}
use Rattle.std.specs.declared.cmp.Reverse.{Reverse}
use Rattle.std.proofs.lemmas.Bool.Decides.{nat_tests}
use Rattle.std.proofs.lemmas.List.Sums.{sum_by-cons}
use Rattle.timer_core.specs.declared.entry.Entry.{Entry}
use Rattle.timer_core.specs.Chains.{list_at}
use Rattle.timer_core.specs.Wheel.{all_of, used_lists, IsHome, IsSettled, AreAlike, AreLater}
use Rattle.timer_core.proofs.Ordered.{all_weaker, all_append, all_left, all_right, one_each}

-- ---- all entries

pub all_of_lists : (P : Entry → Type 0) (lists : List (List Entry)) → ((k : ℕ) → AllByRecursion P (list_at lists k)) → AllByRecursion P (all_of lists)
all_of_lists P [] h = tt
all_of_lists P (l ∷ ls) h = all_append P l (all_of ls) (h 0) (all_of_lists P ls (λ k. h (suc k)))

pub all_used : (P : Entry → Type 0) (lists : List (List Entry)) → ((k : ℕ) → 0 < k → AllByRecursion P (list_at lists k)) → AllByRecursion P (all_of (used_lists lists))
all_used P [] h = tt
all_used P (l ∷ ls) h = all_of_lists P ls (λ k. h (suc k) (omega arith))

list_of_all : (P : Entry → Type 0) (lists : List (List Entry)) (k : ℕ) → AllByRecursion P (all_of lists) → AllByRecursion P (list_at lists k)
list_of_all P [] k h = tt
list_of_all P (l ∷ ls) zero h = all_left P l (all_of ls) h
list_of_all P (l ∷ ls) (suc k) h = list_of_all P ls k (all_right P l (all_of ls) h)

pub used_all : (P : Entry → Type 0) (lists : List (List Entry)) (k : ℕ) → 0 < k → AllByRecursion P (all_of (used_lists lists)) → AllByRecursion P (list_at lists k)
used_all P lists zero u h = absurd (omega (arith, u))
used_all P [] (suc k) u h = tt
used_all P (l ∷ ls) (suc k) u h = list_of_all P ls k h

-- a mark in a list is later than the base
pub lists_later : (base now : ℕ) (heap : List (Reverse Entry)) (lists : List (List Entry)) → now ≤ base → IsSettled base heap lists → AreLater now (all_of (used_lists lists))
lists_later base now heap lists l s =
    all_used (λ (e : Entry). now < e.moment) lists (λ k u. all_weaker (IsHome base k) (λ (e : Entry). now < e.moment) (λ e h. omega (arith, h.later, l)) (list_at lists k) (s.homes k u))

-- ---- what holds of the same entries in another order

abbrev pub fail_of : Bool → ℕ
fail_of b = cond b 0 1

-- one for each entry that fails a test
abbrev pub fails : (Entry → Bool) → Entry → ℕ
fails p e = fail_of (p e)

none_fails : (p : Entry → Bool) (es : List Entry) → AllByRecursion (λ (e : Entry). p e ≡ true) es → sum_by (fails p) es ≡ 0
none_fails p [] h = refl
none_fails p (e ∷ es) h = let a : fails p e ≡ 0 = ap (λ (b : Bool). fail_of b) h.0 in omega (arith, a, none_fails p es h.1, sum_by-cons (fails p) e es)

pass_if : (p : Entry → Bool) (e : Entry) (b : Bool) → p e ≡ b → fail_of b ≡ 0 → p e ≡ true
pass_if p e true h z = h
pass_if p e false h z = absurd (cc)

all_pass : (p : Entry → Bool) (es : List Entry) → sum_by (fails p) es ≡ 0 → AllByRecursion (λ (e : Entry). p e ≡ true) es
all_pass p [] h = tt
all_pass p (e ∷ es) h = let c = sum_by-cons (fails p) e es in (pass_if p e (p e) refl (omega (arith, c, h)), all_pass p es (omega (arith, c, h)))

pub pass_alike : (p : Entry → Bool) (xs ys : List Entry) → AreAlike xs ys → AllByRecursion (λ (e : Entry). p e ≡ true) xs → AllByRecursion (λ (e : Entry). p e ≡ true) ys
pass_alike p xs ys a h = all_pass p ys (sym (a.same (fails p)) ∙ none_fails p xs h)

later_test : (now m : ℕ) → now < m → ltb now m ≡ true
later_test now m h = grind (arith, nat_tests)

test_later : (now m : ℕ) → ltb now m ≡ true → now < m
test_later now m h = grind (arith, nat_tests)

pub later_alike : (now : ℕ) (xs ys : List Entry) → AreAlike xs ys → AreLater now xs → AreLater now ys
later_alike now xs ys a h =
    all_weaker (λ (e : Entry). ltb now e.moment ≡ true) (λ (e : Entry). now < e.moment) (λ e t. test_later now e.moment t) ys
    (pass_alike (λ (e : Entry). ltb now e.moment) xs ys a (all_weaker (λ (e : Entry). now < e.moment) (λ (e : Entry). ltb now e.moment ≡ true) (λ e t. later_test now e.moment t) xs h))

pub each_one : (es : List Entry) → sum_by one_each es ≡ length es
each_one [] = refl
each_one (e ∷ es) = omega (arith, sum_by-cons one_each e es, each_one es)

pub length_alike : (xs ys : List Entry) → AreAlike xs ys → length xs ≡ length ys
length_alike xs ys a = sym (each_one xs) ∙ a.same one_each ∙ each_one ys
