-- The order of entries: what the same entries stand for whatever lists they stand in.
use Rattle.std.proofs.Common.{◌≡◌, ℕ, ◌+◌, ◌<◌, ◌≤◌, ◌==◌, ◌&&◌, ◌||◌, ltb, Bool, true, false, cond, List, [], ◌∷◌, ◌++◌, map, sum_by, arith, refl, sym, ap, ◌∙◌}
use Rattle.std.specs.List.{AllByRecursion}
use Rattle.std.proofs.lemmas.Bool.Decides.{nat_tests}
use Rattle.std.proofs.lemmas.List.Sums.{sum_by-cons}
use Rattle.timer_core.specs.declared.mark.Mark.{Mark}
use Rattle.timer_core.specs.declared.entry.Entry.{Entry}
use Rattle.timer_core.specs.Entries.{mark_of, entry_of}
use Rattle.timer_core.specs.Marks.{comes_after, added}
use Rattle.timer_core.specs.Wheel.{is_after, with_entry, in_order, AreAlike, IsLeast}

-- ---- the order, on numbers

-- whether a place comes after another
abbrev pub is_past : (m r o i k n s p j l : ℕ) → Bool
is_past m r o i k n s p j l = ltb n m || (n == m && (ltb s r || (s == r && (ltb p o || (p == o && (ltb j i || (j == i && ltb l k)))))))

past_itself : (m r o i k : ℕ) → is_past m r o i k m r o i k ≡ false
past_itself m r o i k = grind (arith, nat_tests)

past_apart : (m r o i k n s p j l : ℕ) → is_past m r o i k n s p j l ≡ true → is_past n s p j l m r o i k ≡ false
past_apart m r o i k n s p j l h = grind (arith, nat_tests)

past_trans : (m r o i k n s p j l a b c d e : ℕ) → is_past m r o i k n s p j l ≡ true → is_past m r o i k a b c d e ≡ false → is_past n s p j l a b c d e ≡ false
past_trans m r o i k n s p j l a b c d e h g = grind (arith, nat_tests)

same_moment : (m r o i k n s p j l : ℕ) → is_past m r o i k n s p j l ≡ false → is_past n s p j l m r o i k ≡ false → m ≡ n
same_moment m r o i k n s p j l h g = grind (arith, nat_tests)

same_rank : (m r o i k n s p j l : ℕ) → is_past m r o i k n s p j l ≡ false → is_past n s p j l m r o i k ≡ false → r ≡ s
same_rank m r o i k n s p j l h g = grind (arith, nat_tests)

same_order : (m r o i k n s p j l : ℕ) → is_past m r o i k n s p j l ≡ false → is_past n s p j l m r o i k ≡ false → o ≡ p
same_order m r o i k n s p j l h g = grind (arith, nat_tests)

same_id : (m r o i k n s p j l : ℕ) → is_past m r o i k n s p j l ≡ false → is_past n s p j l m r o i k ≡ false → i ≡ j
same_id m r o i k n s p j l h g = grind (arith, nat_tests)

same_code : (m r o i k n s p j l : ℕ) → is_past m r o i k n s p j l ≡ false → is_past n s p j l m r o i k ≡ false → k ≡ l
same_code m r o i k n s p j l h g = grind (arith, nat_tests)

-- of entries that were added before, the moment and the rank decide
added_before : (m r o i k n s p j l : ℕ) → o < p → is_past m r o i k n s p j l ≡ (ltb n m || (n == m && ltb s r))
added_before m r o i k n s p j l h = grind (arith, nat_tests)

-- a lower moment comes first
pub not_past : (m r o i k n s p j l : ℕ) → m < n → is_past m r o i k n s p j l ≡ false
not_past m r o i k n s p j l h = grind (arith, nat_tests)

pub past_moment : (m r o i k n s p j l : ℕ) → is_past m r o i k n s p j l ≡ false → m ≤ n
past_moment m r o i k n s p j l h = grind (arith, nat_tests)

-- entries of which neither comes after the other are the same
same_entry : (e f : Entry) → is_after e f ≡ false → is_after f e ≡ false → e ≡ f
same_entry e f h g =
    let a = same_moment e.moment e.rank e.order e.id e.code f.moment f.rank f.order f.id f.code h g in
    let b = same_rank e.moment e.rank e.order e.id e.code f.moment f.rank f.order f.id f.code h g in
    let c = same_order e.moment e.rank e.order e.id e.code f.moment f.rank f.order f.id f.code h g in
    let d = same_id e.moment e.rank e.order e.id e.code f.moment f.rank f.order f.id f.code h g in
    let x = same_code e.moment e.rank e.order e.id e.code f.moment f.rank f.order f.id f.code h g in
    ap (λ (m : ℕ). made m e.rank e.order e.id e.code) a
    ∙ ap (λ (r : ℕ). made f.moment r e.order e.id e.code) b
    ∙ ap (λ (o : ℕ). made f.moment f.rank o e.id e.code) c
    ∙ ap (λ (i : ℕ). made f.moment f.rank f.order i e.code) d
    ∙ ap (λ (k : ℕ). made f.moment f.rank f.order f.id k) x
  where
    made : ℕ → ℕ → ℕ → ℕ → ℕ → Entry
    made m r o i k = record { moment = m; rank = r; order = o; id = i; code = k }

-- ---- lists in order

pub all_weaker : {X : Type 0} (P Q : X → Type 0) → ((x : X) → P x → Q x) → (xs : List X) → AllByRecursion P xs → AllByRecursion Q xs
all_weaker P Q f [] h = tt
all_weaker P Q f (x ∷ xs) h = (f x h.0, all_weaker P Q f xs h.1)

pub all_append : {X : Type 0} (P : X → Type 0) (xs ys : List X) → AllByRecursion P xs → AllByRecursion P ys → AllByRecursion P (xs ++ ys)
all_append P [] ys h k = k
all_append P (x ∷ xs) ys h k = (h.0, all_append P xs ys h.1 k)

pub all_left : {X : Type 0} (P : X → Type 0) (xs ys : List X) → AllByRecursion P (xs ++ ys) → AllByRecursion P xs
all_left P [] ys h = tt
all_left P (x ∷ xs) ys h = (h.0, all_left P xs ys h.1)

pub all_right : {X : Type 0} (P : X → Type 0) (xs ys : List X) → AllByRecursion P (xs ++ ys) → AllByRecursion P ys
all_right P [] ys h = h
all_right P (x ∷ xs) ys h = all_right P xs ys h.1

abbrev pub AreAscending : List Entry → Type 0
AreAscending [] = Unit {0}
AreAscending (e ∷ es) = IsLeast e es × AreAscending es

all_with_if : (P : Entry → Type 0) (e f : Entry) (fs rest : List Entry) (b : Bool) → P e → P f → AllByRecursion P fs → AllByRecursion P rest → AllByRecursion P (cond b (e ∷ f ∷ fs) (f ∷ rest))
all_with_if P e f fs rest true h k a r = (h, (k, a))
all_with_if P e f fs rest false h k a r = (k, r)

all_with : (P : Entry → Type 0) (e : Entry) (es : List Entry) → P e → AllByRecursion P es → AllByRecursion P (with_entry e es)
all_with P e [] h a = (h, tt)
all_with P e (f ∷ fs) h a = all_with_if P e f fs (with_entry e fs) (is_after f e) h a.0 a.1 (all_with P e fs h a.1)

pub all_in_order : (P : Entry → Type 0) (es : List Entry) → AllByRecursion P es → AllByRecursion P (in_order es)
all_in_order P [] h = tt
all_in_order P (e ∷ es) h = all_with P e (in_order es) h.0 (all_in_order P es h.1)

ascending_if : (e f : Entry) (fs rest : List Entry) (b : Bool) → is_after f e ≡ b → AreAscending (f ∷ fs) → (is_after f e ≡ false → IsLeast f rest) → AreAscending rest
    → AreAscending (cond b (e ∷ f ∷ fs) (f ∷ rest))
ascending_if e f fs rest true t h k r = (
  (
    past_apart f.moment f.rank f.order f.id f.code e.moment e.rank e.order e.id e.code t,
    all_weaker (λ o. is_after f o ≡ false) (λ o. is_after e o ≡ false)
        (λ o n. past_trans f.moment f.rank f.order f.id f.code e.moment e.rank e.order e.id e.code o.moment o.rank o.order o.id o.code t n) fs h.0,
  ),
  h,
)
ascending_if e f fs rest false t h k r = (k t, r)

pub ascending_with : (e : Entry) (es : List Entry) → AreAscending es → AreAscending (with_entry e es)
ascending_with e [] h = (tt, tt)
ascending_with e (f ∷ fs) h = ascending_if e f fs (with_entry e fs) (is_after f e) refl h (λ t. all_with (λ o. is_after f o ≡ false) e fs t h.0) (ascending_with e fs h.1)

pub ascending_in_order : (es : List Entry) → AreAscending (in_order es)
ascending_in_order [] = tt
ascending_in_order (e ∷ es) = ascending_with e (in_order es) (ascending_in_order es)

-- ---- no entry is lost

sum_with_if : (w : Entry → ℕ) (e f : Entry) (fs rest : List Entry) (b : Bool) → sum_by w rest ≡ w e + sum_by w fs → sum_by w (cond b (e ∷ f ∷ fs) (f ∷ rest)) ≡ w e + (w f + sum_by w fs)
sum_with_if w e f fs rest true h = sum_by-cons w e (f ∷ fs) ∙ ap (λ n. w e + n) (sum_by-cons w f fs)
sum_with_if w e f fs rest false h = let g : sum_by w (f ∷ rest) ≡ w e + (w f + sum_by w fs) = omega (arith, sum_by-cons w f rest, h) in g

pub sum_with : (w : Entry → ℕ) (e : Entry) (es : List Entry) → sum_by w (with_entry e es) ≡ w e + sum_by w es
sum_with w e [] = sum_by-cons w e []
sum_with w e (f ∷ fs) = sum_with_if w e f fs (with_entry e fs) (is_after f e) (sum_with w e fs) ∙ ap (λ n. w e + n) (sym (sum_by-cons w f fs))

pub sum_in_order : (w : Entry → ℕ) (es : List Entry) → sum_by w (in_order es) ≡ sum_by w es
sum_in_order w [] = refl
sum_in_order w (e ∷ es) = sum_with w e (in_order es) ∙ ap (λ n. w e + n) (sum_in_order w es) ∙ sym (sum_by-cons w e es)

-- ---- one order

-- one for each entry before this one
abbrev pub one_before : Entry → Entry → ℕ
one_before e f = cond (is_after e f) 1 0

abbrev unit_if : Bool → ℕ
unit_if b = cond b 1 0

none_after : (e : Entry) (es : List Entry) → IsLeast e es → sum_by (one_before e) es ≡ 0
none_after e [] h = refl
none_after e (f ∷ fs) h = let a : one_before e f ≡ 0 = ap (λ (b : Bool). unit_if b) h.0 in omega (arith, a, none_after e fs h.1, sum_by-cons (one_before e) f fs)

-- a first entry comes after no entry of an alike list
first_alike : (e f : Entry) (es fs : List Entry) → IsLeast e es → AreAlike (e ∷ es) (f ∷ fs) → (b : Bool) → is_after e f ≡ b → is_after e f ≡ false
first_alike e f es fs h a false t = t
first_alike e f es fs h a true t =
    let n = none_after e (e ∷ es) (past_itself e.moment e.rank e.order e.id e.code, h) in
    let o : one_before e f ≡ 1 = ap (λ (b : Bool). unit_if b) t in
    absurd (omega (arith, n, a.same (one_before e), o, sum_by-cons (one_before e) f fs))

rest_alike : (e f : Entry) (es fs : List Entry) → e ≡ f → AreAlike (e ∷ es) (f ∷ fs) → AreAlike es fs
rest_alike e f es fs s a = record { same = λ w. let one : w e ≡ w f = ap w s in omega (arith, a.same w, one, sum_by-cons w e es, sum_by-cons w f fs) }

abbrev pub one_each : Entry → ℕ
one_each e = 1

-- entries have one order
pub one_order : (xs ys : List Entry) → AreAscending xs → AreAscending ys → AreAlike xs ys → xs ≡ ys
one_order [] [] h k a = refl
one_order [] (y ∷ ys) h k a = absurd (omega (arith, a.same one_each, sum_by-cons one_each y ys))
one_order (x ∷ xs) [] h k a = absurd (omega (arith, a.same one_each, sum_by-cons one_each x xs))
one_order (x ∷ xs) (y ∷ ys) h k a =
    let e : x ≡ y = same_entry x y (first_alike x y xs ys h.0 a (is_after x y) refl) (first_alike y x ys xs k.0 (record { same = λ w. sym (a.same w) }) (is_after y x) refl) in
    ap (λ (z : Entry). z ∷ xs) e ∙ ap (λ (zs : List Entry). y ∷ zs) (one_order xs ys h.1 k.1 (rest_alike x y xs ys e a))

-- ---- marks

marks_if : (mark : Mark) (next : ℕ) (f : Entry) (fs rest : List Entry) (marks : List Mark) (a b : Bool) → a ≡ b → map mark_of rest ≡ marks
    → map mark_of (cond a (entry_of next mark ∷ f ∷ fs) (f ∷ rest)) ≡ cond b (mark ∷ mark_of f ∷ map mark_of fs) (mark_of f ∷ marks)
marks_if mark next f fs rest marks true true e h = refl
marks_if mark next f fs rest marks true false e h = absurd (cc)
marks_if mark next f fs rest marks false true e h = absurd (cc)
marks_if mark next f fs rest marks false false e h = ap (λ ms. mark_of f ∷ ms) h

-- the next mark comes behind all that do not come after it
pub marks_with : (mark : Mark) (next : ℕ) (es : List Entry) → AllByRecursion (λ (e : Entry). e.order < next) es → map mark_of (with_entry (entry_of next mark) es) ≡ added mark (map mark_of es)
marks_with mark next [] h = refl
marks_with mark next (f ∷ fs) h =
    marks_if mark next f fs (with_entry (entry_of next mark) fs) (added mark (map mark_of fs)) (is_after f (entry_of next mark)) (comes_after (mark_of f) mark)
    (added_before f.moment f.rank f.order f.id f.code mark.moment mark.rank next mark.id mark.code h.0) (marks_with mark next fs h.1)
