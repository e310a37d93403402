-- One call's step among all calls: its standing changes, and no other does.
use Rattle.std.proofs.Common.{◌≡◌, ◌≢◌, ℕ, zero, suc, ◌+◌, ◌==◌, ◌⊎◌, inl, inr, Bool, true, false, cond, nat_eq, List, [], ◌∷◌, ◌++◌, slice_get, find, count_by, Option, None, Some, ap, sym}
use Rattle.std.proofs.Common.{refl, ◌∙◌, subst, arith, if◌then◌else◌}
use Rattle.std.proofs.lemmas.Bool.{eqb-true, eqb-false, eq-eqb, ne_eqb}
use Rattle.std.proofs.lemmas.Bool.Decides.{eqb_tells, nat_tests}
use Rattle.std.proofs.lemmas.List.Sums.{sum_by-cons}
use Rattle.std.proofs.lemmas.Map.Keys.{IsDistinct-head, IsDistinct-tail}
use Rattle.std.specs.List.{IsDistinct, AllByRecursion}
use Rattle.std.specs.Map.{lookup}
use Rattle.std.specs.Option.{option_map}
use Rattle.rpc_model.specs.Marks.{Begun}
use Rattle.rpc_model.specs.Told.{Standing, number_of, is_call, change_first}
use Rattle.id_pool.specs.Ranges.{Slot, change, look}
use Rattle.id_pool.specs.Answers.{value_says}
use Rattle.sim_run.specs.declared.ticket.Ticket.{Ticket}
use Rattle.sim_run.specs.Desk.{stand, standing_at, standing, standings, with_first, firsts, IsKnown, IsNumbered}
use Rattle.sim_run.proofs.Apart.{StandsAside}

nat_eq-flip : (a b : ℕ) → (b == a) ≡ nat_eq a b
nat_eq-flip a b = elim (eqb_tells a b) [
  | inl same ↦ eq-eqb b a (sym same.1) ∙ sym same.0
  | inr other ↦ ne_eqb b a (λ e. other.1 (sym e)) ∙ sym other.0
]

pub count-cons : {X : Type 0} (p : X → Bool) (x : X) (xs : List X) → count_by p (x ∷ xs) ≡ cond (p x) 1 0 + count_by p xs
count-cons p x xs = sum_by-cons (λ y. cond (p y) 1 0) x xs

abbrev pub one : Bool → ℕ
one b = cond b 1 0

-- A standing has its call's number.
numbered : (slots : List (Slot Begun)) (call : ℕ) (o : Option Ticket) → IsKnown slots call o → number_of (standing_at slots call o) ≡ call
numbered slots call None known = refl
numbered slots call (Some range) known = by (value_says (look range.first slots)) known.2
  where
    by : (o : Option Begun) → IsNumbered call range o → number_of (stand call o) ≡ call
    by None h = refl
    by (Some b) h = h.0

-- what one call's step leaves of all calls
pub record Moved (slots after : List (Slot Begun)) (call : ℕ) (f : Standing → Standing) (entries : List (ℕ × Option Ticket)) : Type 0 where
  pub stands : standings after entries ≡ change_first (is_call call) f (standings slots entries)
  pub known : AllByRecursion (λ entry. IsKnown after entry.0 entry.1) entries

-- ids of other calls stand aside
abbrev pub Aside : (slots after : List (Slot Begun)) → ℕ → Type 0
Aside slots after first = (call : ℕ) (range : Ticket) → range.first ≢ first → IsKnown slots call (Some range) → StandsAside slots after call range

aside-stands : (slots after : List (Slot Begun)) (first call : ℕ) (o : Option Ticket) (rest : List ℕ) → Aside slots after first → IsKnown slots call o
    → AllByRecursion (λ y. nat_eq first y ≡ false) (with_first o rest) → (standing_at after call o ≡ standing_at slots call o) × IsKnown after call o
aside-stands slots after first call None rest aside known apart = (refl, tt)
aside-stands slots after first call (Some range) rest aside known apart =
    let a = aside call range (λ e. eqb-false first range.first apart.0 (sym e)) known in (ap (stand call) a.value, a.known)

behind : (o : Option Ticket) (rest : List ℕ) (P : ℕ → Type 0) → AllByRecursion P (with_first o rest) → AllByRecursion P rest
behind None rest P h = h
behind (Some range) rest P h = h.1

-- Behind the call's own entry nothing changes.
rest-stands : (slots after : List (Slot Begun)) (first : ℕ) (entries : List (ℕ × Option Ticket)) → Aside slots after first → AllByRecursion (λ entry. IsKnown slots entry.0 entry.1) entries
    → AllByRecursion (λ y. nat_eq first y ≡ false) (firsts entries) → (standings after entries ≡ standings slots entries) × AllByRecursion (λ entry. IsKnown after entry.0 entry.1) entries
rest-stands slots after first [] aside known apart = (refl, tt)
rest-stands slots after first (e ∷ es) aside known apart =
    let head = aside-stands slots after first e.0 e.1 (firsts es) aside known.0 apart in
    let tail = rest-stands slots after first es aside known.1 (behind e.1 (firsts es) (λ y. nat_eq first y ≡ false) apart) in
    (ap (λ s. s ∷ standings after es) head.0 ∙ ap (λ ss. standing slots e ∷ ss) tail.0, (head.1, tail.1))

-- what a look-up finds at the first entry, or behind it
pub found_if : {X : Type 0} (b : Bool) (x y : X) (o : Option X) → (if b then Some x else o) ≡ Some y → ((b ≡ true) × (x ≡ y)) ⊎ ((b ≡ false) × (o ≡ Some y))
found_if true x y o e = inl (refl, cc)
found_if false x y o e = inr (refl, e)

-- The first id of an entry that a look-up finds is among the first ids.
among : (test : ℕ → Bool) (range : Ticket) (P : ℕ → Type 0) (entries : List (ℕ × Option Ticket)) → lookup test entries ≡ Some (Some range) → AllByRecursion P (firsts entries) → P range.first
among test range P [] e h = absurd (cc)
among test range P ((call, o) ∷ xs) e h = elim (found_if (test call) o (Some range) (lookup test xs) e) [
  | inl here ↦ (subst (λ o. AllByRecursion P (with_first o (firsts xs))) here.1 h).0
  | inr there ↦ among test range P xs there.1 (behind o (firsts xs) P h)
]

pub change_first-yes : {X : Type 0} (test : X → Bool) (f : X → X) (x : X) (xs : List X) → test x ≡ true → change_first test f (x ∷ xs) ≡ f x ∷ xs
change_first-yes test f x xs e = ap (λ b. if b then f x ∷ xs else x ∷ change_first test f xs) e

pub change_first-no : {X : Type 0} (test : X → Bool) (f : X → X) (x : X) (xs : List X) → test x ≡ false → change_first test f (x ∷ xs) ≡ x ∷ change_first test f xs
change_first-no test f x xs e = ap (λ b. if b then f x ∷ xs else x ∷ change_first test f xs) e

-- A standing is the call's where its entry is.
pub is_call-standing : (slots : List (Slot Begun)) (call number : ℕ) (o : Option Ticket) → IsKnown slots number o → is_call call (standing_at slots number o) ≡ nat_eq call number
is_call-standing slots call number o known = ap (λ n. n == call) (numbered slots number o known) ∙ nat_eq-flip call number

moved-here : (slots after : List (Slot Begun)) (call : ℕ) (range : Ticket) (f : Standing → Standing) (xs : List (ℕ × Option Ticket)) → IsDistinct nat_eq (range.first ∷ firsts xs)
    → IsKnown slots call (Some range) → AllByRecursion (λ entry. IsKnown slots entry.0 entry.1) xs → Aside slots after range.first
    → standing_at after call (Some range) ≡ f (standing_at slots call (Some range)) → IsKnown after call (Some range) → Moved slots after call f ((call, Some range) ∷ xs)
moved-here slots after call range f xs ids owned known aside own owns =
    let tail = rest-stands slots after range.first xs aside known (IsDistinct-head nat_eq range.first (firsts xs) ids) in
    let test = is_call-standing slots call call (Some range) owned ∙ eq-eqb call call refl in
    record {
      stands = ap (λ s. s ∷ standings after xs) own ∙ ap (λ ss. f (standing_at slots call (Some range)) ∷ ss) tail.0
          ∙ sym (change_first-yes (is_call call) f (standing_at slots call (Some range)) (standings slots xs) test);
      known = (owns, tail.1);
    }

moved-there : (slots after : List (Slot Begun)) (call number : ℕ) (range : Ticket) (o : Option Ticket) (f : Standing → Standing) (xs : List (ℕ × Option Ticket)) → nat_eq call number ≡ false
    → IsKnown slots number o → (standing_at after number o ≡ standing_at slots number o) × IsKnown after number o → Moved slots after call f xs → Moved slots after call f ((number, o) ∷ xs)
moved-there slots after call number range o f xs e owned head tail =
    let test = is_call-standing slots call number o owned ∙ e in
    record {
      stands = ap (λ s. s ∷ standings after xs) head.0 ∙ ap (λ ss. standing_at slots number o ∷ ss) tail.stands
          ∙ sym (change_first-no (is_call call) f (standing_at slots number o) (standings slots xs) test);
      known = (head.1, tail.known);
    }

-- Another entry's ids aren't those of an entry behind it.
front-aside : (slots after : List (Slot Begun)) (call number : ℕ) (range : Ticket) (o : Option Ticket) (xs : List (ℕ × Option Ticket)) → lookup (nat_eq call) xs ≡ Some (Some range)
    → IsDistinct nat_eq (with_first o (firsts xs)) → Aside slots after range.first → IsKnown slots number o → (standing_at after number o ≡ standing_at slots number o) × IsKnown after number o
front-aside slots after call number range None xs e ids aside known = (refl, tt)
front-aside slots after call number range (Some r) xs e ids aside known =
    let other = among (nat_eq call) range (λ y. nat_eq r.first y ≡ false) xs e (IsDistinct-head nat_eq r.first (firsts xs) ids) in
    let a = aside number r (eqb-false r.first range.first other) known in (ap (stand number) a.value, a.known)

distinct-behind : (o : Option Ticket) (rest : List ℕ) → IsDistinct nat_eq (with_first o rest) → IsDistinct nat_eq rest
distinct-behind None rest h = h
distinct-behind (Some range) rest h = IsDistinct-tail nat_eq range.first rest h

-- The call's own standing changes, and no other does.
pub moved : (slots after : List (Slot Begun)) (call : ℕ) (range : Ticket) (f : Standing → Standing) (entries : List (ℕ × Option Ticket)) → lookup (nat_eq call) entries ≡ Some (Some range)
    → IsDistinct nat_eq (firsts entries) → AllByRecursion (λ entry. IsKnown slots entry.0 entry.1) entries → Aside slots after range.first
    → standing_at after call (Some range) ≡ f (standing_at slots call (Some range)) → IsKnown after call (Some range) → Moved slots after call f entries
moved slots after call range f [] e ids known aside own owns = absurd (cc)
moved slots after call range f ((number, o) ∷ xs) e ids known aside own owns = elim (found_if (nat_eq call number) o (Some range) (lookup (nat_eq call) xs) e) [
  | inl here ↦
      let n : call ≡ number = eqb-true call number here.0 in
      let ids' = subst (λ o. IsDistinct nat_eq (with_first o (firsts xs))) here.1 ids in
      let known' = subst (λ o. IsKnown slots call o) here.1 (subst (λ c. IsKnown slots c o) (sym n) known.0) in
      let all = moved-here slots after call range f xs ids' known' known.1 aside own owns in
      subst (λ c. Moved slots after call f ((c, o) ∷ xs)) n (subst (λ o. Moved slots after call f ((call, o) ∷ xs)) (sym here.1) all)
  | inr there ↦
      moved-there slots after call number range o f xs there.0 known.0 (front-aside slots after call number range o xs there.1 ids aside known.0)
      (moved slots after call range f xs there.1 (distinct-behind o (firsts xs) ids) known.1 aside own owns)
]

-- What a search for a call's standing finds.
pub find-standing : (slots : List (Slot Begun)) (call : ℕ) (entries : List (ℕ × Option Ticket)) → AllByRecursion (λ entry. IsKnown slots entry.0 entry.1) entries
    → find (is_call call) (standings slots entries) ≡ option_map (standing_at slots call) (lookup (nat_eq call) entries)
find-standing slots call [] known = refl
find-standing slots call ((number, o) ∷ xs) known = elim (eqb_tells call number) [
  | inl same ↦
      let test = is_call-standing slots call number o known.0 ∙ same.0 in
      find-yes (is_call call) (standing_at slots number o) (standings slots xs) test ∙ ap (λ c. Some (standing_at slots c o)) (sym same.1)
      ∙ sym (ap (λ b. option_map (standing_at slots call) (if b then Some o else lookup (nat_eq call) xs)) same.0)
  | inr other ↦
      let test = is_call-standing slots call number o known.0 ∙ other.0 in
      find-no (is_call call) (standing_at slots number o) (standings slots xs) test ∙ find-standing slots call xs known.1
      ∙ sym (ap (λ b. option_map (standing_at slots call) (if b then Some o else lookup (nat_eq call) xs)) other.0)
]
  where
    find-yes : {X : Type 0} (test : X → Bool) (x : X) (xs : List X) → test x ≡ true → find test (x ∷ xs) ≡ Some x
    find-yes test x xs e = ap (λ b. if b then Some x else find test xs) e

    find-no : {X : Type 0} (test : X → Bool) (x : X) (xs : List X) → test x ≡ false → find test (x ∷ xs) ≡ find test xs
    find-no test x xs e = ap (λ b. if b then Some x else find test xs) e

nothing-if : {X : Type 0} (b : Bool) (f : X → X) (x : X) (xs ys : List X) → (b ≡ true → f x ≡ x) → (b ≡ false → ys ≡ xs) → (if b then f x ∷ xs else x ∷ ys) ≡ x ∷ xs
nothing-if true f x xs ys here there = ap (λ y. y ∷ xs) (here refl)
nothing-if false f x xs ys here there = ap (λ zs. x ∷ zs) (there refl)

-- A call that isn't there, or a step that leaves its standing as it is.
pub change_first-nothing : {X : Type 0} (test : X → Bool) (f : X → X) (xs : List X) → ((x : X) → find test xs ≡ Some x → f x ≡ x) → change_first test f xs ≡ xs
change_first-nothing test f [] h = refl
change_first-nothing test f (x ∷ xs) h =
    nothing-if (test x) f x xs (change_first test f xs) (λ e. h x (ap (λ b. if b then Some x else find test xs) e))
    (λ e. change_first-nothing test f xs (λ y found. h y (ap (λ b. if b then Some x else find test xs) e ∙ found)))

-- What holds of each entry holds of the one that a look-up finds.
pub entry-of : (P : Option Ticket → Type 0) (call : ℕ) (o : Option Ticket) (entries : List (ℕ × Option Ticket)) → AllByRecursion (λ entry. P entry.1) entries
    → lookup (nat_eq call) entries ≡ Some o → P o
entry-of P call o [] all e = absurd (cc)
entry-of P call o ((number, x) ∷ xs) all e = elim (found_if (nat_eq call number) x o (lookup (nat_eq call) xs) e) [
  | inl here ↦ subst P here.1 all.0
  | inr there ↦ entry-of P call o xs all.1 there.1
]

-- ---- look-ups in one entry more

pub lookup-more : (key : ℕ) (x : Option Ticket) (last : ℕ × Option Ticket) (entries : List (ℕ × Option Ticket)) → lookup (nat_eq key) entries ≡ Some x
    → lookup (nat_eq key) (entries ++ last ∷ []) ≡ Some x
lookup-more key x last [] e = absurd (cc)
lookup-more key x last ((number, o) ∷ xs) e = elim (found_if (nat_eq key number) o x (lookup (nat_eq key) xs) e) [
  | inl here ↦ ap (λ b. if b then Some o else lookup (nat_eq key) (xs ++ last ∷ [])) here.0 ∙ ap Some here.1
  | inr there ↦ ap (λ b. if b then Some o else lookup (nat_eq key) (xs ++ last ∷ [])) there.0 ∙ lookup-more key x last xs there.1
]

pub lookup-last : (key : ℕ) (x : Option Ticket) (entries : List (ℕ × Option Ticket)) → lookup (nat_eq key) entries ≡ None → lookup (nat_eq key) (entries ++ (key, x) ∷ []) ≡ Some x
lookup-last key x [] e = ap (λ b. if b then Some x else None) (nat_eq-same key)
  where
    nat_eq-same : (n : ℕ) → nat_eq n n ≡ true
    nat_eq-same n = grind (arith, nat_tests)
lookup-last key x ((number, o) ∷ xs) e = by (nat_eq key number) refl e (λ h. lookup-last key x xs h)
  where
    by : (b : Bool) → nat_eq key number ≡ b → (if b then Some o else lookup (nat_eq key) xs) ≡ None → (lookup (nat_eq key) xs ≡ None → lookup (nat_eq key) (xs ++ (key, x) ∷ []) ≡ Some x)
        → (if nat_eq key number then Some o else lookup (nat_eq key) (xs ++ (key, x) ∷ [])) ≡ Some x
    by true t e again = absurd (cc)
    by false t e again = ap (λ b. if b then Some o else lookup (nat_eq key) (xs ++ (key, x) ∷ [])) t ∙ again e

-- ---- how many

-- The count changes by what the one step changes.
pub count-change_first : {X : Type 0} (p test : X → Bool) (f : X → X) (xs : List X) (y : X) → find test xs ≡ Some y → count_by p (change_first test f xs) + one (p y) ≡ count_by p xs + one (p (f y))
count-change_first p test f [] y e = absurd (cc)
count-change_first p test f (x ∷ xs) y e = elim (found_if (test x) x y (find test xs) e) [
  | inl here ↦
      let same = here.1 in
      let c = count-cons p (f x) xs in
      let d = count-cons p x xs in
      let all : count_by p (f x ∷ xs) + one (p x) ≡ count_by p (x ∷ xs) + one (p (f x)) = omega (arith, c, d) in
      ap (λ zs. count_by p zs + one (p y)) (change_first-yes test f x xs here.0) ∙ subst (λ z. count_by p (f x ∷ xs) + one (p z) ≡ count_by p (x ∷ xs) + one (p (f z))) same all
  | inr there ↦
      let i = count-change_first p test f xs y there.1 in
      let c = count-cons p x (change_first test f xs) in
      let d = count-cons p x xs in
      ap (λ zs. count_by p zs + one (p y)) (change_first-no test f x xs there.0) ∙ omega (arith, c, d, i)
]

-- The same of a slot.
pub count-change : {T : Type 0} (p : Slot T → Bool) (i : ℕ) (f : Slot T → Slot T) (slots : List (Slot T)) (s : Slot T) → slice_get slots i ≡ Some s
    → count_by p (change i f slots) + one (p s) ≡ count_by p slots + one (p (f s))
count-change p i f [] s e = absurd (cc)
count-change p zero f (x ∷ xs) s e =
    let same : x ≡ s = cc in
    let c = count-cons p (f x) xs in
    let d = count-cons p x xs in
    let all : count_by p (f x ∷ xs) + one (p x) ≡ count_by p (x ∷ xs) + one (p (f x)) = omega (arith, c, d) in
    subst (λ z. count_by p (f x ∷ xs) + one (p z) ≡ count_by p (x ∷ xs) + one (p (f z))) same all
count-change p (suc i) f (x ∷ xs) s e =
    let h = count-change p i f xs s e in
    let c = count-cons p x (change i f xs) in
    let d = count-cons p x xs in
    omega (arith, c, d, h)

-- What holds of each slot holds of each after a change that keeps it.
pub All-change : {T : Type 0} (P : Slot T → Type 0) (i : ℕ) (f : Slot T → Slot T) (slots : List (Slot T)) → AllByRecursion P slots
    → ((s : Slot T) → slice_get slots i ≡ Some s → P s → P (f s)) → AllByRecursion P (change i f slots)
All-change P i f [] h step = tt
All-change P zero f (x ∷ xs) h step = (step x refl h.0, h.1)
All-change P (suc i) f (x ∷ xs) h step = (h.0, All-change P i f xs h.1 step)

-- The slot at a place is one of them.
pub slot-of-all : {T : Type 0} (P : Slot T → Type 0) (i : ℕ) (slots : List (Slot T)) (s : Slot T) → AllByRecursion P slots → slice_get slots i ≡ Some s → P s
slot-of-all P i [] s h e = absurd (cc)
slot-of-all P zero (x ∷ xs) s h e = let same : x ≡ s = cc in subst P same h.0
slot-of-all P (suc i) (x ∷ xs) s h e = slot-of-all P i xs s h.1 e

-- The entry that a look-up finds is known.
pub known-of : (slots : List (Slot Begun)) (call : ℕ) (o : Option Ticket) (entries : List (ℕ × Option Ticket)) → AllByRecursion (λ entry. IsKnown slots entry.0 entry.1) entries
    → lookup (nat_eq call) entries ≡ Some o → IsKnown slots call o
known-of slots call o [] known e = absurd (cc)
known-of slots call o ((number, x) ∷ xs) known e = elim (found_if (nat_eq call number) x o (lookup (nat_eq call) xs) e) [
  | inl here ↦ subst (λ y. IsKnown slots call y) here.1 (subst (λ c. IsKnown slots c x) (sym (eqb-true call number here.0)) known.0)
  | inr there ↦ known-of slots call o xs known.1 there.1
]
