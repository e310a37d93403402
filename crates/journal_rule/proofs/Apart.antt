-- Ranges that follow each other are apart, in whatever order the calls stand.
use Rattle.std.proofs.Common.{◌≡◌, ℕ, ◌+◌, ◌≤◌, ◌==◌, Bool, true, false, nat_le, cond, List, [], ◌∷◌, inl, inr, refl, arith}
use Rattle.std.specs.Bool.{Decides}
use Rattle.std.specs.List.{AllByRecursion}
use Rattle.std.proofs.lemmas.Bool.Decides.{Decides-eqb}
use Rattle.rpc_model.specs.declared.journal.CallLog.{CallLog}
use Rattle.journal_rule.specs.Ranges.{slot_in, version_in, calls_in_slot, insert_by_first, sorted, Follow}
use Rattle.journal_rule.specs.Apart.{Apart, AreApart, RangesAreApart}

-- a call of this slot whose range doesn't begin before this version
abbrev From : ℕ → ℕ → CallLog → Type 0
From slot version call = (slot_in call.first ≡ slot) × (version ≤ version_in call.first)

turned : (c d : CallLog) → Apart c d → Apart d c
turned c d (inl h) = inr h
turned c d (inr h) = inl h

-- what holds of all holds of the one put in, and of the others
put_in : (P : CallLog → Type 0) (call : CallLog) (calls : List CallLog) → AllByRecursion P (insert_by_first call calls) → P call × AllByRecursion P calls
put_in P call [] (one, all) = (one, tt)
put_in P call (c ∷ calls) all = at (nat_le call.first c.first) all (put_in P call calls)
  where
    at : (b : Bool) → AllByRecursion P (cond b (call ∷ c ∷ calls) (c ∷ insert_by_first call calls))
        → (AllByRecursion P (insert_by_first call calls) → P call × AllByRecursion P calls) → P call × AllByRecursion P (c ∷ calls)
    at true (one, all) rest = (one, all)
    at false (one, all) rest = let r = rest all in (r.0, (one, r.1))

of_all : (P : CallLog → Type 0) (calls : List CallLog) → AllByRecursion P (sorted calls) → AllByRecursion P calls
of_all P [] all = tt
of_all P (call ∷ calls) all = let p = put_in P call (sorted calls) all in (p.0, of_all P calls p.1)

apart_put_in : (call : CallLog) (calls : List CallLog) → AreApart (insert_by_first call calls) → AllByRecursion (Apart call) calls × AreApart calls
apart_put_in call [] all = (tt, tt)
apart_put_in call (c ∷ calls) all = at (nat_le call.first c.first) all (apart_put_in call calls)
  where
    at : (b : Bool) → AreApart (cond b (call ∷ c ∷ calls) (c ∷ insert_by_first call calls))
        → (AreApart (insert_by_first call calls) → AllByRecursion (Apart call) calls × AreApart calls) → AllByRecursion (Apart call) (c ∷ calls) × AreApart (c ∷ calls)
    at true (one, all) rest = (one, all)
    at false (one, all) rest =
        let r = rest all in
        let p = put_in (Apart c) call calls one in
        ((turned c call p.0, r.0), (p.1, r.1))

apart_sorted : (calls : List CallLog) → AreApart (sorted calls) → AreApart calls
apart_sorted [] all = tt
apart_sorted (call ∷ calls) all =
    let p = apart_put_in call (sorted calls) all in
    (of_all (Apart call) calls p.0, apart_sorted calls p.1)

-- ---- calls that follow each other

behind : (slot version wider : ℕ) (calls : List CallLog) → AllByRecursion (From slot (version + wider)) calls → AllByRecursion (From slot version) calls
behind slot version wider [] all = tt
behind slot version wider (call ∷ calls) (one, all) = ((one.0, omega (arith, one.1)), behind slot version wider calls all)

all_behind : (slot version : ℕ) (calls : List CallLog) → AllByRecursion (λ (c : CallLog). slot_in c.first ≡ slot) calls → Follow version calls → AllByRecursion (From slot version) calls
all_behind slot version [] of_slot follows = tt
all_behind slot version (call ∷ calls) (one, of_slot) (begins, follows) =
    ((one, omega (arith, begins)), behind slot version call.width calls (all_behind slot (version + call.width) calls of_slot follows))

before : (slot version : ℕ) (c d : CallLog) → slot_in c.first ≡ slot → version_in c.first ≡ version → From slot (version + c.width) d → Apart c d
before slot version c d here begins (there, late) = inl (omega (arith, here, begins, there, late))

all_before : (slot version : ℕ) (c : CallLog) (calls : List CallLog) → slot_in c.first ≡ slot → version_in c.first ≡ version
    → AllByRecursion (From slot (version + c.width)) calls → AllByRecursion (Apart c) calls
all_before slot version c [] here begins all = tt
all_before slot version c (d ∷ calls) here begins (one, all) = (before slot version c d here begins one, all_before slot version c calls here begins all)

apart_following : (slot version : ℕ) (calls : List CallLog) → AllByRecursion (λ (c : CallLog). slot_in c.first ≡ slot) calls → Follow version calls → AreApart calls
apart_following slot version [] of_slot follows = tt
apart_following slot version (call ∷ calls) (one, of_slot) (begins, follows) =
    let next = version + call.width in
    (all_before slot version call calls one begins (all_behind slot next calls of_slot follows), apart_following slot next calls of_slot follows)

-- ---- the calls of a slot

kept_in : (P : CallLog → Type 0) (call : CallLog) (calls : List CallLog) → P call → AllByRecursion P calls → AllByRecursion P (insert_by_first call calls)
kept_in P call [] one all = (one, tt)
kept_in P call (c ∷ calls) one (two, all) = at (nat_le call.first c.first) (kept_in P call calls one all)
  where
    at : (b : Bool) → AllByRecursion P (insert_by_first call calls) → AllByRecursion P (cond b (call ∷ c ∷ calls) (c ∷ insert_by_first call calls))
    at true rest = (one, (two, all))
    at false rest = (two, rest)

kept_sorted : (P : CallLog → Type 0) (calls : List CallLog) → AllByRecursion P calls → AllByRecursion P (sorted calls)
kept_sorted P [] all = tt
kept_sorted P (call ∷ calls) (one, all) = kept_in P call (sorted calls) one (kept_sorted P calls all)

in_slot : (slot : ℕ) (calls : List CallLog) → AllByRecursion (λ (c : CallLog). slot_in c.first ≡ slot) (calls_in_slot slot calls)
in_slot slot [] = tt
in_slot slot (call ∷ calls) = at (slot_in call.first == slot) (Decides-eqb (slot_in call.first) slot) (in_slot slot calls)
  where
    at : (b : Bool) → Decides b (slot_in call.first ≡ slot) → AllByRecursion (λ (c : CallLog). slot_in c.first ≡ slot) (calls_in_slot slot calls)
        → AllByRecursion (λ (c : CallLog). slot_in c.first ≡ slot) (cond b (call ∷ calls_in_slot slot calls) (calls_in_slot slot calls))
    at true same rest = (same.0 refl, rest)
    at false same rest = rest

pub ranges_are_apart : RangesAreApart
ranges_are_apart script lanes journal has slot =
    let calls = calls_in_slot slot journal.calls in
    apart_sorted calls (apart_following slot 1 (sorted calls) (kept_sorted (λ (c : CallLog). slot_in c.first ≡ slot) calls (in_slot slot journal.calls)) (has.follow slot))
