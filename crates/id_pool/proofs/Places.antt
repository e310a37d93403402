-- What an id finds and changes in a list of slots, at the slot that it names.
use Rattle.std.proofs.Common.{◌≡◌, ℕ, zero, suc, ◌<◌, ◌≤◌, ltb, Bool, true, false, if◌then◌else◌, List, [], ◌∷◌, length, get_or, set, refl, sym, ◌∙◌, ap, inl, inr, arith, Some, None, Ok}
use Rattle.std.proofs.Common.{Err, OnOk, OnErr, IsSome, slice_get}
use Rattle.std.proofs.lemmas.Bool.{cases_lt}
use borrow.Author.Tests.{ltb-true, lt-ltb}
use Rattle.std.specs.declared.option.Option.{Option}
use Rattle.std.specs.declared.result.Result.{Result}
use Rattle.id_pool.specs.Ids.{slot_of, version_of}
use Rattle.id_pool.specs.Ranges.{Slot, Vacant, Retired, Taken, Range, Seen, Nothing, Unlocked, Locked, Absent, seen, seen_at, offset, owned, look, own, seen_in, owned_in, slot_at, change}
use Rattle.id_pool.specs.Ranges.{change_at, changed, locked, locked_by, posted, posted_by, unlocked, unlocked_by, destroyed, destroyed_by, resized, resized_by, cancelled, collected, widens}
use Rattle.id_pool.specs.Ranges.{valued, value_in, Standing, Free, Held, Ended}
use Rattle.id_pool.specs.Answers.{value_says}
use Rattle.id_pool.specs.Vacancies.{is_vacant}
use Rattle.id_pool.specs.Places.{below, place}

-- a number below n, told by the test
pub record IsBelow (n : ℕ) (o : Option ℕ) (i : ℕ) : Type 0 where
  pub is : o ≡ Some i
  pub low : i < n

below_if : (n j i : ℕ) (b : Bool) → ltb j n ≡ b → (if b then Some j else None) ≡ Some i → IsBelow n (Some j) i
below_if n j i true t e = let s : j ≡ i = cc in record { is = e; low = omega (arith, ltb-true j n t) }
below_if n j i false t e = absurd (cc)

pub belows : (n : ℕ) (o : Option ℕ) (i : ℕ) → below n o ≡ Some i → IsBelow n o i
belows n None i e = absurd (cc)
belows n (Some j) i e = below_if n j i (ltb j n) refl e

past_if : (n j : ℕ) (b : Bool) → ltb j n ≡ b → (if b then Some j else None) ≡ None → n ≤ j
past_if n j true t e = absurd (cc)
past_if n j false t e = elim (cases_lt j n) [ inl l ↦ let u : ltb j n ≡ true = lt-ltb j n l in absurd (cc) | inr g ↦ g ]

-- past the end nothing changes
change_past : {T : Type 0} (i : ℕ) (f : Slot T → Slot T) (ss : List (Slot T)) → length ss ≤ i → change i f ss ≡ ss
change_past i f [] h = refl
change_past zero f (s ∷ ss) h = absurd (omega arith)
change_past (suc i) f (s ∷ ss) h = ap (λ xs. s ∷ xs) (change_past i f ss (omega arith))

slice_get_past : {T : Type 0} (i : ℕ) (ss : List (Slot T)) → length ss ≤ i → slice_get ss i ≡ None
slice_get_past i [] h = refl
slice_get_past zero (s ∷ ss) h = absurd (omega arith)
slice_get_past (suc i) (s ∷ ss) h = slice_get_past i ss (omega arith)

-- within the list the slot there is changed
pub change_within : {T : Type 0} (i : ℕ) (f : Slot T → Slot T) (ss : List (Slot T)) (s t : Slot T) → s ≡ get_or ss i s → t ≡ f s → set ss i t ≡ change i f ss
change_within i f [] s t r e = refl
change_within zero f (x ∷ ss) s t r e = ap (λ y. y ∷ ss) (e ∙ ap f r)
change_within (suc i) f (x ∷ ss) s t r e = ap (λ xs. x ∷ xs) (change_within i f ss s t r e)

slice_get_within : {T : Type 0} (i : ℕ) (ss : List (Slot T)) (s : Slot T) → s ≡ get_or ss i s → i < length ss → slice_get ss i ≡ Some s
slice_get_within i [] s r h = absurd (omega arith)
slice_get_within zero (x ∷ ss) s r h = ap Some (sym r)
slice_get_within (suc i) (x ∷ ss) s r h = slice_get_within i ss s r (omega arith)

miss_change : {T : Type 0} (o : Option ℕ) (f : Slot T → Slot T) (ss : List (Slot T)) → below (length ss) o ≡ None → change_at o f ss ≡ ss
miss_change None f ss e = refl
miss_change (Some j) f ss e = change_past j f ss (past_if (length ss) j (ltb j (length ss)) refl e)

miss_slot : {T : Type 0} (o : Option ℕ) (ss : List (Slot T)) → below (length ss) o ≡ None → slot_at o ss ≡ None
miss_slot None ss e = refl
miss_slot (Some j) ss e = slice_get_past j ss (past_if (length ss) j (ltb j (length ss)) refl e)

-- an id that names no slot changes nothing
pub missed : {T : Type 0} (id : ℕ) (f : Slot T → Slot T) (ss : List (Slot T)) → place (length ss) id ≡ None → ss ≡ changed f id ss
missed id f ss e = sym (miss_change (slot_of id) f ss e)

-- and finds nothing
pub look-missed : {T : Type 0} (id : ℕ) (ss : List (Slot T)) → place (length ss) id ≡ None → look id ss ≡ Nothing
look-missed id ss e = ap (λ o. seen_in (version_of id) o) (miss_slot (slot_of id) ss e)

pub own-missed : {T : Type 0} (id : ℕ) (ss : List (Slot T)) → place (length ss) id ≡ None → own id ss ≡ Absent
own-missed id ss e = ap (λ o. owned_in (version_of id) o) (miss_slot (slot_of id) ss e)

-- an id that names a slot of a list that is this one: the slot as it is and as it will be
pub record Hits {T : Type 0} (id i : ℕ) (whole ss : List (Slot T)) (s : Slot T) : Type 0 where
  pub same : ss ≡ whole
  pub at : place (length whole) id ≡ Some i
  pub read : s ≡ get_or ss i s

-- that number is within the list
pub within : {T : Type 0} (id i : ℕ) (whole ss : List (Slot T)) (s : Slot T) → Hits id i whole ss s → i < length ss
within id i whole ss s h = let b = belows (length whole) (slot_of id) i h.at in omega (arith, b.low, ap length h.same)

-- it changes that slot
pub hit : {T : Type 0} (id i : ℕ) (f : Slot T → Slot T) (whole ss : List (Slot T)) (s t : Slot T) → Hits id i whole ss s → t ≡ f s → set ss i t ≡ changed f id whole
hit id i f whole ss s t h u =
    let b = belows (length whole) (slot_of id) i h.at in
    change_within i f ss s t h.read u ∙ ap (λ xs. change i f xs) h.same ∙ ap (λ o. change_at o f whole) (sym b.is)

-- and finds what the version finds there
pub look-hit : {T : Type 0} (id i : ℕ) (whole ss : List (Slot T)) (s : Slot T) → Hits id i whole ss s → seen (version_of id) s ≡ look id whole
look-hit id i whole ss s h =
    let b = belows (length whole) (slot_of id) i h.at in
    let g : slice_get whole i ≡ Some s = ap (λ xs. slice_get xs i) (sym h.same) ∙ slice_get_within i ss s h.read (within id i whole ss s h) in
    sym (ap (λ o. seen_in (version_of id) (slot_at o whole)) b.is ∙ ap (λ o. seen_in (version_of id) o) g)

pub own-hit : {T : Type 0} (id i : ℕ) (whole ss : List (Slot T)) (s : Slot T) → Hits id i whole ss s → owned (version_of id) s ≡ own id whole
own-hit id i whole ss s h =
    let b = belows (length whole) (slot_of id) i h.at in
    let g : slice_get whole i ≡ Some s = ap (λ xs. slice_get xs i) (sym h.same) ∙ slice_get_within i ss s h.read (within id i whole ss s h) in
    sym (ap (λ o. owned_in (version_of id) (slot_at o whole)) b.is ∙ ap (λ o. owned_in (version_of id) o) g)

-- the calls that leave a range in its slot
locked_taken : {T : Type 0} (x : Seen T) (r : Range T) → is_vacant (locked_by x (Taken r)) ≡ false
locked_taken Nothing r = refl
locked_taken (Unlocked q k) r = refl
locked_taken (Locked q k w) r = refl

pub vacant-locked : {T : Type 0} (v : ℕ) (s : Slot T) → is_vacant (locked v s) ≡ is_vacant s
vacant-locked v (Vacant n) = refl
vacant-locked v Retired = refl
vacant-locked v (Taken r) = locked_taken (seen v (Taken r)) r

posted_taken : {T : Type 0} (x : Seen T) (code : ℕ) (r : Range T) → is_vacant (posted_by x code (Taken r)) ≡ false
posted_taken Nothing code r = refl
posted_taken (Unlocked q k) code r = refl
posted_taken (Locked q k w) code r = refl

pub vacant-posted : {T : Type 0} (v code : ℕ) (s : Slot T) → is_vacant (posted v code s) ≡ is_vacant s
vacant-posted v code (Vacant n) = refl
vacant-posted v code Retired = refl
vacant-posted v code (Taken r) = posted_taken (seen v (Taken r)) code r

unlocked_taken : {T : Type 0} (x : Seen T) (r : Range T) → is_vacant (unlocked_by x (Taken r)) ≡ false
unlocked_taken Nothing r = refl
unlocked_taken (Unlocked q k) r = refl
unlocked_taken (Locked q k w) r = refl

pub vacant-unlocked : {T : Type 0} (v : ℕ) (s : Slot T) → is_vacant (unlocked v s) ≡ is_vacant s
vacant-unlocked v (Vacant n) = refl
vacant-unlocked v Retired = refl
vacant-unlocked v (Taken r) = unlocked_taken (seen v (Taken r)) r

destroyed_taken : {T : Type 0} (x : Seen T) (r : Range T) → is_vacant (destroyed_by x (Taken r)) ≡ false
destroyed_taken Nothing r = refl
destroyed_taken (Unlocked q k) r = refl
destroyed_taken (Locked q k w) r = refl

pub vacant-destroyed : {T : Type 0} (v : ℕ) (s : Slot T) → is_vacant (destroyed v s) ≡ is_vacant s
vacant-destroyed v (Vacant n) = refl
vacant-destroyed v Retired = refl
vacant-destroyed v (Taken r) = destroyed_taken (seen v (Taken r)) r

resized_if : {T : Type 0} (b : Bool) (q r : Range T) → is_vacant (if b then Taken q else Taken r) ≡ false
resized_if true q r = refl
resized_if false q r = refl

resized_taken : {T : Type 0} (x : Seen T) (size : ℕ) (r : Range T) → is_vacant (resized_by x size (Taken r)) ≡ false
resized_taken Nothing size r = refl
resized_taken (Unlocked q k) size r = refl
resized_taken (Locked q k w) size r = resized_if (widens q size) (record q { size = size }) r

pub vacant-resized : {T : Type 0} (v size : ℕ) (s : Slot T) → is_vacant (resized v size s) ≡ is_vacant s
vacant-resized v size (Vacant n) = refl
vacant-resized v size Retired = refl
vacant-resized v size (Taken r) = resized_taken (seen v (Taken r)) size r

-- a cancel and a collect leave a vacant slot vacant
pub vacant-cancelled : {T : Type 0} (v : ℕ) (s : Slot T) → is_vacant s ≡ true → is_vacant (cancelled v s) ≡ true
vacant-cancelled v (Vacant n) e = refl
vacant-cancelled v Retired e = e
vacant-cancelled v (Taken r) e = absurd (cc)

pub vacant-collected : {T : Type 0} (v : ℕ) (s : Slot T) → is_vacant s ≡ true → is_vacant (collected v s) ≡ true
vacant-collected v (Vacant n) e = refl
vacant-collected v Retired e = e
vacant-collected v (Taken r) e = absurd (cc)

-- a slot that is written as it was read changes nothing
pub set_read : {T : Type 0} (i : ℕ) (ss : List (Slot T)) (s : Slot T) → s ≡ get_or ss i s → set ss i s ≡ ss
set_read i [] s r = refl
set_read zero (x ∷ ss) s r = ap (λ y. y ∷ ss) r
set_read (suc i) (x ∷ ss) s r = ap (λ xs. x ∷ xs) (set_read i ss s r)

-- a post leaves a range in its slot, also where it finds no memory
pub vacant-post : {T A E : Type 0} (v code : ℕ) (s t : Slot T) (result : Result A E) → OnOk result (t ≡ posted v code s) → OnErr result (t ≡ s) → is_vacant t ≡ is_vacant s
vacant-post v code s t (Ok a) ok err = ap is_vacant ok ∙ vacant-posted v code s
vacant-post v code s t (Err e) ok err = ap is_vacant err

-- another value leaves a range in its slot
pub vacant-valued : {T : Type 0} (value : T) (s : Slot T) → is_vacant (valued value s) ≡ is_vacant s
vacant-valued value (Vacant n) = refl
vacant-valued value Retired = refl
vacant-valued value (Taken r) = refl

low_at : {T : Type 0} (id i : ℕ) (ss : List (Slot T)) → slot_of id ≡ Some i → IsSome (value_says (look id ss)) → length ss ≤ i → ⊥
low_at {T} id i ss e h g =
    let n : look id ss ≡ Nothing = ap (λ o. seen_in (version_of id) (slot_at o ss)) e ∙ ap (λ o. seen_in (version_of id) o) (slice_get_past i ss g) in
    let f : IsSome (value_says {T = T} Nothing) = rw n at h in
    absurd (cc)

-- an id that finds a value names a slot of the list
pub hits : {T : Type 0} (id i : ℕ) (whole ss : List (Slot T)) (s : Slot T) → ss ≡ whole → slot_of id ≡ Some i → IsSome (value_says (look id whole)) → s ≡ get_or ss i s → Hits id i whole ss s
hits id i whole ss s same e h read =
    let low : i < length whole = elim (cases_lt i (length whole)) [ inl l ↦ l | inr g ↦ absurd (low_at id i whole e h g) ] in
    record {
      same = same;
      at = ap (λ o. below (length whole) o) e ∙ ap (λ b. if b then Some i else None) (lt-ltb i (length whole) low);
      read = read;
    }

value_at : {T : Type 0} (r : Range T) (o : Option ℕ) (standing : Standing) → IsSome (value_says (seen_at r o standing)) → value_says (seen_at r o standing) ≡ Some r.value
value_at r None standing h = absurd (cc)
value_at r (Some k) Free h = refl
value_at r (Some k) (Held waiting) h = refl
value_at r (Some k) Ended h = absurd (cc)

-- a version that finds a value finds that of the slot's range
pub value-seen : {T : Type 0} (v : ℕ) (s : Slot T) → IsSome (value_says (seen v s)) → value_says (seen v s) ≡ value_in s
value-seen v (Vacant n) h = absurd (cc)
value-seen v Retired h = absurd (cc)
value-seen v (Taken r) h = value_at r (offset r v) r.standing h
