-- Where one slot changes, the ids of other ranges find what they found.
use Rattle.std.proofs.Common.{◌≡◌, ◌≢◌, ℕ, zero, suc, ◌+◌, ◌-◌, ◌/◌, ◌^◌, ◌<◌, ◌≤◌, ◌⊎◌, inl, inr, leb, ltb, ◌&&◌, false, if◌then◌else◌, List, [], ◌∷◌, length, slice_get, Option, None, Some}
use Rattle.std.proofs.Common.{ap, sym, refl, ◌∙◌, subst, arith}
use Rattle.std.proofs.lemmas.Bool.{cases_lt}
use Rattle.std.proofs.lemmas.Bool.Decides.{nat_tests}
use Rattle.rpc_model.specs.Marks.{Begun}
use Rattle.id_pool.specs.Ids.{one_less, slot_of, version_of}
use Rattle.id_pool.specs.Ranges.{Slot, Vacant, Retired, Taken, Range, offset, seen, seen_at, seen_in, look, slot_at, change}
use Rattle.id_pool.specs.Answers.{value_says}
use Rattle.sim_run.specs.declared.ticket.Ticket.{Ticket}
use Rattle.sim_run.proofs.Changes.{slice_get-change}
use Rattle.sim_run.specs.Desk.{IsOf, IsOfSlot, IsNumbered, IsKnown, width_of}

pub high_half : (h s : ℕ) → one_less h ≡ Some s → h ≡ suc s
high_half zero s e = absurd (cc)
high_half (suc h) s e = let same : h ≡ s = cc in ap suc same

-- An id is its slot and its version.
pub same_id : (a b s : ℕ) → slot_of a ≡ Some s → slot_of b ≡ Some s → version_of a ≡ version_of b → a ≡ b
same_id a b s p q e =
    let x : a / 2 ^ 32 ≡ suc s = high_half (a / 2 ^ 32) s p in
    let y : b / 2 ^ 32 ≡ suc s = high_half (b / 2 ^ 32) s q in
    omega (arith, x, y, e)

-- A version outside a range isn't in it.
pub offset-before : {T : Type 0} (r : Range T) (v : ℕ) → v < r.first → offset r v ≡ None
offset-before r v h =
    let out : (leb r.first v && ltb v (r.first + r.size)) ≡ false = grind (arith, nat_tests) in
    ap (λ b. if b then Some (v - r.first) else None) out

pub seen-before : {T : Type 0} (r : Range T) (v : ℕ) → v < r.first → value_says (seen v (Taken r)) ≡ None
seen-before r v h = ap (λ o. value_says (seen_at r o r.standing)) (offset-before r v h)

-- what a call's step may make of a slot: the same range again, none once that has left, or a new one
abbrev pub IsNext : Slot Begun → Slot Begun → Type 0
IsNext (Taken r) (Taken s) = (s.first ≡ r.first) × (s.size ≡ r.size)
IsNext (Taken r) (Vacant next) = next ≡ r.first + r.size
IsNext (Vacant next) (Taken s) = s.first ≡ next
IsNext s t = ⊥

-- the slot's own range isn't the one of these ids
abbrev pub IsAside : Ticket → Slot Begun → Type 0
IsAside range (Vacant next) = Unit {0}
IsAside range Retired = Unit {0}
IsAside range (Taken r) = version_of range.first ≢ r.first

aside-taken : (range : Ticket) (r : Range Begun) → 1 ≤ width_of range → IsOf range (Taken r) → IsAside range (Taken r) → version_of range.first + width_of range ≤ r.first
aside-taken range r some (inl own) aside = absurd (aside own.0)
aside-taken range r some (inr before) aside = before

-- Ids of another range of the slot find nothing, before and after.
aside-slot : (range : Ticket) (s t : Slot Begun) → 1 ≤ width_of range → IsNext s t → IsOf range s → IsAside range s
    → (value_says (seen (version_of range.first) t) ≡ value_says (seen (version_of range.first) s)) × IsOf range t
aside-slot range (Taken r) (Taken s) some next of aside =
    let before = aside-taken range r some of aside in
    let b : version_of range.first + width_of range ≤ s.first = omega (arith, before, next.0) in
    (seen-before s (version_of range.first) (omega (arith, b, some)) ∙ sym (seen-before r (version_of range.first) (omega (arith, before, some))), inr b)
aside-slot range (Taken r) (Vacant n) some next of aside =
    let before = aside-taken range r some of aside in
    (sym (seen-before r (version_of range.first) (omega (arith, before, some))), omega (arith, before, next))
aside-slot range (Vacant n) (Taken s) some next of aside =
    let b : version_of range.first + width_of range ≤ s.first = omega (arith, of, next) in
    (seen-before s (version_of range.first) (omega (arith, b, some)), inr b)
aside-slot range (Taken r) Retired some next of aside = absurd next
aside-slot range (Vacant n) (Vacant m) some next of aside = absurd next
aside-slot range (Vacant n) Retired some next of aside = absurd next
aside-slot range Retired t some next of aside = absurd of

-- A slot that is looked up is one slot, and a range one range.
pub same-slot : (x y : Slot Begun) → Some x ≡ Some y → x ≡ y
same-slot x y e = cc

pub same-range : (x y : Range Begun) → Taken x ≡ Taken y → x ≡ y
same-range x y e = cc

pub same_or : (i j : ℕ) → (i ≡ j) ⊎ (i ≢ j)
same_or i j = elim (cases_lt i j) [
  | inl l ↦ inr (λ e. omega (arith, l, e))
  | inr g ↦ elim (cases_lt j i) [ inl l ↦ inr (λ e. omega (arith, l, e)) | inr h ↦ inl (omega (arith, g, h)) ]
]

pub slice_get-other : {T : Type 0} (i j : ℕ) (f : Slot T → Slot T) (slots : List (Slot T)) → i ≢ j → slice_get (change i f slots) j ≡ slice_get slots j
slice_get-other i j f [] h = refl
slice_get-other zero zero f (s ∷ ss) h = absurd (h refl)
slice_get-other zero (suc j) f (s ∷ ss) h = refl
slice_get-other (suc i) zero f (s ∷ ss) h = refl
slice_get-other (suc i) (suc j) f (s ∷ ss) h = slice_get-other i j f ss (λ e. h (ap suc e))

-- what ids that aren't those of the changed slot's range know of a change
pub record StandsAside (slots after : List (Slot Begun)) (call : ℕ) (range : Ticket) : Type 0 where
  pub value : value_says (look range.first after) ≡ value_says (look range.first slots)
  pub known : IsKnown after call (Some range)

-- of the slot, and found there
found : (v : ℕ) (range : Ticket) (m : Option (Slot Begun)) (s : Slot Begun) → m ≡ Some s → IsOfSlot range m → IsOf range s
found v range m s e h = subst (IsOfSlot range) e h

aside-at : (slots after : List (Slot Begun)) (call : ℕ) (range : Ticket) (o : Option ℕ) (i : ℕ) (f : Slot Begun → Slot Begun) (s : Slot Begun) → slot_of range.first ≡ o
    → after ≡ change i f slots → slice_get slots i ≡ Some s
    → IsNext s (f s) → IsKnown slots call (Some range) → (slot_of range.first ≡ Some i → IsAside range s) → StandsAside slots after call range
aside-at slots after call range None i f s p e at next known aside = absurd (subst (λ o. IsOfSlot range (slot_at o slots)) p known.1)
aside-at slots after call range (Some j) i f s p e at next known aside = elim (same_or i j) [
  | inl same ↦
      let here : slot_of range.first ≡ Some i = p ∙ ap Some (sym same) in
      let at0 : slot_at (slot_of range.first) slots ≡ Some s = ap (λ o. slot_at o slots) here ∙ at in
      let at1 : slot_at (slot_of range.first) after ≡ Some (f s) = ap (λ o. slot_at o after) here ∙ ap (λ (ss : List (Slot Begun)). slice_get ss i) e ∙ slice_get-change i f slots s at in
      let both = aside-slot range s (f s) known.0 next (found (version_of range.first) range _ s at0 known.1) (aside here) in
      let value : value_says (look range.first after) ≡ value_says (look range.first slots) =
      ap (λ m. value_says (seen_in (version_of range.first) m)) at1 ∙ both.0 ∙ sym (ap (λ m. value_says (seen_in (version_of range.first) m)) at0) in
      record {
        value = value;
        known = (known.0, subst (IsOfSlot range) (sym at1) both.1, subst (IsNumbered call range) (sym value) known.2);
      }
  | inr other ↦
      let at1 : slot_at (slot_of range.first) after ≡ slot_at (slot_of range.first) slots =
      ap (λ o. slot_at o after) p ∙ ap (λ (ss : List (Slot Begun)). slice_get ss j) e ∙ slice_get-other i j f slots other ∙ sym (ap (λ o. slot_at o slots) p) in
      let value : value_says (look range.first after) ≡ value_says (look range.first slots) = ap (λ m. value_says (seen_in (version_of range.first) m)) at1 in
      record {
        value = value;
        known = (known.0, subst (IsOfSlot range) (sym at1) known.1, subst (IsNumbered call range) (sym value) known.2);
      }
]

-- Where a slot becomes what a call's step may make of it, ids that aren't those of its range find what they found.
pub stands-aside : (slots after : List (Slot Begun)) (call : ℕ) (range : Ticket) (i : ℕ) (f : Slot Begun → Slot Begun) (s : Slot Begun) → after ≡ change i f slots → slice_get slots i ≡ Some s
    → IsNext s (f s) → IsKnown slots call (Some range) → (slot_of range.first ≡ Some i → IsAside range s) → StandsAside slots after call range
stands-aside slots after call range i f s e at next known aside = aside-at slots after call range (slot_of range.first) i f s refl e at next known aside

-- The slots are as many as before.
pub length-change : {T : Type 0} (i : ℕ) (f : Slot T → Slot T) (slots : List (Slot T)) → length (change i f slots) ≡ length slots
length-change i f [] = refl
length-change zero f (s ∷ ss) = refl
length-change (suc i) f (s ∷ ss) = ap suc (length-change i f ss)
