-- Changes of the slot that an id names, one after the other.
use Rattle.std.proofs.Common.{◌≡◌, ◌≢◌, ℕ, zero, suc, List, [], ◌∷◌, slice_get, Option, None, Some, ap, sym, refl, ◌∙◌}
use Rattle.id_pool.specs.Ids.{slot_of, version_of}
use Rattle.id_pool.specs.Ranges.{Slot, Vacant, Retired, Taken, Range, Standing, Free, Held, Ended, Seen, Nothing, Unlocked, Locked, offset, seen, seen_at, seen_in, look, slot_at, change}
use Rattle.id_pool.specs.Ranges.{change_at, changed, locked, locked_by, unlocked, unlocked_by, held, valued, with_value}
use Rattle.id_pool.specs.Answers.{lock_says, value_says}
use Rattle.id_pool.specs.declared.answers.Lock.TheVariants.{Yes}
use Rattle.sim_run.specs.Slots.{visit, visit_by, touch, touch_by}

module _ {T : Type 0} where
  change-change : (i : ℕ) (f g : Slot T → Slot T) (slots : List (Slot T)) → change i g (change i f slots) ≡ change i (λ s. g (f s)) slots
  change-change i f g [] = refl
  change-change zero f g (s ∷ ss) = refl
  change-change (suc i) f g (s ∷ ss) = ap (λ xs. s ∷ xs) (change-change i f g ss)

  change_at-twice : (o : Option ℕ) (f g : Slot T → Slot T) (slots : List (Slot T)) → change_at o g (change_at o f slots) ≡ change_at o (λ s. g (f s)) slots
  change_at-twice None f g slots = refl
  change_at-twice (Some i) f g slots = change-change i f g slots

  -- Two changes at one id are one.
  pub changed-twice : (id : ℕ) (f g : Slot T → Slot T) (slots : List (Slot T)) → changed g id (changed f id slots) ≡ changed (λ s. g (f s)) id slots
  changed-twice id f g slots = change_at-twice (slot_of id) f g slots

  change-alike : (i : ℕ) (f g : Slot T → Slot T) (slots : List (Slot T)) → ((s : Slot T) → slice_get slots i ≡ Some s → f s ≡ g s) → change i f slots ≡ change i g slots
  change-alike i f g [] h = refl
  change-alike zero f g (s ∷ ss) h = ap (λ x. x ∷ ss) (h s refl)
  change-alike (suc i) f g (s ∷ ss) h = ap (λ xs. s ∷ xs) (change-alike i f g ss h)

  change_at-alike : (o : Option ℕ) (f g : Slot T → Slot T) (slots : List (Slot T)) → ((s : Slot T) → slot_at o slots ≡ Some s → f s ≡ g s) → change_at o f slots ≡ change_at o g slots
  change_at-alike None f g slots h = refl
  change_at-alike (Some i) f g slots h = change-alike i f g slots h

  -- What two changes make of the slot that the id names is what they make of the slots.
  pub changed-alike : (id : ℕ) (f g : Slot T → Slot T) (slots : List (Slot T)) → ((s : Slot T) → slot_at (slot_of id) slots ≡ Some s → f s ≡ g s) → changed f id slots ≡ changed g id slots
  changed-alike id f g slots h = change_at-alike (slot_of id) f g slots h

  -- An id finds what its version finds in its slot.
  pub look-at : (id : ℕ) (slots : List (Slot T)) (s : Slot T) → slot_at (slot_of id) slots ≡ Some s → look id slots ≡ seen (version_of id) s
  look-at id slots s e = ap (seen_in (version_of id)) e

  -- What a version finds in a range that stands so.
  pub seen-taken : (v : ℕ) (r : Range T) (o : Option ℕ) (st : Standing) → offset r v ≡ o → r.standing ≡ st → seen v (Taken r) ≡ seen_at r o st
  seen-taken v r o st p q = rw (p, q) refl

  -- A range that is unlocked is locked, its value is changed, and it is let go.
  visit-taken : (f : T → T) (v k : ℕ) (r : Range T) (o : Option ℕ) (st : Standing) → offset r v ≡ o → r.standing ≡ st → lock_says (seen_at r o st) ≡ Yes k
      → unlocked v (touch f v (locked v (Taken r))) ≡ visit f v (Taken r)
  visit-taken f v k r None st p q e = absurd (cc)
  visit-taken f v k r (Some j) Free p q e =
      let e0 = seen-taken v r (Some j) Free p q in
      let e1 = seen-taken v (held r) (Some j) (Held []) p refl in
      let e2 = seen-taken v (with_value (held r) (f r.value)) (Some j) (Held []) p refl in
      ap (λ x. unlocked v (touch f v (locked_by x (Taken r)))) e0
      ∙ ap (λ x. unlocked v (touch_by f x (Taken (held r)))) e1
      ∙ ap (λ x. unlocked_by x (Taken (with_value (held r) (f r.value)))) e2
      ∙ ap (λ x. visit_by f x (Taken r)) (sym e0)
  visit-taken f v k r (Some j) (Held waiting) p q e = absurd (cc)
  visit-taken f v k r (Some j) Ended p q e = absurd (cc)

  visit-slot : (f : T → T) (v k : ℕ) (s : Slot T) → lock_says (seen v s) ≡ Yes k → unlocked v (touch f v (locked v s)) ≡ visit f v s
  visit-slot f v k (Vacant next) e = absurd (cc)
  visit-slot f v k Retired e = absurd (cc)
  visit-slot f v k (Taken r) e = visit-taken f v k r (offset r v) r.standing refl refl e

  pub visit-changed : (f : T → T) (id k : ℕ) (slots : List (Slot T)) → lock_says (look id slots) ≡ Yes k
      → changed (unlocked (version_of id)) id (changed (touch f (version_of id)) id (changed (locked (version_of id)) id slots)) ≡ changed (visit f (version_of id)) id slots
  visit-changed f id k slots e =
      let v = version_of id in
      ap (changed (unlocked v) id) (changed-twice id (locked v) (touch f v) slots) ∙ changed-twice id (λ s. touch f v (locked v s)) (unlocked v) slots
      ∙ changed-alike id (λ s. unlocked v (touch f v (locked v s))) (visit f v) slots (λ s at. visit-slot f v k s (ap lock_says (sym (look-at id slots s at)) ∙ e))

  touch-taken : (f : T → T) (v : ℕ) (w : T) (r : Range T) (o : Option ℕ) (st : Standing) → value_says (seen_at r o st) ≡ Some w → touch_by f (seen_at r o st) (Taken r) ≡ valued (f w) (Taken r)
  touch-taken f v w r None st e = absurd (cc)
  touch-taken f v w r (Some k) Free e = let same : r.value ≡ w = cc in ap (λ x. Taken (with_value r (f x))) same
  touch-taken f v w r (Some k) (Held waiting) e = let same : r.value ≡ w = cc in ap (λ x. Taken (with_value r (f x))) same
  touch-taken f v w r (Some k) Ended e = absurd (cc)

  touch-slot : (f : T → T) (v : ℕ) (w : T) (s : Slot T) → value_says (seen v s) ≡ Some w → touch f v s ≡ valued (f w) s
  touch-slot f v w (Vacant next) e = absurd (cc)
  touch-slot f v w Retired e = absurd (cc)
  touch-slot f v w (Taken r) e = touch-taken f v w r (offset r v) r.standing e

  -- The value that an id finds is changed.
  pub touch-value : (f : T → T) (id : ℕ) (w : T) (slots : List (Slot T)) → value_says (look id slots) ≡ Some w → changed (valued (f w)) id slots ≡ changed (touch f (version_of id)) id slots
  touch-value f id w slots e =
      changed-alike id (valued (f w)) (touch f (version_of id)) slots (λ s at. sym (touch-slot f (version_of id) w s (ap value_says (sym (look-at id slots s at)) ∙ e)))

  change-nothing : (i : ℕ) (f : Slot T → Slot T) (slots : List (Slot T)) → ((s : Slot T) → slice_get slots i ≡ Some s → f s ≡ s) → change i f slots ≡ slots
  change-nothing i f [] h = refl
  change-nothing zero f (s ∷ ss) h = ap (λ x. x ∷ ss) (h s refl)
  change-nothing (suc i) f (s ∷ ss) h = ap (λ xs. s ∷ xs) (change-nothing i f ss h)

  change_at-nothing : (o : Option ℕ) (f : Slot T → Slot T) (slots : List (Slot T)) → ((s : Slot T) → slot_at o slots ≡ Some s → f s ≡ s) → change_at o f slots ≡ slots
  change_at-nothing None f slots h = refl
  change_at-nothing (Some i) f slots h = change-nothing i f slots h

  -- A change that leaves the slot that the id names as it is.
  pub changed-nothing : (id : ℕ) (f : Slot T → Slot T) (slots : List (Slot T)) → ((s : Slot T) → slot_at (slot_of id) slots ≡ Some s → f s ≡ s) → changed f id slots ≡ slots
  changed-nothing id f slots h = change_at-nothing (slot_of id) f slots h

  touch-none : (f : T → T) (x : Seen T) (s : Slot T) → value_says x ≡ None → touch_by f x s ≡ s
  touch-none f Nothing s e = refl
  touch-none f (Unlocked r k) s e = absurd (cc)
  touch-none f (Locked r k waiting) s e = absurd (cc)

  -- Nothing is found, and nothing is changed.
  pub touch-nothing : (f : T → T) (id : ℕ) (slots : List (Slot T)) → value_says (look id slots) ≡ None → slots ≡ changed (touch f (version_of id)) id slots
  touch-nothing f id slots e =
      sym (changed-nothing id (touch f (version_of id)) slots (λ s at. touch-none f (seen (version_of id) s) s (ap value_says (sym (look-at id slots s at)) ∙ e)))

  locked-visit : (f : T → T) (x : Seen T) (s : Slot T) → ((k : ℕ) → lock_says x ≢ Yes k) → locked_by x s ≡ visit_by f x s
  locked-visit f Nothing s none = refl
  locked-visit f (Unlocked r k) s none = absurd (none k refl)
  locked-visit f (Locked r k waiting) s none = refl

  -- Nothing is locked, and nothing is changed.
  pub visit-nothing : (f : T → T) (id : ℕ) (slots : List (Slot T)) → ((k : ℕ) → lock_says (look id slots) ≢ Yes k)
      → changed (locked (version_of id)) id slots ≡ changed (visit f (version_of id)) id slots
  visit-nothing f id slots none =
      changed-alike id (locked (version_of id)) (visit f (version_of id)) slots (λ s at. locked-visit f (seen (version_of id) s) s (λ k e. none k (ap lock_says (look-at id slots s at) ∙ e)))

  -- the slot of this number, after it was changed
  pub slice_get-change : (i : ℕ) (f : Slot T → Slot T) (slots : List (Slot T)) (s : Slot T) → slice_get slots i ≡ Some s → slice_get (change i f slots) i ≡ Some (f s)
  slice_get-change i f [] s e = absurd (cc)
  slice_get-change zero f (x ∷ xs) s e = let same : x ≡ s = cc in ap (λ y. Some (f y)) same
  slice_get-change (suc i) f (x ∷ xs) s e = slice_get-change i f xs s e

  -- the slot that an id names, after it was changed
  pub slot_at-change : (o : Option ℕ) (f : Slot T → Slot T) (slots : List (Slot T)) (s : Slot T) → slot_at o slots ≡ Some s → slot_at o (change_at o f slots) ≡ Some (f s)
  slot_at-change None f slots s e = absurd (cc)
  slot_at-change (Some i) f slots s e = slice_get-change i f slots s e
