-- A call that begins takes the lowest vacant slot, or finds none.
use Rattle.std.proofs.Common.{◌≡◌, ℕ, zero, suc, ◌+◌, ◌*◌, ◌^◌, ◌<◌, ◌≤◌, inl, Bool, true, false, cond, nat_eq, List, [], ◌∷◌, ◌++◌, length, slice_get, count_by, Option, None, Some, ap, sym}
use Rattle.std.proofs.Common.{refl, ◌∙◌, subst, arith, add-one, length-append}
use Rattle.std.proofs.lemmas.Bool.{ne_eqb}
use Rattle.std.proofs.lemmas.List.{map-append, append-nil}
use Rattle.std.proofs.lemmas.List.Sums.{sum_by-append, count_by-le-length}
use Rattle.std.proofs.lemmas.Map.Keys.{IsDistinct-cons, IsDistinct-head, IsDistinct-tail}
use Rattle.std.specs.List.{IsDistinct, AllByRecursion}
use Rattle.std.specs.Map.{keys_of}
use Rattle.rpc_model.specs.Versions.{width as plan_width}
use Rattle.rpc_model.specs.Marks.{Begun}
use Rattle.sim_run.specs.Marked.{IsFit}
use Rattle.rpc_model.specs.Told.{Standing, begun, full, is_begun}
use Rattle.id_pool.specs.Ids.{make_id, slot_of, version_of}
use Rattle.id_pool.specs.Ranges.{Slot, Vacant, Retired, Taken, Free, look, lowest, later, offset, change, fresh, slot_at}
use Rattle.id_pool.specs.Answers.{value_says}
use Rattle.id_pool.proofs.Ids.{slot_of-make_id, version_of-make_id}
use Rattle.sim_run.specs.declared.ticket.Ticket.{Ticket}
use Rattle.sim_run.specs.Desk.{stand, standing_at, standing, standings, with_first, firsts, IsOfSlot, IsNumbered, IsKnown, is_taken, IsSlot, IsSound, plan_of, width_of}
use Rattle.sim_run.proofs.Apart.{StandsAside, stands-aside, length-change}
use Rattle.sim_run.proofs.Changes.{look-at, seen-taken, slice_get-change}
use Rattle.sim_run.proofs.Steps.{offset-in}
use Rattle.sim_run.proofs.Entries.{one, count-cons, count-change, All-change, slot-of-all}

later-at : {T : Type 0} (x : Slot T) (ss : List (Slot T)) (o : Option (ℕ × ℕ)) (i next : ℕ) → later o ≡ Some (i, next) → ((j m : ℕ) → o ≡ Some (j, m) → slice_get ss j ≡ Some (Vacant m))
    → slice_get (x ∷ ss) i ≡ Some (Vacant next)
later-at x ss None i next e h = absurd (cc)
later-at x ss (Some (j, m)) i next e h =
    let same : (j + 1, m) ≡ (i, next) = cc in
    subst (λ (q : ℕ × ℕ). slice_get (x ∷ ss) q.0 ≡ Some (Vacant q.1)) same (rw (add-one j) (h j m refl))

-- The lowest vacant slot is one.
pub lowest-at : {T : Type 0} (slots : List (Slot T)) (i next : ℕ) → lowest slots ≡ Some (i, next) → slice_get slots i ≡ Some (Vacant next)
lowest-at [] i next e = absurd (cc)
lowest-at (Vacant n ∷ ss) i next e =
    let same : (0, n) ≡ (i, next) = cc in
    subst (λ (q : ℕ × ℕ). slice_get (Vacant n ∷ ss) q.0 ≡ Some (Vacant q.1)) same refl
lowest-at (Retired ∷ ss) i next e = later-at Retired ss (lowest ss) i next e (λ j m f. lowest-at ss j m f)
lowest-at (Taken r ∷ ss) i next e = later-at (Taken r) ss (lowest ss) i next e (λ j m f. lowest-at ss j m f)

later-none : (o : Option (ℕ × ℕ)) → later o ≡ None → o ≡ None
later-none None e = refl
later-none (Some p) e = absurd (cc)

-- Where no slot is vacant or retired all are taken.
pub all-taken : (bound : ℕ) (slots : List (Slot Begun)) → AllByRecursion (IsSlot bound) slots → lowest slots ≡ None → count_by is_taken slots ≡ length slots
all-taken bound [] open_ e = refl
all-taken bound (Vacant n ∷ ss) open_ e = absurd (cc)
all-taken bound (Retired ∷ ss) open_ e = absurd open_.0
all-taken bound (Taken r ∷ ss) open_ e =
    let tail = all-taken bound ss open_.1 (later-none (lowest ss) e) in
    count-cons is_taken (Taken r) ss ∙ omega (arith, tail)

one-le : (b : Bool) → one b ≤ 1
one-le true = omega arith
one-le false = omega arith

-- Where one is vacant not all are taken.
pub not-all-taken : (slots : List (Slot Begun)) (i next : ℕ) → slice_get slots i ≡ Some (Vacant next) → count_by is_taken slots < length slots
not-all-taken [] i next e = absurd (cc)
not-all-taken (x ∷ xs) zero next e =
    let same : x ≡ Vacant next = cc in
    let c = count-cons is_taken x xs in
    let none : one (is_taken x) ≡ 0 = ap (λ s. one (is_taken s)) same in
    let few = count_by-le-length is_taken xs in
    omega (arith, c, none, few)
not-all-taken (x ∷ xs) (suc i) next e =
    let c = count-cons is_taken x xs in
    let small = one-le (is_taken x) in
    let tail = not-all-taken xs i next e in
    omega (arith, c, small, tail)

-- ---- one more entry

-- One more element.
pub All-snoc : {X : Type 0} (P : X → Type 0) (xs : List X) (x : X) → AllByRecursion P xs → P x → AllByRecursion P (xs ++ x ∷ [])
All-snoc P [] x h p = (p, tt)
All-snoc P (y ∷ ys) x h p = (h.0, All-snoc P ys x h.1 p)

distinct-snoc : (xs : List ℕ) (x : ℕ) → IsDistinct nat_eq xs → AllByRecursion (λ y. nat_eq y x ≡ false) xs → IsDistinct nat_eq (xs ++ x ∷ [])
distinct-snoc [] x d h = IsDistinct-cons nat_eq x [] tt d
distinct-snoc (y ∷ ys) x d h =
    IsDistinct-cons nat_eq y (ys ++ x ∷ []) (All-snoc (λ z. nat_eq y z ≡ false) ys x (IsDistinct-head nat_eq y ys d) h.0) (distinct-snoc ys x (IsDistinct-tail nat_eq y ys d) h.1)

pub All-weaken : {X : Type 0} (P Q : X → Type 0) (xs : List X) → ((x : X) → P x → Q x) → AllByRecursion P xs → AllByRecursion Q xs
All-weaken P Q [] f h = tt
All-weaken P Q (x ∷ xs) f h = (f x h.0, All-weaken P Q xs f h.1)

firsts-snoc : (entries : List (ℕ × Option Ticket)) (call : ℕ) (o : Option Ticket) → firsts (entries ++ (call, o) ∷ []) ≡ firsts entries ++ with_first o []
firsts-snoc [] call o = refl
firsts-snoc ((number, None) ∷ xs) call o = firsts-snoc xs call o
firsts-snoc ((number, Some range) ∷ xs) call o = ap (λ l. range.first ∷ l) (firsts-snoc xs call o)

length-snoc : (entries : List (ℕ × Option Ticket)) (e : ℕ × Option Ticket) → length (entries ++ e ∷ []) ≡ length entries + 1
length-snoc entries e = length-append entries (e ∷ [])

slot-later : (n m : ℕ) (s : Slot Begun) → n ≤ m → IsSlot n s → IsSlot m s
slot-later n m (Vacant next) le h = omega (arith, le, h)
slot-later n m Retired le h = h
slot-later n m (Taken r) le h = record { below = (let top = h.below in omega (arith, le, top)); free = h.free; sized = h.sized; fit = h.fit }

count-snoc : {X : Type 0} (p : X → Bool) (xs : List X) (x : X) → count_by p (xs ++ x ∷ []) ≡ count_by p xs + one (p x)
count-snoc p xs x = let a = sum_by-append (λ y. cond (p y) 1 0) xs (x ∷ []) in let c = count-cons p x [] in omega (arith, a, c)

-- Every id that is known stands aside.
all-aside : (slots after : List (Slot Begun)) (entries : List (ℕ × Option Ticket)) → ((call : ℕ) (range : Ticket) → IsKnown slots call (Some range) → StandsAside slots after call range)
    → AllByRecursion (λ entry. IsKnown slots entry.0 entry.1) entries → (standings after entries ≡ standings slots entries) × AllByRecursion (λ entry. IsKnown after entry.0 entry.1) entries
all-aside slots after [] aside known = (refl, tt)
all-aside slots after ((call, None) ∷ xs) aside known =
    let tail = all-aside slots after xs aside known.1 in (ap (λ ss. full call ∷ ss) tail.0, (tt, tail.1))
all-aside slots after ((call, Some range) ∷ xs) aside known =
    let head = aside call range known.0 in
    let tail = all-aside slots after xs aside known.1 in
    (ap (λ s. s ∷ standings after xs) (ap (stand call) head.value) ∙ ap (λ ss. standing_at slots call (Some range) ∷ ss) tail.0, (head.known, tail.1))

-- No known id is that of a slot's next range.
new-first : (slots : List (Slot Begun)) (i next : ℕ) (entries : List (ℕ × Option Ticket)) → slice_get slots i ≡ Some (Vacant next) → next < 2 ^ 32
    → AllByRecursion (λ entry. IsKnown slots entry.0 entry.1) entries
    → AllByRecursion (λ y. nat_eq y (make_id i next) ≡ false) (firsts entries)
new-first slots i next [] at low known = tt
new-first slots i next ((call, None) ∷ xs) at low known = new-first slots i next xs at low known.1
new-first slots i next ((call, Some range) ∷ xs) at low known = (ne_eqb range.first (make_id i next) differ, new-first slots i next xs at low known.1)
  where
    differ : range.first ≡ make_id i next → ⊥
    differ same =
        let slot : slot_at (slot_of range.first) slots ≡ Some (Vacant next) = ap (λ o. slot_at o slots) (ap slot_of same ∙ slot_of-make_id i next low) ∙ at in
        let of : version_of range.first + width_of range ≤ next = subst (IsOfSlot range) slot known.0.1 in
        let version : version_of range.first ≡ next = ap version_of same ∙ version_of-make_id i next low in
        let some = known.0.0 in
        omega (arith, of, version, some)

-- what a new call leaves: it stands last, and calls and slots agree again
pub record Joined (slots after : List (Slot Begun)) (entries : List (ℕ × Option Ticket)) (call : ℕ) (o : Option Ticket) (s : Standing) : Type 0 where
  pub stands : standings after (entries ++ (call, o) ∷ []) ≡ standings slots entries ++ s ∷ []
  pub sound : IsSound after (entries ++ (call, o) ∷ [])
  pub size : length after ≡ length slots

-- A call that found no slot.
pub full-begins : (slots : List (Slot Begun)) (entries : List (ℕ × Option Ticket)) (call : ℕ) → IsSound slots entries → IsDistinct nat_eq (keys_of (entries ++ (call, None) ∷ []))
    → Joined slots slots entries call None (full call)
full-begins slots entries call sound numbers =
    let stands = map-append (standing slots) entries ((call, None) ∷ []) in
    let more = length-snoc entries (call, None) in
    record {
      stands = stands;
      sound = record {
        numbers = numbers;
        ids = subst (IsDistinct nat_eq) (sym (firsts-snoc entries call None ∙ append-nil (firsts entries))) sound.ids;
        known = All-snoc (λ entry. IsKnown slots entry.0 entry.1) entries (call, None) sound.known tt;
        open_slots = All-weaken (IsSlot (1 + 1024 * length entries)) (IsSlot (1 + 1024 * length (entries ++ (call, None) ∷ []))) slots (λ s h. slot-later _ _ s (omega (arith, more)) h)
            sound.open_slots;
        counted = ap (count_by is_begun) stands ∙ count-snoc is_begun (standings slots entries) (full call) ∙ omega (arith, sound.counted);
      };
      size = refl;
    }

-- A call that takes a vacant slot.
pub call-begins : (slots : List (Slot Begun)) (entries : List (ℕ × Option Ticket)) (call i next : ℕ) (range : Ticket) (b : Begun) → IsSound slots entries → length entries ≤ 500000
    → slice_get slots i ≡ Some (Vacant next)
    → range.first ≡ make_id i next → b.plan ≡ plan_of range → 1 ≤ width_of range → width_of range ≤ 1024 → b.call ≡ call → IsFit (width_of range) b
    → IsDistinct nat_eq (keys_of (entries ++ (call, Some range) ∷ []))
    → Joined slots (change i (λ s. Taken (fresh next (width_of range) b)) slots) entries call (Some range) (begun b)
call-begins slots entries call i next range b sound few at first planned some most number fit numbers =
    let width = width_of range in
    let t = Taken (fresh next width b) in
    let g : Slot Begun → Slot Begun = λ s. t in
    let after = change i g slots in
    let top : next ≤ 1 + 1024 * length entries = slot-of-all (IsSlot (1 + 1024 * length entries)) i slots (Vacant next) sound.open_slots at in
    let low : next < 2 ^ 32 = omega (arith, top, few) in
    let others = all-aside slots after entries (λ c other k. stands-aside slots after c other i g (Vacant next) refl at refl k (λ here. tt)) sound.known in
    let slot : slot_of range.first ≡ Some i = ap slot_of first ∙ slot_of-make_id i next low in
    let version : version_of range.first ≡ next = ap version_of first ∙ version_of-make_id i next low in
    let at_new : slot_at (slot_of range.first) after ≡ Some t = ap (λ o. slot_at o after) slot ∙ slice_get-change i g slots (Vacant next) at in
    let zero_more : version_of range.first ≡ next + 0 = version ∙ omega arith in
    let looks : value_says (look range.first after) ≡ Some b =
    ap value_says (look-at range.first after t at_new
    ∙ seen-taken (version_of range.first) (fresh next width b) (Some 0) Free (ap (offset (fresh next width b)) zero_more ∙ offset-in (fresh next width b) 0 (omega (arith, some))) refl) in
    let stands : standings after (entries ++ (call, Some range) ∷ []) ≡ standings slots entries ++ begun b ∷ [] =
    map-append (standing after) entries ((call, Some range) ∷ []) ∙ ap (λ ss. ss ++ standing_at after call (Some range) ∷ []) others.0 ∙ ap (λ x. standings slots entries ++ stand call x ∷ []) looks in
    let more = length-snoc entries (call, Some range) in
    let places = count-change is_taken i g slots (Vacant next) at in
    record {
      stands = stands;
      sound = record {
        numbers = numbers;
        ids = subst (IsDistinct nat_eq) (sym (firsts-snoc entries call (Some range)))
            (distinct-snoc (firsts entries) range.first sound.ids
            (subst (λ id. AllByRecursion (λ y. nat_eq y id ≡ false) (firsts entries)) (sym first) (new-first slots i next entries at low sound.known)));
        known = All-snoc (λ entry. IsKnown after entry.0 entry.1) entries (call, Some range) others.1
            (some, subst (IsOfSlot range) (sym at_new) (inl (version, refl)), subst (IsNumbered call range) (sym looks) (number, planned));
        open_slots = All-change (IsSlot (1 + 1024 * length (entries ++ (call, Some range) ∷ []))) i g slots
            (All-weaken (IsSlot (1 + 1024 * length entries)) (IsSlot (1 + 1024 * length (entries ++ (call, Some range) ∷ []))) slots (λ s h. slot-later _ _ s (omega (arith, more)) h) sound.open_slots)
            (λ s e h. record { below = omega (arith, top, most, more); free = refl; sized = ap plan_width (sym planned); fit = fit });
        counted = ap (count_by is_begun) stands ∙ count-snoc is_begun (standings slots entries) (begun b) ∙ omega (arith, sound.counted, places);
      };
      size = length-change i g slots;
    }
