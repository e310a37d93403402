-- What an event and a join make of the slots is what the plain machine makes of the calls.
use Rattle.std.proofs.Common.{◌≡◌, ◌≢◌, ℕ, ◌+◌, ◌-◌, ◌*◌, ◌/◌, ◌^◌, ◌<◌, ◌≤◌, inl, inr, leb, ltb, ◌&&◌, true, false, nat_eq, List, length, slice_get, find, count_by, Option, None, Some, ap}
use Rattle.std.proofs.Common.{sym, refl, ◌∙◌, subst, arith, if◌then◌else◌}
use Rattle.std.proofs.lemmas.Bool.Decides.{nat_tests}
use Rattle.std.specs.List.{AllByRecursion}
use Rattle.std.specs.Map.{lookup}
use Rattle.std.specs.Option.{option_map}
use Rattle.rpc_model.specs.declared.event.Event.{Event}
use Rattle.rpc_model.specs.declared.kinds.MapKind.{MapKind}
use Rattle.rpc_model.specs.declared.kinds.MergeKind.{MergeKind}
use Rattle.rpc_model.specs.Plan.{Plan, leaf_plan, par_plan, sel_plan}
use Rattle.rpc_model.specs.Versions.{nodes, width}
use Rattle.chan_tree.proofs.Offsets.{few_attempts}
use Rattle.rpc_model.specs.Marks.{Begun, apply, weave}
use Rattle.rpc_model.specs.Told.{Standing, begun, full, told_of, is_call, is_begun, change_first, event_after}
use Rattle.id_pool.specs.Ids.{one_less, slot_of, version_of}
use Rattle.id_pool.specs.Ranges.{Slot, Vacant, Retired, Taken, Range, Free, Nothing, Unlocked, offset, seen, seen_at, seen_in, look, slot_at, change, change_at, changed}
use Rattle.id_pool.specs.Answers.{value_says}
use Rattle.sim_run.specs.declared.ticket.Ticket.{Ticket}
use Rattle.sim_run.specs.declared.turn.Turn.TheVariants as turn
use Rattle.sim_run.specs.Slots.{visit, visit_by, visited, turned}
use Rattle.sim_run.specs.Desk.{stand, standing_at, standings, IsOf, IsOfSlot, IsNumbered, IsKnown, is_taken, IsRange, IsSlot, IsSound, width_of}
use Rattle.sim_run.specs.Marked.{IsFit}
use Rattle.sim_run.proofs.Later.{IsLater, turned-later}
use Rattle.sim_run.proofs.Fit.{turned-fit}
use Rattle.sim_run.proofs.Changes.{look-at, seen-taken, changed-nothing, slice_get-change}
use Rattle.sim_run.proofs.Apart.{same_id, IsNext, IsAside, StandsAside, stands-aside, length-change}
use Rattle.sim_run.proofs.Entries.{one, moved, find-standing, change_first-nothing, count-change_first, count-change, All-change, slot-of-all, known-of}

-- the ids of a call that has begun and wasn't told: where their range is
pub record Lives (slots : List (Slot Begun)) (range : Ticket) (b : Begun) : Type 0 where
  pub slot : ℕ
  pub r : Range Begun
  pub here : slot_of range.first ≡ Some slot
  pub at : slice_get slots slot ≡ Some (Taken r)
  pub version : version_of range.first ≡ r.first
  pub width : width_of range ≡ r.size
  pub free : r.standing ≡ Free
  pub value : r.value ≡ b

value-at : (r : Range Begun) (o : Option ℕ) (b : Begun) → value_says (seen_at r o r.standing) ≡ Some b → r.standing ≡ Free → r.value ≡ b
value-at r o b e free = by o (subst (λ st. value_says (seen_at r o st) ≡ Some b) free e)
  where
    by : (o : Option ℕ) → value_says (seen_at r o Free) ≡ Some b → r.value ≡ b
    by None e = absurd (cc)
    by (Some k) e = cc

-- nothing is found before a range
nothing-before : (range : Ticket) (r : Range Begun) → version_of range.first + width_of range ≤ r.first → 1 ≤ width_of range → (k : ℕ) → k < width_of range
    → seen (version_of range.first + k) (Taken r) ≡ Nothing
nothing-before range r before some k within =
    let out : (leb r.first (version_of range.first + k) && ltb (version_of range.first + k) (r.first + r.size)) ≡ false = grind (arith, nat_tests) in
    ap (λ o. seen_at r o r.standing) (ap (λ b. if b then Some (version_of range.first + k - r.first) else None) out)

lives-at : (slots : List (Slot Begun)) (range : Ticket) (b : Begun) (bound : ℕ) (o : Option ℕ) (m : Option (Slot Begun)) → slot_of range.first ≡ o → slot_at o slots ≡ m → IsOfSlot range m
    → 1 ≤ width_of range
    → AllByRecursion (IsSlot bound) slots → value_says (seen_in (version_of range.first) m) ≡ Some b → Lives slots range b
lives-at slots range b bound None m p q of some open_ e = absurd (let none : m ≡ None = sym q in subst (IsOfSlot range) none of)
lives-at slots range b bound (Some i) None p q of some open_ e = absurd of
lives-at slots range b bound (Some i) (Some (Vacant next)) p q of some open_ e = absurd (cc)
lives-at slots range b bound (Some i) (Some Retired) p q of some open_ e = absurd of
lives-at slots range b bound (Some i) (Some (Taken r)) p q (inl own) some open_ e =
    let free = (slot-of-all (IsSlot bound) i slots (Taken r) open_ q).free in
    record { slot = i; r = r; here = p; at = q; version = own.0; width = own.1; free = free; value = value-at r (offset r (version_of range.first)) b e free }
lives-at slots range b bound (Some i) (Some (Taken r)) p q (inr before) some open_ e =
    let none = nothing-before range r before some 0 some in
    let zero_more : version_of range.first + 0 ≡ version_of range.first = omega arith in
    let nothing : value_says (seen (version_of range.first) (Taken r)) ≡ None = ap (λ v. value_says (seen v (Taken r))) (sym zero_more) ∙ ap value_says none in
    absurd (cc)

pub lives : (slots : List (Slot Begun)) (call : ℕ) (range : Ticket) (b : Begun) (bound : ℕ) → IsKnown slots call (Some range) → AllByRecursion (IsSlot bound) slots
    → value_says (look range.first slots) ≡ Some b → Lives slots range b
lives slots call range b bound known open_ e = lives-at slots range b bound (slot_of range.first) (slot_at (slot_of range.first) slots) refl refl known.1 known.0 open_ e

-- the bound on the versions of slots, where so many calls were told a range
abbrev pub most : List (ℕ × Option Ticket) → ℕ
most entries = 1 + 1024 * length entries

-- Other ids of the slot aren't those of its range.
other-aside : (slots : List (Slot Begun)) (range : Ticket) (b : Begun) (l : Lives slots range b) (other : Ticket) → other.first ≢ range.first → slot_of other.first ≡ Some l.slot
    → IsAside other (Taken l.r)
other-aside slots range b l other differ here same = differ (same_id other.first range.first l.slot here l.here (same ∙ sym l.version))

-- what one call's step leaves: its standing changes, and calls and slots agree again
pub record Follows (slots after : List (Slot Begun)) (entries : List (ℕ × Option Ticket)) (call : ℕ) (f : Standing → Standing) : Type 0 where
  pub stands : standings after entries ≡ change_first (is_call call) f (standings slots entries)
  pub sound : IsSound after entries
  pub size : length after ≡ length slots

sum-up : (x y c d m n : ℕ) → x + 1 ≡ c + m → y + 1 ≡ d + n → m ≡ n → c ≡ d → x ≡ y
sum-up x y c d m n p q e f = omega arith

-- A slot becomes what one call's step makes of it.
pub stepped : (slots : List (Slot Begun)) (entries : List (ℕ × Option Ticket)) (call : ℕ) (range : Ticket) (b : Begun) (g : Slot Begun → Slot Begun) (t : Slot Begun) (f : Standing → Standing)
    → IsSound slots entries → lookup (nat_eq call) entries ≡ Some (Some range) → value_says (look range.first slots) ≡ Some b → (l : Lives slots range b) → g (Taken l.r) ≡ t
    → IsNext (Taken l.r) t → IsSlot (most entries) t
    → f (begun b) ≡ stand call (value_says (seen (version_of range.first) t)) → IsOf range t → IsNumbered call range (value_says (seen (version_of range.first) t))
    → is_begun (f (begun b)) ≡ is_taken t
    → Follows slots (change l.slot g slots) entries call f
stepped slots entries call range b g t f sound found value l is next open_ stands of numbered begun' =
    let known = known-of slots call (Some range) entries sound.known found in
    let after = change l.slot g slots in
    let aside : (c : ℕ) (other : Ticket) → other.first ≢ range.first → IsKnown slots c (Some other) → StandsAside slots after c other =
    λ c other differ k. stands-aside slots after c other l.slot g (Taken l.r) refl l.at (subst (IsNext (Taken l.r)) (sym is) next) k (λ here. other-aside slots range b l other differ here) in
    let at : slot_at (slot_of range.first) after ≡ Some t = ap (λ o. slot_at o after) l.here ∙ slice_get-change l.slot g slots (Taken l.r) l.at ∙ ap Some is in
    let looks : look range.first after ≡ seen (version_of range.first) t = look-at range.first after t at in
    let before : standing_at slots call (Some range) ≡ begun b = ap (stand call) value in
    let own : standing_at after call (Some range) ≡ f (standing_at slots call (Some range)) = ap (λ x. stand call (value_says x)) looks ∙ sym stands ∙ ap f (sym before) in
    let owns : IsKnown after call (Some range) = (known.0, subst (IsOfSlot range) (sym at) of, subst (λ x. IsNumbered call range (value_says x)) (sym looks) numbered) in
    let m = moved slots after call range f entries found sound.ids sound.known aside own owns in
    let finds : find (is_call call) (standings slots entries) ≡ Some (begun b) = find-standing slots call entries sound.known ∙ ap (option_map (standing_at slots call)) found ∙ ap Some before in
    let counts = count-change_first is_begun (is_call call) f (standings slots entries) (begun b) finds in
    let places = count-change is_taken l.slot g slots (Taken l.r) l.at in
    let tally : count_by is_begun (standings after entries) ≡ count_by is_taken after =
    ap (count_by is_begun) m.stands
    ∙ sum-up _ _ (count_by is_begun (standings slots entries)) (count_by is_taken slots) _ _ counts places (ap one begun' ∙ sym (ap (λ s. one (is_taken s)) is)) sound.counted in
    record {
      stands = m.stands;
      sound = record {
        numbers = sound.numbers;
        ids = sound.ids;
        known = m.known;
        open_slots = All-change (IsSlot (most entries)) l.slot g slots sound.open_slots
            (λ s e h. let same : Taken l.r ≡ s = let both : Some (Taken l.r) ≡ Some s = sym l.at
            ∙ e in cc in subst (λ x. IsSlot (most entries) (g x)) same (subst (IsSlot (most entries)) (sym is) open_));
        counted = tally;
      };
      size = length-change l.slot g slots;
    }

plus-version : (first k : ℕ) → version_of first + k < 2 ^ 32 → version_of (first + k) ≡ version_of first + k
plus-version first k h = omega arith

plus-slot : (first k : ℕ) → version_of first + k < 2 ^ 32 → slot_of (first + k) ≡ slot_of first
plus-slot first k h = let same : (first + k) / 2 ^ 32 ≡ first / 2 ^ 32 = omega arith in ap one_less same

pub offset-in : (r : Range Begun) (k : ℕ) → k < r.size → offset r (r.first + k) ≡ Some k
offset-in r k h =
    let both : (leb r.first (r.first + k) && ltb (r.first + k) (r.first + r.size)) ≡ true = grind (arith, nat_tests) in
    let place : r.first + k - r.first ≡ k = omega arith in
    ap (λ b. if b then Some (r.first + k - r.first) else None) both ∙ ap Some place

-- What an id of a call finds that has begun and wasn't told.
pub finds-in : (slots : List (Slot Begun)) (range : Ticket) (b : Begun) (bound k : ℕ) (l : Lives slots range b) → AllByRecursion (IsSlot bound) slots → bound < 2 ^ 32 → k < width_of range
    → (slot_of (range.first + k) ≡ Some l.slot) × (seen (version_of (range.first + k)) (Taken l.r) ≡ Unlocked l.r k)
finds-in slots range b bound k l open_ low within =
    let top = (slot-of-all (IsSlot bound) l.slot slots (Taken l.r) open_ l.at).below in
    let v = l.version in
    let w = l.width in
    let fits : version_of range.first + k < 2 ^ 32 = omega (arith, top, v, w, low, within) in
    let version : version_of (range.first + k) ≡ l.r.first + k = plus-version range.first k fits ∙ ap (λ n. n + k) v in
    (plus-slot range.first k fits ∙ l.here, seen-taken (version_of (range.first + k)) l.r (Some k) Free (ap (offset l.r) version ∙ offset-in l.r k (omega (arith, w, within))) l.free)

-- What the first id finds in the range after a visit.
pub visited-looks : (range : Ticket) (slots : List (Slot Begun)) (b c : Begun) (l : Lives slots range b) → 1 ≤ width_of range
    → value_says (seen (version_of range.first) (Taken (visited l.r c))) ≡ Some c
visited-looks range slots b c l some =
    let w = l.width in
    let zero_more : version_of range.first ≡ l.r.first + 0 = l.version ∙ omega arith in
    ap value_says (seen-taken (version_of range.first) (visited l.r c) (Some 0) Free (ap (offset l.r) zero_more ∙ offset-in l.r 0 (omega (arith, w, some))) refl)

-- what a change of the call that a ticket's ids find makes of its standing, and of that of a call that was told
pub record Changes (slots : List (Slot Begun)) (range : Ticket) (h : Begun → Begun) (f : Standing → Standing) : Type 0 where
  pub on_begun : (b : Begun) → value_says (look range.first slots) ≡ Some b → f (begun b) ≡ begun (h b)
  pub on_told : (call : ℕ) → f (told_of call) ≡ told_of call
  pub later : (b : Begun) → IsLater b (h b)
  pub fit : (n : ℕ) (b : Begun) → IsFit n b → IsFit n (h b)

-- There is a version for each node.
some-node : (p : Plan MapKind MergeKind) → 1 ≤ nodes p
some-node (leaf_plan leaf) = omega arith
some-node (par_plan rule plans) = omega arith
some-node (sel_plan timeout plans) = omega arith

pub plan-wide : (p : Plan MapKind MergeKind) → 1 ≤ width p
plan-wide p = let w = few_attempts p in let n = some-node p in omega (arith, w, n)

pub range-wide : (bound : ℕ) (r : Range Begun) → IsRange bound r → 1 ≤ r.size
range-wide bound r range = let sized = range.sized in let wide = plan-wide r.value.plan in omega (arith, sized, wide)

-- A range whose call was changed is one again.
pub later-range : (bound : ℕ) (r s : Range Begun) → IsLater r.value s.value → s.first ≡ r.first → s.size ≡ r.size → s.standing ≡ Free → IsFit s.size s.value → IsRange bound r → IsRange bound s
later-range bound r s later first size free fit range =
    let below = range.below in
    record {
      below = omega (arith, below, first, size);
      free = free;
      sized = size ∙ range.sized ∙ ap width (sym later.plan);
      fit = fit;
    }

-- A change that comes by an id of the call.
pub change-lives : (slots : List (Slot Begun)) (entries : List (ℕ × Option Ticket)) (call : ℕ) (range : Ticket) (b : Begun) (h : Begun → Begun) (f : Standing → Standing) (k : ℕ)
    → Changes slots range h f → IsSound slots entries → length entries ≤ 500000
    → lookup (nat_eq call) entries ≡ Some (Some range) → value_says (look range.first slots) ≡ Some b → k < width_of range
    → Follows slots (changed (visit h (version_of (range.first + k))) (range.first + k) slots) entries call f
change-lives slots entries call range b h f k does sound few found value within =
    let known = known-of slots call (Some range) entries sound.known found in
    let l = lives slots call range b (most entries) known sound.open_slots value in
    let low : most entries < 2 ^ 32 = omega (arith, few) in
    let here = finds-in slots range b (most entries) k l sound.open_slots low within in
    let t = Taken (visited l.r (h l.r.value)) in
    let g = visit h (version_of (range.first + k)) in
    let is : g (Taken l.r) ≡ t = ap (λ x. visit_by h x (Taken l.r)) here.1 in
    let top = slot-of-all (IsSlot (most entries)) l.slot slots (Taken l.r) sound.open_slots l.at in
    let looks : value_says (seen (version_of range.first) t) ≡ Some (h b) = visited-looks range slots b (h l.r.value) l known.0 ∙ ap (λ c. Some (h c)) l.value in
    let own : IsNumbered call range (Some b) = subst (IsNumbered call range) value known.2 in
    let number : IsNumbered call range (Some (h b)) = ((does.later b).number ∙ own.0, (does.later b).plan ∙ own.1) in
    let stands : f (begun b) ≡ stand call (value_says (seen (version_of range.first) t)) = does.on_begun b value ∙ ap (stand call) (sym looks) in
    let s =
    stepped slots entries call range b g t f sound found value l is (refl, refl)
    (later-range (most entries) l.r (visited l.r (h l.r.value)) (does.later l.r.value) refl refl refl (does.fit l.r.size l.r.value top.fit) top) stands (inl (l.version, l.width))
    (subst (IsNumbered call range) (sym looks) number) (ap is_begun (does.on_begun b value)) in
    let same : changed g (range.first + k) slots ≡ change l.slot g slots = ap (λ o. change_at o g slots) here.0 in
    subst (λ after. Follows slots after entries call f) (sym same) s

-- The ids of a call that was told find nothing.
pub record IsOver (slots : List (Slot Begun)) (range : Ticket) : Type 0 where
  pub slot : Slot Begun
  pub at : slot_at (slot_of range.first) slots ≡ Some slot
  pub low : version_of range.first + width_of range < 2 ^ 32
  pub nothing : (k : ℕ) → k < width_of range → seen (version_of range.first + k) slot ≡ Nothing

over-at : (slots : List (Slot Begun)) (range : Ticket) (bound : ℕ) (o : Option ℕ) (m : Option (Slot Begun)) → slot_of range.first ≡ o → slot_at o slots ≡ m → IsOfSlot range m → 1 ≤ width_of range
    → AllByRecursion (IsSlot bound) slots → bound < 2 ^ 32 → value_says (seen_in (version_of range.first) m) ≡ None → IsOver slots range
over-at slots range bound None m p q of some open_ low e = absurd (let none : m ≡ None = sym q in subst (IsOfSlot range) none of)
over-at slots range bound (Some i) None p q of some open_ low e = absurd of
over-at slots range bound (Some i) (Some (Vacant next)) p q of some open_ low e =
    let top = slot-of-all (IsSlot bound) i slots (Vacant next) open_ q in
    record { slot = Vacant next; at = ap (λ o. slot_at o slots) p ∙ q; low = omega (arith, of, top, low); nothing = λ k within. refl }
over-at slots range bound (Some i) (Some Retired) p q of some open_ low e = absurd of
over-at slots range bound (Some i) (Some (Taken r)) p q (inl own) some open_ low e =
    let free = (slot-of-all (IsSlot bound) i slots (Taken r) open_ q).free in
    let w = own.1 in
    let zero_more : version_of range.first ≡ r.first + 0 = own.0 ∙ omega arith in
    let seen' = ap value_says (seen-taken (version_of range.first) r (Some 0) Free (ap (offset r) zero_more ∙ offset-in r 0 (omega (arith, w, some))) free) in
    absurd (cc)
over-at slots range bound (Some i) (Some (Taken r)) p q (inr before) some open_ low e =
    let top = (slot-of-all (IsSlot bound) i slots (Taken r) open_ q).below in
    record { slot = Taken r; at = ap (λ o. slot_at o slots) p ∙ q; low = omega (arith, before, top, low); nothing = nothing-before range r before some }

pub is-over : (slots : List (Slot Begun)) (call : ℕ) (range : Ticket) (bound : ℕ) → IsKnown slots call (Some range) → AllByRecursion (IsSlot bound) slots → bound < 2 ^ 32
    → value_says (look range.first slots) ≡ None → IsOver slots range
is-over slots call range bound known open_ low e = over-at slots range bound (slot_of range.first) (slot_at (slot_of range.first) slots) refl refl known.1 known.0 open_ low e

-- what an id of a call that was told finds
pub over-look : (slots : List (Slot Begun)) (range : Ticket) (o : IsOver slots range) (k : ℕ) → k < width_of range
    → (slot_at (slot_of (range.first + k)) slots ≡ Some o.slot) × (seen (version_of (range.first + k)) o.slot ≡ Nothing)
over-look slots range o k within =
    let low = o.low in
    let fits : version_of range.first + k < 2 ^ 32 = omega (arith, low, within) in
    (ap (λ i. slot_at i slots) (plus-slot range.first k fits) ∙ o.at, ap (λ v. seen v o.slot) (plus-version range.first k fits) ∙ o.nothing k within)

-- A change that does nothing where nothing is found.
pub over-nothing : (slots : List (Slot Begun)) (range : Ticket) (o : IsOver slots range) (k : ℕ) (g : ℕ → Slot Begun → Slot Begun) → k < width_of range
    → ((v : ℕ) (s : Slot Begun) → seen v s ≡ Nothing → g v s ≡ s)
    → changed (g (version_of (range.first + k))) (range.first + k) slots ≡ slots
over-nothing slots range o k g within idle =
    let found = over-look slots range o k within in
    changed-nothing (range.first + k) (g (version_of (range.first + k))) slots
    (λ s at. let same : o.slot ≡ s = let both : Some o.slot ≡ Some s = sym found.0
    ∙ at in cc in subst (λ x. g (version_of (range.first + k)) x ≡ x) same (idle (version_of (range.first + k)) o.slot found.1))

-- The standing of a call that was told.
pub over-standing : (slots : List (Slot Begun)) (entries : List (ℕ × Option Ticket)) (call : ℕ) (range : Ticket) → AllByRecursion (λ entry. IsKnown slots entry.0 entry.1) entries
    → lookup (nat_eq call) entries ≡ Some (Some range)
    → value_says (look range.first slots) ≡ None → find (is_call call) (standings slots entries) ≡ Some (told_of call)
over-standing slots entries call range known found none = find-standing slots call entries known ∙ ap (option_map (standing_at slots call)) found ∙ ap (λ x. Some (stand call x)) none

pub idle-if : (f : Standing → Standing) (y : Standing) (o : Option Standing) → o ≡ Some y → f y ≡ y → (x : Standing) → o ≡ Some x → f x ≡ x
idle-if f y o p idle x q = let same : y ≡ x = let both : Some y ≡ Some x = sym p ∙ q in cc in subst (λ z. f z ≡ z) same idle

change-over : (slots : List (Slot Begun)) (entries : List (ℕ × Option Ticket)) (call : ℕ) (range : Ticket) (h : Begun → Begun) (f : Standing → Standing) (k : ℕ) → Changes slots range h f
    → IsSound slots entries → length entries ≤ 500000
    → lookup (nat_eq call) entries ≡ Some (Some range) → value_says (look range.first slots) ≡ None → k < width_of range
    → Follows slots (changed (visit h (version_of (range.first + k))) (range.first + k) slots) entries call f
change-over slots entries call range h f k does sound few found none within =
    let known = known-of slots call (Some range) entries sound.known found in
    let low : most entries < 2 ^ 32 = omega (arith, few) in
    let o = is-over slots call range (most entries) known sound.open_slots low none in
    let same = over-nothing slots range o k (λ v. visit h v) within (λ v s e. ap (λ x. visit_by h x s) e) in
    let idle = change_first-nothing (is_call call) f (standings slots entries) (idle-if f (told_of call) _ (over-standing slots entries call range sound.known found none) (does.on_told call)) in
    subst (λ after. Follows slots after entries call f) (sym same) (record { stands = sym idle; sound = sound; size = refl })

-- A change that comes by an id of the call does to the calls what the plain machine does.
pub change-moved : (slots : List (Slot Begun)) (entries : List (ℕ × Option Ticket)) (call : ℕ) (range : Ticket) (h : Begun → Begun) (f : Standing → Standing) (k : ℕ)
    → Changes slots range h f → IsSound slots entries → length entries ≤ 500000
    → lookup (nat_eq call) entries ≡ Some (Some range) → k < width_of range
    → Follows slots (changed (visit h (version_of (range.first + k))) (range.first + k) slots) entries call f
change-moved slots entries call range h f k does sound few found within = by (value_says (look range.first slots)) refl
  where
    by : (x : Option Begun) → value_says (look range.first slots) ≡ x → Follows slots (changed (visit h (version_of (range.first + k))) (range.first + k) slots) entries call f
    by None e = change-over slots entries call range h f k does sound few found e within
    by (Some b) e = change-lives slots entries call range b h f k does sound few found e within

-- where the ids of a call find no due mark
abbrev pub IsSettledAt : ℕ → List (Slot Begun) → Ticket → Type 0
IsSettledAt moment slots range = (b : Begun) → value_says (look range.first slots) ≡ Some b → weave moment b ≡ b

-- An event does what the plain machine's does, where no mark of the call is due.
pub event-changes : (slots : List (Slot Begun)) (range : Ticket) (event : Event) (moment : ℕ) → IsSettledAt moment slots range
    → Changes slots range (turned (turn.Event event moment)) (event_after event moment)
event-changes slots range event moment settled = record {
  on_begun = λ b e. ap begun (ap (λ d. apply d event moment) (settled b e));
  on_told = λ call. refl;
  later = λ b. turned-later (turn.Event event moment) b;
  fit = λ n b fit. turned-fit n (turn.Event event moment) b fit;
}

-- An event of a call without ids does nothing.
pub event-nothing : (slots : List (Slot Begun)) (entries : List (ℕ × Option Ticket)) (call : ℕ) (event : Event) (moment : ℕ) → AllByRecursion (λ entry. IsKnown slots entry.0 entry.1) entries
    → ((range : Ticket) → lookup (nat_eq call) entries ≢ Some (Some range)) → standings slots entries ≡ change_first (is_call call) (event_after event moment) (standings slots entries)
event-nothing slots entries call event moment known none =
    sym (change_first-nothing (is_call call) (event_after event moment) (standings slots entries)
    (λ s found. by (lookup (nat_eq call) entries) refl s (sym (find-standing slots call entries known) ∙ found)))
  where
    by : (o : Option (Option Ticket)) → lookup (nat_eq call) entries ≡ o → (s : Standing) → option_map (standing_at slots call) o ≡ Some s → event_after event moment s ≡ s
    by None e s h = absurd (cc)
    by (Some None) e s h = let same : full call ≡ s = cc in subst (λ x. event_after event moment x ≡ x) same refl
    by (Some (Some range)) e s h = absurd (none range e)
