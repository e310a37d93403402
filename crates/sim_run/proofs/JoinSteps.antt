-- A join of a call's slot is a join of the call.
use Rattle.std.proofs.Common.{◌≡◌, ◌≢◌, ℕ, ◌+◌, ◌-◌, ◌^◌, ◌<◌, ◌≤◌, inl, leb, true, nat_eq, List, [], ◌∷◌, length, find, Option, None, Some, ap, sym, refl, ◌∙◌, subst, arith, if◌then◌else◌}
use Rattle.std.proofs.lemmas.Bool.{eq-eqb}
use Rattle.std.proofs.lemmas.Bool.Decides.{nat_tests}
use Rattle.std.specs.List.{AllByRecursion}
use Rattle.std.specs.Map.{lookup}
use Rattle.std.specs.Option.{option_map}
use Rattle.rpc_model.specs.declared.event.End.{End}
use Rattle.rpc_model.specs.declared.told.Told.{Told}
use Rattle.rpc_model.specs.declared.told.Told.TheVariants.{Gone}
use Rattle.rpc_model.specs.State.{end_of}
use Rattle.rpc_model.specs.Marks.{Begun, finish}
use Rattle.rpc_model.specs.Told.{Standing, begun, full, told_of, is_call, is_begun, change_first, joined, joined_moment, join_tells, join_end, stand_joined}
use Rattle.id_pool.specs.Ids.{version_of}
use Rattle.id_pool.specs.Ranges.{Slot, Vacant, Retired, Taken, Range, Nothing, Unlocked, seen, look, slot_at, change, change_at, changed, left_by}
use Rattle.id_pool.specs.Answers.{value_says}
use Rattle.sim_run.specs.declared.ticket.Ticket.{Ticket}
use Rattle.sim_run.specs.Slots.{IsFirst, visited, finished, join, join_by, join_says, joined_to}
use Rattle.sim_run.specs.Desk.{stand, standing_at, standings, IsNumbered, IsKnown, IsSlot, IsSound, width_of}
use Rattle.sim_run.specs.Marked.{IsFit}
use Rattle.sim_run.proofs.Fit.{finished-fit}
use Rattle.sim_run.proofs.Later.{IsLater, finished-later}
use Rattle.sim_run.proofs.Changes.{look-at}
use Rattle.sim_run.proofs.Entries.{change_first-nothing, find-standing, slot-of-all, known-of}
use Rattle.sim_run.proofs.Steps.{Lives, lives, most, stepped, later-range, Follows, finds-in, visited-looks, is-over, over-look, over-nothing, over-standing, idle-if}

-- the moment and the line of a join, by what it finds in the pool
abbrev pub moment_or : ℕ → Option (ℕ × Told) → ℕ
moment_or reached None = reached
moment_or reached (Some p) = p.0

abbrev pub tells_or : ℕ → Option (ℕ × Told) → Told
tells_or call None = Gone call
tells_or call (Some p) = p.1

-- what a join leaves and tells
pub record JoinFollows (reached : ℕ) (slots : List (Slot Begun)) (entries : List (ℕ × Option Ticket)) (call first : ℕ) : Type 0 where
  pub follows : Follows slots (changed (join reached (version_of first)) first slots) entries call (joined reached)
  pub moment : joined_moment reached (find (is_call call) (standings slots entries)) ≡ moment_or reached (join_says reached (look first slots))
  pub tells : join_tells reached (find (is_call call) (standings slots entries)) ≡ tells_or call (join_says reached (look first slots)) ∷ []

-- what the first id of a call finds that has begun and wasn't told
pub first-finds : (slots : List (Slot Begun)) (range : Ticket) (b : Begun) (bound : ℕ) (l : Lives slots range b) → AllByRecursion (IsSlot bound) slots → bound < 2 ^ 32 → 1 ≤ width_of range
    → seen (version_of range.first) (Taken l.r) ≡ Unlocked l.r 0
first-finds slots range b bound l open_ low some =
    let same : range.first + 0 ≡ range.first = omega arith in
    subst (λ id. seen (version_of id) (Taken l.r) ≡ Unlocked l.r 0) same (finds-in slots range b bound 0 l open_ low some).1

pub first-looks : (slots : List (Slot Begun)) (range : Ticket) (b : Begun) (bound : ℕ) (l : Lives slots range b) → AllByRecursion (IsSlot bound) slots → bound < 2 ^ 32 → 1 ≤ width_of range
    → look range.first slots ≡ Unlocked l.r 0
first-looks slots range b bound l open_ low some = look-at range.first slots (Taken l.r) (ap (λ o. slot_at o slots) l.here ∙ l.at) ∙ first-finds slots range b bound l open_ low some

pub left_by-low : (r : Range Begun) → r.first + r.size ≤ 2 ^ 32 - 1024 → left_by r ≡ Vacant (r.first + r.size)
left_by-low r h = let low : leb (r.first + r.size) (2 ^ 32 - 1024) ≡ true = grind (arith, nat_tests) in ap (λ b. if b then Vacant (r.first + r.size) else Retired) low

join-lives-if : (o : Option End) (reached : ℕ) (slots : List (Slot Begun)) (entries : List (ℕ × Option Ticket)) (call : ℕ) (range : Ticket) (b : Begun)
    → end_of (finished reached b).state ≡ o → IsSound slots entries → length entries ≤ 500000
    → lookup (nat_eq call) entries ≡ Some (Some range) → value_says (look range.first slots) ≡ Some b → (l : Lives slots range b) → IsNumbered call range (Some (finished reached b))
    → join reached (version_of range.first) (Taken l.r) ≡ joined_to o (finished reached b) l.r
    → Follows slots (change l.slot (join reached (version_of range.first)) slots) entries call (joined reached)
join-lives-if None reached slots entries call range b end sound few found value l number is =
    let known = known-of slots call (Some range) entries sound.known found in
    let top = slot-of-all (IsSlot (most entries)) l.slot slots (Taken l.r) sound.open_slots l.at in
    let looks = visited-looks range slots b (finished reached b) l known.0 in
    let step : joined reached (begun b) ≡ begun (finished reached b) = ap (stand_joined (finished reached b)) end in
    let later : IsLater l.r.value (finished reached b) = subst (λ c. IsLater c (finished reached b)) (sym l.value) (finished-later reached b) in
    stepped slots entries call range b (join reached (version_of range.first)) (Taken (visited l.r (finished reached b))) (joined reached) sound found value l is (refl, refl)
    (later-range (most entries) l.r (visited l.r (finished reached b)) later refl refl refl
    (subst (λ c. IsFit l.r.size (finished reached c)) l.value (finished-fit l.r.size reached l.r.value top.fit)) top)
    (step ∙ ap (stand call) (sym looks)) (inl (l.version, l.width)) (subst (IsNumbered call range) (sym looks) number) (ap is_begun step)
join-lives-if (Some e) reached slots entries call range b end sound few found value l number is =
    let top = slot-of-all (IsSlot (most entries)) l.slot slots (Taken l.r) sound.open_slots l.at in
    let below = top.below in
    let left = left_by-low l.r (omega (arith, below, few)) in
    let w = l.width in
    let v = l.version in
    let step : joined reached (begun b) ≡ told_of call = ap (stand_joined (finished reached b)) end ∙ ap told_of number.0 in
    stepped slots entries call range b (join reached (version_of range.first)) (Vacant (l.r.first + l.r.size)) (joined reached) sound found value l (is ∙ left) refl below
    step (omega (arith, v, w)) tt (ap is_begun step)

join-lives : (reached : ℕ) (slots : List (Slot Begun)) (entries : List (ℕ × Option Ticket)) (call : ℕ) (range : Ticket) (b : Begun) → IsSound slots entries → length entries ≤ 500000
    → lookup (nat_eq call) entries ≡ Some (Some range) → value_says (look range.first slots) ≡ Some b → JoinFollows reached slots entries call range.first
join-lives reached slots entries call range b sound few found value =
    let known = known-of slots call (Some range) entries sound.known found in
    let l = lives slots call range b (most entries) known sound.open_slots value in
    let low : most entries < 2 ^ 32 = omega (arith, few) in
    let here = first-finds slots range b (most entries) l sound.open_slots low known.0 in
    let looks = first-looks slots range b (most entries) l sound.open_slots low known.0 in
    let g = join reached (version_of range.first) in
    let is : g (Taken l.r) ≡ joined_to (end_of (finished reached b).state) (finished reached b) l.r =
    ap (λ x. join_by reached x (Taken l.r)) here ∙ ap (λ c. joined_to (end_of (finished reached c).state) (finished reached c) l.r) l.value in
    let own : IsNumbered call range (Some b) = subst (IsNumbered call range) value known.2 in
    let later = finished-later reached b in
    let number : IsNumbered call range (Some (finished reached b)) = (later.number ∙ own.0, later.plan ∙ own.1) in
    let s = join-lives-if (end_of (finished reached b).state) reached slots entries call range b refl sound few found value l number is in
    let finds : find (is_call call) (standings slots entries) ≡ Some (begun b) =
    find-standing slots call entries sound.known ∙ ap (option_map (standing_at slots call)) found ∙ ap (λ x. Some (stand call x)) value in
    let says : join_says reached (look range.first slots) ≡ Some ((finish reached b).0, join_end (finished reached b) (end_of (finished reached b).state)) =
    ap (join_says reached) looks ∙ ap (λ c. Some ((finish reached c).0, join_end (finished reached c) (end_of (finished reached c).state))) l.value in
    record {
      follows = subst (λ after. Follows slots after entries call (joined reached)) (sym (ap (λ o. change_at o g slots) l.here)) s;
      moment = ap (joined_moment reached) finds ∙ sym (ap (moment_or reached) says);
      tells = ap (join_tells reached) finds ∙ sym (ap (λ x. tells_or call x ∷ []) says);
    }

join-over-step : (reached : ℕ) (slots : List (Slot Begun)) (entries : List (ℕ × Option Ticket)) (call : ℕ) (range : Ticket) → IsSound slots entries → length entries ≤ 500000
    → lookup (nat_eq call) entries ≡ Some (Some range) → value_says (look range.first slots) ≡ None → JoinFollows reached slots entries call range.first
join-over-step reached slots entries call range sound few found none =
    let known = known-of slots call (Some range) entries sound.known found in
    let low : most entries < 2 ^ 32 = omega (arith, few) in
    let o = is-over slots call range (most entries) known sound.open_slots low none in
    let zero_more : range.first + 0 ≡ range.first = omega arith in
    let same =
    subst (λ id. changed (join reached (version_of id)) id slots ≡ slots) zero_more (over-nothing slots range o 0 (λ v. join reached v) known.0 (λ v s e. ap (λ x. join_by reached x s) e)) in
    let nothing : look range.first slots ≡ Nothing = subst (λ id. look id slots ≡ Nothing) zero_more (let l = over-look slots range o 0 known.0 in look-at (range.first + 0) slots o.slot l.0 ∙ l.1) in
    let stands = over-standing slots entries call range sound.known found none in
    let idle = change_first-nothing (is_call call) (joined reached) (standings slots entries) (idle-if (joined reached) (told_of call) _ stands refl) in
    record {
      follows = subst (λ after. Follows slots after entries call (joined reached)) (sym same) (record { stands = sym idle; sound = sound; size = refl });
      moment = ap (joined_moment reached) stands ∙ sym (ap (λ x. moment_or reached (join_says reached x)) nothing);
      tells = ap (join_tells reached) stands ∙ sym (ap (λ x. tells_or call (join_says reached x) ∷ []) nothing);
    }

-- A join of a call that had ids.
pub join-moved : (reached : ℕ) (slots : List (Slot Begun)) (entries : List (ℕ × Option Ticket)) (call : ℕ) (range : Ticket) → IsSound slots entries → length entries ≤ 500000
    → lookup (nat_eq call) entries ≡ Some (Some range) → JoinFollows reached slots entries call range.first
join-moved reached slots entries call range sound few found = by (value_says (look range.first slots)) refl
  where
    by : (x : Option Begun) → value_says (look range.first slots) ≡ x → JoinFollows reached slots entries call range.first
    by None e = join-over-step reached slots entries call range sound few found e
    by (Some b) e = join-lives reached slots entries call range b sound few found e

-- The first id of a call is the first of the range that it finds.
pub join-first : (slots : List (Slot Begun)) (entries : List (ℕ × Option Ticket)) (call : ℕ) (range : Ticket) → IsSound slots entries → length entries ≤ 500000
    → lookup (nat_eq call) entries ≡ Some (Some range) → IsFirst range.first slots
join-first slots entries call range sound few found r k e =
    let known = known-of slots call (Some range) entries sound.known found in
    let low : most entries < 2 ^ 32 = omega (arith, few) in
    let l = lives slots call range r.value (most entries) known sound.open_slots (ap value_says e) in
    let looks = first-looks slots range r.value (most entries) l sound.open_slots low known.0 in
    let both = sym looks ∙ e in
    let same : l.r ≡ r = same_range l.r r 0 k both in
    eq-eqb r.first (version_of range.first) (sym (ap (λ (x : Range Begun). x.first) same) ∙ sym l.version)
  where
    same_range : (a b : Range Begun) (j k : ℕ) → Unlocked a j ≡ Unlocked b k → a ≡ b
    same_range a b j k e = cc

-- Other joins: of a call that found no slot, and of none.
pub join-full : (reached : ℕ) (slots : List (Slot Begun)) (entries : List (ℕ × Option Ticket)) (call : ℕ) → AllByRecursion (λ entry. IsKnown slots entry.0 entry.1) entries
    → lookup (nat_eq call) entries ≡ Some None
    → find (is_call call) (standings slots entries) ≡ Some (full call)
join-full reached slots entries call known found = find-standing slots call entries known ∙ ap (option_map (standing_at slots call)) found

pub join-absent : (reached : ℕ) (slots : List (Slot Begun)) (entries : List (ℕ × Option Ticket)) (call : ℕ) → AllByRecursion (λ entry. IsKnown slots entry.0 entry.1) entries
    → lookup (nat_eq call) entries ≡ None
    → find (is_call call) (standings slots entries) ≡ None
join-absent reached slots entries call known found = find-standing slots call entries known ∙ ap (option_map (standing_at slots call)) found

-- Such a join changes nothing.
pub join-idle : (reached : ℕ) (slots : List (Slot Begun)) (entries : List (ℕ × Option Ticket)) (call : ℕ) → AllByRecursion (λ entry. IsKnown slots entry.0 entry.1) entries
    → ((range : Ticket) → lookup (nat_eq call) entries ≢ Some (Some range)) → standings slots entries ≡ change_first (is_call call) (joined reached) (standings slots entries)
join-idle reached slots entries call known none =
    sym (change_first-nothing (is_call call) (joined reached) (standings slots entries) (λ s found. by (lookup (nat_eq call) entries) refl s (sym (find-standing slots call entries known) ∙ found)))
  where
    by : (o : Option (Option Ticket)) → lookup (nat_eq call) entries ≡ o → (s : Standing) → option_map (standing_at slots call) o ≡ Some s → joined reached s ≡ s
    by None e s h = absurd (cc)
    by (Some None) e s h = let same : full call ≡ s = cc in subst (λ x. joined reached x ≡ x) same refl
    by (Some (Some range)) e s h = absurd (none range e)
