-- A join locks the call's range, takes the call's marks, and lets the range go or ends it.
use Rattle.std.proofs.Common.{◌≡◌, ◌≢◌, ℕ, zero, suc, ◌-◌, ◌/◌, ◌^◌, ◌<◌, ◌≤◌, ◌==◌, arith, length, slice_get, ◌∷◌, Bool, true, false, not, List, [], Option, None, Some, is_some, ap, sym}
use Rattle.std.proofs.Common.{refl, ◌∙◌, subst}
use Rattle.std.specs.Option.{option_map}
use Rattle.rpc_model.specs.declared.event.End.{End}
use Rattle.rpc_model.specs.declared.told.Told.TheVariants.{Unended}
use Rattle.rpc_model.specs.State.{end_of}
use Rattle.rpc_model.specs.Marks.{Begun}
use Rattle.rpc_model.specs.Told.{join_end}
use Rattle.id_pool.specs.Ids.{slot_of, version_of}
use Rattle.id_pool.specs.Ranges.{Slot, Vacant, Retired, Taken, Range, Standing, Free, Held, Ended, Seen, Nothing, Unlocked, Locked, Over, offset, seen, seen_at, seen_in, look, own, owned_at}
use Rattle.id_pool.specs.Ranges.{owned_in, slot_at, changed, locked, locked_by, destroyed, destroyed_by, collected, collected_by, held, stands, with_value}
use Rattle.id_pool.specs.Answers.{lock_says, value_says}
use Rattle.id_pool.specs.declared.answers.Lock.TheVariants.{Yes}
use Rattle.sim_run.specs.declared.slots.Finished.{Finished}
use Rattle.sim_run.specs.Link.{Link}
use Rattle.timer_core.specs.declared.mark.Mark.{Mark}
use Rattle.sim_run.specs.Acting.{Acting}
use Rattle.sim_run.specs.Slots.{visit, visit_by, touch, touch_by, finished, finished_of, joined_to, join_range, join, join_by, join_says, IsJoinedEarly, acts_found, acts_by}
use Rattle.sim_run.proofs.Apart.{high_half}
use Rattle.sim_run.proofs.Changes.{changed-twice, changed-alike, look-at, seen-taken, slot_at-change}

-- the id finds this range unlocked, at this offset
pub record Finds {T : Type 0} (id : ℕ) (slots : List (Slot T)) (r : Range T) (k : ℕ) : Type 0 where
  pub at : slot_at (slot_of id) slots ≡ Some (Taken r)
  pub within : offset r (version_of id) ≡ Some k
  pub free : r.standing ≡ Free

finds-range : {T : Type 0} (id k : ℕ) (slots : List (Slot T)) (r : Range T) (o : Option ℕ) (st : Standing) → slot_at (slot_of id) slots ≡ Some (Taken r) → offset r (version_of id) ≡ o
    → r.standing ≡ st
    → lock_says (seen_at r o st) ≡ Yes k → Finds id slots r k
finds-range id k slots r None st at p q e = absurd (cc)
finds-range id k slots r (Some j) Free at p q e = let same : j ≡ k = cc in record { at = at; within = p ∙ ap Some same; free = q }
finds-range id k slots r (Some j) (Held waiting) at p q e = absurd (cc)
finds-range id k slots r (Some j) Ended at p q e = absurd (cc)

finds-at : {T : Type 0} (id k : ℕ) (slots : List (Slot T)) (m : Option (Slot T)) → slot_at (slot_of id) slots ≡ m → lock_says (seen_in (version_of id) m) ≡ Yes k → (r : Range T) × Finds id slots r k
finds-at id k slots None at e = absurd (cc)
finds-at id k slots (Some (Vacant next)) at e = absurd (cc)
finds-at id k slots (Some Retired) at e = absurd (cc)
finds-at id k slots (Some (Taken r)) at e = (r, finds-range id k slots r (offset r (version_of id)) r.standing at refl refl e)

-- An id that could be locked finds a range.
pub finds : {T : Type 0} (id k : ℕ) (slots : List (Slot T)) → lock_says (look id slots) ≡ Yes k → (r : Range T) × Finds id slots r k
finds id k slots e = finds-at id k slots (slot_at (slot_of id) slots) refl e

-- It looks so.
pub finds-look : {T : Type 0} (id k : ℕ) (slots : List (Slot T)) (r : Range T) → Finds id slots r k → look id slots ≡ Unlocked r k
finds-look id k slots r f = look-at id slots (Taken r) f.at ∙ seen-taken (version_of id) r (Some k) Free f.within f.free

-- the range as it is between the lock and what ends it
abbrev finishing : ℕ → Range Begun → Range Begun
finishing reached r = with_value (held r) (finished reached r.value)

locked-finds : {T : Type 0} (v k : ℕ) (r : Range T) → offset r v ≡ Some k → r.standing ≡ Free → locked v (Taken r) ≡ Taken (held r)
locked-finds v k r p q = ap (λ x. locked_by x (Taken r)) (seen-taken v r (Some k) Free p q)

-- The value that is found locked is the one that was found unlocked.
pub locked-value : {T : Type 0} (id k : ℕ) (slots : List (Slot T)) (r : Range T) → Finds id slots r k → value_says (look id (changed (locked (version_of id)) id slots)) ≡ Some r.value
locked-value id k slots r f =
    let v = version_of id in
    let at = slot_at-change (slot_of id) (locked v) slots (Taken r) f.at ∙ ap Some (locked-finds v k r f.within f.free) in
    ap value_says (look-at id (changed (locked v) id slots) (Taken (held r)) at ∙ seen-taken v (held r) (Some k) (Held []) f.within refl)

touched-finds : (v k reached : ℕ) (r : Range Begun) → offset r v ≡ Some k → r.standing ≡ Free → touch (finished reached) v (locked v (Taken r)) ≡ Taken (finishing reached r)
touched-finds v k reached r p q =
    ap (touch (finished reached) v) (locked-finds v k r p q) ∙ ap (λ x. touch_by (finished reached) x (Taken (held r))) (seen-taken v (held r) (Some k) (Held []) p refl)

destroyed-finds : (v k reached : ℕ) (r : Range Begun) → offset r v ≡ Some k → r.standing ≡ Free
    → destroyed v (touch (finished reached) v (locked v (Taken r))) ≡ Taken (stands Ended (finishing reached r))
destroyed-finds v k reached r p q =
    ap (destroyed v) (touched-finds v k reached r p q) ∙ ap (λ x. destroyed_by x (Taken (finishing reached r))) (seen-taken v (finishing reached r) (Some k) (Held []) p refl)

-- the slots between the lock and the end of the range
abbrev pub ending : ℕ → ℕ → List (Slot Begun) → List (Slot Begun)
ending reached id slots = let v = version_of id in changed (destroyed v) id (changed (touch (finished reached) v) id (changed (locked v) id slots))

ending-once : (reached id : ℕ) (slots : List (Slot Begun))
    → ending reached id slots ≡ changed (λ s. destroyed (version_of id) (touch (finished reached) (version_of id) (locked (version_of id) s))) id slots
ending-once reached id slots =
    let v = version_of id in
    ap (changed (destroyed v) id) (changed-twice id (locked v) (touch (finished reached) v) slots) ∙ changed-twice id (λ s. touch (finished reached) v (locked v s)) (destroyed v) slots

-- The ended range is its owner's, with the call as the join left it.
pub ending-own : (reached id k : ℕ) (slots : List (Slot Begun)) (r : Range Begun) → Finds id slots r k → (r.first == version_of id) ≡ true
    → own id (ending reached id slots) ≡ Over (stands Ended (finishing reached r))
ending-own reached id k slots r f first =
    let v = version_of id in
    let g = λ (s : Slot Begun). destroyed v (touch (finished reached) v (locked v s)) in
    let at = slot_at-change (slot_of id) g slots (Taken r) f.at ∙ ap Some (destroyed-finds v k reached r f.within f.free) in
    ap (own id) (ending-once reached id slots) ∙ ap (owned_in v) at ∙ ap (λ b. owned_at (stands Ended (finishing reached r)) b Ended) first

join-found : (v k reached : ℕ) (r : Range Begun) → offset r v ≡ Some k → r.standing ≡ Free → join reached v (Taken r) ≡ join_range reached r
join-found v k reached r p q = ap (λ x. join_by reached x (Taken r)) (seen-taken v r (Some k) Free p q)

-- A call with an end leaves its slot.
pub join-over : (reached id k : ℕ) (slots : List (Slot Begun)) (r : Range Begun) (end : End) → Finds id slots r k → (r.first == version_of id) ≡ true
    → end_of (finished reached r.value).state ≡ Some end
    → changed (collected (version_of id)) id (ending reached id slots) ≡ changed (join reached (version_of id)) id slots
join-over reached id k slots r end f first over =
    let v = version_of id in
    let g = λ (s : Slot Begun). destroyed v (touch (finished reached) v (locked v s)) in
    let left : collected v (g (Taken r)) ≡ join reached v (Taken r) =
    ap (collected v) (destroyed-finds v k reached r f.within f.free) ∙ ap (λ b. collected_by (owned_at (stands Ended (finishing reached r)) b Ended) (Taken (stands Ended (finishing reached r)))) first
    ∙ sym (join-found v k reached r f.within f.free ∙ ap (λ o. joined_to o (finished reached r.value) r) over) in
    ap (changed (collected v) id) (ending-once reached id slots) ∙ changed-twice id g (collected v) slots
    ∙ changed-alike id (λ s. collected v (g s)) (join reached v) slots
    (λ s at. let same : Taken r ≡ s = let e : Some (Taken r) ≡ Some s = sym f.at ∙ at in cc in subst (λ x. collected v (g x) ≡ join reached v x) same left)

-- A call without an end keeps its range.
pub join-open : (reached id k : ℕ) (slots : List (Slot Begun)) (r : Range Begun) → Finds id slots r k → end_of (finished reached r.value).state ≡ None
    → changed (visit (finished reached) (version_of id)) id slots ≡ changed (join reached (version_of id)) id slots
join-open reached id k slots r f open_ =
    let v = version_of id in
    let kept : visit (finished reached) v (Taken r) ≡ join reached v (Taken r) =
    ap (λ x. visit_by (finished reached) x (Taken r)) (seen-taken v r (Some k) Free f.within f.free)
    ∙ sym (join-found v k reached r f.within f.free ∙ ap (λ o. joined_to o (finished reached r.value) r) open_) in
    changed-alike id (visit (finished reached) v) (join reached v) slots
    (λ s at. let same : Taken r ≡ s = let e : Some (Taken r) ≡ Some s = sym f.at ∙ at in cc in subst (λ x. visit (finished reached) v x ≡ join reached v x) same kept)

-- An id that can't be locked finds no call to join.
pub says-nothing : (reached : ℕ) (x : Seen Begun) → ((k : ℕ) → lock_says x ≢ Yes k) → join_says reached x ≡ None
says-nothing reached Nothing none = refl
says-nothing reached (Unlocked r k) none = absurd (none k refl)
says-nothing reached (Locked r k waiting) none = refl

locked-join : (reached : ℕ) (x : Seen Begun) (s : Slot Begun) → ((k : ℕ) → lock_says x ≢ Yes k) → locked_by x s ≡ join_by reached x s
locked-join reached Nothing s none = refl
locked-join reached (Unlocked r k) s none = absurd (none k refl)
locked-join reached (Locked r k waiting) s none = refl

pub join-nothing : (reached id : ℕ) (slots : List (Slot Begun)) → ((k : ℕ) → lock_says (look id slots) ≢ Yes k)
    → changed (locked (version_of id)) id slots ≡ changed (join reached (version_of id)) id slots
join-nothing reached id slots none =
    changed-alike id (locked (version_of id)) (join reached (version_of id)) slots (λ s at. locked-join reached (seen (version_of id) s) s (λ k e. none k (ap lock_says (look-at id slots s at) ∙ e)))

-- An end is there or not.
pub no_end : (o : Option End) → is_some o ≡ false → o ≡ None
no_end None e = refl
no_end (Some end) e = absurd (cc)

pub some_end : (o : Option End) → is_some o ≡ true → (end : End) × (o ≡ Some end)
some_end None e = absurd (cc)
some_end (Some end) e = (end, refl)

-- What a join tells of a call without an end.
pub says-open : (reached k : ℕ) (x : Seen Begun) (r : Range Begun) (done : Finished) → x ≡ Unlocked r k → done ≡ finished_of reached r.value → done.over ≡ false
    → Some (done.reached, Unended done.call) ≡ join_says reached x
says-open reached k x r done found is open_ =
    let none = no_end (end_of (finished reached r.value).state) (sym (ap (λ (d : Finished). d.over) is) ∙ open_) in
    rw (found, is, none) refl

-- What a join tells of a call with an end.
pub says-over : (reached k : ℕ) (x : Seen Begun) (r : Range Begun) (done : Finished) (call : Begun) → x ≡ Unlocked r k → done ≡ finished_of reached r.value → call ≡ finished reached r.value
    → Some (done.reached, join_end call (end_of call.state)) ≡ join_says reached x
says-over reached k x r done call found is left = rw (found, is, left) refl

-- The marks of the call that was found are taken.
pub finish-says : (reached id k : ℕ) (slots now : List (Slot Begun)) (r : Range Begun) (result : Option Finished) → Finds id slots r k → now ≡ changed (locked (version_of id)) id slots
    → result ≡ option_map (finished_of reached) (value_says (look id now)) → result ≡ Some (finished_of reached r.value)
finish-says reached id k slots now r result f l e =
    e ∙ ap (λ (s : List (Slot Begun)). option_map (finished_of reached) (value_says (look id s))) l ∙ ap (option_map (finished_of reached)) (locked-value id k slots r f)

-- what a join knows of the call that it found, and of how its marks left it
pub record Joins (reached id k : ℕ) (slots : List (Slot Begun)) (done : Finished) : Type 0 where
  pub range : Range Begun
  pub finds : Finds id slots range k
  pub is : done ≡ finished_of reached range.value

same_some : {X : Type 0} (x y : X) (o : Option X) → o ≡ Some x → o ≡ Some y → x ≡ y
same_some x y o p q = cc

pub joins : (reached id k : ℕ) (slots now : List (Slot Begun)) (result : Option Finished) (done : Finished) → lock_says (look id slots) ≡ Yes k → now ≡ changed (locked (version_of id)) id slots
    → result ≡ option_map (finished_of reached) (value_says (look id now)) → result ≡ Some done → Joins reached id k slots done
joins reached id k slots now result done locks l e was =
    let f = finds id k slots locks in
    record { range = f.0; finds = f.1; is = same_some _ _ result was (finish-says reached id k slots now f.0 result f.1 l e) }

pub not-true : (b : Bool) → not b ≡ true → b ≡ false
not-true true e = absurd (cc)
not-true false e = refl

pub not-false : (b : Bool) → not b ≡ false → b ≡ true
not-false true e = refl
not-false false e = absurd (cc)

pub joins-open : (reached id k : ℕ) (slots : List (Slot Begun)) (done : Finished) (j : Joins reached id k slots done) → done.over ≡ false → end_of (finished reached j.range.value).state ≡ None
joins-open reached id k slots done j over = no_end _ (sym (ap (λ (d : Finished). d.over) j.is) ∙ over)

pub joins-over : (reached id k : ℕ) (slots : List (Slot Begun)) (done : Finished) (j : Joins reached id k slots done) → done.over ≡ true
    → (end : End) × (end_of (finished reached j.range.value).state ≡ Some end)
joins-over reached id k slots done j over = some_end _ (sym (ap (λ (d : Finished). d.over) j.is) ∙ over)

-- ---- what it does meanwhile

-- The call that is found locked does what the call does that was found unlocked.
pub locked-acts : (f : ℕ → Acting → Acting) (id k : ℕ) (slots now : List (Slot Begun)) (wires : List Link) (marks : List Mark) → lock_says (look id slots) ≡ Yes k
    → now ≡ changed (locked (version_of id)) id slots
    → acts_found (id - k) f (value_says (look id now)) wires marks ≡ acts_by id f (look id slots) wires marks
locked-acts f id k slots now wires marks locks is =
    let found = finds id k slots locks in
    let value : value_says (look id now) ≡ Some found.0.value = ap (λ (ss : List (Slot Begun)). value_says (look id ss)) is ∙ locked-value id k slots found.0 found.1 in
    ap (λ o. acts_found (id - k) f o wires marks) value ∙ sym (ap (λ x. acts_by id f x wires marks) (finds-look id k slots found.0 found.1))

-- Where nothing is locked nothing is done.
pub acts-none : (id : ℕ) (f : ℕ → Acting → Acting) (x : Seen Begun) (wires : List Link) (marks : List Mark) → ((k : ℕ) → lock_says x ≢ Yes k) → (wires, marks) ≡ acts_by id f x wires marks
acts-none id f Nothing wires marks none = refl
acts-none id f (Unlocked r k) wires marks none = absurd (none k refl)
acts-none id f (Locked r k waiting) wires marks none = refl

-- An id that could be locked is low, where slots are few.
pub locked-low : (id k : ℕ) (slots : List (Slot Begun)) → length slots ≤ 4096 → lock_says (look id slots) ≡ Yes k → id < 2 ^ 63
locked-low id k slots few locks =
    let found = finds id k slots locks in
    by (slot_of id) refl found.1.at
  where
    within : (i : ℕ) (xs : List (Slot Begun)) (x : Slot Begun) → slice_get xs i ≡ Some x → i < length xs
    within i [] x e = absurd (cc)
    within zero (y ∷ ys) x e = omega arith
    within (suc i) (y ∷ ys) x e = let tail = within i ys x e in omega (arith, tail)

    by : (o : Option ℕ) → slot_of id ≡ o → {r : Slot Begun} → slot_at o slots ≡ Some r → id < 2 ^ 63
    by None e at = absurd (cc)
    by (Some i) e {r} at = let h = high_half (id / 2 ^ 32) i e in let w = within i slots r at in omega (arith, h, w, few)

-- The call that is found locked reaches what it reaches unlocked.
pub locked-early : (reached id k : ℕ) (slots now : List (Slot Begun)) → IsJoinedEarly reached (value_says (look id slots)) → lock_says (look id slots) ≡ Yes k
    → now ≡ changed (locked (version_of id)) id slots → IsJoinedEarly reached (value_says (look id now))
locked-early reached id k slots now early locks is =
    let found = finds id k slots locks in
    let value : value_says (look id now) ≡ Some found.0.value = ap (λ (ss : List (Slot Begun)). value_says (look id ss)) is ∙ locked-value id k slots found.0 found.1 in
    let before : value_says (look id slots) ≡ Some found.0.value = ap value_says (finds-look id k slots found.0 found.1) in
    subst (IsJoinedEarly reached) (before ∙ sym value) early
