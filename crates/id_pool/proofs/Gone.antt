-- An id that is gone stays gone, whatever a pool's calls do.
use Rattle.std.proofs.Common.{◌≡◌, ◌≢◌, ℕ, zero, suc, ◌+◌, ◌-◌, ◌^◌, ◌<◌, ◌≤◌, ◌⊎◌, inl, inr, leb, ltb, ◌&&◌, ◌==◌, Bool, true, false, cond, List, [], ◌∷◌, slice_get, Some, None, arith}
use Rattle.std.proofs.Common.{refl, sym, ap, ◌∙◌, subst}
use Rattle.std.proofs.lemmas.Bool.Decides.{nat_tests}
use Rattle.std.specs.declared.option.Option.{Option}
use Rattle.id_pool.specs.Ids.{slot_of, version_of}
use Rattle.id_pool.specs.Ranges.{Slot, Vacant, Retired, Taken, Range, Standing, Free, Held, Ended, Nothing, has_ended, offset, seen, seen_at, seen_in, slot_at, look, owned_at, stands, held}
use Rattle.id_pool.specs.Ranges.{locked, locked_by, posted, posted_by, unlocked, unlocked_by, let_go, destroyed, destroyed_by, widens, resized, resized_by, left_by, cancelled, cancelled_by}
use Rattle.id_pool.specs.Ranges.{cancelled_if, collected, collected_by, with_value, valued, change, change_at, lowest, later, created_at, fresh, is_width}
use Rattle.id_pool.specs.Laws.{Step, Create, Lock, ResetRange, Post, Unlock, Destroy, Cancel, Collect, Write, stepped, run, GoneStaysGone}

-- a version of a range that won't be one of this slot's ranges any more
abbrev pub IsPast : {T : Type 0} → ℕ → Bool → Range T → Type 0
IsPast v true r = v < r.first + r.size
IsPast v false r = v < r.first

abbrev pub IsGone : {T : Type 0} → ℕ → Slot T → Type 0
IsGone v (Vacant next) = v < next
IsGone v Retired = Unit {0}
IsGone v (Taken r) = IsPast v (has_ended r.standing) r

-- ---- a version in a range

in_range : (v first size : ℕ) → (leb first v && ltb v (first + size)) ≡ true → (first ≤ v) × (v < first + size)
in_range v first size h = grind (arith, nat_tests)

out_of_range : (v first size : ℕ) → v < first → (leb first v && ltb v (first + size)) ≡ false
out_of_range v first size h = grind (arith, nat_tests)

range_test : (v first size : ℕ) → first ≤ v → v < first + size → (leb first v && ltb v (first + size)) ≡ true
range_test v first size h k = grind (arith, nat_tests)

wider : (a b : ℕ) → (leb a b && leb b 1024) ≡ true → a ≤ b
wider a b h = grind (arith, nat_tests)

abbrev some_pair : ℕ → ℕ → Option (ℕ × ℕ)
some_pair a b = Some (a, b)

part_or : ℕ × ℕ → Option (ℕ × ℕ) → ℕ × ℕ
part_or d None = d
part_or d (Some p) = p

pair_parts : (a b c d : ℕ) → some_pair a b ≡ some_pair c d → (a ≡ c) × (b ≡ d)
unfolding part_or
pair_parts a b c d e = (ap (λ (o : Option (ℕ × ℕ)). (part_or (a, b) o).0) e, ap (λ (o : Option (ℕ × ℕ)). (part_or (a, b) o).1) e)

module _ {T : Type 0} where
  ended_nothing : (r : Range T) (o : Option ℕ) (s : Standing) → has_ended s ≡ true → seen_at r o s ≡ Nothing
  ended_nothing r None s h = refl
  ended_nothing r (Some k) Free h = absurd (cc)
  ended_nothing r (Some k) (Held w) h = absurd (cc)
  ended_nothing r (Some k) Ended h = refl

  out_nothing : (r : Range T) (v : ℕ) → v < r.first → seen_at r (offset r v) r.standing ≡ Nothing
  out_nothing r v h = ap (λ (b : Bool). seen_at r (cond b (Some (v - r.first)) None) r.standing) (out_of_range v r.first r.size h)

  gone_if : (v : ℕ) (r : Range T) (b : Bool) → has_ended r.standing ≡ b → IsPast v b r → seen_at r (offset r v) r.standing ≡ Nothing
  gone_if v r true e h = ended_nothing r (offset r v) r.standing e
  gone_if v r false e h = out_nothing r v h

  -- it finds nothing
  gone_nothing : (v : ℕ) (s : Slot T) → IsGone v s → seen v s ≡ Nothing
  gone_nothing v (Vacant next) h = refl
  gone_nothing v Retired h = refl
  gone_nothing v (Taken r) h = gone_if v r (has_ended r.standing) refl h

  found_in : (v : ℕ) (r : Range T) (b : Bool) → (leb r.first v && ltb v (r.first + r.size)) ≡ b → seen_at r (cond b (Some (v - r.first)) None) r.standing ≢ Nothing
      → (r.first ≤ v) × (v < r.first + r.size)
  found_in v r true e n = in_range v r.first r.size e
  found_in v r false e n = absurd (n refl)

  -- a version that finds a range is one of it
  found : (v : ℕ) (r : Range T) → seen v (Taken r) ≢ Nothing → (r.first ≤ v) × (v < r.first + r.size)
  found v r n = found_in v r (leb r.first v && ltb v (r.first + r.size)) refl n

  some_found : (r : Range T) (k : ℕ) (s : Standing) → has_ended s ≡ false → seen_at r (Some k) s ≢ Nothing
  some_found r k Free e = λ h. absurd (cc)
  some_found r k (Held w) e = λ h. absurd (cc)
  some_found r k Ended e = absurd (cc)

  found_there : (v : ℕ) (r : Range T) → r.first ≤ v → v < r.first + r.size → has_ended r.standing ≡ false → seen v (Taken r) ≢ Nothing
  found_there v r a b e =
      subst (λ (t : Bool). seen_at r (cond t (Some (v - r.first)) None) r.standing ≢ Nothing) (sym (range_test v r.first r.size a b)) (some_found r (v - r.first) r.standing e)

  -- ---- a slot changes

  -- what was found is found or gone, and what is gone stays gone
  record Keeps (v : ℕ) (s t : Slot T) : Type 0 where
    known : seen v s ≢ Nothing → (seen v t ≢ Nothing) ⊎ IsGone v t
    gone : IsGone v s → IsGone v t

  keeps_same : (v : ℕ) (s : Slot T) → Keeps v s s
  keeps_same v s = record { known = λ n. inl n; gone = λ h. h }

  on_known : (v : ℕ) (r t : Range T) → t.first ≡ r.first → r.size ≤ t.size → (r.first ≤ v) × (v < r.first + r.size) → (b : Bool) → has_ended t.standing ≡ b
      → (seen v (Taken t) ≢ Nothing) ⊎ IsPast v b t
  on_known v r t f s h true e = let a = h.1 in inr (omega (arith, a, f, s))
  on_known v r t f s h false e = let a = h.0 in let b = h.1 in inl (found_there v t (omega (arith, a, f)) (omega (arith, b, f, s)) e)

  on_gone : (v : ℕ) (r t : Range T) → t.first ≡ r.first → r.size ≤ t.size → (b c : Bool) → (b ≡ true → c ≡ true) → IsPast v b r → IsPast v c t
  on_gone v r t f s true true e h = omega (arith, h, f, s)
  on_gone v r t f s true false e h = let n = e refl in absurd (cc)
  on_gone v r t f s false true e h = omega (arith, h, f)
  on_gone v r t f s false false e h = omega (arith, h, f)

  -- a range goes on: no narrower, and ended where it was
  keeps_on : (v : ℕ) (r t : Range T) → t.first ≡ r.first → r.size ≤ t.size → (has_ended r.standing ≡ true → has_ended t.standing ≡ true) → Keeps v (Taken r) (Taken t)
  keeps_on v r t f s e = record {
    known = λ n. on_known v r t f s (found v r n) (has_ended t.standing) refl;
    gone = λ h. on_gone v r t f s (has_ended r.standing) (has_ended t.standing) e h;
  }

  abbrev slot_if : Range T → ℕ → Bool → Slot T
  slot_if r next b = cond b (Vacant next) Retired

  left_if : (r : Range T) (v next : ℕ) (b : Bool) → v < next → IsGone v (slot_if r next b)
  left_if r v next true h = h
  left_if r v next false h = tt

  past_low : (v : ℕ) (r : Range T) (b : Bool) → IsPast v b r → v < r.first + r.size
  past_low v r true h = h
  past_low v r false h = omega (arith, h)

  -- a range leaves its slot
  keeps_left : (v : ℕ) (r : Range T) → Keeps v (Taken r) (left_by r)
  keeps_left v r = record {
    known = λ n. inr (left_if r v (r.first + r.size) (leb (r.first + r.size) (2 ^ 32 - 1024)) (found v r n).1);
    gone = λ h. left_if r v (r.first + r.size) (leb (r.first + r.size) (2 ^ 32 - 1024)) (past_low v r (has_ended r.standing) h);
  }

  keeps_begun : (v next size : ℕ) (value : T) → Keeps v (Vacant next) (Taken (fresh next size value))
  keeps_begun v next size value = record { known = λ n. absurd (n refl); gone = λ h. h }

  -- ---- what each call makes of the slot that its id names

  lock_by : (v : ℕ) (r : Range T) (o : Option ℕ) (s : Standing) → r.standing ≡ s → Keeps v (Taken r) (locked_by (seen_at r o s) (Taken r))
  lock_by v r None s e = keeps_same v (Taken r)
  lock_by v r (Some k) Free e = keeps_on v r (held r) refl (omega arith) (λ h. let n : false ≡ true = ap has_ended (sym e) ∙ h in absurd (cc))
  lock_by v r (Some k) (Held w) e = keeps_same v (Taken r)
  lock_by v r (Some k) Ended e = keeps_same v (Taken r)

  lock_keeps : (v w : ℕ) (s : Slot T) → Keeps v s (locked w s)
  lock_keeps v w (Vacant next) = keeps_same v (Vacant next)
  lock_keeps v w Retired = keeps_same v Retired
  lock_keeps v w (Taken r) = lock_by v r (offset r w) r.standing refl

  post_by : (v code : ℕ) (r : Range T) (o : Option ℕ) (s : Standing) → r.standing ≡ s → Keeps v (Taken r) (posted_by (seen_at r o s) code (Taken r))
  post_by v code r None s e = keeps_same v (Taken r)
  post_by v code r (Some k) Free e = keeps_on v r (held r) refl (omega arith) (λ h. let n : false ≡ true = ap has_ended (sym e) ∙ h in absurd (cc))
  post_by v code r (Some k) (Held w) e = keeps_on v r _ refl (omega arith) (λ h. let n : false ≡ true = ap has_ended (sym e) ∙ h in absurd (cc))
  post_by v code r (Some k) Ended e = keeps_same v (Taken r)

  post_keeps : (v w code : ℕ) (s : Slot T) → Keeps v s (posted w code s)
  post_keeps v w code (Vacant next) = keeps_same v (Vacant next)
  post_keeps v w code Retired = keeps_same v Retired
  post_keeps v w code (Taken r) = post_by v code r (offset r w) r.standing refl

  unlock_by : (v : ℕ) (r : Range T) (o : Option ℕ) (s : Standing) → r.standing ≡ s → Keeps v (Taken r) (unlocked_by (seen_at r o s) (Taken r))
  unlock_by v r None s e = keeps_same v (Taken r)
  unlock_by v r (Some k) Free e = keeps_same v (Taken r)
  unlock_by v r (Some k) (Held w) e = keeps_on v r (stands (let_go w) r) refl (omega arith) (λ h. let n : false ≡ true = ap has_ended (sym e) ∙ h in absurd (cc))
  unlock_by v r (Some k) Ended e = keeps_same v (Taken r)

  unlock_keeps : (v w : ℕ) (s : Slot T) → Keeps v s (unlocked w s)
  unlock_keeps v w (Vacant next) = keeps_same v (Vacant next)
  unlock_keeps v w Retired = keeps_same v Retired
  unlock_keeps v w (Taken r) = unlock_by v r (offset r w) r.standing refl

  destroy_by : (v : ℕ) (r : Range T) (o : Option ℕ) (s : Standing) → Keeps v (Taken r) (destroyed_by (seen_at r o s) (Taken r))
  destroy_by v r None s = keeps_same v (Taken r)
  destroy_by v r (Some k) Free = keeps_same v (Taken r)
  destroy_by v r (Some k) (Held w) = keeps_on v r (stands Ended r) refl (omega arith) (λ h. refl)
  destroy_by v r (Some k) Ended = keeps_same v (Taken r)

  destroy_keeps : (v w : ℕ) (s : Slot T) → Keeps v s (destroyed w s)
  destroy_keeps v w (Vacant next) = keeps_same v (Vacant next)
  destroy_keeps v w Retired = keeps_same v Retired
  destroy_keeps v w (Taken r) = destroy_by v r (offset r w) r.standing

  widen_if : (v size : ℕ) (r : Range T) (b : Bool) → widens r size ≡ b → Keeps v (Taken r) (cond b (Taken (record r { size = size })) (Taken r))
  widen_if v size r true e = keeps_on v r (record r { size = size }) refl (wider r.size size e) (λ h. h)
  widen_if v size r false e = keeps_same v (Taken r)

  reset_by : (v size : ℕ) (r : Range T) (o : Option ℕ) (s : Standing) → Keeps v (Taken r) (resized_by (seen_at r o s) size (Taken r))
  reset_by v size r None s = keeps_same v (Taken r)
  reset_by v size r (Some k) Free = keeps_same v (Taken r)
  reset_by v size r (Some k) (Held w) = widen_if v size r (widens r size) refl
  reset_by v size r (Some k) Ended = keeps_same v (Taken r)

  reset_keeps : (v w size : ℕ) (s : Slot T) → Keeps v s (resized w size s)
  reset_keeps v w size (Vacant next) = keeps_same v (Vacant next)
  reset_keeps v w size Retired = keeps_same v Retired
  reset_keeps v w size (Taken r) = reset_by v size r (offset r w) r.standing

  cancel_if : (v : ℕ) (r : Range T) (b : Bool) → Keeps v (Taken r) (cancelled_if b r (Taken r))
  cancel_if v r true = keeps_same v (Taken r)
  cancel_if v r false = keeps_left v r

  cancel_by : (v : ℕ) (r : Range T) (o : Option ℕ) (s : Standing) → Keeps v (Taken r) (cancelled_by (seen_at r o s) (Taken r))
  cancel_by v r None s = keeps_same v (Taken r)
  cancel_by v r (Some k) Free = cancel_if v r r.used
  cancel_by v r (Some k) (Held w) = cancel_if v r r.used
  cancel_by v r (Some k) Ended = keeps_same v (Taken r)

  cancel_keeps : (v w : ℕ) (s : Slot T) → Keeps v s (cancelled w s)
  cancel_keeps v w (Vacant next) = keeps_same v (Vacant next)
  cancel_keeps v w Retired = keeps_same v Retired
  cancel_keeps v w (Taken r) = cancel_by v r (offset r w) r.standing

  collect_by : (v : ℕ) (r : Range T) (b : Bool) (s : Standing) → Keeps v (Taken r) (collected_by (owned_at r b s) (Taken r))
  collect_by v r false s = keeps_same v (Taken r)
  collect_by v r true Free = keeps_same v (Taken r)
  collect_by v r true (Held w) = keeps_same v (Taken r)
  collect_by v r true Ended = keeps_left v r

  collect_keeps : (v w : ℕ) (s : Slot T) → Keeps v s (collected w s)
  collect_keeps v w (Vacant next) = keeps_same v (Vacant next)
  collect_keeps v w Retired = keeps_same v Retired
  collect_keeps v w (Taken r) = collect_by v r (r.first == w) r.standing

  write_keeps : (v : ℕ) (value : T) (s : Slot T) → Keeps v s (valued value s)
  write_keeps v value (Vacant next) = keeps_same v (Vacant next)
  write_keeps v value Retired = keeps_same v Retired
  write_keeps v value (Taken r) = keeps_on v r (with_value r value) refl (omega arith) (λ h. h)

  -- ---- the slots

  -- the same of what an id's slot is, where there is one
  abbrev IsGoneIn : ℕ → Option (Slot T) → Type 0
  IsGoneIn v None = ⊥
  IsGoneIn v (Some s) = IsGone v s

  record KeepsIn (v : ℕ) (s t : Option (Slot T)) : Type 0 where
    known : seen_in v s ≢ Nothing → (seen_in v t ≢ Nothing) ⊎ IsGoneIn v t
    gone : IsGoneIn v s → IsGoneIn v t

  in_same : (v : ℕ) (s : Option (Slot T)) → KeepsIn v s s
  in_same v s = record { known = λ n. inl n; gone = λ h. h }

  in_some : (v : ℕ) (s t : Slot T) → Keeps v s t → KeepsIn v (Some s) (Some t)
  in_some v s t k = record { known = k.known; gone = k.gone }

  change_in : (v i j : ℕ) (f : Slot T → Slot T) (ss : List (Slot T)) → ((s : Slot T) → Keeps v s (f s)) → KeepsIn v (slice_get ss j) (slice_get (change i f ss) j)
  change_in v i j f [] k = in_same v None
  change_in v zero zero f (s ∷ ss) k = in_some v s (f s) (k s)
  change_in v zero (suc j) f (s ∷ ss) k = in_same v (slice_get ss j)
  change_in v (suc i) zero f (s ∷ ss) k = in_same v (Some s)
  change_in v (suc i) (suc j) f (s ∷ ss) k = change_in v i j f ss k

  at_in : (v : ℕ) (o p : Option ℕ) (f : Slot T → Slot T) (ss : List (Slot T)) → ((s : Slot T) → Keeps v s (f s)) → KeepsIn v (slot_at p ss) (slot_at p (change_at o f ss))
  at_in v o None f ss k = in_same v None
  at_in v None (Some j) f ss k = in_same v (slice_get ss j)
  at_in v (Some i) (Some j) f ss k = change_in v i j f ss k

  past_in : (v size j : ℕ) (value : T) (x : Slot T) (ss : List (Slot T)) (i next : ℕ) (o : Option (ℕ × ℕ)) → lowest ss ≡ o → later o ≡ Some (i, next)
      → ((j i : ℕ) → lowest ss ≡ Some (i, next) → KeepsIn v (slice_get ss j) (slice_get (change i (λ s. Taken (fresh next size value)) ss) j))
      → KeepsIn v (slice_get (x ∷ ss) j) (slice_get (change i (λ s. Taken (fresh next size value)) (x ∷ ss)) j)
  past_in v size j value x ss i next None l e rest = absurd (cc)
  past_in v size j value x ss i next (Some (k, n)) l e rest =
      let both = pair_parts (k + 1) n i next e in
      let a : k + 1 ≡ i = both.0 in
      let b : n ≡ next = both.1 in
      let c : suc k ≡ i = omega (arith, a) in
      subst (λ (m : ℕ). KeepsIn v (slice_get (x ∷ ss) j) (slice_get (change m (λ s. Taken (fresh next size value)) (x ∷ ss)) j)) c (deeper j (l ∙ ap (λ m. Some (k, m)) b))
    where
      deeper : (j : ℕ) → lowest ss ≡ Some (k, next) → KeepsIn v (slice_get (x ∷ ss) j) (slice_get (x ∷ change k (λ s. Taken (fresh next size value)) ss) j)
      deeper zero h = in_same v (Some x)
      deeper (suc j) h = rest j k h

  -- a range in the lowest vacant slot
  lowest_in : (v size j : ℕ) (value : T) (ss : List (Slot T)) (i next : ℕ) → lowest ss ≡ Some (i, next) → KeepsIn v (slice_get ss j) (slice_get (change i (λ s. Taken (fresh next size value)) ss) j)
  lowest_in v size j value [] i next e = absurd (cc)
  lowest_in v size j value (Vacant n ∷ ss) i next e =
      let both = pair_parts 0 n i next e in
      let a : 0 ≡ i = both.0 in
      let b : n ≡ next = both.1 in
      subst (λ (k : ℕ). KeepsIn v (slice_get (Vacant n ∷ ss) j) (slice_get (change k (λ s. Taken (fresh next size value)) (Vacant n ∷ ss)) j)) a
      (vacant_in j (subst (λ (k : ℕ). Keeps v (Vacant n) (Taken (fresh k size value))) b (keeps_begun v n size value)))
    where
      vacant_in : (j : ℕ) → Keeps v (Vacant n) (Taken (fresh next size value)) → KeepsIn v (slice_get (Vacant n ∷ ss) j) (slice_get (Taken (fresh next size value) ∷ ss) j)
      vacant_in zero k = in_some v (Vacant n) (Taken (fresh next size value)) k
      vacant_in (suc j) k = in_same v (slice_get ss j)
  lowest_in v size j value (Retired ∷ ss) i next e = past_in v size j value Retired ss i next (lowest ss) refl e (λ j i e. lowest_in v size j value ss i next e)
  lowest_in v size j value (Taken r ∷ ss) i next e = past_in v size j value (Taken r) ss i next (lowest ss) refl e (λ j i e. lowest_in v size j value ss i next e)

  create_in : (v size : ℕ) (value : T) (ss : List (Slot T)) (p : Option ℕ) (b : Bool) (o : Option (ℕ × ℕ)) → lowest ss ≡ o → KeepsIn v (slot_at p ss) (slot_at p (created_at b o size value ss))
  create_in v size value ss None b o e = in_same v None
  create_in v size value ss (Some j) false o e = in_same v (slice_get ss j)
  create_in v size value ss (Some j) true None e = in_same v (slice_get ss j)
  create_in v size value ss (Some j) true (Some (i, next)) e = lowest_in v size j value ss i next e

  -- one call
  step_in : (id : ℕ) (step : Step T) (ss : List (Slot T)) → KeepsIn (version_of id) (slot_at (slot_of id) ss) (slot_at (slot_of id) (stepped step ss))
  step_in id (Create size value) ss = create_in (version_of id) size value ss (slot_of id) (is_width size) (lowest ss) refl
  step_in id (Lock w) ss = at_in (version_of id) (slot_of w) (slot_of id) (locked (version_of w)) ss (lock_keeps (version_of id) (version_of w))
  step_in id (ResetRange w size) ss = at_in (version_of id) (slot_of w) (slot_of id) (resized (version_of w) size) ss (reset_keeps (version_of id) (version_of w) size)
  step_in id (Post w code) ss = at_in (version_of id) (slot_of w) (slot_of id) (posted (version_of w) code) ss (post_keeps (version_of id) (version_of w) code)
  step_in id (Unlock w) ss = at_in (version_of id) (slot_of w) (slot_of id) (unlocked (version_of w)) ss (unlock_keeps (version_of id) (version_of w))
  step_in id (Destroy w) ss = at_in (version_of id) (slot_of w) (slot_of id) (destroyed (version_of w)) ss (destroy_keeps (version_of id) (version_of w))
  step_in id (Cancel w) ss = at_in (version_of id) (slot_of w) (slot_of id) (cancelled (version_of w)) ss (cancel_keeps (version_of id) (version_of w))
  step_in id (Collect w) ss = at_in (version_of id) (slot_of w) (slot_of id) (collected (version_of w)) ss (collect_keeps (version_of id) (version_of w))
  step_in id (Write w value) ss = at_in (version_of id) (slot_of w) (slot_of id) (valued value) ss (write_keeps (version_of id) value)

  -- many
  run_gone : (id : ℕ) (steps : List (Step T)) (ss : List (Slot T)) → IsGoneIn (version_of id) (slot_at (slot_of id) ss) → IsGoneIn (version_of id) (slot_at (slot_of id) (run steps ss))
  run_gone id [] ss h = h
  run_gone id (s ∷ steps) ss h = run_gone id steps (stepped s ss) ((step_in id s ss).gone h)

  run_known : (id : ℕ) (steps : List (Step T)) (ss : List (Slot T)) → (look id ss ≢ Nothing) ⊎ IsGoneIn (version_of id) (slot_at (slot_of id) ss)
      → (look id (run steps ss) ≢ Nothing) ⊎ IsGoneIn (version_of id) (slot_at (slot_of id) (run steps ss))
  run_known id [] ss h = h
  run_known id (s ∷ steps) ss (inl n) = run_known id steps (stepped s ss) ((step_in id s ss).known n)
  run_known id (s ∷ steps) ss (inr g) = run_known id steps (stepped s ss) (inr ((step_in id s ss).gone g))

  gone_look : (v : ℕ) (o : Option (Slot T)) → IsGoneIn v o → seen_in v o ≡ Nothing
  gone_look v None h = refl
  gone_look v (Some s) h = gone_nothing v s h

  -- an id that is gone stays gone
  pub gone_stays : GoneStaysGone T
  gone_stays id ss steps more n g = elim (run_known id steps ss (inl n)) [
    | inl found ↦ absurd (found g)
    | inr gone ↦ gone_look (version_of id) (slot_at (slot_of id) (run more (run steps ss))) (run_gone id more (run steps ss) gone)
  ]
