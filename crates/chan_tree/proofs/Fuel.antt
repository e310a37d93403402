-- What is defined on channels by how deep they may nest hangs on the subs alone.
use Rattle.std.proofs.Common.{◌≡◌, ℕ, zero, suc, ◌+◌, ◌%◌, ◌<◌, ◌≤◌, List, [], ◌∷◌, length, Option, Some, None, arith, refl, ap, sym, ◌∙◌, subst, slice_get, slice_index}
use Rattle.rpc_model.specs.declared.chan.Chan.{Chan}
use Rattle.rpc_model.specs.declared.chan.Chan.TheVariants as chan
use Rattle.rpc_model.specs.declared.chan.SelChan.{SelChan}
use Rattle.rpc_model.specs.Plan.{Plan, and_plan, plans_of, par_over, sel_over, rule_of, subs_of, tries, tries_from, chan_plan, plan_within, plan}
use Rattle.rpc_model.specs.Faults.{deepest, first_missing, or_later, chan_depth, depth_within, depth, chan_missing, missing_within, missing_part}
use Rattle.chan_tree.specs.Sound.{AreBefore, IsSound, AreSound}
use Rattle.chan_tree.specs.Counting.{total, chan_width, width_within, width_of}

module _ {M G : Type 0} where
  abbrev pub SoundIf : ℕ → Option (Chan M G) → Type 0
  SoundIf number None = Unit {0}
  SoundIf number (Some c) = IsSound number c

  pub sound-at : (first : ℕ) (chans : List (Chan M G)) (k n : ℕ) → n ≡ first + k → AreSound first chans → SoundIf n (slice_get chans k)
  sound-at first [] k n e h = tt
  sound-at first (c ∷ chans) zero n e h = let same : first ≡ n = omega (arith, e) in subst (λ m. IsSound m c) same h.0
  sound-at first (c ∷ chans) (suc k) n e h = sound-at (suc first) chans k n (omega (arith, e)) h.1

-- two functions that agree on the channels before this one
abbrev pub Agree : {X : Type 0} → ℕ → (ℕ → X) → (ℕ → X) → Type 0
Agree n f g = (s : ℕ) → s < n → f s ≡ g s

module _ {M G X : Type 0} (chans : List (Chan M G)) (at : ℕ → ℕ → X) (next : (ℕ → X) → Option (Chan M G) → X) (grows : (k n : ℕ) → at (suc k) n ≡ next (at k) (slice_get chans n))
    (looks : (n : ℕ) (f g : ℕ → X) (c : Option (Chan M G)) → SoundIf n c → Agree n f g → next f c ≡ next g c) (sound : AreSound 0 chans) where
  stable : (b s k : ℕ) → s < b → s < k → at k s ≡ at (suc s) s
  stable zero s k less more = absurd (omega (arith, less))
  stable (suc b) s zero less more = absurd (omega (arith, more))
  stable (suc b) s (suc k) less more =
      grows k s
      ∙ looks s (at k) (at s) (slice_get chans s) (sound-at 0 chans s s (omega arith) sound)
      (λ t before. stable b t k (omega (arith, before, less)) (omega (arith, before, more)) ∙ sym (stable b t s (omega (arith, before, less)) before))
      ∙ sym (grows s s)

  -- What it is of a channel is what it is of the channel by its subs.
  pub unrolled : (n : ℕ) → at (suc n) n ≡ next (λ s. at (suc s) s) (slice_get chans n)
  unrolled n = grows n n ∙ looks n (at n) (λ s. at (suc s) s) (slice_get chans n) (sound-at 0 chans n n (omega arith) sound) (λ t before. stable n t n before before)

-- ---- what looks at subs alone

deepest-same : (n : ℕ) (f g : ℕ → ℕ) (subs : List ℕ) → AreBefore n subs → Agree n f g → deepest f subs ≡ deepest g subs
deepest-same n f g [] h same = refl
deepest-same n f g (s ∷ subs) h same = let a = same s h.0 in let b = deepest-same n f g subs h.1 same in omega (arith, a, b)

total-same : (n : ℕ) (f g : ℕ → ℕ) (subs : List ℕ) → AreBefore n subs → Agree n f g → total f subs ≡ total g subs
total-same n f g [] h same = refl
total-same n f g (s ∷ subs) h same = let a = same s h.0 in let b = total-same n f g subs h.1 same in omega (arith, a, b)

missing-same : (n : ℕ) (f g : ℕ → Option ℕ) (subs : List ℕ) → AreBefore n subs → Agree n f g → first_missing f subs ≡ first_missing g subs
missing-same n f g [] h same = refl
missing-same n f g (s ∷ subs) h same = ap (λ o. or_later o (first_missing f subs)) (same s h.0) ∙ ap (or_later (g s)) (missing-same n f g subs h.1 same)

plans-same : {M G : Type 0} (n : ℕ) (f g : ℕ → Option (Plan M G)) (subs : List ℕ) → AreBefore n subs → Agree n f g → plans_of f subs ≡ plans_of g subs
plans-same n f g [] h same = refl
plans-same n f g (s ∷ subs) h same = ap (λ o. and_plan o (plans_of f subs)) (same s h.0) ∙ ap (and_plan (g s)) (plans-same n f g subs h.1 same)

pub index-before : (n : ℕ) (subs : List ℕ) (i : ℕ) → AreBefore n subs → i < length subs → slice_index subs i < n
index-before n [] i h less = absurd (omega (arith, less))
index-before n (s ∷ subs) zero h less = h.0
index-before n (s ∷ subs) (suc i) h less = index-before n subs i h.1 (omega (arith, less))

tries-before : (n : ℕ) (subs : List ℕ) (call j count : ℕ) → 1 ≤ length subs → AreBefore n subs → AreBefore n (tries_from subs call j count)
tries-before n subs call j zero some h = tt
tries-before n subs call j (suc count) some h = (index-before n subs ((call + j) % length subs) h (grind (arith, some)), tries-before n subs call (j + 1) count some h)

pub sel-before : (n call : ℕ) (sel : SelChan) → (1 ≤ length sel.subs) × AreBefore n sel.subs → AreBefore n (tries sel call)
sel-before n call sel h = tries-before n sel.subs call 0 (sel.retry + 1) h.0 h.1

module _ {M G : Type 0} where
  pub depth-looks : (n : ℕ) (f g : ℕ → ℕ) (c : Option (Chan M G)) → SoundIf n c → Agree n f g → chan_depth f c ≡ chan_depth g c
  depth-looks n f g None h same = refl
  depth-looks n f g (Some (chan.Leaf leaf)) h same = refl
  depth-looks n f g (Some (chan.Par par)) h same = ap (λ d. 1 + d) (deepest-same n f g (subs_of par) h same)
  depth-looks n f g (Some (chan.Sel sel)) h same = ap (λ d. 1 + d) (deepest-same n f g sel.subs h.1 same)
  depth-looks n f g (Some (chan.Part part)) h same = refl

  pub width-looks : (call n : ℕ) (f g : ℕ → ℕ) (c : Option (Chan M G)) → SoundIf n c → Agree n f g → chan_width f call c ≡ chan_width g call c
  width-looks call n f g None h same = refl
  width-looks call n f g (Some (chan.Leaf leaf)) h same = refl
  width-looks call n f g (Some (chan.Par par)) h same = ap (λ d. 1 + d) (total-same n f g (subs_of par) h same)
  width-looks call n f g (Some (chan.Sel sel)) h same = ap (λ d. 1 + d) (total-same n f g (tries sel call) (sel-before n call sel h) same)
  width-looks call n f g (Some (chan.Part part)) h same = refl

  pub missing-looks : (call n : ℕ) (f g : ℕ → Option ℕ) (c : Option (Chan M G)) → SoundIf n c → Agree n f g → chan_missing f call c ≡ chan_missing g call c
  missing-looks call n f g None h same = refl
  missing-looks call n f g (Some (chan.Leaf leaf)) h same = refl
  missing-looks call n f g (Some (chan.Par par)) h same = missing-same n f g (subs_of par) h same
  missing-looks call n f g (Some (chan.Sel sel)) h same = missing-same n f g (tries sel call) (sel-before n call sel h) same
  missing-looks call n f g (Some (chan.Part part)) h same = refl

  pub plan-looks : (call n : ℕ) (f g : ℕ → Option (Plan M G)) (c : Option (Chan M G)) → SoundIf n c → Agree n f g → chan_plan f call c ≡ chan_plan g call c
  plan-looks call n f g None h same = refl
  plan-looks call n f g (Some (chan.Leaf leaf)) h same = refl
  plan-looks call n f g (Some (chan.Par par)) h same = ap (par_over (rule_of par)) (plans-same n f g (subs_of par) h same)
  plan-looks call n f g (Some (chan.Sel sel)) h same = ap (sel_over sel.timeout) (plans-same n f g (tries sel call) (sel-before n call sel h) same)
  plan-looks call n f g (Some (chan.Part part)) h same = refl

  -- ---- each by its subs

  pub depth-is : (chans : List (Chan M G)) (n : ℕ) → AreSound 0 chans → depth chans n ≡ chan_depth (depth chans) (slice_get chans n)
  depth-is chans n sound = unrolled chans (λ k s. depth_within k chans s) chan_depth (λ k s. refl) depth-looks sound n

  pub width_of-is : (chans : List (Chan M G)) (call n : ℕ) → AreSound 0 chans → width_of chans call n ≡ chan_width (width_of chans call) call (slice_get chans n)
  width_of-is chans call n sound = unrolled chans (λ k s. width_within k chans call s) (λ f c. chan_width f call c) (λ k s. refl) (width-looks call) sound n

  pub missing-is : (chans : List (Chan M G)) (call n : ℕ) → AreSound 0 chans → missing_part chans n call ≡ chan_missing (λ s. missing_part chans s call) call (slice_get chans n)
  missing-is chans call n sound = unrolled chans (λ k s. missing_within k chans call s) (λ f c. chan_missing f call c) (λ k s. refl) (missing-looks call) sound n

  pub plan-is : (chans : List (Chan M G)) (call n : ℕ) → AreSound 0 chans → plan chans n call ≡ chan_plan (λ s. plan chans s call) call (slice_get chans n)
  plan-is chans call n sound = unrolled chans (λ k s. plan_within k chans call s) (λ f c. chan_plan f call c) (λ k s. refl) (plan-looks call) sound n
