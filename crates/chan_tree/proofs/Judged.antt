-- A channel's measure, and what is judged by it.
use Rattle.std.proofs.Common.{◌≡◌, ℕ, zero, suc, ◌+◌, ◌<◌, ◌≤◌, min, ◌⊎◌, inl, inr, Bool, true, false, nat_lt, List, [], ◌∷◌, ◌++◌, length, slice_get, Option, Some, None, arith, refl, ap}
use Rattle.std.proofs.Common.{sym, ◌∙◌, subst, length-append}
use Rattle.std.proofs.lemmas.Bool.Decides.{nat_tests}
use Rattle.rpc_model.specs.declared.chan.Chan.{Chan}
use Rattle.rpc_model.specs.declared.chan.LeafChan.{LeafChan}
use Rattle.rpc_model.specs.declared.chan.Chan.TheVariants as chan
use Rattle.rpc_model.specs.Plan.{Plan, plan, subs_of, tries}
use Rattle.rpc_model.specs.Versions.{width}
use Rattle.rpc_model.specs.Fits.{IsNarrow}
use Rattle.rpc_model.specs.Faults.{deepest, chan_depth, depth, chan_missing, missing_part}
use Rattle.chan_tree.specs.declared.measuring.Measure.{Measure}
use Rattle.chan_tree.specs.declared.planning.PlanFault.TheVariants.{TooWide}
use Rattle.chan_tree.specs.Sound.{AreSound}
use Rattle.chan_tree.specs.Counting.{total, chan_width, width_of}
use Rattle.chan_tree.specs.Measures.{depth_in, depth_or, missing_in, missing_or, width_in, width_or, measure_at, measures, IsMeasureOf}
use Rattle.chan_tree.specs.Shown.{IsPlanOf}
use Rattle.chan_tree.specs.Asked.{IsRefused, IsGranted}
use Rattle.chan_tree.proofs.Fuel.{SoundIf, sound-at, depth-looks, width-looks, missing-looks, depth-is, width_of-is, missing-is}
use Rattle.chan_tree.proofs.Widths.{plan-there}

-- ---- counting up to an end

deepest-min : (f : ℕ → ℕ) (subs : List ℕ) → deepest (λ s. min 9 (f s)) subs ≡ min 9 (deepest f subs)
deepest-min f [] = refl
deepest-min f (s ∷ subs) = let h = deepest-min f subs in omega (arith, h)

total-min : (f : ℕ → ℕ) (subs : List ℕ) → min 1025 (total (λ s. min 1025 (f s)) subs) ≡ min 1025 (total f subs)
total-min f [] = refl
total-min f (s ∷ subs) = let h = total-min f subs in omega (arith, h)

same-measure : (m n : Measure) → m.depth ≡ n.depth → m.missing ≡ n.missing → m.width ≡ n.width → m ≡ n
same-measure m n d e w i = record { depth = d i; missing = e i; width = w i }

module _ {M G : Type 0} where
  depth-min : (f : ℕ → ℕ) (c : Option (Chan M G)) → min 9 (chan_depth (λ s. min 9 (f s)) c) ≡ min 9 (chan_depth f c)
  depth-min f None = refl
  depth-min f (Some (chan.Leaf leaf)) = refl
  depth-min f (Some (chan.Par par)) = let h = deepest-min f (subs_of par) in omega (arith, h)
  depth-min f (Some (chan.Sel sel)) = let h = deepest-min f sel.subs in omega (arith, h)
  depth-min f (Some (chan.Part part)) = refl

  width-min : (f : ℕ → ℕ) (call : ℕ) (c : Option (Chan M G)) → min 1025 (chan_width (λ s. min 1025 (f s)) call c) ≡ min 1025 (chan_width f call c)
  width-min f call None = refl
  width-min f call (Some (chan.Leaf leaf)) = refl
  width-min f call (Some (chan.Par par)) = let h = total-min f (subs_of par) in omega (arith, h)
  width-min f call (Some (chan.Sel sel)) = let h = total-min f (tries sel call) in omega (arith, h)
  width-min f call (Some (chan.Part part)) = refl

-- ---- the measures so far

before_or_at : (s n : ℕ) → s ≤ n → (s < n) ⊎ (s ≡ n)
before_or_at s n le = by (nat_lt s n) refl
  where
    by : (v : Bool) → nat_lt s n ≡ v → (s < n) ⊎ (s ≡ n)
    by true e = inl (grind (arith, nat_tests))
    by false e = let ge : n ≤ s = grind (arith, nat_tests) in inr (omega (arith, le, ge))

get-before : {X : Type 0} (xs ys : List X) (s : ℕ) → s < length xs → slice_get (xs ++ ys) s ≡ slice_get xs s
get-before [] ys s less = absurd (omega (arith, less))
get-before (x ∷ xs) ys zero less = refl
get-before (x ∷ xs) ys (suc s) less = get-before xs ys s (omega (arith, less))

get-last : {X : Type 0} (xs : List X) (y : X) (s : ℕ) → s ≡ length xs → slice_get (xs ++ y ∷ []) s ≡ Some y
get-last [] y zero e = refl
get-last [] y (suc s) e = absurd (omega (arith, e))
get-last (x ∷ xs) y zero e = absurd (omega (arith, e))
get-last (x ∷ xs) y (suc s) e = get-last xs y s (omega (arith, e))

module _ {M G : Type 0} (chans : List (Chan M G)) (call : ℕ) where
  pub length-measures : (n : ℕ) → length (measures chans call n) ≡ n
  length-measures zero = refl
  length-measures (suc n) = let h = length-measures n in let l = length-append (measures chans call n) (measure_at chans call n ∷ []) in omega (arith, h, l)

  at-measures : (n s : ℕ) → s < n → slice_get (measures chans call n) s ≡ Some (measure_at chans call s)
  at-measures zero s less = absurd (omega (arith, less))
  at-measures (suc n) s less = by s n less (length-measures n) (before_or_at s n (omega (arith, less))) (λ h. at-measures n s h)
    where
      by : (s n : ℕ) → s < suc n → length (measures chans call n) ≡ n → (s < n) ⊎ (s ≡ n) → (s < n → slice_get (measures chans call n) s ≡ Some (measure_at chans call s))
          → slice_get (measures chans call n ++ measure_at chans call n ∷ []) s ≡ Some (measure_at chans call s)
      by s n less l (inl before) again = get-before (measures chans call n) (measure_at chans call n ∷ []) s (omega (arith, before, l)) ∙ again before
      by s n less l (inr at) again = get-last (measures chans call n) (measure_at chans call n) s (omega (arith, at, l)) ∙ ap (λ k. Some (measure_at chans call k)) (sym at)

  pub measures-next : (n : ℕ) → measures chans call n ++ measure_at chans call n ∷ [] ≡ measures chans call (n + 1)
  measures-next n = ap (measures chans call) (let same : suc n ≡ n + 1 = omega arith in same)

  module _ (sound : AreSound 0 chans) where
    -- A channel that is measured from the measures of those before it.
    pub measured : (n : ℕ) (ms : List Measure) (c : Chan M G) (m : Measure) → ms ≡ measures chans call n → slice_get chans n ≡ Some c → m.depth ≡ min 9 (chan_depth (depth_in ms) (Some c))
        → m.missing ≡ chan_missing (missing_in ms) call (Some c)
        → m.width ≡ min 1025 (chan_width (width_in ms) call (Some c)) → IsMeasureOf chans call n m
    measured n ms c m before at d e w =
        let fit = subst (SoundIf n) at (sound-at 0 chans n n (omega arith) sound) in
        let there : (s : ℕ) → s < n → slice_get ms s ≡ Some (measure_at chans call s) = λ s less. ap (λ xs. slice_get xs s) before ∙ at-measures n s less in
        same-measure m (measure_at chans call n)
        (d ∙ ap (min 9) (depth-looks n (depth_in ms) (λ s. min 9 (depth chans s)) (Some c) fit (λ s less. ap depth_or (there s less))) ∙ depth-min (depth chans) (Some c)
        ∙ ap (min 9) (sym (depth-is chans n sound ∙ ap (chan_depth (depth chans)) at)))
        (e ∙ missing-looks call n (missing_in ms) (λ s. missing_part chans s call) (Some c) fit (λ s less. ap missing_or (there s less))
        ∙ sym (missing-is chans call n sound ∙ ap (chan_missing (λ s. missing_part chans s call) call) at))
        (w ∙ ap (min 1025) (width-looks call n (width_in ms) (λ s. min 1025 (width_of chans call s)) (Some c) fit (λ s less. ap width_or (there s less)))
        ∙ width-min (width_of chans call) call (Some c)
        ∙ ap (min 1025) (sym (width_of-is chans call n sound ∙ ap (chan_width (width_of chans call) call) at)))

    module _ (number : ℕ) (there : number < length chans) where
      pub too_wide : (m : Measure) → IsMeasureOf chans call number m → m.depth ≤ 8 → m.missing ≡ None → 1024 < m.width → IsRefused chans number call (TooWide 1025)
      too_wide m is shallow none wide =
          let p = plan-there chans call sound number there in
          let d = ap (λ (x : Measure). x.depth) is in
          let w = ap (λ (x : Measure). x.width) is in
          let same = p.2 in
          (omega (arith, d, shallow), sym (ap (λ (x : Measure). x.missing) is) ∙ none, refl, (p.0, p.1, omega (arith, w, wide, same)))

      pub narrow : (m : Measure) (q : Plan M G) → IsMeasureOf chans call number m → m.width ≤ 1024 → IsPlanOf chans number call q → width q ≤ 1024
      unfolding IsPlanOf
      narrow m q is few planned =
          let p = plan-there chans call sound number there in
          let w = ap (λ (x : Measure). x.width) is in
          let same = p.2 in
          let both : Some p.0 ≡ Some q = sym p.1 ∙ planned in
          let one : p.0 ≡ q = cc in
          subst (λ r. width r ≤ 1024) one (omega (arith, w, few, same))

      planned-is : (q : Plan M G) → IsPlanOf chans number call q → plan chans number call ≡ Some q
      unfolding IsPlanOf
      planned-is q planned = planned

      pub granted : (m : Measure) (q : Plan M G) → IsMeasureOf chans call number m → m.depth ≤ 8 → m.missing ≡ None → m.width ≤ 1024 → IsPlanOf chans number call q → IsGranted chans number call q
      granted m q is shallow none few planned =
          let d = ap (λ (x : Measure). x.depth) is in
          record { shallow = omega (arith, d, shallow); no_part_missing = sym (ap (λ (x : Measure). x.missing) is) ∙ none; planned = planned-is q planned; narrow = narrow m q is few planned }

-- A plain channel is measured by itself.
pub leaf-measured : {M G : Type 0} (chans : List (Chan M G)) (number call : ℕ) (leaf : LeafChan) (m : Measure) → slice_get chans number ≡ Some (chan.Leaf leaf) → m.depth ≡ 1
    → m.missing ≡ None → m.width ≡ min 1025 (leaf.retry + 2) → m ≡ measure_at chans call number
leaf-measured chans number call leaf m at d e w =
    same-measure m (measure_at chans call number) (rw at d) (rw at e) (rw at w)

-- A plan that is built is the channel's, and narrow where that is.
pub known_is : {M G : Type 0} (chans : List (Chan M G)) (number call : ℕ) (q : Plan M G) → IsPlanOf chans number call q → plan chans number call ≡ Some q
unfolding IsPlanOf
known_is chans number call q planned = planned

pub known_narrow : {M G : Type 0} (chans : List (Chan M G)) (number call : ℕ) (q : Plan M G) → IsPlanOf chans number call q → IsNarrow (plan chans number call) → width q ≤ 1024
unfolding IsPlanOf
known_narrow chans number call q planned narrow = subst IsNarrow planned narrow
