-- One more channel changes none of those before it.
use Rattle.std.proofs.Common.{◌≡◌, ℕ, zero, suc, ◌+◌, ◌<◌, List, [], ◌∷◌, ◌++◌, length, Some, arith, refl, ap, ◌∙◌, subst, slice_get}
use Rattle.rpc_model.specs.declared.chan.Chan.{Chan}
use Rattle.rpc_model.specs.Plan.{chan_plan, plan_within, plan}
use Rattle.rpc_model.specs.Faults.{chan_depth, depth_within, depth}
use Rattle.chan_tree.specs.Sound.{IsSound, AreSound}
use Rattle.chan_tree.proofs.Fuel.{SoundIf, sound-at, depth-looks, plan-looks, depth-is}

pub found-before : {X : Type 0} (xs : List X) (x : X) (i : ℕ) → i < length xs → slice_get (xs ++ x ∷ []) i ≡ slice_get xs i
found-before [] x i less = absurd (omega (arith, less))
found-before (y ∷ ys) x zero less = refl
found-before (y ∷ ys) x (suc i) less = found-before ys x i (omega (arith, less))

pub found-last : {X : Type 0} (xs : List X) (x : X) → slice_get (xs ++ x ∷ []) (length xs) ≡ Some x
found-last [] x = refl
found-last (y ∷ ys) x = found-last ys x

module _ {M G : Type 0} (chans : List (Chan M G)) (c : Chan M G) (sound : AreSound 0 chans) where
  fits : (n : ℕ) → SoundIf n (slice_get chans n)
  fits n = sound-at 0 chans n n (omega arith) sound

  plan-within-same : (call k n : ℕ) → n < length chans → plan_within k (chans ++ c ∷ []) call n ≡ plan_within k chans call n
  plan-within-same call zero n there = refl
  plan-within-same call (suc k) n there =
      ap (chan_plan (plan_within k (chans ++ c ∷ []) call) call) (found-before chans c n there)
      ∙ plan-looks call n (plan_within k (chans ++ c ∷ []) call) (plan_within k chans call) (slice_get chans n) (fits n) (λ s less. plan-within-same call k s (omega (arith, less, there)))

  pub same-plan : (n call : ℕ) → n < length chans → plan (chans ++ c ∷ []) n call ≡ plan chans n call
  same-plan n call there = plan-within-same call (suc n) n there

  depth-within-same : (k n : ℕ) → n < length chans → depth_within k (chans ++ c ∷ []) n ≡ depth_within k chans n
  depth-within-same zero n there = refl
  depth-within-same (suc k) n there =
      ap (chan_depth (depth_within k (chans ++ c ∷ []))) (found-before chans c n there)
      ∙ depth-looks n (depth_within k (chans ++ c ∷ [])) (depth_within k chans) (slice_get chans n) (fits n) (λ s less. depth-within-same k s (omega (arith, less, there)))

  pub same-depth : (n : ℕ) → n < length chans → depth (chans ++ c ∷ []) n ≡ depth chans n
  same-depth n there = depth-within-same (suc n) n there

  -- The depth of the one more.
  pub last-depth : AreSound 0 (chans ++ c ∷ []) → IsSound (length chans) c → depth (chans ++ c ∷ []) (length chans) ≡ chan_depth (depth chans) (Some c)
  last-depth all one =
      depth-is (chans ++ c ∷ []) (length chans) all ∙ ap (chan_depth (depth (chans ++ c ∷ []))) (found-last chans c)
      ∙ depth-looks (length chans) (depth (chans ++ c ∷ [])) (depth chans) (Some c) one (λ s less. same-depth s less)

-- They stay sound.
pub more-sound : {M G : Type 0} (first : ℕ) (chans : List (Chan M G)) (c : Chan M G) → AreSound first chans → IsSound (first + length chans) c → AreSound first (chans ++ c ∷ [])
more-sound first [] c h one = (let same : first + 0 ≡ first = omega arith in subst (λ n. IsSound n c) same one, tt)
more-sound first (d ∷ chans) c h one = (h.0, more-sound (suc first) chans c h.1 (let same : first + suc (length chans) ≡ suc first + length chans = omega arith in subst (λ n. IsSound n c) same one))

pub sound-push : {M G : Type 0} (chans : List (Chan M G)) (c : Chan M G) → AreSound 0 chans → IsSound (length chans) c → AreSound 0 (chans ++ c ∷ [])
sound-push chans c sound one = more-sound 0 chans c sound (let same : length chans ≡ 0 + length chans = omega arith in subst (λ n. IsSound n c) same one)
