-- The attempts of one node among those of several.
use Rattle.std.proofs.Common.{◌≡◌, ℕ, zero, suc, ◌+◌, ◌<◌, ◌≤◌, List, [], ◌∷◌, length, get_or, drop, arith, refl, add-one}
use Rattle.std.proofs.Math.Seq.{drop-cons}
use Rattle.rpc_model.specs.State.{State, size, size_of, attempts, attempts_of}
use Rattle.call_tree.specs.Shown.{states_of}
use Rattle.call_tree.specs.Weights.{possible, possible_of}

module _ {M G : Type 0} where
  pub kid-small : (ss : List (State M G)) (i : ℕ) (d : State M G) → i < length ss → size (get_or ss i d) ≤ size_of (states_of ss)
  kid-small [] i d less = absurd (omega (arith, less))
  kid-small (s ∷ ss) zero d less = omega arith
  kid-small (s ∷ ss) (suc i) d less = let h = kid-small ss i d (omega (arith, less)) in omega (arith, h)

  pub attempts-drop : (ss : List (State M G)) (i : ℕ) (d : State M G) → i < length ss → attempts_of (states_of (drop i ss)) ≡ attempts (get_or ss i d) + attempts_of (states_of (drop (i + 1) ss))
  attempts-drop ss i d less = rw (add-one, drop-cons ss i d less) refl

  pub possible-drop : (ss : List (State M G)) (i : ℕ) (d : State M G) → i < length ss → possible_of (states_of (drop i ss)) ≡ possible (get_or ss i d) + possible_of (states_of (drop (i + 1) ss))
  possible-drop ss i d less = rw (add-one, drop-cons ss i d less) refl
