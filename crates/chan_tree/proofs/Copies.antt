-- One of several trees has no more nodes than all of them.
use Rattle.std.proofs.Common.{◌≡◌, ℕ, zero, suc, ◌+◌, ◌<◌, ◌≤◌, List, [], ◌∷◌, length, get_or, drop, arith, refl, add-one}
use Rattle.std.proofs.Math.Seq.{drop-cons}
use Rattle.rpc_model.specs.Plan.{Plan}
use Rattle.rpc_model.specs.Versions.{nodes, nodes_of}
use Rattle.chan_tree.specs.Shown.{plans_of}

module _ {M G : Type 0} where
  pub kid-small : (ts : List (Plan M G)) (i : ℕ) (d : Plan M G) → i < length ts → nodes (get_or ts i d) ≤ nodes_of (plans_of ts)
  kid-small [] i d less = absurd (omega (arith, less))
  kid-small (t ∷ ts) zero d less = omega arith
  kid-small (t ∷ ts) (suc i) d less = let h = kid-small ts i d (omega (arith, less)) in omega (arith, h)

  pub nodes-drop : (ts : List (Plan M G)) (i : ℕ) (d : Plan M G) → i < length ts → nodes_of (plans_of (drop i ts)) ≡ nodes (get_or ts i d) + nodes_of (plans_of (drop (i + 1) ts))
  nodes-drop ts i d less = rw (add-one, drop-cons ts i d less) refl
