-- A node that has a text as its end has a leaf at it or below it that has one.
use Rattle.std.proofs.Common.{ℕ, zero, suc, List, [], ◌∷◌, Option, Some, None, subst}
use Rattle.rpc_model.specs.Kinds.{Kinds}
use Rattle.rpc_model.specs.State.{State, waits, leaf_state, par_state, sel_state, States, last_state, state_then}
use Rattle.rpc_model.specs.Machine.{machine}
use Rattle.model_laws.specs.Paths.{plans_below, children, child, in_child, node_at}
use Rattle.model_laws.specs.Earned.{GoodNodesHaveAGoodLeaf}
use Rattle.model_laws.proofs.Earned.{IsEarned, AreEarned, earned-end, waiting-earned, machine-earned}

module _ {M G : Type 0} (kinds : Kinds M G) where
  -- what is below a node, and so what is at the end of a path, is earned as the node is
  earned-below : (state : State M G) → IsEarned kinds state → AreEarned kinds (children state)
  earned-below (waits plan) h = waiting-earned kinds (plans_below plan)
  earned-below (leaf_state chan request leaf) h = tt
  earned-below (par_state par states) h = h.2
  earned-below (sel_state sel states) h = h.1

  abbrev EarnedIf : Option (State M G) → Type 0
  EarnedIf None = Unit {0}
  EarnedIf (Some state) = IsEarned kinds state

  earned-child : (k : ℕ) (states : States M G) → AreEarned kinds states → EarnedIf (child k states)
  earned-child k last_state h = tt
  earned-child zero (state_then state states) h = h.0
  earned-child (suc k) (state_then state states) h = earned-child k states h.1

  earned-in : (path : List ℕ) (o : Option (State M G)) → EarnedIf o → ((state : State M G) → IsEarned kinds state → EarnedIf (node_at path state)) → EarnedIf (in_child (node_at path) o)
  earned-in path None h again = tt
  earned-in path (Some state) h again = again state h

  earned-at : (path : List ℕ) (state : State M G) → IsEarned kinds state → EarnedIf (node_at path state)
  earned-at [] state h = h
  earned-at (k ∷ path) state h = earned-in path (child k (children state)) (earned-child k (children state) (earned-below state h)) (λ s hs. earned-at path s hs)

  pub good-nodes : GoodNodesHaveAGoodLeaf kinds
  good-nodes path plan call request begun events node is good =
      earned-end kinds node (subst EarnedIf is (earned-at path (machine kinds plan call request begun events).state (machine-earned kinds plan call request begun events))) good
