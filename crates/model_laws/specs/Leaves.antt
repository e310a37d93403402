-- What holds of each leaf of a call that was started. This project's own choice.
use Rattle.rpc_model.specs.declared.chan.LeafChan.{LeafChan}
use Rattle.rpc_model.specs.Leaf.{Leaf}
use Rattle.rpc_model.specs.State.{State, waits, leaf_state, par_state, sel_state, States, last_state, state_then}

module _ {M G : Type 0} where
  abbrev mutual
    pub EachLeaf : (LeafChan → Leaf → Type 0) → State M G → Type 0
    EachLeaf P (waits plan) = Unit {0}
    EachLeaf P (leaf_state chan request leaf) = P chan leaf
    EachLeaf P (par_state par states) = EachLeafOf P states
    EachLeaf P (sel_state sel states) = EachLeafOf P states

    pub EachLeafOf : (LeafChan → Leaf → Type 0) → States M G → Type 0
    EachLeafOf P last_state = Unit {0}
    EachLeafOf P (state_then state states) = EachLeaf P state × EachLeafOf P states
