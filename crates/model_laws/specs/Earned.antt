-- What a good end needs: a reply of code 0 to an attempt that was live then. This project's own choice.
use Rattle.std.specs.Prelude.{◌≡◌, ℕ, ◌+◌, ◌⊎◌, true, List, [], ◌∷◌, Option, None, Some}
use Rattle.rpc_model.specs.declared.event.End.{End}
use Rattle.rpc_model.specs.declared.event.End.TheVariants.{Good, Bad}
use Rattle.rpc_model.specs.declared.event.Event.{Event}
use Rattle.rpc_model.specs.declared.event.Event.TheVariants.{Reply, Lost, Backup, Deadline, Cancel}
use Rattle.rpc_model.specs.Leaf.{Leaf, is_live}
use Rattle.rpc_model.specs.Kinds.{Kinds}
use Rattle.rpc_model.specs.Plan.{Plan}
use Rattle.rpc_model.specs.State.{State, waits, leaf_state, par_state, sel_state, States, last_state, state_then, size, end_of}
use Rattle.rpc_model.specs.Machine.{start, step, machine}
use Rattle.model_laws.specs.Paths.{node_at}

abbrev pub IsGood : Option End → Type 0
IsGood None = ⊥
IsGood (Some (Good text)) = Unit {0}
IsGood (Some (Bad code)) = ⊥

-- the event is a reply of code 0 to a live attempt of the leaf of this number
abbrev pub AnswersLeaf : ℕ → Leaf → Event → Type 0
AnswersLeaf node leaf (Reply n attempt code text) = (n ≡ node) × (code ≡ 0) × (is_live leaf attempt ≡ true)
AnswersLeaf node leaf (Lost n attempt code) = ⊥
AnswersLeaf node leaf (Backup n) = ⊥
AnswersLeaf node leaf (Deadline n) = ⊥
AnswersLeaf node leaf Cancel = ⊥

module _ {M G : Type 0} where
  -- it is that for a leaf at this node or below it, and no node above the leaf has an end
  abbrev mutual
    pub Answers : ℕ → State M G → Event → Type 0
    Answers node (waits plan) event = ⊥
    Answers node (leaf_state chan request leaf) event = AnswersLeaf node leaf event
    Answers node (par_state par states) event = (par.end ≡ None) × AnswersOneOf (node + 1) states event
    Answers node (sel_state sel states) event = (sel.end ≡ None) × AnswersOneOf (node + 1) states event

    pub AnswersOneOf : ℕ → States M G → Event → Type 0
    AnswersOneOf node last_state event = ⊥
    AnswersOneOf node (state_then state states) event = Answers node state event ⊎ AnswersOneOf (node + size state) states event

module _ {M G : Type 0} where
  -- a leaf at this node or below it has a text as its end
  abbrev mutual
    pub HasGoodLeaf : State M G → Type 0
    HasGoodLeaf (waits plan) = ⊥
    HasGoodLeaf (leaf_state chan request leaf) = IsGood leaf.end
    HasGoodLeaf (par_state par states) = HaveGoodLeaf states
    HasGoodLeaf (sel_state sel states) = HaveGoodLeaf states

    pub HaveGoodLeaf : States M G → Type 0
    HaveGoodLeaf last_state = ⊥
    HaveGoodLeaf (state_then state states) = HasGoodLeaf state ⊎ HaveGoodLeaf states

module _ {M G : Type 0} (kinds : Kinds M G) where
  -- one of these events is, in the state in which it is taken
  abbrev pub HasLiveReply : ℕ → State M G → List (Event × ℕ) → Type 0
  HasLiveReply call state [] = ⊥
  HasLiveReply call state (timed ∷ events) = Answers 0 state timed.0 ⊎ HasLiveReply call (step kinds call state timed.0 timed.1).state events

  -- A call ends with a text only if a reply of code 0 came to an attempt that was live then.
  abbrev pub GoodEndsNeedALiveReply : Type 0
  GoodEndsNeedALiveReply = (plan : Plan M G) (call : ℕ) (request : List ℕ) (begun : ℕ) (events : List (Event × ℕ))
      → IsGood (end_of (machine kinds plan call request begun events).state) → HasLiveReply call (start kinds plan call request begun).state events

  -- A node that has a text as its end, wherever it is in the tree, has a leaf at it or below it that has one.
  abbrev pub GoodNodesHaveAGoodLeaf : Type 0
  GoodNodesHaveAGoodLeaf = (path : List ℕ) (plan : Plan M G) (call : ℕ) (request : List ℕ) (begun : ℕ) (events : List (Event × ℕ)) (node : State M G)
      → node_at path (machine kinds plan call request begun events).state ≡ Some node → IsGood (end_of node) → HasGoodLeaf node
