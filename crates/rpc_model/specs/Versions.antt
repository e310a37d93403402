-- The versions of a call's range of ids, after bthread_id: one for each node of its plan, and one for each attempt that its leaves may issue. This project's own choice.
use Rattle.std.specs.Prelude.{ℕ, zero, suc, ◌+◌, Bool, false, ◌==◌, ◌&&◌, List, [], ◌∷◌, ◌++◌, length, position, slice_get, Option, None, Some, if◌then◌else◌}
use Rattle.rpc_model.specs.declared.chan.LeafChan.{LeafChan}
use Rattle.rpc_model.specs.declared.meaning.Meaning.{Meaning}
use Rattle.rpc_model.specs.declared.meaning.Meaning.TheVariants.{Node, Attempt}
use Rattle.rpc_model.specs.Plan.{Plan, leaf_plan, par_plan, sel_plan, Plans, last_plan, plan_then}

-- so many nodes from this one on
abbrev pub node_versions : ℕ → ℕ → List Meaning
node_versions node zero = []
node_versions node (suc count) = Node node ∷ node_versions (node + 1) count

-- so many attempts of a leaf from this one on
abbrev pub leaf_versions : ℕ → ℕ → ℕ → List Meaning
leaf_versions node attempt zero = []
leaf_versions node attempt (suc count) = Attempt node attempt ∷ leaf_versions node (attempt + 1) count

abbrev pub is_same : Meaning → Meaning → Bool
is_same (Node n) (Node node) = n == node
is_same (Node n) (Attempt node attempt) = false
is_same (Attempt n k) (Node node) = false
is_same (Attempt n k) (Attempt node attempt) = n == node && k == attempt

abbrev pub or_leaf : Option LeafChan → Option LeafChan → Option LeafChan
or_leaf None later = later
or_leaf (Some leaf) later = Some leaf

module _ {M G : Type 0} where
  -- how many nodes
  abbrev mutual
    pub nodes : Plan M G → ℕ
    nodes (leaf_plan leaf) = 1
    nodes (par_plan rule plans) = 1 + nodes_of plans
    nodes (sel_plan timeout plans) = 1 + nodes_of plans

    pub nodes_of : Plans M G → ℕ
    nodes_of last_plan = 0
    nodes_of (plan_then plan plans) = nodes plan + nodes_of plans

  -- how many attempts the leaves may issue together
  abbrev mutual
    pub possible_attempts : Plan M G → ℕ
    possible_attempts (leaf_plan leaf) = leaf.retry + 1
    possible_attempts (par_plan rule plans) = possible_attempts_of plans
    possible_attempts (sel_plan timeout plans) = possible_attempts_of plans

    pub possible_attempts_of : Plans M G → ℕ
    possible_attempts_of last_plan = 0
    possible_attempts_of (plan_then plan plans) = possible_attempts plan + possible_attempts_of plans

  -- the attempts of each leaf in preorder, where the plan's root has this number
  abbrev mutual
    pub attempt_versions : ℕ → Plan M G → List Meaning
    attempt_versions node (leaf_plan leaf) = leaf_versions node 0 (leaf.retry + 1)
    attempt_versions node (par_plan rule plans) = attempt_versions_of (node + 1) plans
    attempt_versions node (sel_plan timeout plans) = attempt_versions_of (node + 1) plans

    pub attempt_versions_of : ℕ → Plans M G → List Meaning
    attempt_versions_of node last_plan = []
    attempt_versions_of node (plan_then plan plans) = attempt_versions node plan ++ attempt_versions_of (node + nodes plan) plans

  -- one for each node by its number, and then one for each attempt of each leaf in preorder
  unfoldable pub versions : Plan M G → List Meaning
  versions plan = node_versions 0 (nodes plan) ++ attempt_versions 0 plan

  unfoldable pub width : Plan M G → ℕ
  width plan = length (versions plan)

  -- an offset is a place among the versions
  unfoldable pub offset_of : Plan M G → Meaning → Option ℕ
  offset_of plan meaning = position (is_same meaning) (versions plan)

  unfoldable pub meaning_of : Plan M G → ℕ → Option Meaning
  meaning_of plan offset = slice_get (versions plan) offset

  -- ---- the leaf of a number

  abbrev mutual
    -- the leaf of this number, where the plan's root has the number before it
    pub leaf_at : ℕ → Plan M G → ℕ → Option LeafChan
    leaf_at node (leaf_plan leaf) wanted = if node == wanted then Some leaf else None
    leaf_at node (par_plan rule plans) wanted = leaf_at_of (node + 1) plans wanted
    leaf_at node (sel_plan timeout plans) wanted = leaf_at_of (node + 1) plans wanted

    pub leaf_at_of : ℕ → Plans M G → ℕ → Option LeafChan
    leaf_at_of node last_plan wanted = None
    leaf_at_of node (plan_then plan plans) wanted = or_leaf (leaf_at node plan wanted) (leaf_at_of (node + nodes plan) plans wanted)
