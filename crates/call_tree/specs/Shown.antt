-- The state that the code's nodes stand for, and what they keep beside it.
use Rattle.std.specs.Prelude.{◌≡◌, List, [], ◌∷◌, Option, None, Some}
use Rattle.std.specs.Arc.{arc_value}
use Rattle.rpc_model.specs.declared.event.End.{End}
use Rattle.rpc_model.specs.Leaf.{Leaf}
use Rattle.call_leaf.specs.Keeps.{Kept}
use Rattle.rpc_model.specs.Parallel.{goods, bads}
use Rattle.rpc_model.specs.State as spec
use Rattle.call_tree.specs.declared.nodes.Node.{Node}
use Rattle.call_tree.specs.declared.nodes.Node.TheVariants as node
use Rattle.call_tree.specs.declared.nodes.LeafNode.{LeafNode}
use Rattle.call_tree.specs.declared.nodes.ParNode.{ParNode}
use Rattle.call_tree.specs.declared.nodes.SelNode.{SelNode}
use Rattle.call_tree.specs.Counts.{IsOpen, limits_of}
use Rattle.call_tree.specs.Places.{firsts}

-- the leaf that this end or none belongs to
abbrev pub leaf_with : Kept → Option End → Leaf
leaf_with kept end = record { issued = kept.issued; current = kept.current; older = kept.older; backed_up = kept.backed_up; end = end }

-- a leaf without an end has no outcome
abbrev pub IsOpenLeaf : {X : Type 0} → Option End → Option X → Type 0
IsOpenLeaf None outcome = outcome ≡ None
IsOpenLeaf (Some end) outcome = Unit {0}

-- the leaf may retry as often as its channel says, and has no outcome while it has no end
pub record IsLeafNode (l : LeafNode) : Type 0 where
  pub retry : l.leaf.retry ≡ (arc_value l.chan).retry
  pub open_ : IsOpenLeaf l.end l.leaf.outcome

module _ {M G : Type 0} where
  abbrev pub states_of : List (spec.State M G) → spec.States M G
  states_of [] = spec.last_state
  states_of (s ∷ ss) = spec.state_then s (states_of ss)

  abbrev pub state_of : Node M G → spec.State M G
  state_of (node.Waits plan) = spec.waits plan
  state_of (node.Leaf l) = spec.leaf_state (arc_value l.chan) l.request (leaf_with l.leaf l.end)
  state_of (node.Par p) = spec.par_state (record { limits = limits_of p.counts; merges = p.merges; end = p.end }) (states_of p.kids.items)
  state_of (node.Sel p) = spec.sel_state (record { request = p.request; end = p.end }) (states_of p.kids.items)

  -- the counts are those of the subs' ends, and the places are those where the subs begin
  pub record IsParNode (p : ParNode M G) : Type 0 where
    pub open_ : IsOpen p.counts p.end
    pub goods : p.counts.goods ≡ goods (spec.ends_of (states_of p.kids.items))
    pub bads : p.counts.bads ≡ bads (spec.ends_of (states_of p.kids.items))
    pub places : p.firsts.items ≡ firsts 1 (states_of p.kids.items)

  -- the places are those where the tries begin
  pub record IsSelNode (p : SelNode M G) : Type 0 where
    pub places : p.firsts.items ≡ firsts 1 (states_of p.kids.items)

  abbrev pub IsSound : Node M G → Type 0
  IsSound (node.Waits plan) = Unit {0}
  IsSound (node.Leaf l) = IsLeafNode l
  IsSound (node.Par p) = IsParNode p
  IsSound (node.Sel p) = IsSelNode p
