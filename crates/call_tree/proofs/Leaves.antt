-- What an event does at a leaf without an end.
use Rattle.std.proofs.Common.{◌≡◌, ℕ, true, false, cond, ◌==◌, Option, Some, None, arith, refl, ap, sym, ◌∙◌}
use Rattle.std.proofs.lemmas.Bool.Decides.{nat_tests}
use Rattle.std.specs.Option.{is_some}
use Rattle.std.specs.Arc.{arc_value}
use Rattle.rpc_model.specs.declared.event.End.{End}
use Rattle.rpc_model.specs.declared.event.Event.{Event}
use Rattle.rpc_model.specs.Leaf.{leaf_step}
use Rattle.rpc_model.specs.Kinds.{Kinds}
use Rattle.rpc_model.specs.State.{State, leaf_state, end_of, quiet}
use Rattle.rpc_model.specs.Machine.{node_of, new_end, step_at, leaf_run}
use Rattle.call_tree.specs.declared.nodes.Node.{Node}
use Rattle.call_tree.specs.declared.nodes.Node.TheVariants as node
use Rattle.call_tree.specs.declared.nodes.LeafNode.{LeafNode}
use Rattle.call_tree.specs.Shown.{leaf_with, state_of}

pub none-end : (o : Option End) → false ≡ is_some o → o ≡ None
none-end None e = refl
none-end (Some end) e = absurd (cc)

pub same-number : (a b : ℕ) → a ≡ b → (a == b) ≡ true
same-number a b e = grind (arith, nat_tests)

module _ {M G : Type 0} (kinds : Kinds M G) where
  -- what is decided of the whole node is decided of its leaf
  pub leaf-decided : (n : Node M G) (l : LeafNode) (self : State M G) (number : ℕ) (e : Event) (end : Option End) (call moment : ℕ) → state_of n ≡ self → n ≡ node.Leaf l → l.end ≡ None
      → node_of e ≡ number
      → end ≡ new_end (end_of self) (end_of (step_at kinds number self call e moment).state) → end ≡ (leaf_step (arc_value l.chan).retry (leaf_with l.leaf l.end) e).end
  leaf-decided n l self number e end call moment view is open_ at decided =
      let leaf = leaf_with l.leaf l.end in
      let shown : self ≡ leaf_state (arc_value l.chan) l.request leaf = sym view ∙ ap state_of is in
      let now = leaf_step (arc_value l.chan).retry leaf e in
      decided
      ∙ ap (λ s. new_end (end_of s) (end_of (step_at kinds number s call e moment).state)) shown
      ∙ ap (λ b. new_end l.end (end_of (cond b (leaf_run (arc_value l.chan) call number l.request leaf now) (quiet {M = M} {G = G} (leaf_state (arc_value l.chan) l.request leaf))).state))
      (same-number (node_of e) number at)
      ∙ ap (λ o. new_end o now.end) open_
