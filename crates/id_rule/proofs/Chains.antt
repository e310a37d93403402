-- Chains of nodes, when a word changes and when a node is pushed or taken.
use Rattle.std.proofs.Common.{◌≡◌, ◌≢◌, ℕ, ◌+◌, ◌<◌, ◌≤◌, eq-eqb, ne_eqb, List, [], ◌∷◌, length, set, refl, sym, ap, ◌∙◌, arith}
use Rattle.std.specs.Prelude.{◌==◌, if◌then◌else◌}
use mathlib.Core.Option.{some}
use lib.ListN.{get_elem?}
use Rattle.atomic_table.proofs.Lists.{set_else}
use Rattle.id_rule.specs.declared.view.Queued.{Queued}
use Rattle.id_rule.specs.Nodes.{Place, idle, in_hand, in_queue, on_list, node_word, head_of, word_at, IsLinked, ArePlaced}

-- a word of a slot is no node's
pub linked_slot : (slots i n : ℕ) (ws : List ℕ) (qs : List Queued) → i < slots → IsLinked slots ws qs → IsLinked slots (set ws i n) qs
linked_slot slots i n ws [] low all = tt
linked_slot slots i n ws (q ∷ qs) low all = (
  all.0,
  set_else ws i (word_at slots q.node) n (λ e. omega arith) ∙ all.1,
  set_else ws i (word_at slots q.node + 1) n (λ e. omega arith)
      ∙ all.2,
  linked_slot slots i n ws qs low all.3,
)

-- a word of a node that is placed elsewhere is none of this chain's
pub linked_node : (slots m k n : ℕ) (ws : List ℕ) (place here : ℕ → Place) (qs : List Queued) → 1 ≤ m → k < 2 → ((j : ℕ) → place m ≢ here j) → ArePlaced place here qs → IsLinked slots ws qs
    → IsLinked slots (set ws (word_at slots m + k) n) qs
linked_node slots m k n ws place here [] some_node low away placed all = tt
linked_node slots m k n ws place here (q ∷ qs) some_node low away placed all =
    let ne : q.node ≢ m = λ e. away (length qs) (ap place (sym e) ∙ placed.0) in
    let one = all.0 in (
      all.0,
      set_else ws (word_at slots m + k) (word_at slots q.node) n (λ e. ne (omega arith)) ∙ all.1,
      set_else ws (word_at slots m + k) (word_at slots q.node + 1) n (λ e. ne (omega arith)) ∙ all.2,
      linked_node slots m k n ws place here qs some_node low away placed.1 all.3,
    )

-- another place of one node
abbrev pub moved : (ℕ → Place) → ℕ → Place → ℕ → Place
moved place m to n = if n == m then to else place n

-- a chain doesn't mind where a node goes that isn't in it
pub placed_else : (place here : ℕ → Place) (m : ℕ) (to : Place) (qs : List Queued) → ((j : ℕ) → place m ≢ here j) → ArePlaced place here qs → ArePlaced (moved place m to) here qs
placed_else place here m to [] away all = tt
placed_else place here m to (q ∷ qs) away all = (
  ap (λ b. if b then to else place q.node) (ne_eqb q.node m (λ e. away (length qs) (ap place (sym e) ∙ all.0)))
      ∙ all.0,
  placed_else place here m to qs away all.1,
)

-- a node in hand that names the head joins the chain at its head
pub pushed : (slots slot by : ℕ) (ws : List ℕ) (place : ℕ → Place) (q : Queued) (qs : List Queued) → 1 ≤ q.node → place q.node ≡ in_hand by
    → get_elem? ws (word_at slots q.node) ≡ some (node_word (head_of qs) q.offset q.code) → get_elem? ws (word_at slots q.node + 1) ≡ some q.receipt.number
    → ArePlaced place (in_queue slot) qs → IsLinked slots ws qs → ArePlaced (moved place q.node (in_queue slot (length qs))) (in_queue slot) (q ∷ qs) × IsLinked slots ws (q ∷ qs)
pushed slots slot by ws place q qs some_node held first second placed linked = (
  (
    ap (λ b. if b then in_queue slot (length qs) else place q.node) (eq-eqb q.node q.node refl),
    placed_else place (in_queue slot) q.node (in_queue slot (length qs)) qs (λ j e. absurd (apart by slot j (sym held ∙ e))) placed,
  ),
  (some_node, first, second, linked),
)
  where
    apart : (by slot j : ℕ) → in_hand by ≡ in_queue slot j → ⊥
    apart by slot j e = absurd (cc)

-- the nodes of one slot's chain go to a holder's list, all at once
abbrev pub shifted : ℕ → ℕ → Place → Place
shifted slot by idle = idle
shifted slot by (in_hand k) = in_hand k
shifted slot by (in_queue s j) = if s == slot then on_list by j else in_queue s j
shifted slot by (on_list k j) = on_list k j

-- the taken nodes are placed on the list
pub took : (slot by : ℕ) (place : ℕ → Place) (qs : List Queued) → ArePlaced place (in_queue slot) qs → ArePlaced (λ n. shifted slot by (place n)) (on_list by) qs
took slot by place [] all = tt
took slot by place (q ∷ qs) all = (ap (shifted slot by) all.0 ∙ ap (λ b. if b then on_list by (length qs) else in_queue slot (length qs)) (eq-eqb slot slot refl), took slot by place qs all.1)

-- another slot's chain stays placed
pub took_else : (slot other by : ℕ) (place : ℕ → Place) (qs : List Queued) → other ≢ slot → ArePlaced place (in_queue other) qs → ArePlaced (λ n. shifted slot by (place n)) (in_queue other) qs
took_else slot other by place [] ne all = tt
took_else slot other by place (q ∷ qs) ne all = (
  ap (shifted slot by) all.0 ∙ ap (λ b. if b then on_list by (length qs) else in_queue other (length qs)) (ne_eqb other slot ne),
  took_else slot other by place qs ne all.1,
)
