-- What the rule says of a chain that is taken: how many nodes it has, and in which order its receipts are.
use Rattle.std.proofs.Common.{◌≡◌, ◌≢◌, ℕ, suc, ◌+◌, ◌-◌, ◌*◌, ◌<◌, ◌≤◌, ne_eqb, Bool, true, false, true≢false, List, [], ◌∷◌, ◌++◌, length, refl, sym, ap, ◌∙◌, subst, arith, Option, Some, None}
use Rattle.std.specs.Prelude.{◌==◌, ◌||◌, if◌then◌else◌, reverse}
use Rattle.std.specs.List.{IsDistinct, AllByRecursion, list_any}
use Rattle.std.proofs.lemmas.Map.Keys.{IsDistinct-cons}
use Rattle.std.proofs.lemmas.Map.Steps.{length-le_from_distinct_below}
use Rattle.std.proofs.lemmas.Option.{same_Some}
use mathlib.Core.Logic.{dite}
use mathlib.Core.Option.{some}
use native.Mathlib.Decide.{ℕ_discrete, dec_le}
use lib.ListN.{get_elem?}
use Rattle.atomic_table.specs.Table.{State}
use Rattle.id_rule.specs.Nodes.{Place, idle, in_hand, in_queue, on_list, IsLinked, ArePlaced, pass_of_node, receipts_of, numbers_of}
use Rattle.id_rule.specs.Receipts.{History, IsRising, occurrences, receipts_in}
use Rattle.id_rule.specs.Parts.{part_of, AreAll}
use Rattle.id_rule.specs.Phases.{Range, locked}
use Rattle.id_rule.specs.Rule.{IsTold, IsSlot, IsKept}
use Rattle.id_rule.specs.Steps.{IsChainOf}
use Rattle.id_rule.specs.declared.rule.Sizes.{Sizes}
use Rattle.id_rule.specs.declared.view.Queued.{Queued}
use Rattle.id_rule.specs.declared.view.Receipt.{Receipt}
use Rattle.id_rule.specs.declared.view.Turn.{Turn}
use Rattle.id_rule.specs.declared.view.View.{View}
use Rattle.id_rule.proofs.Lists.{yes_if, bare}
use Rattle.id_rule.proofs.Receipts.{rising_after}

-- the nodes of a chain, counted from 0 on
abbrev indices : List Queued → List ℕ
indices [] = []
indices (q ∷ qs) = (q.node - 1) ∷ indices qs

-- the place in a slot's chain
abbrev depth : Place → ℕ
depth idle = 0
depth (in_hand by) = 0
depth (in_queue s j) = j
depth (on_list by j) = 0

module _ (slots slot most : ℕ) (words : List ℕ) (place : ℕ → Place) (beyond : (m : ℕ) → most < m → place m ≡ idle) where
  -- a node of the chain is one of the table's
  node_low : (node j : ℕ) → place node ≡ in_queue slot j → node ≤ most
  node_low node j at = dite (dec_le node most) (λ few. few) (λ more. absurd (apart (sym at ∙ beyond node (omega (arith, more)))))
    where
      apart : in_queue slot j ≡ idle → ⊥
      apart e = absurd (cc)

  -- each node of the chain is
  nodes_low : (qs : List Queued) → IsLinked slots words qs → ArePlaced place (in_queue slot) qs → AreAll (λ q. (1 ≤ q.node) × (q.node ≤ most)) qs
  nodes_low [] linked placed = tt
  nodes_low (q ∷ qs) linked placed = ((linked.0, node_low q.node (length qs) placed.0), nodes_low qs linked.3 placed.1)

  -- a node that stands deeper than all others isn't one of them
  index_apart : (node : ℕ) (qs : List Queued) → 1 ≤ node → ((j : ℕ) → j < length qs → place node ≢ in_queue slot j) → IsLinked slots words qs → ArePlaced place (in_queue slot) qs
      → AllByRecursion (λ y. ((node - 1) == y) ≡ false) (indices qs)
  index_apart node [] one away linked placed = tt
  index_apart node (q ∷ qs) one away linked placed = (
    ne_eqb (node - 1) (q.node - 1) (λ e. let low = linked.0 in away (length qs) (omega arith) (ap place (omega (arith, e, low, one)) ∙ placed.0)),
    index_apart node qs one (λ j less. away j (omega (arith, less))) linked.3 placed.1,
  )

  -- no node stands twice in the chain
  indices_distinct : (qs : List Queued) → IsLinked slots words qs → ArePlaced place (in_queue slot) qs → IsDistinct (λ x y. x == y) (indices qs)
  unfolding IsDistinct
  indices_distinct [] linked placed = tt
  indices_distinct (q ∷ qs) linked placed = IsDistinct-cons (λ x y. x == y) (q.node - 1) (indices qs)
      (index_apart q.node qs linked.0 (λ j less e. let same : length qs ≡ j = ap depth (sym placed.0 ∙ e) in absurd (omega (arith, less, same))) linked.3 placed.1)
      (indices_distinct qs linked.3 placed.1)

  -- each index is below the number of nodes
  indices_low : (qs : List Queued) → IsLinked slots words qs → ArePlaced place (in_queue slot) qs → (x : ℕ) → list_any (λ y. x == y) (indices qs) ≡ true → x < most
  indices_low [] linked placed x has = absurd (true≢false (sym has))
  indices_low (q ∷ qs) linked placed x has = dite (ℕ_discrete x (q.node - 1))
      (λ same. let low = node_low q.node (length qs) placed.0 in let one = linked.0 in omega (arith, same, low, one))
      (λ ne. indices_low qs linked.3 placed.1 x (sym (ap (λ b. b || list_any (λ y. x == y) (indices qs)) (ne_eqb x (q.node - 1) ne)) ∙ has))

  -- as many indices as nodes
  indices_long : (qs : List Queued) → length (indices qs) ≡ length qs
  indices_long [] = refl
  indices_long (q ∷ qs) = ap suc (indices_long qs)

  -- the chain has no more nodes than the table
  pub few_nodes : (qs : List Queued) → IsLinked slots words qs → ArePlaced place (in_queue slot) qs → length qs ≤ most
  few_nodes qs linked placed =
      let few = length-le_from_distinct_below (indices qs) most (indices_distinct qs linked placed) (indices_low qs linked placed) in
      let long = indices_long qs in omega (arith, few, long)

-- numbers that rise behind a list are above each of the list
pub rising_above : (least n : ℕ) (ns ms : List ℕ) → IsRising least (ns ++ ms) → 1 ≤ occurrences n ns → IsRising (n + 1) ms
rising_above least n [] ms all has = absurd (omega (arith, has))
rising_above least n (x ∷ ns) ms all has = dite (ℕ_discrete x n)
    (λ same. rising_after (n + 1) ns ms (subst (λ (z : ℕ). IsRising (z + 1) (ns ++ ms)) same all.1))
    (λ ne. rising_above (x + 1) n ns ms all.1 (let h = subst (λ (b : Bool). 1 ≤ (if b then 1 else 0) + occurrences n ns) (ne_eqb x n ne) has in omega (arith, h)))

module _ {T E : Type 0} (log : T → List E) (first_id : T → ℕ) (rec : E → Option Receipt) where
  -- what the holder is told of the chain that it takes
  pub chain_told : (sizes : Sizes) (s : State (Option T) (View E)) (id i size : ℕ) (v : View E) (rg : Range) (l : Turn E) (qs : List Queued) (got : List Receipt)
      → (kept : IsKept log first_id rec sizes s) → get_elem? s.views id ≡ some v
      → IsSlot log first_id rec sizes.slots kept.place i s.words s.homes s.views (locked rg id l qs got) → IsTold log rec kept.history i (locked rg id l qs got)
      → v.width ≡ sizes.nodes → v.total ≡ sizes.passes * sizes.nodes → size ≡ rg.size → IsChainOf rec v i size qs
  chain_told sizes s id i size v rg l qs got kept at ok told width total as_many =
      let g : History E = kept.history in
      let fit = ok.fits id v at in
      let most : ℕ = sizes.passes * sizes.nodes in
      let same_got : (part_of v i).got ≡ got = fit.got ∙ yes_if id id got bare refl in
      let all : (a : ℕ) → IsRising 0 ((told.0 a).0 ++ numbers_of a ((part_of v i).got ++ reverse (receipts_of qs))) = λ a.
      subst (IsRising 0) ((told.0 a).1 ∙ ap (λ z. (told.0 a).0 ++ numbers_of a (z ++ reverse (receipts_of qs))) (sym same_got)) (kept.rise i rg.first a).0 in
      record {
        nodes = subst (λ (z : ℕ). AreAll (λ q. (1 ≤ q.node) × (q.node ≤ z)) qs) (sym total) (nodes_low sizes.slots i most s.words kept.place kept.beyond qs ok.chain.0 ok.chain.1);
        homes = subst (λ (z : ℕ). AreAll (λ q. q.receipt.pass ≡ pass_of_node z q.node) qs) (kept.wide ∙ sym width) told.3;
        errors = subst (λ (z : ℕ). AreAll (λ q. (q.offset < z) × (q.code < 65536)) qs) (sym as_many) ok.sound.2;
        few = subst (λ (z : ℕ). length qs ≤ z) (sym total) (few_nodes sizes.slots i most s.words kept.place kept.beyond qs ok.chain.0 ok.chain.1);
        order = λ a. rising_after 0 (told.0 a).0 (numbers_of a ((part_of v i).got ++ reverse (receipts_of qs))) (all a);
        above = λ a n t is has.
            let same : t ≡ l = same_Some t l (sym is ∙ fit.turn ∙ yes_if id id (Some l) None refl) in
            rising_above 0 n (told.0 a).0 (numbers_of a ((part_of v i).got ++ reverse (receipts_of qs))) (all a)
            (subst (λ (z : ℕ). 1 ≤ z) (ap (λ (z : Turn E). occurrences n (numbers_of a (receipts_in rec z.log))) same ∙ sym ((told.0 a).2 n)) has);
      }
