-- The chain that a holder's pass took within a call, as the pass outside sees it.
use Rattle.std.proofs.Common.{◌≡◌, ℕ, suc, ◌+◌, ◌*◌, ◌<◌, ◌≤◌, true, false, List, [], ◌∷◌, ◌++◌, length, refl, sym, ap, ◌∙◌, subst, arith, Option, Some, None}
use Rattle.std.specs.Prelude.{reverse}
use Rattle.std.specs.Int.Bits.{bit_and}
use Rattle.std.proofs.lemmas.Nat.Bits.{and_high_mask}
use Rattle.std.proofs.lemmas.Option.{none-some, same_Some}
use Rattle.id_rule.specs.Words.{packed_word}
use Rattle.id_rule.specs.declared.view.Queued.{Queued}
use Rattle.id_rule.specs.declared.view.Receipt.{Receipt}
use Rattle.id_rule.specs.declared.view.Turn.{Turn}
use Rattle.id_rule.specs.declared.view.View.{View}
use Rattle.id_rule.specs.Nodes.{pass_of_node, receipts_of, numbers_of}
use Rattle.id_rule.specs.Parts.{part_of, AreAll}
use Rattle.id_rule.specs.Receipts.{IsRising, occurrences, receipts_in}
use Rattle.id_rule.specs.Steps.{IsChainOf}
use Rattle.id_rule.specs.Changes.{size_held, turn_with_out, turn_with_waits}
use Rattle.id_shared.specs.Steady.{IsLaid}
use Rattle.atomic_table.specs.Seated.{TableId}
use Rattle.id_shared.specs.Draining.{IsError, IsSeatOf}
use Rattle.id_shared.specs.Standing.{IdTable}
use Rattle.id_shared.specs.Views.{errors_of}

-- the mask takes the head off a locked word
pub head_off : (f r h : ℕ) → f < 4294967296 → r < 2048 → h < 65536 → bit_and (packed_word f r 3 h) 18446744073709486080 ≡ packed_word f r 3 0
head_off f r h a b c = and_high_mask 64 16 (omega arith) (packed_word f r 3 h) (omega (arith, a, b, c)) ∙ omega (arith, a, b, c)

-- each error is in one of the table's nodes
pub errors_fit : (width total size : ℕ) (qs : List Queued) → AreAll (λ q. (1 ≤ q.node) × (q.node ≤ total)) qs → AreAll (λ q. q.receipt.pass ≡ pass_of_node width q.node) qs
    → AreAll (λ q. (q.offset < size) × (q.code < 65536)) qs → size < 2048 → AreAll (IsError width total) qs
errors_fit width total size [] nodes homes errors few = tt
errors_fit width total size (q ∷ qs) nodes homes errors few =
    let low = errors.0.0 in ((nodes.0.0, nodes.0.1, homes.0, omega (arith, low, few), errors.0.1), errors_fit width total size qs nodes.1 homes.1 errors.1 few)

-- as many errors as nodes
pub errors_long : (qs : List Queued) → length (errors_of qs) ≡ length qs
errors_long [] = refl
errors_long (q ∷ qs) = ap suc (errors_long qs)

module _ {E : Type 0} (rec : E → Option Receipt) where
  -- the chain as it was told of a view within the call
  pub chain_outside : (v w : View E) (slot size size' : ℕ) (qs : List Queued) → w.width ≡ v.width → w.total ≡ v.total → size' ≡ size → (part_of w slot).got ≡ (part_of v slot).got
      → ((t : Turn E) → (part_of v slot).turn ≡ Some t → (u : Turn E) × ((part_of w slot).turn ≡ Some u) × (u.log ≡ t.log)) → IsChainOf rec w slot size' qs → IsChainOf rec v slot size qs
  chain_outside v w slot size size' qs width total same got turn c = record {
    nodes = subst (λ (z : ℕ). AreAll (λ q. (1 ≤ q.node) × (q.node ≤ z)) qs) total c.nodes;
    homes = subst (λ (z : ℕ). AreAll (λ q. q.receipt.pass ≡ pass_of_node z q.node) qs) width c.homes;
    errors = subst (λ (z : ℕ). AreAll (λ q. (q.offset < z) × (q.code < 65536)) qs) same c.errors;
    few = subst (λ (z : ℕ). length qs ≤ z) total c.few;
    order = λ a. subst (λ (z : List Receipt). IsRising 0 (numbers_of a (z ++ reverse (receipts_of qs)))) got (c.order a);
    above = λ a n t is has. let u = turn t is in
        subst (λ (z : List Receipt). IsRising (n + 1) (numbers_of a (z ++ reverse (receipts_of qs)))) got
        (c.above a n u.0 u.1 (subst (λ (z : List E). 1 ≤ occurrences n (numbers_of a (receipts_in rec z))) (sym u.2) has));
  }

  -- the chain, with the size of the Hold
  pub sized_chain : (v : View E) (slot first size : ℕ) (qs : List Queued) → (part_of v slot).hold ≡ Some (first, size) → IsChainOf rec v slot (size_held (part_of v slot).hold) qs
      → IsChainOf rec v slot size qs
  sized_chain v slot first size qs has = subst (λ (z : ℕ). IsChainOf rec v slot z qs) (ap size_held has)

  -- each error of the chain is in one of the table's nodes
  pub taken_errors : (ids : IdTable) (table : TableId) (v : View E) (slot size : ℕ) (qs : List Queued) → IsSeatOf ids table v → IsChainOf rec v slot size qs → size < 2048
      → AreAll (IsError ids.sizes.nodes (ids.sizes.passes * ids.sizes.nodes)) qs
  taken_errors ids table v slot size qs seat c few = errors_fit ids.sizes.nodes (ids.sizes.passes * ids.sizes.nodes) size qs
      (subst (λ (z : ℕ). AreAll (λ q. (1 ≤ q.node) × (q.node ≤ z)) qs) seat.total c.nodes) (subst (λ (z : ℕ). AreAll (λ q. q.receipt.pass ≡ pass_of_node z q.node) qs) seat.width c.homes)
      c.errors few

module _ {E : Type 0} where
  -- a lock whose slot is at home again, with no error that the pass knows to wait
  pub laid_again : (o : Option (Turn E)) → IsLaid (turn_with_out false (turn_with_waits false (turn_with_waits true (turn_with_out true o))))
  laid_again None = tt
  laid_again (Some t) = (refl, refl)

  -- the lock as it is within the call has the same log
  pub lifted_turn : (o : Option (Turn E)) (t : Turn E) → o ≡ Some t → (u : Turn E) × (turn_with_out true o ≡ Some u) × (u.log ≡ t.log)
  lifted_turn o t is = (record t { out = true }, ap (turn_with_out true) is, refl)

  -- a lock of which an error was seen to wait has the same log
  pub waits_turn : (o : Option (Turn E)) (t : Turn E) → o ≡ Some t → (u : Turn E) × (turn_with_waits true o ≡ Some u) × (u.log ≡ t.log)
  waits_turn o t is = (record t { waits = true }, ap (turn_with_waits true) is, refl)

  -- a lock of which an error was seen to wait
  pub seen_waiting : (o : Option (Turn E)) (t : Turn E) → turn_with_waits true o ≡ Some t → t.waits ≡ true
  seen_waiting None t is = absurd (none-some t is)
  seen_waiting (Some u) t is = sym (ap (λ (z : Turn E). z.waits) (same_Some (record u { waits = true }) t is))
