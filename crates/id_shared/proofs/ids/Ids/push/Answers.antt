use Rattle.std.proofs.Common.{◌≡◌, ◌≢◌, ◌+◌, ◌<◌, ℕ, sym, ap, subst, arith, ◌∙◌, Some, None}
use Rattle.rpc_model.specs.Gone.{head_in, first_in}
use Rattle.id_rule.specs.declared.word.Word.{Word}
use Rattle.id_rule.specs.declared.view.Notice.{Notice}
use Rattle.id_rule.specs.declared.view.View.{View}
use Rattle.id_rule.specs.Changes.{view_with_hand, view_after_load, pushing_view}
use Rattle.id_rule.specs.Nodes.{word_at, node_word, offset_in, error_in, pass_of_node}
use Rattle.id_rule.specs.Parts.{own_number, HasNumber}
use Rattle.id_rule.specs.Words.{packed_word}
use Rattle.id_rule.proofs.Owning.{first_write_keeps, second_write_keeps, let_go_keeps}
use Rattle.id_rule.proofs.Posting.{push_keeps}
use Rattle.id_shared.proofs.Draining.{at_node}
use Rattle.id_shared.proofs.Pushes.{word_written}
use Rattle.id_shared.proofs.Tables.{table_sizes}
use Rattle.id_shared.proofs.ids.Ids.push.Given.{Over}
use Rattle.id_shared.proofs.ids.Ids.push.Goals.{After-store, After-store-2, Then-found-word, After-compare_exchange-found}
use Rattle.id_shared.proofs.ids.Ids.push.Goals as goal

-- the node's words are words of the table
stands : (g : Over) (c : After-store g) → let t = c.self.inside.table.shared in
    (c.args.seat.now.table_id ≡ t.table_id)
    × (c.place_of-place.result + 1 < t.table_id.words)
    × (c.place_of-place.result ≡ word_at t.key.slots c.args.node)
stands g c =
    let t = c.self.inside.table.shared in let r = c.requires.pushing in let node = c.args.node in
    let at = at_node t.table_id c.args.seat.now.table_id t.key c.self.inside.sizes c.args.self.now node c.self.view_is c.self.invariant r.of_table r.one r.low in
    let place = c.place_of-place.ensures.place in let low = at.1 in
    (at.0, omega (arith, place, low), place ∙ ap (λ z. word_at z node) at.2)

-- the node in hand has both words
written : (g : Over) (c : After-store-2 g) → let m = c.args.seat.now.me in
    c.store-2.new.seat.me ≡ (view_with_hand m.0 (Some (c.args.node, c.error_word-first.result, c.args.number)), m.1)
written g c =
    let r = c.requires.pushing in let node = c.args.node in let sum = c.error_word-first.result in let second = r.held.0 in
    let one = c.store.ensures.2 (node, 0, second) r.held.1 in
    c.store-2.ensures.2 (node, sum, second) (ap (λ m. m.0.hand) one) ∙ ap (λ m. (view_with_hand m.0 (Some (node, sum, c.args.number)), m.1)) one

-- the first of them
first_is : (g : Over) (c : After-store-2 g) → c.error_word-first.result ≡ node_word (head_in c.args.word) c.args.offset c.args.code
first_is g c = c.error_word-first.ensures.word ∙ ap (λ (z : Word). node_word z.head c.args.offset c.args.code) c.unpack-parts.ensures.parts

pub place_of-place-requires : goal.place_of-place-requires
place_of-place-requires g c = let r = c.requires.pushing in let low = r.low in let few = r.few in record { node = (r.one, omega (arith, low, few)) }

pub store-requires : goal.store-requires
store-requires g c =
    let t = c.self.inside.table.shared in let s = c.args.seat.now in let r = c.requires.pushing in let node = c.args.node in
    let at = at_node t.table_id s.table_id t.key c.self.inside.sizes c.args.self.now node c.self.view_is c.self.invariant r.of_table r.one r.low in
    let place = c.place_of-place.ensures.place in let low = at.1 in (
      at.0,
      omega (arith, place, low),
      first_write_keeps g.T.Tenant.log g.T.Tenant.first_id g.T.Tenant.receipt t.key _ s.id c.place_of-place.result s.me (node, 0, r.held.0) _ r.held.1
          (place ∙ ap (λ z. word_at z node) at.2),
    )

pub store-requires-2 : goal.store-requires-2
store-requires-2 g c =
    let t = c.self.inside.table.shared in let held = c.requires.pushing.held in let u = c.store.new.seat in
    let at = stands g (goal.at.store-requires-2 g c).After-store in
    let one = c.store.ensures.2 (c.args.node, 0, held.0) held.1 in (
      c.store.ensures.0 ∙ at.0,
      at.1,
      second_write_keeps g.T.Tenant.log g.T.Tenant.first_id g.T.Tenant.receipt t.key _ u.id (c.place_of-place.result + 1) u.me _ c.args.number
          (ap (λ m. m.0.hand) one) (ap (λ z. z + 1) at.2),
    )

pub compare_exchange-found-requires : goal.compare_exchange-found-requires
compare_exchange-found-requires g c =
    let t = c.self.inside.table.shared in let s = c.args.seat.now in let r = c.requires.pushing in let node = c.args.node in let n = c.args.word in
    let at = at_node t.table_id s.table_id t.key c.self.inside.sizes c.args.self.now node c.self.view_is c.self.invariant r.of_table r.one r.low in
    let after = (goal.at.compare_exchange-found-requires g c).After-store-2 in
    let parts = c.unpack-parts.ensures.parts in let two = written g after in
    let sizes = table_sizes t.table_id t.key c.self.inside.sizes c.args.self.now c.self.view_is c.self.invariant in
    let low = at.1 in let few = at.4 in let slot_low = r.slot_low in let u = c.store-2.new.seat in
    let hand = ap (λ m. m.0.hand) two ∙ ap (λ z. Some (node, z, c.args.number)) (first_is g after) in (
      c.store-2.ensures.0 ∙ c.store.ensures.0 ∙ at.0,
      omega (arith, slot_low, low),
      push_keeps g.T.Tenant.log g.T.Tenant.first_id g.T.Tenant.receipt t.key _ u.id c.args.slot u.me n c.pack-new.result node c.args.offset c.args.code c.args.number
          (subst (λ z. c.args.slot < z) at.2 slot_low) (omega (arith, few)) r.in_range r.small (r.next ∙ ap (λ m. m.0.sent) (sym two))
          (ap (λ m. own_number m.0.numbers) two ∙ r.home ∙ ap (λ z. pass_of_node z node) sizes.0) hand
          (subst (λ z. HasNumber (own_number z) z) (ap (λ m. m.0.numbers) (sym two)) r.own) r.locked
          (c.pack-new.ensures.word ∙ ap (λ z. packed_word z.first z.range 3 node) parts),
    )

-- an error that a pass with this view queues at this offset, with this code
abbrev told : (g : Over) → Then-found-word g → View g.row.T-Entry.Denot → ℕ → ℕ → Notice
told g c v offset code = record {
  slot = c.args.slot;
  first = first_in c.args.word;
  offset = offset;
  code = code;
  receipt = record { pass = own_number v.numbers; number = c.args.number };
}

-- the exchange found the word, and the node is pushed
pushed : (g : Over) (c : Then-found-word g) → let m = c.args.seat.now.me in let sum = c.error_word-first.result in
    c.compare_exchange-found.new.seat.me ≡ (pushing_view m.0 (told g c m.0 (offset_in sum) (error_in sum)), m.1)
pushed g c =
    let sum = c.error_word-first.result in let two = written g (goal.at.returns-then-found-word-clause-same g c).After-store-2 in
    c.compare_exchange-found.ensures.2.0 c.if-found-word.true (c.args.node, sum, c.args.number) (ap (λ m. m.0.hand) two)
    ∙ ap (λ m. (pushing_view m.0 (told g c m.0 (offset_in sum) (error_in sum)), m.1)) two

pub returns-then-found-word-clause-same : goal.returns-then-found-word-clause-same
returns-then-found-word-clause-same g c = (
  c.compare_exchange-found.ensures.0 ∙ c.store-2.ensures.0 ∙ c.store.ensures.0,
  c.compare_exchange-found.ensures.1 ∙ c.store-2.ensures.1 ∙ c.store.ensures.1,
  ap (λ m. m.1) (pushed g c),
)

pub returns-then-found-word-clause-pushed : goal.returns-then-found-word-clause-pushed
returns-then-found-word-clause-pushed g c =
    let v = c.args.seat.now.me.0 in let range = c.requires.pushing.in_range in
    let is = first_is g (goal.at.returns-then-found-word-clause-pushed g c).After-store-2 in
    let w = word_written c.error_word-first.result (head_in c.args.word) c.args.offset c.args.code is (omega arith) (omega (arith, range)) c.requires.pushing.small in (
      (λ _. ap (λ m. m.0) (pushed g c) ∙ (λ y. pushing_view v (told g c v (w.0 y) (w.1 y)))),
      (λ ne. absurd (ne c.if-found-word.true)),
    )

-- the exchange found another word
missed : (g : Over) (c : After-compare_exchange-found g) → let m = c.args.seat.now.me in
    let v = view_with_hand m.0 (Some (c.args.node, c.error_word-first.result, c.args.number)) in
    c.store-2.new.seat.me ≡ (v, m.1) → c.compare_exchange-found.result ≢ c.args.word
    → c.compare_exchange-found.new.seat.me ≡ (view_after_load v c.args.slot c.compare_exchange-found.result, m.1)
missed g c two miss =
    c.compare_exchange-found.ensures.2.1 miss ∙ ap (λ m. (view_after_load m.0 c.args.slot c.compare_exchange-found.result, m.1)) two

pub store-requires-3 : goal.store-requires-3
store-requires-3 g c =
    let t = c.self.inside.table.shared in let u = c.compare_exchange-found.new.seat in let steps = goal.at.store-requires-3 g c in
    let at = stands g steps.After-store in let low = at.1 in
    let three = missed g steps.After-compare_exchange-found (written g steps.After-store-2) c.if-found-word.false in (
      c.compare_exchange-found.ensures.0 ∙ c.store-2.ensures.0 ∙ c.store.ensures.0 ∙ at.0,
      omega (arith, low),
      let_go_keeps g.T.Tenant.log g.T.Tenant.first_id g.T.Tenant.receipt t.key _ u.id c.place_of-place.result u.me
          (c.args.node, c.error_word-first.result, c.args.number) (ap (λ m. m.0.hand) three) at.2,
    )

pub returns-clause-same : goal.returns-clause-same
returns-clause-same g c =
    let steps = goal.at.returns-clause-same g c in
    let three = missed g steps.After-compare_exchange-found (written g steps.After-store-2) c.if-found-word.false in (
      c.store-3.ensures.0 ∙ c.compare_exchange-found.ensures.0 ∙ c.store-2.ensures.0 ∙ c.store.ensures.0,
      c.store-3.ensures.1 ∙ c.compare_exchange-found.ensures.1 ∙ c.store-2.ensures.1 ∙ c.store.ensures.1,
      ap (λ m. m.1) (c.store-3.ensures.2 ∙ ap (λ m. (view_with_hand m.0 None, m.1)) three),
    )

pub returns-clause-pushed : goal.returns-clause-pushed
returns-clause-pushed g c =
    let steps = goal.at.returns-clause-pushed g c in
    let three = missed g steps.After-compare_exchange-found (written g steps.After-store-2) c.if-found-word.false in
    ((λ hit. absurd (c.if-found-word.false hit)), (λ _. ap (λ m. m.0) (c.store-3.ensures.2 ∙ ap (λ m. (view_with_hand m.0 None, m.1)) three)))
