use Rattle.std.proofs.Common.{◌≡◌, ◌≢◌, ◌+◌, ◌*◌, ◌<◌, inr, refl, sym, ap, ap₂, subst, arith, ◌∙◌, None, vec_capacity, max, ℕ, List}
use Rattle.atomic_table.specs.Seated.{TableId}
use Rattle.rpc_model.specs.Gone.{first_in}
use Rattle.id_rule.specs.Changes.{view_after_load, view_with_hand, part_with_ended_below, part_with_receipt, pushing_view}
use Rattle.id_rule.specs.declared.view.Notice.{Notice}
use Rattle.id_rule.specs.declared.view.Part.{Part}
use Rattle.id_rule.specs.declared.view.View.{View}
use Rattle.id_rule.specs.Parts.{own_number, HasNumber, part_of}
use Rattle.id_rule.specs.Words.{ended_below_in}
use Rattle.id_shared.specs.Posts.{view_with_nodes}
use Rattle.id_shared.specs.Standing.{IdTable}
use Rattle.id_shared.specs.Steady.{IsSteady}
use Rattle.id_shared.specs.Views.{first_node, view_after_picks}
use Rattle.id_shared.proofs.Parts.{part_on_top}
use Rattle.id_shared.proofs.Picks.{IsSameBut, picks_keep, picked_part}
use Rattle.id_shared.proofs.Steady.{changed_part, steady_after, steady_split}
use Rattle.id_shared.proofs.Tables.{same_slots, table_few}
use Rattle.id_shared.proofs.ids.Ids.queue_from.Given.{Over}
use Rattle.id_shared.proofs.ids.Ids.queue_from.Goals.{After-pick, After-push-found}
use Rattle.id_shared.proofs.ids.Ids.queue_from.Goals as goal

-- the view once the pass with this number has looked at its nodes
abbrev looked_view : {E : Type 0} → IdTable → ℕ → View E → List ℕ → View E
looked_view ids number v words = view_after_picks v ids.sizes.slots (first_node ids.sizes.nodes number) words

abbrev looked : (g : Over) → After-pick g → View g.row.T-Entry.Denot
looked g c = looked_view c.args.self.now c.pass.inside.number c.pass.inside.seat.me.0 c.pick.new.words.items

-- nothing else of the view has changed
kept : (g : Over) (c : After-pick g) → IsSameBut c.pass.inside.seat.me.0 (looked g c)
kept g c = let ids = c.args.self.now in
    picks_keep c.pass.inside.seat.me.0 ids.sizes.slots (first_node ids.sizes.nodes c.pass.inside.number) c.pick.new.words.items

-- that view as the contract has it
as_told : (g : Over) (c : After-pick g) → looked g c ≡ view_with_nodes c.args.self.now.sizes.slots c.args.pass.now.view c.pick.new.words.items
as_told g c =
    let view = c.pass.view_is in let p = c.args.pass.now in let ids = c.args.self.now in
    let number_is = sym c.pass.invariant.0.own ∙ ap (λ z. own_number z.view.numbers) view in
    let first : first_node ids.sizes.nodes c.pass.inside.number ≡ first_node p.view.width (own_number p.view.numbers) = ap₂ first_node (sym c.requires.own.1) number_is in
    λ y. view_after_picks (view y).view ids.sizes.slots (first y) c.pick.new.words.items

-- the slot is one of the pass's table
is_low : (g : Over) (c : After-pick g) → c.args.slot < c.pass.inside.seat.table_id.slots
is_low g c =
    let t = c.self.inside.table.shared in
    let slots = same_slots t.table_id c.pass.inside.seat.table_id t.key c.self.inside.sizes c.args.self.now c.args.pass.now _ c.self.view_is c.self.invariant
    c.pass.view_is refl c.requires.own in
    subst (λ z. c.args.slot < z) (sym slots) c.requires.slot

-- a seat of the same table, with a view that has the same numbers, is of the table still
still_own : (g : Over) (c : After-pick g) (table : TableId) (v : View g.row.T-Entry.Denot) → table ≡ c.pass.inside.seat.table_id
    → v.width ≡ (looked g c).width → v.total ≡ (looked g c).total → v.numbers ≡ (looked g c).numbers
    → (table ≡ c.args.self.now.table)
    × (v.width ≡ c.args.self.now.sizes.nodes)
    × (v.total ≡ c.args.self.now.sizes.passes * c.args.self.now.sizes.nodes)
    × (own_number v.numbers < c.args.self.now.sizes.passes)
still_own g c table v same width total numbers = let view = c.pass.view_is in let k = kept g c in let own = c.requires.own in (
  same ∙ ap (λ z. z.table) view ∙ own.0,
  width ∙ k.width ∙ ap (λ z. z.view.width) view ∙ own.1,
  total ∙ k.total ∙ ap (λ z. z.view.total) view ∙ own.2,
  subst (λ z. z < c.args.self.now.sizes.passes) (sym (ap own_number (numbers ∙ k.numbers) ∙ ap (λ z. own_number z.view.numbers) view)) own.3,
)

-- the exchange found another word, and the node is free again
missed : (g : Over) (c : After-push-found g) → c.push-found.result ≢ c.args.word → c.push-found.new.seat.me.0 ≡ view_with_hand (view_after_load
    (looked_view c.args.self.now c.pass.inside.number c.pass.inside.seat.me.0 c.pick.new.words.items) c.args.slot c.push-found.result) None
missed g c other = c.push-found.ensures.pushed.1 other
    ∙ ap (λ z. view_with_hand (view_after_load z c.args.slot c.push-found.result) None) c.in-Some.ensures.picked.1.1

-- the error that a pass with this view queues
abbrev told : (g : Over) → After-push-found g → View g.row.T-Entry.Denot → Notice
told g c v = record {
  slot = c.args.slot;
  first = first_in c.args.word;
  offset = c.args.offset;
  code = c.args.code;
  receipt = record { pass = own_number v.numbers; number = c.pass.inside.sent };
}

-- the exchange found the word, and the error is queued
queued : (g : Over) (c : After-push-found g) → c.push-found.result ≡ c.args.word → let w = looked_view c.args.self.now c.pass.inside.number c.pass.inside.seat.me.0 c.pick.new.words.items in
    c.push-found.new.seat.me.0 ≡ pushing_view w (told g c w)
queued g c same = c.push-found.ensures.pushed.0 same ∙ ap (λ z. pushing_view z (told g c z)) c.in-Some.ensures.picked.1.1

pub pick-requires : goal.pick-requires
pick-requires g c =
    let view = c.pass.view_is in let width = ap (λ z. z.view.width) view ∙ c.requires.own.1 in record {
      looking = record {
        of_table = ap (λ z. z.table) view ∙ c.requires.own.0;
        mine = c.pass.invariant.0.has;
        below = subst (λ z. z < c.args.self.now.sizes.passes) (ap (λ z. own_number z.view.numbers) (sym view) ∙ c.pass.invariant.0.own) c.requires.own.3;
        empty = c.pass.invariant.0.hand;
      };
      room = (let wide = c.pass.invariant.0.wide in omega (arith, wide, width));
    }

pub push-found-requires : goal.push-found-requires
push-found-requires g c =
    let t = c.self.inside.table.shared in let view = c.pass.view_is in let st = c.pass.invariant.0 in
    let k = kept g (goal.at.push-found-requires g c).After-pick in
    let got = c.in-Some.ensures.picked in let picked = got.1.1 in
    let own = ap (λ z. own_number z.numbers) picked ∙ ap own_number k.numbers ∙ st.own in record {
      pushing = record {
        of_table = c.pick.ensures.same.0 ∙ ap (λ z. z.table) view ∙ c.requires.own.0;
        one = got.2;
        low = got.3;
        few = table_few t.table_id t.key c.self.inside.sizes c.args.self.now c.self.view_is c.self.invariant;
        held = (got.1.0, ap (λ z. z.hand) picked);
        slot_low = c.requires.slot;
        locked = c.requires.word.0;
        in_range = c.requires.word.1;
        small = c.requires.code;
        next = sym (ap (λ z. z.sent) picked ∙ k.count ∙ st.sent_is);
        home = own ∙ sym got.4;
        own = subst (λ (z : ℕ × List ℕ). HasNumber z.0 z.1) (λ y. (sym own y, sym (ap (λ z. z.numbers) picked ∙ k.numbers) y)) st.has;
      };
    }

pub invariant_of-pass : goal.invariant_of-pass
invariant_of-pass g c =
    let a = (goal.at.invariant_of-pass g c).After-pick in let k = kept g a in let st = c.pass.invariant.0 in let s = c.pass.inside.seat in
    let e = c.pick.ensures.same in let got = c.in_default.ensures.picked in let n = c.pick.new.seat in
    let other = c.pass.inside in (
      subst (λ (z : ℕ). IsSteady n.table_id.slots n.me other.number other.sent
          record { words = z; pending = vec_capacity other.pending; dropped = vec_capacity other.dropped })
          (sym e.3)
          (steady_split s.table_id n.table_id _ _ _ s.me n.me (looked g a) e.0 (λ y. (got.2 y, e.2 y)) k.parts k.numbers k.width k.total k.count
          (k.hand ∙ st.hand) (k.taken ∙ st.taken) st),
      c.pass.invariant.1,
    )

pub returns-in_default-clause-own : goal.returns-in_default-clause-own
returns-in_default-clause-own g c =
    let got = c.in_default.ensures.picked in let n = c.pick.new.seat in
    still_own g (goal.at.returns-in_default-clause-own g c).After-pick n.table_id n.me.0 c.pick.ensures.same.0
    (ap (λ z. z.width) got.2) (ap (λ z. z.total) got.2) (ap (λ z. z.numbers) got.2)

pub returns-in_default-clause-answer : goal.returns-in_default-clause-answer
returns-in_default-clause-answer g c =
    let a = (goal.at.returns-in_default-clause-answer g c).After-pick in let view = c.pass.view_is in let got = c.in_default.ensures.picked in
    inr (
      got.0 ∙ sym c.requires.own.1,
      got.1,
      λ y. record {
        table = (c.pick.ensures.same.0 ∙ ap (λ z. z.table) view) y;
        view = (got.2 ∙ as_told g a) y;
        words = c.pick.new.words.items;
        scratch = ap (λ z. z.scratch) view y;
        holder = ap (λ z. z.holder) view y;
      },
    )

pub invariant_of-pass-then-found-word : goal.invariant_of-pass-then-found-word
invariant_of-pass-then-found-word g c =
    let a = (goal.at.invariant_of-pass-then-found-word g c).After-pick in let w = looked g a in let k = kept g a in
    let s = c.pass.inside.seat in let v = s.me.0 in let st = c.pass.invariant.0 in let slot = c.args.slot in let other = c.pass.inside in
    let e = c.pick.ensures.same in let x = c.push-found.ensures.same in let n = c.push-found.new.seat in let found = c.push-found.result in
    let f = (λ (z : Part g.row.T-Entry.Denot). part_with_ended_below z (max z.ended_below (ended_below_in found))) in
    let last = view_with_hand (view_after_load w slot found) None in
    let has = picked_part slot v w last f k (part_on_top slot w last (f (part_of w slot)) refl) in (
      subst (λ (z : ℕ). IsSteady n.table_id.slots n.me other.number other.sent
          record { words = z; pending = vec_capacity other.pending; dropped = vec_capacity other.dropped })
          (sym e.3)
          (steady_after s.table_id n.table_id slot _ _ _ s.me n.me (x.0 ∙ e.0) (is_low g a) st last (f (part_of v slot)) _
          (changed_part slot v last (f (part_of v slot)) has k.numbers k.width k.total refl (k.taken ∙ st.taken)) (k.count ∙ st.sent_is) (st.laid slot)
          (λ y. (missed g (goal.at.invariant_of-pass-then-found-word g c).After-push-found c.if-found-word.true y, (x.2 ∙ e.2 ∙ st.carried) y))),
      c.pass.invariant.1,
    )

pub returns-then-found-word-clause-own : goal.returns-then-found-word-clause-own
returns-then-found-word-clause-own g c =
    let last = missed g (goal.at.returns-then-found-word-clause-own g c).After-push-found c.if-found-word.true in let n = c.push-found.new.seat in
    still_own g (goal.at.returns-then-found-word-clause-own g c).After-pick n.table_id n.me.0 (c.push-found.ensures.same.0 ∙ c.pick.ensures.same.0)
    (ap (λ z. z.width) last) (ap (λ z. z.total) last) (ap (λ z. z.numbers) last)

pub returns-then-found-word-clause-answer : goal.returns-then-found-word-clause-answer
returns-then-found-word-clause-answer g c =
    let a = (goal.at.returns-then-found-word-clause-answer g c).After-pick in let k = kept g a in let view = c.pass.view_is in
    let found = c.push-found.result in
    let last = missed g (goal.at.returns-then-found-word-clause-answer g c).After-push-found c.if-found-word.true in
    let u = view_after_load (looked g a) c.args.slot found in
    let bare : None ≡ u.hand = sym (k.hand ∙ c.pass.invariant.0.hand) in (
      refl,
      c.if-found-word.true,
      c.in-Some.ensures.picked.0,
      (λ y. record {
        table = (c.push-found.ensures.same.0 ∙ c.pick.ensures.same.0 ∙ ap (λ z. z.table) view) y;
        view = (last ∙ ap (view_with_hand u) bare ∙ ap (λ z. view_after_load z c.args.slot found) (as_told g a)) y;
        words = c.pick.new.words.items;
        scratch = ap (λ z. z.scratch) view y;
        holder = ap (λ z. z.holder) view y;
      }),
    )

pub invariant_of-pass-2 : goal.invariant_of-pass-2
invariant_of-pass-2 g c =
    let a = (goal.at.invariant_of-pass-2 g c).After-pick in let w = looked g a in let k = kept g a in
    let s = c.pass.inside.seat in let v = s.me.0 in let st = c.pass.invariant.0 in let slot = c.args.slot in let other = c.pass.inside in
    let e = c.pick.ensures.same in let x = c.push-found.ensures.same in let n = c.push-found.new.seat in let notice = told g (goal.at.invariant_of-pass-2 g c).After-push-found w in
    let f = (λ (z : Part g.row.T-Entry.Denot). part_with_receipt z notice.first notice.receipt) in
    let last = pushing_view w notice in
    let has = picked_part slot v w last f k (part_on_top slot w last (f (part_of w slot)) refl) in (
      subst (λ (z : ℕ). IsSteady n.table_id.slots n.me other.number (other.sent + 1)
          record { words = z; pending = vec_capacity other.pending; dropped = vec_capacity other.dropped })
          (sym e.3)
          (steady_after s.table_id n.table_id slot _ _ _ s.me n.me (x.0 ∙ e.0) (is_low g a) st last (f (part_of v slot)) _
          (changed_part slot v last (f (part_of v slot)) has k.numbers k.width k.total refl (k.taken ∙ st.taken)) (ap (λ z. z + 1) (k.count ∙ st.sent_is))
          (st.laid slot)
          (λ y. (queued g (goal.at.invariant_of-pass-2 g c).After-push-found c.if-found-word.false y, (x.2 ∙ e.2 ∙ st.carried) y))),
      c.pass.invariant.1,
    )

pub returns-clause-own : goal.returns-clause-own
returns-clause-own g c =
    let last = queued g (goal.at.returns-clause-own g c).After-push-found c.if-found-word.false in let n = c.push-found.new.seat in
    still_own g (goal.at.returns-clause-own g c).After-pick n.table_id n.me.0 (c.push-found.ensures.same.0 ∙ c.pick.ensures.same.0)
    (ap (λ z. z.width) last) (ap (λ z. z.total) last) (ap (λ z. z.numbers) last)

pub returns-clause-answer : goal.returns-clause-answer
returns-clause-answer g c =
    let a = (goal.at.returns-clause-answer g c).After-pick in let k = kept g a in let view = c.pass.view_is in let st = c.pass.invariant.0 in
    let number_is = sym st.own ∙ ap (λ z. own_number z.view.numbers) view in
    let sent_is = sym st.sent_is ∙ ap (λ z. z.view.sent) view in (
      (λ y. record { pass = number_is y; number = sent_is y }),
      c.in-Some.ensures.picked.0,
      (λ y. record {
        table = (c.push-found.ensures.same.0 ∙ c.pick.ensures.same.0 ∙ ap (λ z. z.table) view) y;
        view = (queued g (goal.at.returns-clause-answer g c).After-push-found c.if-found-word.false ∙ (λ i. pushing_view (as_told g a i) record {
          slot = c.args.slot;
          first = first_in c.args.word;
          offset = c.args.offset;
          code = c.args.code;
          receipt = record { pass = (ap own_number k.numbers ∙ ap (λ z. own_number z.view.numbers) view) i; number = sent_is i };
        })) y;
        words = c.pick.new.words.items;
        scratch = ap (λ z. z.scratch) view y;
        holder = ap (λ z. z.holder) view y;
      }),
    )
