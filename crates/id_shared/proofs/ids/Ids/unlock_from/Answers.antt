use Rattle.std.proofs.Common.{◌≡◌, ◌<◌, ◌≤◌, ◌++◌, ◌∷◌, [], length, refl, sym, ap, subst, ◌∙◌, arith, Some, None, vec_len, List, ℕ}
use Rattle.atomic_table.specs.Seated.{TableId}
use Rattle.atomic_table.specs.Table.{rest}
use Rattle.std.proofs.lemmas.Option.{same_Some}
use Rattle.id_rule.specs.declared.view.Part.{Part}
use Rattle.id_rule.specs.declared.view.Queued.{Queued}
use Rattle.id_rule.specs.declared.view.View.{View}
use Rattle.id_rule.specs.Changes.{view_after_miss, view_with_list, taking_view}
use Rattle.id_rule.specs.Parts.{part_of}
use Rattle.id_rule.specs.Steps.{value_in, IsChainOf}
use Rattle.id_rule.proofs.Turns.{unlock_keeps}
use Rattle.id_shared.specs.declared.answers.Posted.{Posted}
use Rattle.id_shared.specs.Lifted.{HasLifted, IsGrownSince}
use Rattle.id_shared.specs.Standing.{Claim, first_id_of}
use Rattle.id_shared.specs.Views.{errors_of, view_laid, view_with_chain}
use Rattle.id_shared.proofs.Parts.{miss_part, chain_part}
use Rattle.id_shared.proofs.Tables.{at_seat, table_few}
use Rattle.id_shared.proofs.Taken.{chain_outside, errors_long, seen_waiting, waits_turn}
use Rattle.id_shared.proofs.ids.Ids.unlock_from.Goals as goal

pub put-requires : goal.put-requires
put-requires g c =
    let s = c.args.seat.now in let k = c.hold.inside in
    let l = subst (λ (z : Claim). HasLifted c.args.self.now z s.table_id s.me) (sym c.hold.view_is) c.requires.lifted in
    record { table = l.seat.of_table; empty = l.carried ∙ ap (λ z. (k.slot, None) ∷ z) (sym (ap rest l.carried)) }

pub compare_exchange-found-requires : goal.compare_exchange-found-requires
compare_exchange-found-requires g c =
    let s = c.args.seat.now in let k = c.hold.inside in
    let l = subst (λ (z : Claim). HasLifted c.args.self.now z s.table_id s.me) (sym c.hold.view_is) c.requires.lifted in
    let t = c.self.inside.table.shared in
    let at = at_seat t.table_id s.table_id t.key c.self.inside.sizes c.args.self.now k.slot c.self.view_is c.self.invariant l.seat.of_table l.slot in
    let put = c.put.ensures.me in let out = ap (λ m. m.1) put in (
      c.put.ensures.same.0 ∙ at.0,
      at.2,
      unlock_keeps g.T.Tenant.log g.T.Tenant.first_id g.T.Tenant.receipt t.key _ c.put.new.seat.id k.slot c.put.new.seat.me c.pack-old.result c.pack-new.result
          k.first k.size c.args.value (out ∙ ap (λ z. (k.slot, Some c.args.value) ∷ z) (sym (ap rest out))) at.1 (ap (λ m. (part_of m.0 k.slot).hold) put ∙ l.hold)
          c.pack-old.ensures.word c.pack-new.ensures.word (c.requires.value ∙ ap first_id_of (sym c.hold.view_is))
          (subst (λ (z : Claim × View g.row.T-Entry.Denot). IsGrownSince g.T.Tenant.receipt z.1 z.0 (g.T.Tenant.log c.args.value)) (λ y. (sym c.hold.view_is y, (sym put y).0)) c.requires.log),
    )

pub take-requires : goal.take-requires
take-requires g c =
    let s = c.args.seat.now in let k = c.hold.inside in
    let l = subst (λ (z : Claim). HasLifted c.args.self.now z s.table_id s.me) (sym c.hold.view_is) c.requires.lifted in
    let miss = c.compare_exchange-found.ensures.2.1 c.if-found-old.false in let word = c.compare_exchange-found.result in
    let missed = miss.0 ∙ ap (λ m. (view_after_miss m.0 k.slot word, m.1)) c.put.ensures.me in
    let same = c.compare_exchange-found.ensures.0 ∙ c.put.ensures.same.0 in
    let none = ap length c.requires.list.0 in let long = c.args.pending.now.ok.0 in let room = c.requires.list.1 in record {
      seat = record { of_table = same ∙ l.seat.of_table; width = ap (λ m. m.0.width) missed ∙ l.seat.width; total = ap (λ m. m.0.total) missed ∙ l.seat.total };
      slot = subst (λ (z : TableId × Claim). z.1.slot < z.0.slots) (λ y. (sym same y, c.hold.view_is y)) l.slot;
      hold = subst (λ (z : Claim). (part_of c.compare_exchange-found.new.seat.me.0 z.slot).hold ≡ Some (z.first, z.size)) c.hold.view_is
          (ap (λ m. (part_of m.0 k.slot).hold) missed ∙ ap (λ (z : Part g.row.T-Entry.Denot). z.hold) (miss_part s.me.0 k.slot word).here ∙ l.hold);
      taken = ap (λ m. m.0.taken) missed ∙ l.taken;
      room = omega (arith, none, long, room);
    }

pub take_out-value-requires : goal.take_out-value-requires
take_out-value-requires g c =
    let s = c.args.seat.now in let k = c.hold.inside in
    let l = subst (λ (z : Claim). HasLifted c.args.self.now z s.table_id s.me) (sym c.hold.view_is) c.requires.lifted in
    let miss = c.compare_exchange-found.ensures.2.1 c.if-found-old.false in let word = c.compare_exchange-found.result in
    let missed = miss.0 ∙ ap (λ m. (view_after_miss m.0 k.slot word, m.1)) c.put.ensures.me in
    let take = c.take.ensures.taken in let qs = take.0 in let slot_is = ap (λ (z : Claim). z.slot) c.hold.view_is in
    let taken = take.1 ∙ ap (λ m. (view_with_list (taking_view m.0 c.args.hold.slot qs) [], m.1)) missed
    ∙ ap (λ z. (view_with_list (taking_view (view_after_miss s.me.0 k.slot word) z qs) [], (k.slot, Some c.args.value) ∷ rest s.me.1)) (sym slot_is) in
    let out = ap (λ m. m.1) taken in
    let same = c.take.ensures.same.0 ∙ c.compare_exchange-found.ensures.0 ∙ c.put.ensures.same.0 in record {
      table = same ∙ l.seat.of_table;
      slot = subst (λ (z : TableId). k.slot < z.slots) (sym same) l.slot;
      hold = (k.first, k.size, ap (λ m. (part_of m.0 k.slot).hold) taken ∙ ap (λ (z : Part g.row.T-Entry.Denot). z.hold) (chain_part s.me.0 k.slot word qs).here ∙ l.hold);
      value = (c.args.value, out ∙ ap (λ z. (k.slot, Some c.args.value) ∷ z) (sym (ap rest out)));
    }

pub overflow_cast-count : goal.overflow_cast-count
overflow_cast-count g c =
    let s = c.args.seat.now in let k = c.hold.inside in
    let l = subst (λ (z : Claim). HasLifted c.args.self.now z s.table_id s.me) (sym c.hold.view_is) c.requires.lifted in
    let miss = c.compare_exchange-found.ensures.2.1 c.if-found-old.false in let word = c.compare_exchange-found.result in
    let missed = miss.0 ∙ ap (λ m. (view_after_miss m.0 k.slot word, m.1)) c.put.ensures.me in
    let take = c.take.ensures.taken in let qs = take.0 in
    let few = subst (λ (z : ℕ). length qs ≤ z) (ap (λ m. m.0.total) missed ∙ l.seat.total) take.2.few in
    let count : vec_len c.take.new.list ≡ length qs = c.take.new.list.ok.0 ∙ ap length (take.4 ∙ ap (λ (z : List Posted). z ++ errors_of qs) c.requires.list.0) ∙ errors_long qs in
    let most = table_few c.self.inside.table.shared.table_id c.self.inside.table.shared.key c.self.inside.sizes c.args.self.now c.self.view_is c.self.invariant in
    let is = c.len-count.ensures in omega (arith, few, most, is, count)

pub returns-clause-answer : goal.returns-clause-answer
returns-clause-answer g c =
    let s = c.args.seat.now in let k = c.hold.inside in
    let l = subst (λ (z : Claim). HasLifted c.args.self.now z s.table_id s.me) (sym c.hold.view_is) c.requires.lifted in
    let miss = c.compare_exchange-found.ensures.2.1 c.if-found-old.false in let word = c.compare_exchange-found.result in
    let missed = miss.0 ∙ ap (λ m. (view_after_miss m.0 k.slot word, m.1)) c.put.ensures.me in
    let take = c.take.ensures.taken in let qs = take.0 in let slot_is = ap (λ (z : Claim). z.slot) c.hold.view_is in
    let taken = take.1 ∙ ap (λ m. (view_with_list (taking_view m.0 c.args.hold.slot qs) [], m.1)) missed
    ∙ ap (λ z. (view_with_list (taking_view (view_after_miss s.me.0 k.slot word) z qs) [], (k.slot, Some c.args.value) ∷ rest s.me.1)) (sym slot_is) in
    let missed_at = ap (λ m. part_of m.0 k.slot) missed ∙ (miss_part s.me.0 k.slot word).here in
    let told = subst (λ (z : Claim). IsChainOf g.T.Tenant.receipt c.compare_exchange-found.new.seat.me.0 z.slot z.size qs) (sym c.hold.view_is) take.2 in
    let chain = chain_outside g.T.Tenant.receipt s.me.0 c.compare_exchange-found.new.seat.me.0 k.slot k.size k.size qs (ap (λ m. m.0.width) missed) (ap (λ m. m.0.total) missed) refl
    (ap (λ (z : Part g.row.T-Entry.Denot). z.got) missed_at)
    (λ t is. let u = waits_turn (part_of s.me.0 k.slot).turn t is in (u.0, ap (λ (z : Part g.row.T-Entry.Denot). z.turn) missed_at ∙ u.1, u.2)) told in
    let listed = take.4 ∙ ap (λ (z : List Posted). z ++ errors_of qs) c.requires.list.0 in
    let count : vec_len c.take.new.list ≡ length qs = c.take.new.list.ok.0 ∙ ap length listed ∙ errors_long qs in
    let turn = take.3 in
    let missed_turn = sym (ap (λ (z : Part g.row.T-Entry.Denot). z.turn) missed_at)
    ∙ ap (λ (z : ℕ). (part_of c.compare_exchange-found.new.seat.me.0 z).turn) slot_is ∙ turn.1 in
    let one = turn.2 (seen_waiting (part_of s.me.0 k.slot).turn turn.0 missed_turn) in
    let is = c.len-count.ensures in
    let last = c.take_out-value.ensures.me ∙ ap (λ m. (view_laid m.0 k.slot, rest m.1)) taken
    ∙ ap (λ z. (view_with_chain s.me.0 record { slot = k.slot; first = k.first; size = k.size } word qs, z)) (ap rest l.carried) in (
      refl,
      same_Some c.take_out-value.result c.args.value (sym (ap value_in c.take_out-value.ensures.value) ∙ ap (λ m. value_in m.1) taken),
      omega (arith, one, is, count),
      is ∙ c.take.new.list.ok.0,
      (
        word,
        miss.1,
        subst (λ (z : Claim). (ys : List Queued)
            × IsChainOf g.T.Tenant.receipt s.me.0 z.slot z.size ys
            × (c.take.new.list.items ≡ errors_of ys)
            × (c.take_out-value.new.seat.me ≡ (view_with_chain s.me.0 z word ys, [])))
            c.hold.view_is (qs, chain, listed, last),
      ),
    )
