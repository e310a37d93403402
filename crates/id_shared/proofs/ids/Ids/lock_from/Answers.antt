use Rattle.std.proofs.Common.{◌<◌, ◌∷◌, refl, sym, ap, subst, ◌∙◌, Some}
use Rattle.atomic_table.specs.Seated.{TableId}
use Rattle.atomic_table.specs.Table.{rest}
use Rattle.rpc_model.specs.Gone.{first_in, range_in}
use Rattle.id_rule.specs.Parts.{part_of}
use Rattle.id_rule.specs.Words.{packed_word}
use Rattle.id_rule.proofs.Lists.{part_here}
use Rattle.id_rule.specs.Changes.{part_with_hold}
use Rattle.id_rule.proofs.Turns.{lock_keeps}
use Rattle.id_shared.specs.Standing.{Claim}
use Rattle.id_shared.specs.Views.{view_laid, view_with_hold}
use Rattle.id_shared.proofs.Parts.{part_held, held_part}
use Rattle.id_shared.proofs.Tables.{at_slot}
use Rattle.id_shared.proofs.Steady.{changed_part, steady_load, steady_after}
use Rattle.id_shared.proofs.ids.Ids.lock_from.Goals as goal

pub compare_exchange-found-requires : goal.compare_exchange-found-requires
compare_exchange-found-requires g c =
    let t = c.self.inside.table.shared in let s = c.pass.inside.seat in
    let at = at_slot t.table_id s.table_id t.key c.self.inside.sizes c.args.self.now c.args.pass.now _ c.args.slot c.self.view_is c.self.invariant c.pass.view_is refl c.requires.own
    c.requires.slot in (
      at.0,
      at.2,
      lock_keeps g.T.Tenant.log g.T.Tenant.first_id g.T.Tenant.receipt t.key _ s.id c.args.slot s.me c.args.word c.pack-new.result at.1 c.requires.word.1
          (c.pack-new.ensures.word ∙ ap (λ w. packed_word w.first w.range 3 0) c.unpack-parts.ensures.parts),
    )

pub invariant_of-pass : goal.invariant_of-pass
invariant_of-pass g c =
    let t = c.self.inside.table.shared in let s = c.pass.inside.seat in
    let at = at_slot t.table_id s.table_id t.key c.self.inside.sizes c.args.self.now c.args.pass.now _ c.args.slot c.self.view_is c.self.invariant c.pass.view_is refl c.requires.own
    c.requires.slot in
    let e = c.compare_exchange-found.ensures in (
      steady_load s.table_id c.compare_exchange-found.new.seat.table_id c.args.slot _ _ _ s.me c.compare_exchange-found.new.seat.me e.0 at.3 c.pass.invariant.0 c.compare_exchange-found.result
          (e.2.1 c.if-found-word.true),
      c.pass.invariant.1,
    )

pub take_out-value-requires : goal.take_out-value-requires
take_out-value-requires g c =
    let t = c.self.inside.table.shared in let s = c.pass.inside.seat in
    let at = at_slot t.table_id s.table_id t.key c.self.inside.sizes c.args.self.now c.args.pass.now _ c.args.slot c.self.view_is c.self.invariant c.pass.view_is refl c.requires.own
    c.requires.slot in
    let e = c.compare_exchange-found.ensures in let lock = e.2.0 c.if-found-word.false in let out = ap (λ m. m.1) lock.1 in
    let p = part_with_hold (part_of s.me.0 c.args.slot) (first_in c.args.word, range_in c.args.word) (g.T.Tenant.log lock.0) in record {
      table = e.0 ∙ ap (λ z. z.table) c.pass.view_is ∙ c.requires.own.0;
      slot = subst (λ (z : TableId). c.args.slot < z.slots) (sym e.0) at.3;
      hold = (first_in c.args.word, range_in c.args.word, ap (λ m. (part_of m.0 c.args.slot).hold) lock.1 ∙ ap (λ z. z.hold) (part_here s.me.0.parts c.args.slot p));
      value = (lock.0, out ∙ ap (λ z. (c.args.slot, Some lock.0) ∷ z) (sym (ap rest out)));
    }

pub invariant_of-pass-2 : goal.invariant_of-pass-2
invariant_of-pass-2 g c =
    let t = c.self.inside.table.shared in let s = c.pass.inside.seat in
    let at = at_slot t.table_id s.table_id t.key c.self.inside.sizes c.args.self.now c.args.pass.now _ c.args.slot c.self.view_is c.self.invariant c.pass.view_is refl c.requires.own
    c.requires.slot in
    let e = c.compare_exchange-found.ensures in let lock = e.2.0 c.if-found-word.false in let log = g.T.Tenant.log lock.0 in
    let k : Claim = record { slot = c.args.slot; first = first_in c.args.word; size = range_in c.args.word } in
    let p = part_held (part_of s.me.0 c.args.slot) (first_in c.args.word, range_in c.args.word) log in
    let w = view_with_hold s.me.0 k log in (
      steady_after s.table_id c.take_out-value.new.seat.table_id c.args.slot _ _ _ s.me c.take_out-value.new.seat.me (c.take_out-value.ensures.same.0 ∙ e.0) at.3 c.pass.invariant.0 w p _
          (changed_part c.args.slot s.me.0 w p (held_part s.me.0 k log) refl refl refl c.pass.invariant.0.hand c.pass.invariant.0.taken) c.pass.invariant.0.sent_is (refl, refl)
          (c.take_out-value.ensures.me ∙ ap (λ m. (view_laid m.0 c.args.slot, rest m.1)) lock.1 ∙ ap (λ z. (w, z)) c.pass.invariant.0.carried),
      c.pass.invariant.1,
    )
