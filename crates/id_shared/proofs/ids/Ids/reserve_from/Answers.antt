use Rattle.std.proofs.Common.{refl, ap, ◌∙◌, Some}
use Rattle.id_rule.specs.Words.{packed_word}
use Rattle.id_rule.specs.Changes.{part_with_spot}
use Rattle.id_rule.specs.Parts.{part_of}
use Rattle.rpc_model.specs.Gone.{first_in, range_in}
use Rattle.id_rule.proofs.Reserving.{reserve_keeps}
use Rattle.id_shared.proofs.Tables.{at_slot}
use Rattle.id_shared.proofs.Steady.{steady_load, steady_part}
use Rattle.id_shared.proofs.ids.Ids.reserve_from.Goals as goal

pub compare_exchange-found-requires : goal.compare_exchange-found-requires
compare_exchange-found-requires g c =
    let t = c.self.inside.table.shared in let s = c.pass.inside.seat in
    let at = at_slot t.table_id s.table_id t.key c.self.inside.sizes c.args.self.now c.args.pass.now _ c.args.slot c.self.view_is c.self.invariant c.pass.view_is refl c.requires.own
    c.requires.slot in (
      at.0,
      at.2,
      reserve_keeps g.T.Tenant.log g.T.Tenant.first_id g.T.Tenant.receipt t.key _ s.id c.args.slot s.me c.args.word c.pack-new.result _ c.args.range at.1 c.requires.word.1 refl
          c.requires.range.0 c.requires.range.1 (c.pack-new.ensures.word ∙ ap (λ w. packed_word w.first c.args.range 1 0) c.unpack-first.ensures.parts),
    )

pub invariant_of-pass : goal.invariant_of-pass
invariant_of-pass g c =
    let t = c.self.inside.table.shared in let s = c.pass.inside.seat in
    let at = at_slot t.table_id s.table_id t.key c.self.inside.sizes c.args.self.now c.args.pass.now _ c.args.slot c.self.view_is c.self.invariant c.pass.view_is refl c.requires.own
    c.requires.slot in
    let e = c.compare_exchange-found.ensures in (
      steady_load s.table_id c.compare_exchange-found.new.seat.table_id c.args.slot _ _ _ s.me c.compare_exchange-found.new.seat.me e.0 at.3 c.pass.invariant.0 c.compare_exchange-found.result
          (e.2.1 c.if-found-word.true),
      c.pass.invariant.1,
    )

pub invariant_of-pass-2 : goal.invariant_of-pass-2
invariant_of-pass-2 g c =
    let t = c.self.inside.table.shared in let s = c.pass.inside.seat in
    let at = at_slot t.table_id s.table_id t.key c.self.inside.sizes c.args.self.now c.args.pass.now _ c.args.slot c.self.view_is c.self.invariant c.pass.view_is refl c.requires.own
    c.requires.slot in
    let e = c.compare_exchange-found.ensures in (
      steady_part s.table_id c.compare_exchange-found.new.seat.table_id c.args.slot _ _ _ s.me c.compare_exchange-found.new.seat.me e.0 at.3 c.pass.invariant.0 s.me.0.seen
          (part_with_spot (part_of s.me.0 c.args.slot) (Some (first_in c.args.word, range_in c.pack-new.result))) (c.pass.invariant.0.laid c.args.slot) (e.2.0 c.if-found-word.false).0,
      c.pass.invariant.1,
    )
