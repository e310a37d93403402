use Rattle.std.proofs.Common.{◌∷◌, sym, ap, ◌∙◌, None}
use Rattle.atomic_table.specs.Table.{rest}
use Rattle.id_rule.specs.Parts.{part_of}
use Rattle.id_rule.proofs.Lifting.{lay_keeps}
use Rattle.id_shared.proofs.Tables.{at_seat}
use Rattle.id_shared.proofs.ids.Ids.take_out.Goals as goal

pub load-requires : goal.load-requires
load-requires g c =
    let t = c.self.inside.table.shared in let s = c.args.seat.now in let w = c.exchange-item.new.seat in
    let at = at_seat t.table_id s.table_id t.key c.self.inside.sizes c.args.self.now c.args.slot c.self.view_is c.self.invariant c.requires.table c.requires.slot in
    let me = c.exchange-item.ensures.3 in let out = ap (λ m. m.1) me in (
      c.exchange-item.ensures.0 ∙ at.0,
      at.2,
      lay_keeps g.T.Tenant.log g.T.Tenant.first_id g.T.Tenant.receipt t.key _ w.id c.args.slot w.me c.requires.hold.0 c.requires.hold.1 (out ∙ ap (λ z. (c.args.slot, None) ∷ z) (sym (ap rest out)))
          at.1 (ap (λ m. (part_of m.0 c.args.slot).hold) me ∙ c.requires.hold.2),
    )
