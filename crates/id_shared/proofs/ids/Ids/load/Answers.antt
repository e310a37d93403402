use Rattle.std.proofs.Common.{refl}
use Rattle.id_rule.proofs.Reserving.{look_keeps}
use Rattle.id_shared.proofs.Tables.{at_slot}
use Rattle.id_shared.proofs.Steady.{steady_load}
use Rattle.id_shared.proofs.ids.Ids.load.Goals as goal

pub load-requires : goal.load-requires
load-requires g c =
    let t = c.self.inside.table.shared in let s = c.pass.inside.seat in
    let at = at_slot t.table_id s.table_id t.key c.self.inside.sizes c.args.self.now c.args.pass.now _ c.args.slot c.self.view_is c.self.invariant c.pass.view_is refl c.requires.own
    c.requires.slot in
    (at.0, at.2, look_keeps g.T.Tenant.log g.T.Tenant.first_id g.T.Tenant.receipt t.key _ s.id c.args.slot s.me at.1)

pub invariant_of-pass : goal.invariant_of-pass
invariant_of-pass g c =
    let t = c.self.inside.table.shared in let s = c.pass.inside.seat in
    let at = at_slot t.table_id s.table_id t.key c.self.inside.sizes c.args.self.now c.args.pass.now _ c.args.slot c.self.view_is c.self.invariant c.pass.view_is refl c.requires.own
    c.requires.slot in
    let e = c.load.ensures in
    (steady_load s.table_id c.load.new.seat.table_id c.args.slot _ _ _ s.me c.load.new.seat.me e.0 at.3 c.pass.invariant.0 c.load.result e.2.0, c.pass.invariant.1)
