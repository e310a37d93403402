use Rattle.id_rule.proofs.Lifting.{lift_keeps}
use Rattle.id_shared.proofs.Tables.{at_seat}
use Rattle.id_shared.proofs.ids.Ids.lift.Goals as goal

pub load-requires : goal.load-requires
load-requires g c =
    let t = c.self.inside.table.shared in let s = c.args.seat.now in
    let at = at_seat t.table_id s.table_id t.key c.self.inside.sizes c.args.self.now c.args.slot c.self.view_is c.self.invariant c.requires.table c.requires.slot in (
      at.0,
      at.2,
      lift_keeps g.T.Tenant.log g.T.Tenant.first_id g.T.Tenant.receipt t.key _ s.id c.args.slot s.me c.requires.hold.0 c.requires.hold.1 at.1 c.requires.hold.2 c.requires.home,
    )
