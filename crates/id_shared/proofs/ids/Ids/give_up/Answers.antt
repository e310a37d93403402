use Rattle.std.proofs.Common.{◌≡◌, refl, sym, subst, Some, None}
use Rattle.id_rule.specs.Changes.{part_with_spot}
use Rattle.id_rule.specs.Parts.{part_of}
use Rattle.id_rule.proofs.Reserving.{give_up_keeps}
use Rattle.id_shared.specs.Standing.{Claim, Standing, HasSpot}
use Rattle.id_shared.proofs.Tables.{at_claim}
use Rattle.id_shared.proofs.Steady.{steady_part, spot_is_low}
use Rattle.id_shared.proofs.ids.Ids.give_up.Goals as goal

pub store-requires : goal.store-requires
store-requires g c =
    let t = c.self.inside.table.shared in let s = c.pass.inside.seat in let k = c.spot.inside in
    let has : (part_of s.me.0 k.slot).spot ≡ Some (k.first, k.size) = subst (λ (z : Claim × Standing g.row.T-Entry.Denot). HasSpot z.1 z.0) (λ y. (sym c.spot.view_is y, sym c.pass.view_is y))
    c.requires.spot in
    let at = at_claim t.table_id s.table_id t.key c.self.inside.sizes c.args.self.now c.args.pass.now _ k.slot c.self.view_is c.self.invariant c.pass.view_is refl c.requires.own
    (spot_is_low s.table_id.slots _ _ k.slot _ s.me c.pass.invariant.0 (k.first, k.size) has) in
    (at.0, at.2, give_up_keeps g.T.Tenant.log g.T.Tenant.first_id g.T.Tenant.receipt t.key _ s.id k.slot s.me c.pack-new.result k.first k.size at.1 has c.pack-new.ensures.word)

pub invariant_of-pass : goal.invariant_of-pass
invariant_of-pass g c =
    let t = c.self.inside.table.shared in let s = c.pass.inside.seat in let k = c.spot.inside in
    let has : (part_of s.me.0 k.slot).spot ≡ Some (k.first, k.size) = subst (λ (z : Claim × Standing g.row.T-Entry.Denot). HasSpot z.1 z.0) (λ y. (sym c.spot.view_is y, sym c.pass.view_is y))
    c.requires.spot in
    let at = at_claim t.table_id s.table_id t.key c.self.inside.sizes c.args.self.now c.args.pass.now _ k.slot c.self.view_is c.self.invariant c.pass.view_is refl c.requires.own
    (spot_is_low s.table_id.slots _ _ k.slot _ s.me c.pass.invariant.0 (k.first, k.size) has) in
    let e = c.store.ensures in let st = c.pass.invariant.0 in (
      steady_part s.table_id c.store.new.seat.table_id k.slot _ _ _ s.me c.store.new.seat.me e.0 at.3 st s.me.0.seen
          (part_with_spot (part_of s.me.0 k.slot) None) (st.laid k.slot) e.2,
      c.pass.invariant.1,
    )
