use Rattle.std.proofs.Common.{◌≤◌, ap, ap₂, subst, arith, ◌∙◌, Some}
use mathlib.Core.Logic.{dite}
use native.Mathlib.Decide.{ℕ_discrete}
use Rattle.id_rule.specs.Changes.{view_with_hand, view_with_seen}
use Rattle.id_rule.specs.Nodes.{word_at, pass_of_node}
use Rattle.id_rule.specs.Parts.{HasNumber}
use Rattle.id_rule.proofs.Owning.{pick_keeps}
use Rattle.id_shared.proofs.Draining.{at_node}
use Rattle.id_shared.proofs.Picks.{node_there}
use Rattle.id_shared.proofs.Tables.{table_sizes}
use Rattle.id_shared.proofs.ids.Ids.pick_one.Goals as goal

pub place_of-place-requires : goal.place_of-place-requires
place_of-place-requires g c = let r = c.requires.picking in let low = r.low in let few = r.few in record { node = (r.one, omega (arith, low, few)) }

pub load-requires : goal.load-requires
load-requires g c =
    let t = c.self.inside.table.shared in let s = c.args.seat.now in let r = c.requires.picking in
    let at = at_node t.table_id s.table_id t.key c.self.inside.sizes c.args.self.now c.args.node c.self.view_is c.self.invariant r.of_table r.one r.low in
    let sizes = table_sizes t.table_id t.key c.self.inside.sizes c.args.self.now c.self.view_is c.self.invariant in
    let place = c.place_of-place.ensures.place in let low = at.1 in (
      at.0,
      omega (arith, place, low),
      pick_keeps g.T.Tenant.log g.T.Tenant.first_id g.T.Tenant.receipt t.key _ s.id c.place_of-place.result c.args.node s.me r.one (subst (λ z. c.args.node ≤ z) at.6 r.low)
          (place ∙ ap (λ z. word_at z c.args.node) at.2) (subst (λ z. HasNumber (pass_of_node z c.args.node) s.me.0.numbers) sizes.0 r.mine) r.empty,
    )

pub returns-clause-same : goal.returns-clause-same
returns-clause-same g c =
    let e = c.load.ensures in (
      e.0,
      e.1,
      dite (ℕ_discrete c.load.result 0) (λ z. ap (λ m. m.1) (e.2.0 z).1) (λ ne. ap (λ m. m.1) (e.2.1 ne)),
    )

pub returns-clause-picked : goal.returns-clause-picked
returns-clause-picked g c =
    let t = c.self.inside.table.shared in let s = c.args.seat.now in let r = c.requires.picking in
    let at = at_node t.table_id s.table_id t.key c.self.inside.sizes c.args.self.now c.args.node c.self.view_is c.self.invariant r.of_table r.one r.low in
    let place = c.place_of-place.ensures.place in let e = c.load.ensures in let n = c.load.result in
    let node = node_there t.table_id.slots c.args.node c.place_of-place.result r.one (place ∙ ap (λ z. word_at z c.args.node) at.3) in (
      (λ z. (
        (e.2.0 z).0,
        ap (λ m. m.0) (e.2.0 z).1 ∙ ap₂ (λ p k. view_with_hand (view_with_seen s.me.0 p n) (Some (k, 0, (e.2.0 z).0))) place node,
      )),
      (λ ne. ap (λ m. m.0) (e.2.1 ne) ∙ ap (λ p. view_with_seen s.me.0 p n) place),
    )
