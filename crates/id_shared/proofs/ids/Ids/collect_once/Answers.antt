use Rattle.std.proofs.Common.{◌≡◌, ◌∷◌, ◌++◌, [], refl, sym, ap, subst, ◌∙◌, Some, None}
use Rattle.atomic_table.specs.Table.{rest}
use Rattle.id_rule.specs.Changes.{part_with_taking, part_without_taking}
use Rattle.id_rule.specs.Parts.{part_of, view_with}
use Rattle.id_rule.proofs.Lists.{part_here}
use Rattle.id_rule.proofs.Collecting.{take_keeps, give_back_keeps}
use Rattle.id_shared.specs.Standing.{Claim, Standing, HasOwner}
use Rattle.id_shared.proofs.Tables.{at_claim}
use Rattle.id_shared.specs.Steady.{IsLaid}
use Rattle.id_rule.specs.declared.view.Part.{Part}
use Rattle.id_shared.proofs.Steady.{changed_with, changed_again, steady_load, steady_after, owner_is_low}
use Rattle.id_shared.proofs.ids.Ids.collect_once.Goals as goal

pub load-word-requires : goal.load-word-requires
load-word-requires g c =
    let t = c.self.inside.table.shared in let s = c.pass.inside.seat in let k = c.owner.inside in
    let has : (part_of s.me.0 k.slot).owner ≡ Some (k.first, k.size) = subst (λ (z : Claim × Standing g.row.T-Entry.Denot). HasOwner z.1 z.0) (λ y. (sym c.owner.view_is y, sym c.pass.view_is y))
    c.requires.owner in
    let low = owner_is_low s.table_id.slots _ _ k.slot _ s.me c.pass.invariant.0 (k.first, k.size) has in
    let at = at_claim t.table_id s.table_id t.key c.self.inside.sizes c.args.self.now c.args.pass.now _ k.slot c.self.view_is c.self.invariant c.pass.view_is refl c.requires.own low in
    (at.0, at.2, take_keeps g.T.Tenant.log g.T.Tenant.first_id g.T.Tenant.receipt t.key _ s.id k.slot s.me (k.first, k.size) at.1 has)

pub invariant_of-pass : goal.invariant_of-pass
invariant_of-pass g c =
    let t = c.self.inside.table.shared in let s = c.pass.inside.seat in let k = c.owner.inside in
    let has : (part_of s.me.0 k.slot).owner ≡ Some (k.first, k.size) = subst (λ (z : Claim × Standing g.row.T-Entry.Denot). HasOwner z.1 z.0) (λ y. (sym c.owner.view_is y, sym c.pass.view_is y))
    c.requires.owner in
    let low = owner_is_low s.table_id.slots _ _ k.slot _ s.me c.pass.invariant.0 (k.first, k.size) has in
    let at = at_claim t.table_id s.table_id t.key c.self.inside.sizes c.args.self.now c.args.pass.now _ k.slot c.self.view_is c.self.invariant c.pass.view_is refl c.requires.own low in
    let load = c.load-word.ensures in (
      steady_load s.table_id c.load-word.new.seat.table_id k.slot _ _ _ s.me c.load-word.new.seat.me load.0 at.3 c.pass.invariant.0 c.load-word.result
          ((load.2.0 (k.first, k.size) has).1 (λ e. c.if-word-pack.true (e ∙ sym c.pack.ensures.word))),
      c.pass.invariant.1,
    )

pub exchange-item-requires : goal.exchange-item-requires
exchange-item-requires g c =
    let t = c.self.inside.table.shared in let s = c.pass.inside.seat in let k = c.owner.inside in
    let has : (part_of s.me.0 k.slot).owner ≡ Some (k.first, k.size) = subst (λ (z : Claim × Standing g.row.T-Entry.Denot). HasOwner z.1 z.0) (λ y. (sym c.owner.view_is y, sym c.pass.view_is y))
    c.requires.owner in
    let low = owner_is_low s.table_id.slots _ _ k.slot _ s.me c.pass.invariant.0 (k.first, k.size) has in
    let at = at_claim t.table_id s.table_id t.key c.self.inside.sizes c.args.self.now c.args.pass.now _ k.slot c.self.view_is c.self.invariant c.pass.view_is refl c.requires.own low in
    let load = c.load-word.ensures in
    let take = (load.2.0 (k.first, k.size) has).0 (c.if-word-pack.false ∙ c.pack.ensures.word) in
    let out = ap (λ m. m.1) take.1 in
    (load.0 ∙ at.0, (Some take.0, out ∙ ap (λ z. (k.slot, Some take.0) ∷ z) (sym (ap rest out))))

pub store-requires : goal.store-requires
store-requires g c =
    let t = c.self.inside.table.shared in let s = c.pass.inside.seat in let k = c.owner.inside in
    let has : (part_of s.me.0 k.slot).owner ≡ Some (k.first, k.size) = subst (λ (z : Claim × Standing g.row.T-Entry.Denot). HasOwner z.1 z.0) (λ y. (sym c.owner.view_is y, sym c.pass.view_is y))
    c.requires.owner in
    let low = owner_is_low s.table_id.slots _ _ k.slot _ s.me c.pass.invariant.0 (k.first, k.size) has in
    let at = at_claim t.table_id s.table_id t.key c.self.inside.sizes c.args.self.now c.args.pass.now _ k.slot c.self.view_is c.self.invariant c.pass.view_is refl c.requires.own low in
    let load = c.load-word.ensures in
    let take = (load.2.0 (k.first, k.size) has).0 (c.if-word-pack.false ∙ c.pack.ensures.word) in
    let x = c.exchange-item.ensures in
    let p = part_with_taking (part_of s.me.0 k.slot) (k.first, k.size) (g.T.Tenant.log take.0) in
    let mid = view_with s.me.0 (s.me.0.seen ++ (k.slot, c.load-word.result) ∷ []) k.slot p in
    let me = x.3 ∙ ap (λ m. (m.0, (k.slot, None) ∷ rest m.1)) take.1 in
    let out = ap (λ m. m.1) me in
    let now : (part_of c.exchange-item.new.seat.me.0 k.slot).taking ≡ Some (k.first, k.size) = ap (λ m. (part_of m.0 k.slot).taking) me ∙ ap (λ q. q.taking) (part_here s.me.0.parts k.slot p) in (
      x.0 ∙ load.0 ∙ at.0,
      at.2,
      give_back_keeps g.T.Tenant.log g.T.Tenant.first_id g.T.Tenant.receipt t.key _ c.exchange-item.new.seat.id k.slot c.exchange-item.new.seat.me c.next_word-new.result
          k.first k.size (out ∙ ap (λ z. (k.slot, None) ∷ z) (sym (ap rest out))) at.1 now c.next_word-new.ensures.vacant c.next_word-new.ensures.retired,
    )

pub invariant_of-pass-2 : goal.invariant_of-pass-2
invariant_of-pass-2 g c =
    let t = c.self.inside.table.shared in let s = c.pass.inside.seat in let k = c.owner.inside in
    let has : (part_of s.me.0 k.slot).owner ≡ Some (k.first, k.size) = subst (λ (z : Claim × Standing g.row.T-Entry.Denot). HasOwner z.1 z.0) (λ y. (sym c.owner.view_is y, sym c.pass.view_is y))
    c.requires.owner in
    let low = owner_is_low s.table_id.slots _ _ k.slot _ s.me c.pass.invariant.0 (k.first, k.size) has in
    let at = at_claim t.table_id s.table_id t.key c.self.inside.sizes c.args.self.now c.args.pass.now _ k.slot c.self.view_is c.self.invariant c.pass.view_is refl c.requires.own low in
    let load = c.load-word.ensures in
    let take = (load.2.0 (k.first, k.size) has).0 (c.if-word-pack.false ∙ c.pack.ensures.word) in
    let x = c.exchange-item.ensures in
    let p = part_with_taking (part_of s.me.0 k.slot) (k.first, k.size) (g.T.Tenant.log take.0) in
    let mid = view_with s.me.0 (s.me.0.seen ++ (k.slot, c.load-word.result) ∷ []) k.slot p in
    let me = x.3 ∙ ap (λ m. (m.0, (k.slot, None) ∷ rest m.1)) take.1 in
    let e = c.store.ensures in
    let u = view_with mid mid.seen k.slot (part_without_taking (part_of mid k.slot)) in
    let moves = changed_again k.slot s.me.0 mid u p (part_without_taking (part_of mid k.slot)) (changed_with k.slot s.me.0 mid.seen p c.pass.invariant.0.hand c.pass.invariant.0.taken)
    (changed_with k.slot mid mid.seen (part_without_taking (part_of mid k.slot)) c.pass.invariant.0.hand c.pass.invariant.0.taken) in (
      steady_after s.table_id c.store.new.seat.table_id k.slot _ _ _ s.me c.store.new.seat.me (e.0 ∙ x.0 ∙ load.0) low c.pass.invariant.0 u (part_without_taking (part_of mid k.slot)) _ moves
          c.pass.invariant.0.sent_is
          (subst (λ (z : Part g.row.T-Entry.Denot). IsLaid z.turn) (sym (part_here s.me.0.parts k.slot p)) (c.pass.invariant.0.laid k.slot))
          (e.2.0 ∙ ap (λ m. (view_with m.0 m.0.seen k.slot (part_without_taking (part_of m.0 k.slot)), rest m.1)) me ∙ ap (λ z. (u, z)) c.pass.invariant.0.carried),
      c.pass.invariant.1,
    )
