use Rattle.std.proofs.Common.{refl, sym, ap, arith, ◌∙◌}
use Rattle.id_rule.specs.Parts.{giving_view}
use Rattle.id_rule.proofs.Openings.{split_keeps}
use Rattle.id_shared.proofs.Steady.{steady_split}
use Rattle.id_shared.proofs.ids.Ids.another.Goals as goal

pub split_seat-seat-requires : goal.split_seat-seat-requires
split_seat-seat-requires g c =
    let t = c.self.inside.table.shared in let s = c.root.inside.seat in
    let is = c.root.view_is ∙ c.requires.root in
    let same = ap (λ z. z.table) is ∙ sym (ap (λ z. z.table) c.self.view_is) in (
      same,
      (let a = c.self.invariant.2 in let b = c.self.invariant.3 in omega (arith, a, b)),
      split_keeps g.T.Tenant.log g.T.Tenant.first_id g.T.Tenant.receipt t.key s.id s.me.0 c.args.number (ap (λ z. z.view.next) is),
    )

pub invariant_of-root : goal.invariant_of-root
invariant_of-root g c =
    let e = c.split_seat-seat.ensures in let s = c.root.inside.seat in let n = c.split_seat-seat.new.seat in let st = c.root.invariant.0 in (
      steady_split s.table_id n.table_id _ _ _ s.me n.me (giving_view s.me.0) e.0 e.2 refl refl refl refl refl st.hand st.taken st,
      c.root.invariant.1,
    )
