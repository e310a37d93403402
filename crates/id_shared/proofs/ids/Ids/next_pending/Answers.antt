use Rattle.std.proofs.Common.{◌≡◌, ℕ, arith, vec_len}
use Rattle.id_shared.proofs.Scratch.{next_pending_is, none_long, pop_none}
use Rattle.id_shared.proofs.ids.Ids.next_pending.Goals as goal

pub returns-clause-next : goal.returns-clause-next
returns-clause-next g c =
    let p = c.pass.inside in
    next_pending_is c.args.pass.now p.seat.table_id p.seat.me.0 p.words.items p.holder c.args.hold.now p.pending.items c.pop.new.self.items p.dropped.items c.pop.result c.pass.view_is
    c.pass.invariant.1.2 c.requires.errors c.pop.ensures.items
    (λ e. let long = p.pending.ok.0 in
    let none_pending = (pop_none c.pop.result (λ (n : ℕ). (vec_len p.pending ≡ n) × (vec_len c.pop.new.self ≡ n)) 0 _ c.pop.ensures.cases e).0 in
    none_long p.pending.items (omega (arith, none_pending, long)))
