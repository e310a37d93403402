use Rattle.std.proofs.Common.{◌≡◌, ℕ, arith, vec_len}
use Rattle.id_shared.proofs.Scratch.{next_first, next_second, none_long, pop_none}
use Rattle.id_shared.proofs.ids.Ids.next_dropped.Goals as goal

pub returns-in-Some-clause-next : goal.returns-in-Some-clause-next
returns-in-Some-clause-next g c =
    let p = c.pass.inside in
    next_first c.args.pass.now p.seat.table_id p.seat.me.0 p.words.items p.holder p.pending.items c.pop.new.self.items p.dropped.items c.in-Some.error c.pass.view_is c.in-Some.ensures.items

pub returns-in-None-clause-next : goal.returns-in-None-clause-next
returns-in-None-clause-next g c =
    let p = c.pass.inside in let none_pending = c.in-None.ensures.cases.0 in let long = p.pending.ok.0 in
    next_second c.args.pass.now p.seat.table_id p.seat.me.0 p.words.items p.holder p.pending.items c.pop.new.self.items p.dropped.items c.pop-in-None.new.self.items c.pop-in-None.result
    c.pass.view_is (none_long p.pending.items (omega (arith, none_pending, long))) c.in-None.ensures.items c.pop-in-None.ensures.items
    (λ e. let more = p.dropped.ok.0 in
    let after = c.pop-in-None.new.self in
    let none_dropped = (pop_none c.pop-in-None.result (λ (n : ℕ). (vec_len p.dropped ≡ n) × (vec_len after ≡ n)) 0 _ c.pop-in-None.ensures.cases e).0 in
    none_long p.dropped.items (omega (arith, none_dropped, more)))
