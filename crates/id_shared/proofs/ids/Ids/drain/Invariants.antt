use Rattle.std.proofs.Common.{length, vec_capacity}
use Rattle.id_shared.proofs.Draining.{IsEmptying}
use Rattle.id_shared.proofs.ids.Ids.drain.Given as goal

abbrev pub invariant-loop-node : goal.invariant-loop-node
invariant-loop-node g l = IsEmptying l.self l.initial.seat.table_id l.seat.table_id l.initial.seat.id l.seat.id l.initial.seat.me l.seat.me l.initial.list.items l.list.items
    l.node (vec_capacity l.initial.list) (vec_capacity l.list)

abbrev pub decreases-loop-node : goal.decreases-loop-node
decreases-loop-node g l = length l.seat.me.0.taken
