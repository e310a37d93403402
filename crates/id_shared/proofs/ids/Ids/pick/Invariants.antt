use Rattle.std.proofs.Common.{◌≡◌, ◌-◌, vec_capacity}
use Rattle.id_shared.proofs.Picks.{IsSeeking}
use Rattle.id_shared.proofs.ids.Ids.pick.Given as goal

abbrev pub invariant-loop-count : goal.invariant-loop-count
invariant-loop-count g l = IsSeeking l.self l.number l.count l.initial.seat.me.0 l.seat.me.0 l.words.items
    × (l.seat.table_id ≡ l.initial.seat.table_id)
    × (l.seat.id ≡ l.initial.seat.id)
    × (l.seat.me.1 ≡ l.initial.seat.me.1)
    × (vec_capacity l.words ≡ vec_capacity l.initial.words)

abbrev pub decreases-loop-count : goal.decreases-loop-count
decreases-loop-count g l = l.self.sizes.nodes - l.count
