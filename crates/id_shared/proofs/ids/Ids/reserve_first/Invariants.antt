use Rattle.std.proofs.Common.{◌≡◌, ◌-◌}
use Rattle.id_shared.specs.Claims.{KeepsErrors}
use Rattle.id_shared.proofs.Looks.{IsLooking}
use Rattle.id_shared.proofs.ids.Ids.reserve_first.Given as goal

abbrev pub invariant-loop-count : goal.invariant-loop-count
invariant-loop-count g l = IsLooking l.self l.start l.initial.pass.view l.count l.pass × KeepsErrors l.initial.pass l.pass

abbrev pub decreases-loop-count : goal.decreases-loop-count
decreases-loop-count g l = l.self.sizes.slots - l.count
