use Rattle.std.proofs.Common.{◌-◌, length}
use Rattle.timer_core.specs.Wheel.{HoldTheSame}
use Rattle.timer_core.proofs.wheel.lay_out.Given as goal

-- The lists hold what they held.
abbrev pub invariant-loop-chains : goal.invariant-loop-chains
invariant-loop-chains l = HoldTheSame l.initial.chains l.chains

abbrev pub decreases-loop-chains : goal.decreases-loop-chains
decreases-loop-chains l = 2049 - length l.chains
