use Rattle.std.proofs.Common.{◌≡◌, ◌+◌, ◌-◌, ◌*◌, ◌≤◌}
use Rattle.timer_core.specs.Homes.{list_from}
use Rattle.timer_core.proofs.home.home.Given as goal

-- The list is that of what is left, and each level that was passed has 256 lists.
abbrev pub invariant-loop-level : goal.invariant-loop-level
invariant-loop-level l = (list_from (8 - l._level) l.list l.left l.reached ≡ list_from 8 1 l.fn.moment l.fn.base) × (l.list ≡ 1 + 256 * l._level) × (l._level ≤ 8)
