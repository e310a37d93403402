-- The slots that are left get fewer.
use Rattle.std.proofs.Common.{◌+◌, ◌-◌}
use Rattle.id_shared.proofs.crowd_holding_tests.+tends.Given as goal

abbrev pub decreases-tends : goal.decreases-tends
decreases-tends g l = l.last + 1 - l.slot
