use Rattle.std.proofs.Common.{◌≡◌, ◌≤◌, length}
use Rattle.rpc_meta.specs.Meta.Wire.{varint, groups}
use Rattle.rpc_meta.proofs.Groups.{sum_from}
use Rattle.rpc_meta.proofs.varint.read_groups.Given as goal

abbrev pub invariant-groups : goal.invariant-groups
invariant-groups l = (varint l.at l.bytes ≡ sum_from l.number l.weight (groups l.at l.most l.rest)) × (length l.rest ≤ length l.bytes)

abbrev pub decreases-groups : goal.decreases-groups
decreases-groups l = l.most
