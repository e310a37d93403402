use Rattle.std.proofs.Common.{arith, ap, length}
use Rattle.rpc_meta.proofs.Shortest.{groups_last, length-groups_of, groups_some}
use Rattle.rpc_meta.proofs.Sizes.{count_group}
use Rattle.rpc_meta.proofs.size.varint_len.Goals as goal

pub groups-preserved : goal.groups-preserved
groups-preserved c = count_group c.groups.len c.groups.rest _ (omega arith) c.groups-test.true c.groups.invariant

pub overflow_add-len : goal.overflow_add-len
overflow_add-len c = omega (arith, c.groups.invariant, length-groups_of 10 c.args.number, groups_some 9 c.groups.rest)

pub returns-clause-len : goal.returns-clause-len
returns-clause-len c = omega (arith, c.groups.invariant, ap length (groups_last 9 c.groups.rest c.groups-test.false))

pub returns-clause-small : goal.returns-clause-small
returns-clause-small c = omega (arith, c.groups.invariant, ap length (groups_last 9 c.groups.rest c.groups-test.false), length-groups_of 10 c.args.number)
