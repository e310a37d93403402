use Rattle.rpc_meta.proofs.Groups.{sum_last}
use Rattle.rpc_meta.proofs.varint.read_groups.Goals as goal

pub returns-then-group-lt128-clause-read : goal.returns-then-group-lt128-clause-read
returns-then-group-lt128-clause-read c =
    sum_last c.args.at c.groups.number c.groups.weight c.groups.most c.in-Some.group.now c.groups.rest.now c.in-Some.behind.now _ c.groups-test.true c.in-Some.ensures.cases.0 c.if-group-lt128.true
    c.groups.invariant.0
