use Rattle.std.proofs.Common.{◌∙◌, ◌++◌, List, ℕ, ap, sym, length, arith}
use Rattle.rpc_meta.proofs.Shortest.{groups_last, groups_some, put_group}
use Rattle.rpc_meta.proofs.Sizes.{count_group}
use Rattle.rpc_meta.proofs.writing.put_varint.Goals as goal

pub push_reserved-requires : goal.push_reserved-requires
push_reserved-requires c = omega (arith, c.requires, c.groups.invariant.1, c.groups.invariant.2, groups_some 9 c.groups.rest)

pub groups-preserved : goal.groups-preserved
groups-preserved c = (
  put_group c.groups.to.items c.push_reserved.new.self.items c.groups.rest _ (omega arith) c.groups-test.true c.push_reserved.ensures.items c.groups.invariant.0,
  omega (arith, c.push_reserved.ensures.len, count_group c.groups.to.len c.groups.rest _ (omega arith) c.groups-test.true c.groups.invariant.1),
  omega (arith, c.push_reserved.ensures.capacity, c.groups.invariant.2),
)

pub push_reserved-requires-2 : goal.push_reserved-requires-2
push_reserved-requires-2 c = omega (arith, c.requires, c.groups.invariant.1, c.groups.invariant.2, groups_some 9 c.groups.rest)

pub returns-clause-written : goal.returns-clause-written
returns-clause-written c = rw c.push_reserved-2.ensures.items (ap (λ (g : List ℕ). c.groups.to.items ++ g) (sym (groups_last 9 c.groups.rest c.groups-test.false)) ∙ c.groups.invariant.0)

pub returns-clause-len : goal.returns-clause-len
returns-clause-len c = omega (arith, c.push_reserved-2.ensures.len, c.groups.invariant.1, ap length (groups_last 9 c.groups.rest c.groups-test.false))
