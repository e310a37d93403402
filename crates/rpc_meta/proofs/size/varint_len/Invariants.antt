use Rattle.std.proofs.Common.{◌≡◌, ◌+◌, length}
use Rattle.rpc_meta.specs.Meta.Spelling.{varint_bytes}
use Rattle.rpc_meta.proofs.size.varint_len.Given as goal

abbrev pub invariant-groups : goal.invariant-groups
invariant-groups l = l.len + length (varint_bytes l.rest) ≡ 1 + length (varint_bytes l.number)

abbrev pub decreases-groups : goal.decreases-groups
decreases-groups l = l.rest
