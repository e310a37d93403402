use Rattle.std.proofs.Common.{◌≡◌, ◌+◌, ◌≤◌, ◌++◌, length}
use Rattle.std.specs.Vec.{vec_len, vec_capacity}
use Rattle.rpc_meta.specs.Meta.Spelling.{varint_bytes}
use Rattle.rpc_meta.proofs.writing.put_varint.Given as goal

abbrev pub invariant-groups : goal.invariant-groups
invariant-groups l =
    (l.to.items ++ varint_bytes l.rest ≡ l.fn.to.items ++ varint_bytes l.number)
    × (vec_len l.to + length (varint_bytes l.rest) ≡ vec_len l.fn.to + length (varint_bytes l.number))
    × (vec_capacity l.fn.to ≤ vec_capacity l.to)

abbrev pub decreases-groups : goal.decreases-groups
decreases-groups l = l.rest
