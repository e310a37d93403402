-- What was read stands in order, and is at most one byte longer than a script may be.
use Rattle.std.proofs.Common.{vec_len, ◌≡◌, ◌-◌, ◌≤◌}
use Rattle.std.specs.Io.KnownBytes.{Consumes}
use Rattle.brpc_top.proofs.input.read_script_bytes.Given as goal

abbrev pub invariant-loop-bytes : goal.invariant-loop-bytes
invariant-loop-bytes g l = record {
  sized : vec_len l.piece ≡ 65536;
  few : vec_len l.bytes ≤ 16777217;
  read : Consumes (g.S.Source.left l.fn.source) (g.S.Source.left l.source) l.bytes.items;
  kept : g.S.Source.faults l.source ≡ g.S.Source.faults l.fn.source;
}

abbrev pub decreases-loop-bytes : goal.decreases-loop-bytes
decreases-loop-bytes g l = 16777217 - vec_len l.bytes
