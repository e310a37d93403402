-- A front of the bytes was written.
use Rattle.std.proofs.Common.{length, take, ◌-◌, ◌≤◌, ◌≡◌}
use Rattle.std.specs.Io.KnownBytes.{append_known}
use Rattle.echo_server.proofs.writing.write_all.Given as goal

abbrev pub invariant-loop-done : goal.invariant-loop-done
invariant-loop-done g l = record {
  within : l.done ≤ length l.bytes;
  written : g.O.WireOut.given l.wire ≡ append_known (g.O.WireOut.given l.fn.wire) (take l.done l.bytes);
  closed : g.O.WireOut.closed l.wire ≡ g.O.WireOut.closed l.fn.wire;
  kept : g.O.WireOut.faults l.wire ≡ g.O.WireOut.faults l.fn.wire;
}

abbrev pub decreases-loop-done : goal.decreases-loop-done
decreases-loop-done g l = length l.bytes - l.done
