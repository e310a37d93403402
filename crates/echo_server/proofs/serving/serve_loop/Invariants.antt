-- The frames of the bytes read are answered, and none waits.
use Rattle.std.proofs.Common.{◌≡◌, ◌≤◌, [], None, vec_len}
use Rattle.echo_server.proofs.Streamed.{Serving}
use Rattle.echo_server.proofs.serving.serve_loop.Given as goal

abbrev pub invariant-loop : goal.invariant-loop
invariant-loop g l = record {
  rounds : (goal.iterator-loop g).can_next l.iterator' × (goal.iterator-loop g).is_finite l.iterator';
  serving : Serving (g.I.WireIn.got l.fn.wire_in) (g.I.WireIn.got l.wire_in) (g.O.WireOut.given l.fn.wire_out) (g.O.WireOut.given l.wire_out) l.fn.echo l.echo l.frames;
  none : l.frames.frames ≡ [];
  plain : l.frames.fault ≡ None;
  sized : vec_len l.room ≡ 65536;
  unclosed : g.O.WireOut.closed l.wire_out ≡ g.O.WireOut.closed l.fn.wire_out;
  told : g.C.Clock.told l.clock ≡ g.C.Clock.told l.fn.clock;
  high : g.C.Clock.high l.clock ≡ g.C.Clock.high l.fn.clock;
  reads : g.I.WireIn.faults l.fn.wire_in ≤ g.I.WireIn.faults l.wire_in;
  writes : g.O.WireOut.faults l.fn.wire_out ≤ g.O.WireOut.faults l.wire_out;
}
