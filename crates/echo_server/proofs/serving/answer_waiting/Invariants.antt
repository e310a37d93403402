-- The answers to the frames that still wait are still to be written.
use Rattle.std.proofs.Common.{length, ◌≤◌, ◌≡◌}
use Rattle.echo_server.proofs.Answered.{Answered}
use Rattle.echo_server.proofs.serving.answer_waiting.Given as goal

abbrev pub invariant-loop-frame : goal.invariant-loop-frame
invariant-loop-frame g l = record {
  answered : Answered (g.O.WireOut.given l.fn.wire) (g.O.WireOut.given l.wire) l.fn.echo l.echo l.fn.frames.frames l.frames.frames;
  rest : l.frames ≡ record l.fn.frames { frames = l.frames.frames };
  unclosed : g.O.WireOut.closed l.wire ≡ g.O.WireOut.closed l.fn.wire;
  told : g.C.Clock.told l.clock ≡ g.C.Clock.told l.fn.clock;
  high : g.C.Clock.high l.clock ≡ g.C.Clock.high l.fn.clock;
  later : g.O.WireOut.faults l.fn.wire ≤ g.O.WireOut.faults l.wire;
}

abbrev pub decreases-loop-frame : goal.decreases-loop-frame
decreases-loop-frame g l = length l.frames.frames
