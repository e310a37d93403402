-- Each turn reads once and answers what waits then.
use Rattle.std.proofs.Common.{refl, ap, arith, ◌∙◌}
use Rattle.prpc_frames.specs.Stream.Reading.{Stream}
use Rattle.echo_server.proofs.Streamed.{first, brought_in, answered_all, halted_so, lost_piece, ended_so, failed_so, bad_so, more_is, end_is, fault_is, bad_is, left_frames, left_fault}
use Rattle.echo_server.proofs.serving.serve_loop.Goals as goal

pub loop-init : goal.loop-init
loop-init g c = record {
  rounds = (tt, tt);
  serving = rw c.open-frames.ensures (first _ _ _);
  none = rw c.open-frames.ensures refl;
  plain = rw c.open-frames.ensures refl;
  sized = c.in-Ok.ensures;
  unclosed = refl;
  told = refl;
  high = refl;
  reads = omega arith;
  writes = omega arith;
}

pub returns-in_default-read_piece-clause-served : goal.returns-in_default-read_piece-clause-served
returns-in_default-read_piece-clause-served g c = lost_piece _ _ _ _ _ _ _ _ _ _ _ _ _ _ c.loop.invariant.serving c.in_default-read_piece.ensures.lost

pub returns-in-Err-clause-served : goal.returns-in-Err-clause-served
returns-in-Err-clause-served g c =
    let a = brought_in _ _ _ _ _ _ _ _ _ _ _ _ c.loop.invariant.serving c.in-Ok-read_piece.brought c.in-Ok-read_piece.ensures.brings in
    rw c.served.ensures (halted_so _ _ _ _ _ _ _ _ _ _ _ _ _ _ _ a c.loop.invariant.writes c.in-Err.halt c.in-Err.ensures.halted)

pub loop-preserved : goal.loop-preserved
loop-preserved g c =
    let a = brought_in _ _ _ _ _ _ _ _ _ _ _ _ c.loop.invariant.serving c.in-Ok-read_piece.brought c.in-Ok-read_piece.ensures.brings in
    let d = c.in_default-answer_waiting.ensures in
    record {
      rounds = (tt, tt);
      serving = answered_all _ _ _ _ _ _ _ _ _ _ a d.all d.goes_on d.turn d.none;
      none = left_frames c.read_piece.new.frames c.answer_waiting.new.frames d.none;
      plain = left_fault c.read_piece.new.frames c.answer_waiting.new.frames d.none ∙ more_is _ _ _ _ _ _ _ c.in-Ok-read_piece.brought c.in-Ok-read_piece.ensures.brings c.in-More.is;
      sized = c.loop.invariant.sized;
      unclosed = d.open ∙ c.loop.invariant.unclosed;
      told = d.told ∙ c.loop.invariant.told;
      high = d.high ∙ c.loop.invariant.high;
      reads = omega (arith, c.loop.invariant.reads, c.read_piece.ensures.later);
      writes = omega (arith, c.loop.invariant.writes, c.answer_waiting.ensures.later);
    }

pub returns-in-End-clause-served : goal.returns-in-End-clause-served
returns-in-End-clause-served g c =
    let a = brought_in _ _ _ _ _ _ _ _ _ _ _ _ c.loop.invariant.serving c.in-Ok-read_piece.brought c.in-Ok-read_piece.ensures.brings in
    let d = c.in_default-answer_waiting.ensures in
    let e = end_is _ _ _ _ _ _ _ c.in-Ok-read_piece.brought c.in-Ok-read_piece.ensures.brings c.in-End.is in
    ended_so _ _ _ _ _ _ _ _ _ _ _ _ (answered_all _ _ _ _ _ _ _ _ _ _ a d.all d.goes_on d.turn d.none) (left_frames c.read_piece.new.frames c.answer_waiting.new.frames d.none) e.0
    (left_fault c.read_piece.new.frames c.answer_waiting.new.frames d.none ∙ e.1)

pub returns-in-Fault-clause-served : goal.returns-in-Fault-clause-served
returns-in-Fault-clause-served g c =
    let a = brought_in _ _ _ _ _ _ _ _ _ _ _ _ c.loop.invariant.serving c.in-Ok-read_piece.brought c.in-Ok-read_piece.ensures.brings in
    let d = c.in_default-answer_waiting.ensures in
    let e = fault_is _ _ _ _ _ _ _ c.in-Ok-read_piece.brought c.in-Ok-read_piece.ensures.brings c.in-Fault.is in
    failed_so _ _ _ _ _ _ _ _ _ _ _ _ _ (answered_all _ _ _ _ _ _ _ _ _ _ a d.all d.goes_on d.turn d.none) (left_frames c.read_piece.new.frames c.answer_waiting.new.frames d.none)
    c.loop.invariant.reads e.1
    (left_fault c.read_piece.new.frames c.answer_waiting.new.frames d.none ∙ (ap (λ (x : Stream). x.fault) e.0 ∙ c.loop.invariant.plain))

pub returns-in-Bad-clause-served : goal.returns-in-Bad-clause-served
returns-in-Bad-clause-served g c =
    let a = brought_in _ _ _ _ _ _ _ _ _ _ _ _ c.loop.invariant.serving c.in-Ok-read_piece.brought c.in-Ok-read_piece.ensures.brings in
    let d = c.in_default-answer_waiting.ensures in
    let e = bad_is _ _ _ _ _ _ _ c.in-Ok-read_piece.brought c.in-Bad.fault c.in-Ok-read_piece.ensures.brings c.in-Bad.is in
    bad_so _ _ _ _ _ _ _ _ _ _ _ _ c.in-Bad.fault (answered_all _ _ _ _ _ _ _ _ _ _ a d.all d.goes_on d.turn d.none) (left_frames c.read_piece.new.frames c.answer_waiting.new.frames d.none)
    (left_fault c.read_piece.new.frames c.answer_waiting.new.frames d.none ∙ e.0) e.1
