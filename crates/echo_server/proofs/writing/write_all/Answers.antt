-- One more piece was written.
use Rattle.std.proofs.Common.{arith, ◌∙◌}
use Rattle.echo_server.proofs.Pieces.{append_known-take}
use Rattle.echo_server.proofs.writing.write_all.Goals as goal

pub loop-done-preserved : goal.loop-done-preserved
loop-done-preserved g c =
    let b = rw c.split_at.ensures.back at c.in_ok-done.ensures.bytes in
    record {
      within = omega (arith, c.in_ok-done.ensures.some, c.split_at.ensures.back_len);
      written = b ∙ (rw c.loop-done.invariant.written (append_known-take _ c.args.bytes.now c.loop-done.done c.in_ok-done.field-0));
      closed = c.in_ok-done.ensures.closed ∙ c.loop-done.invariant.closed;
      kept = c.in_ok-done.ensures.cause.kept ∙ c.loop-done.invariant.kept;
    }
