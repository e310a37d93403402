-- One more piece was written.
use Rattle.std.proofs.Common.{arith, ◌∙◌}
use Rattle.brpc_top.proofs.Written.{Appends-take}
use Rattle.brpc_top.proofs.output.write_all.Goals as goal

pub loop-done-preserved : goal.loop-done-preserved
loop-done-preserved g c =
    let b = rw c.split_at.ensures.back at c.in_ok-done.ensures.bytes in
    record {
      within = omega (arith, c.in_ok-done.ensures.some, c.split_at.ensures.back_len);
      written = Appends-take _ _ _ c.args.bytes.now c.loop-done.done c.in_ok-done.field-0 c.loop-done.invariant.written b;
      kept = c.in_ok-done.ensures.cause.kept ∙ c.loop-done.invariant.kept;
    }
