use Rattle.std.proofs.Common.{length}
use Rattle.wire_c.proofs.take_frames.Given as goal

abbrev pub decreases-loop-frame : goal.decreases-loop-frame
decreases-loop-frame l = length l.frames.frames
