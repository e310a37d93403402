use Rattle.std.proofs.Common.{length}
use Rattle.prpc_frames.proofs.header.+check_magic.Given as goal

abbrev pub decreases-check_magic : goal.decreases-check_magic
decreases-check_magic l = length l.magic.now
