-- Those that are left get fewer.
use Rattle.std.proofs.Common.{length}
use Rattle.chan_tree.proofs.sound.+are_before.Given as goal

abbrev pub decreases-are_before : goal.decreases-are_before
decreases-are_before l = length l.subs.now
