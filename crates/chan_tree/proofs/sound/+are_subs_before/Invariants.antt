-- Those that are left get fewer.
use Rattle.std.proofs.Common.{length}
use Rattle.chan_tree.proofs.sound.+are_subs_before.Given as goal

abbrev pub decreases-are_subs_before : goal.decreases-are_subs_before
decreases-are_subs_before g l = length l.subs.now
