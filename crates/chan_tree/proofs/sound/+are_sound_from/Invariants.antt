-- Those that are left get fewer.
use Rattle.std.proofs.Common.{length}
use Rattle.chan_tree.proofs.sound.+are_sound_from.Given as goal

abbrev pub decreases-are_sound_from : goal.decreases-are_sound_from
decreases-are_sound_from g l = length l.chans.now
