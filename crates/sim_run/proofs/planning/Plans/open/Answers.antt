-- An accepted script's channels name only channels before them.
use Rattle.chan_tree.proofs.Sounds.{chans-sound}
use Rattle.sim_run.proofs.planning.Plans.open.Goals as goal

pub rounds_of-requires : goal.rounds_of-requires
rounds_of-requires c = rw c.list-chans.ensures (chans-sound c.args.script.now.servers 0 c.args.script.now.chans c.requires.channels)
