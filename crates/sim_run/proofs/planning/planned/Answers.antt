-- An accepted script's channels have plans for its calls, whose leaves have known servers.
use Rattle.chan_tree.proofs.Sounds.{chans-sound}
use Rattle.sim_run.proofs.Chans.{plan-served}
use Rattle.sim_run.proofs.planning.planned.Goals as goal

pub known_plan-requires-clause-sound : goal.known_plan-requires-clause-sound
known_plan-requires-clause-sound c = rw c.list.ensures (chans-sound c.args.script.now.servers 0 c.args.script.now.chans c.requires.fits.channels)

pub returns-clause-served : goal.returns-clause-served
returns-clause-served c =
    let planned = rw c.list.ensures at c.in_ok-plan.ensures.plan in
    rw c.in_ok-new.ensures.ok (plan-served c.args.script.now.servers c.args.script.now.chans c.args.chan c.args.call c.in_ok-plan.plan c.requires.fits.channels planned)
