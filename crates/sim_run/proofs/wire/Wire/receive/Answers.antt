-- A reply fits a frame.
use Rattle.sim_run.proofs.Streams.{reply-fits}
use Rattle.sim_run.proofs.wire.Wire.receive.Goals as goal

pub pass-requires-clause-fitting : goal.pass-requires-clause-fitting
pass-requires-clause-fitting c =
    let text = c.list.ensures in
    rw (c.meta_of-meta.ensures, text) (reply-fits (record { id = c.args.id; code = c.args.code; text = c.args.text.now }) c.requires.text)
