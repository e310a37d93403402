-- Nothing has happened yet.
use Rattle.std.proofs.Common.{◌∙◌, ap, length}
use Rattle.sim_run.proofs.Wiring.{wired-none}
use Rattle.sim_run.proofs.Ready.{opened-sound, opened-length, opened-marked}
use Rattle.sim_run.proofs.state.Replay.open.Goals as goal

pub returns-clause-ready : goal.returns-clause-ready
returns-clause-ready c = record {
  sound = rw c.in_ok-open.ensures (opened-sound c.args.script.now.slots c.new.result.entries c.new.ensures.empty);
  pool = ap length c.in_ok-open.ensures ∙ opened-length c.args.script.now.slots;
  wired = wired-none c.args.script.now.servers c.in_ok-open.field-0 c.new.result.entries c.in_ok-open_wires.field-0.items c.new.ensures.empty c.in_ok-open_wires.ensures;
  marked = opened-marked c.args.script.now.slots c.in_ok-open.field-0 c.open-2.result c.in_ok-open.ensures;
  owned = rw c.open-2.ensures tt;
  served = rw c.new.ensures.empty tt;
}
