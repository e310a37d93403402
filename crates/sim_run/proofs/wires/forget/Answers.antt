-- The server's wire is changed, and no other.
use Rattle.std.proofs.Common.{ap, arith, ◌∙◌, slice_set}
use Rattle.sim_run.specs.Wires.{lost}
use Rattle.sim_run.proofs.Setting.{set-on_wire, past-on_wire}
use Rattle.sim_run.proofs.wires.forget.Goals as goal

pub returns-then-server-len : goal.returns-then-server-len
returns-then-server-len c =
    ap (slice_set c.args.wires.now.items c.args.server) c.forget.ensures
    ∙ set-on_wire c.args.wires.now.items c.args.server (lost c.args.id) c.index_mut.result.now (omega (arith, c.len.ensures, c.if-server-len.true, c.args.wires.now.ok.0)) c.index_mut.ensures.value

pub returns-else-server-len : goal.returns-else-server-len
returns-else-server-len c = past-on_wire c.args.wires.now.items c.args.server (lost c.args.id) (omega (arith, c.len.ensures, c.if-server-len.false, c.args.wires.now.ok.0))
