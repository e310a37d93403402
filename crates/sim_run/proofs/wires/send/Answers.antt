-- The server's wire is changed, and no other.
use Rattle.std.proofs.Common.{ap, arith, ◌∙◌, slice_set}
use Rattle.sim_run.specs.Wires.{sent}
use Rattle.sim_run.proofs.Moved.{on_ok}
use Rattle.sim_run.proofs.Setting.{set-on_wire, past-on_wire}
use Rattle.sim_run.proofs.wires.send.Goals as goal

pub returns-then-server-len : goal.returns-then-server-len
returns-then-server-len c = past-on_wire c.args.wires.now.items c.args.server (sent c.args.id c.args.call c.args.payload) (omega (arith, c.len.ensures, c.if-server-len.true, c.args.wires.now.ok.0))

pub returns : goal.returns
returns c =
    let f = sent c.args.id c.args.call c.args.payload in
    on_ok _ _ c.send.result (λ e. ap (slice_set c.args.wires.now.items c.args.server) e
    ∙ set-on_wire c.args.wires.now.items c.args.server f c.index_mut.result.now (omega (arith, c.len.ensures, c.if-server-len.false, c.args.wires.now.ok.0)) c.index_mut.ensures.value) c.send.ensures
