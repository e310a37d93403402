-- The server's wire is changed, and no other.
use Rattle.std.proofs.Common.{ap, ◌∙◌, slice_set}
use Rattle.sim_run.specs.Wires.{received}
use Rattle.sim_run.proofs.Moved.{on_ok}
use Rattle.sim_run.proofs.Setting.{set-on_wire}
use Rattle.sim_run.proofs.wires.receive.Goals as goal

pub returns-clause-wire : goal.returns-clause-wire
returns-clause-wire c =
    on_ok _ _ c.receive.result (λ e. ap (slice_set c.args.wires.now.items c.args.server) e
    ∙ set-on_wire c.args.wires.now.items c.args.server (received (record { id = c.args.id; code = c.args.code; text = c.args.text.now })) c.index_mut.result.now c.requires.server
    c.index_mut.ensures.value) c.receive.ensures.wire
