-- What was told so far is a front of all.
use Rattle.std.proofs.Common.{sym, ap}
use Rattle.rpc_model.specs.Told.{told}
use Rattle.sim_run.specs.Desk.{IsFront}
use Rattle.sim_run.specs.Replaying.{left}
use Rattle.sim_run.proofs.Turns.{front, on_err}
use Rattle.sim_run.proofs.replaying.replay.Goals as goal

pub returns-in_err-line-clause-front : goal.returns-in_err-line-clause-front
returns-in_err-line-clause-front c =
    let inv = c.told.invariant in
    on_err _ c.from_residual-in_err-line.result (front c.args.told.now.items c.told.told.items (left c.told.replaying) (told c.args.script) inv.said inv.long)

pub returns-in_err-push-clause-front : goal.returns-in_err-push-clause-front
returns-in_err-push-clause-front c =
    let inv = c.told.invariant in
    let f = front c.args.told.now.items c.told.told.items (left c.told.replaying) (told c.args.script) inv.said inv.long in
    on_err _ c.from_residual-in_err-push.result (rw c.in_err-push.ensures.items f)
