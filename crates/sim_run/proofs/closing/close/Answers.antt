-- The ids of nodes never wait; then one more id, up to the last.
use Rattle.std.proofs.Common.{ap, ◌≡◌, ◌+◌, suc, sym, ◌∙◌, arith}
use Rattle.rpc_model.specs.Versions.{meaning_of, nodes, width}
use Rattle.rpc_model.proofs.Versions.{width-is}
use Rattle.sim_run.specs.Desk.{plan_of, width_of}
use Rattle.sim_run.specs.Closing.{closed, closed_one}
use Rattle.sim_run.proofs.Shut.{nodes-closed}
use Rattle.sim_run.proofs.closing.close.Goals as goal

pub loop-offset-init : goal.loop-offset-init
loop-offset-init c =
    let is = c.nodes-offset.ensures ∙ ap nodes c.deref.ensures in
    sym (nodes-closed c.args.ticket.now c.args.call c.nodes-offset.result c.args.wires.now.items (omega (arith, is)))

pub loop-offset-preserved : goal.loop-offset-preserved
loop-offset-preserved c =
    let ticket = c.args.ticket.now in
    let n = c.loop-offset.offset in
    let more : suc n ≡ n + 1 = omega arith in
    c.close_one.ensures ∙ ap (closed_one ticket c.args.call (meaning_of (plan_of ticket) n)) c.loop-offset.invariant
    ∙ ap (λ k. closed ticket c.args.call k c.args.wires.now.items) more

pub returns : goal.returns
returns c =
    let ticket = c.args.ticket.now in
    let first = c.nodes-offset.ensures ∙ ap nodes c.deref.ensures in
    let last = c.width-offset-end.ensures ∙ ap width c.deref-2.ensures in
    let whole = width-is (plan_of ticket) in
    let low = c.loop-offset-test.false in
    let high = c.loop-offset.auto.offset-end in
    let end : c.loop-offset.offset ≡ width_of ticket = omega (arith, first, last, whole, low, high) in
    c.loop-offset.invariant ∙ ap (λ k. closed ticket c.args.call k c.args.wires.now.items) end
