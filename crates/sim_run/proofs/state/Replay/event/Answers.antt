-- The event comes to the call that its first id finds.
use Rattle.std.proofs.Common.{◌∙◌, refl, ap, arith, List}
use Rattle.rpc_model.specs.Told as spec
use Rattle.sim_run.specs.Link.{Link}
use Rattle.sim_run.specs.Desk.{event_wires}
use Rattle.timer_core.specs.declared.mark.Mark.{Mark}
use Rattle.sim_run.proofs.Ready.{ready-brings, event-replay, own-event, own-wired, no-event}
use Rattle.sim_run.proofs.state.Replay.event.Goals as goal

pub returns-in_default-clause-after : goal.returns-in_default-clause-after
returns-in_default-clause-after c =
    event-replay c.args.self.now c.args.self.now c.args.call c.args.event
    (no-event c.args.script.now c.args.self.now c.args.call c.args.event c.args.self.now.reached c.requires.ready c.in_default.ensures) refl refl

pub bring-requires-clause-few : goal.bring-requires-clause-few
bring-requires-clause-few c = omega (arith, c.requires.ready.pool, c.requires.fits.few_slots)

pub returns-clause-ready : goal.returns-clause-ready
returns-clause-ready c =
    let b =
    own-event c.args.script.now c.args.self.now c.bring.new.pool c.bring.new.wires.items c.bring.new.marks c.args.call c.in-Some.ticket.now c.args.event c.requires.ready c.requires.few
    c.requires.settled c.in-Some.ensures c.in_ok-bring.ensures.after c.in_ok-bring.ensures.acts in
    let wired =
    own-wired c.args.script.now c.args.self.now c.bring.new.pool c.bring.new.wires.items c.bring.new.marks c.args.call c.in-Some.ticket.now c.args.event c.requires.ready c.requires.few
    c.requires.settled c.in-Some.ensures b.follows c.in_ok-bring.ensures.acts in
    ready-brings c.args.script.now c.args.self.now
    (record { reached = c.args.self.now.reached; calls = c.args.self.now.calls; pool = c.bring.new.pool; wires = c.bring.new.wires; marks = c.bring.new.marks }) c.args.call
    (spec.event_after c.args.event c.args.self.now.reached) c.requires.ready b refl wired

pub returns-clause-after : goal.returns-clause-after
returns-clause-after c =
    let b =
    own-event c.args.script.now c.args.self.now c.bring.new.pool c.bring.new.wires.items c.bring.new.marks c.args.call c.in-Some.ticket.now c.args.event c.requires.ready c.requires.few
    c.requires.settled c.in-Some.ensures c.in_ok-bring.ensures.after c.in_ok-bring.ensures.acts in
    event-replay c.args.self.now (record { reached = c.args.self.now.reached; calls = c.args.self.now.calls; pool = c.bring.new.pool; wires = c.bring.new.wires; marks = c.bring.new.marks })
    c.args.call c.args.event b.follows refl refl

pub returns-in_default-clause-wires : goal.returns-in_default-clause-wires
returns-in_default-clause-wires c = ap (λ o. event_wires o c.args.event c.args.self.now) c.in_default.ensures

pub returns-clause-wires : goal.returns-clause-wires
returns-clause-wires c = ap (λ (p : List Link × List Mark). p.0) c.in_ok-bring.ensures.acts ∙ ap (λ o. event_wires o c.args.event c.args.self.now) c.in-Some.ensures
