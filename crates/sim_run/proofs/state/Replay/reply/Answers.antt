-- The reply comes to the attempt that its id finds.
use Rattle.std.proofs.Common.{◌∙◌, sym, refl, ap, ℕ, List, Some, arith}
use Rattle.rpc_model.specs.declared.event.Event.{Event}
use Rattle.rpc_model.specs.declared.event.Event.TheVariants as event
use Rattle.rpc_model.specs.Told as spec
use Rattle.timer_core.specs.declared.mark.Mark.{Mark}
use Rattle.sim_run.specs.Link.{Link}
use Rattle.sim_run.specs.Desk.{IsServedIn, IsAimed, AreWired, ticket_of, event_wires, reply_wires}
use Rattle.sim_run.specs.Wires.{received}
use Rattle.sim_run.specs.Passages.{came_in}
use Rattle.sim_run.specs.declared.state.Replay.{Replay}
use Rattle.sim_run.proofs.Brings.{Brings}
use Rattle.sim_run.proofs.Wiring.{wired-in, wired-length}
use Rattle.sim_run.proofs.Ready.{ready-brings, event-replay, no-event, some_ticket}
use Rattle.sim_run.proofs.Entries.{entry-of}
use Rattle.sim_run.proofs.Replies.{ticket-low, attempt-brings, attempt-wired, aimed-wires, unaimed-wires}
use Rattle.sim_run.proofs.state.Replay.reply.Goals as goal

pub returns-in_default-clause-after : goal.returns-in_default-clause-after
returns-in_default-clause-after c =
    let said = event.Reply c.args.node c.args.attempt c.args.code c.args.text in
    event-replay c.args.self.now c.args.self.now c.args.call said (no-event c.args.script.now c.args.self.now c.args.call said c.args.self.now.reached c.requires.ready c.in_default.ensures) refl refl

pub aim-requires-clause-low : goal.aim-requires-clause-low
aim-requires-clause-low c =
    let low = ticket-low c.args.script.now c.args.self.now c.args.call c.in-Some.ticket.now c.requires.ready c.requires.few c.requires.fits.few_slots c.in-Some.ensures in
    omega (arith, low.first)

pub aim-requires-clause-served : goal.aim-requires-clause-served
aim-requires-clause-served c =
    entry-of (IsServedIn c.args.script.now.servers) c.args.call (Some c.in-Some.ticket.now) c.args.self.now.calls.entries c.requires.ready.served
    (some_ticket _ c.in-Some.ticket.now (sym c.in-Some.ensures))

pub receive-requires-clause-server : goal.receive-requires-clause-server
receive-requires-clause-server c =
    omega (arith, c.in-Some-aim.ensures.bound, wired-length c.args.script.now.servers c.args.self.now.pool c.args.self.now.calls.entries c.args.self.now.wires.items c.requires.ready.wired)

pub receive-requires-clause-id : goal.receive-requires-clause-id
receive-requires-clause-id c =
    let low = ticket-low c.args.script.now c.args.self.now c.args.call c.in-Some.ticket.now c.requires.ready c.requires.few c.requires.fits.few_slots c.in-Some.ensures in
    omega (arith, low.first, c.in-Some-aim.ensures.near)

pub deliver-requires-clause-few : goal.deliver-requires-clause-few
deliver-requires-clause-few c =
    omega (arith, c.requires.ready.pool, c.requires.fits.few_slots)

pub returns-clause-ready : goal.returns-clause-ready
returns-clause-ready c =
    let what : ℕ → ℕ → Event = λ n k. event.Reply n k c.args.code c.args.text in
    let after = rw c.in_ok-reply.ensures.reply at c.in_ok-deliver.ensures.after in
    let acts = rw c.in_ok-reply.ensures.reply at c.in_ok-deliver.ensures.acts in
    let marks = ap (λ (p : List Link × List Mark). p.1) acts in
    let b =
    attempt-brings c.args.script.now c.args.self.now c.receive.new.wires.items c.args.call c.in-Some.ticket.now c.args.node c.args.attempt c.in-Some-aim.aim.id what c.requires.ready
    c.requires.few c.requires.settled c.in-Some.ensures c.in-Some-aim.ensures.id in
    let here : Brings c.args.self.now.pool c.deliver.new.pool c.deliver.new.marks c.args.self.now.calls.entries c.args.call
    (spec.event_after (what c.args.node c.args.attempt) c.args.self.now.reached) = rw (after, marks) b in
    let new : Replay = record { reached = c.args.self.now.reached; calls = c.args.self.now.calls; pool = c.deliver.new.pool; wires = c.deliver.new.wires; marks = c.deliver.new.marks } in
    let aimed : IsAimed c.args.self.now.calls.entries c.args.call c.in-Some-aim.aim.server c.in-Some-aim.aim.id = record {
      ticket = c.in-Some.ticket.now;
      node = c.args.node;
      attempt = c.args.attempt;
      found = some_ticket _ c.in-Some.ticket.now (sym c.in-Some.ensures);
      named = c.in-Some-aim.ensures.id;
      to = c.in-Some-aim.ensures.server;
    } in
    let came : AreWired c.args.script.now.servers c.args.self.now.pool c.args.self.now.calls.entries c.receive.new.wires.items =
    rw c.in_ok-reply.ensures.wire (wired-in c.args.script.now.servers c.args.self.now.pool c.args.self.now.calls.entries c.args.self.now.wires.items
    (came_in c.args.call c.in-Some-aim.aim.server (record { id = c.in-Some-aim.aim.id; code = c.args.code; text = c.args.text })) aimed (λ c. refl) c.requires.ready.wired) in
    let left =
    attempt-wired c.args.script.now c.args.self.now c.receive.new.wires.items c.args.call c.in-Some.ticket.now c.args.node c.args.attempt c.in-Some-aim.aim.id what c.requires.ready
    c.requires.few c.requires.settled c.in-Some.ensures c.in-Some-aim.ensures.id came b.follows in
    let wired : AreWired c.args.script.now.servers c.deliver.new.pool c.args.self.now.calls.entries c.deliver.new.wires.items = rw (after, ap (λ (p : List Link × List Mark). p.0) acts) left in
    ready-brings c.args.script.now c.args.self.now new c.args.call (spec.event_after (what c.args.node c.args.attempt) c.args.self.now.reached) c.requires.ready here refl wired

pub returns-clause-after : goal.returns-clause-after
returns-clause-after c =
    let what : ℕ → ℕ → Event = λ n k. event.Reply n k c.args.code c.args.text in
    let after = rw c.in_ok-reply.ensures.reply at c.in_ok-deliver.ensures.after in
    let acts = rw c.in_ok-reply.ensures.reply at c.in_ok-deliver.ensures.acts in
    let marks = ap (λ (p : List Link × List Mark). p.1) acts in
    let b =
    attempt-brings c.args.script.now c.args.self.now c.receive.new.wires.items c.args.call c.in-Some.ticket.now c.args.node c.args.attempt c.in-Some-aim.aim.id what c.requires.ready
    c.requires.few c.requires.settled c.in-Some.ensures c.in-Some-aim.ensures.id in
    let here : Brings c.args.self.now.pool c.deliver.new.pool c.deliver.new.marks c.args.self.now.calls.entries c.args.call
    (spec.event_after (what c.args.node c.args.attempt) c.args.self.now.reached) = rw (after, marks) b in
    let new : Replay = record { reached = c.args.self.now.reached; calls = c.args.self.now.calls; pool = c.deliver.new.pool; wires = c.deliver.new.wires; marks = c.deliver.new.marks } in
    event-replay c.args.self.now new c.args.call (what c.args.node c.args.attempt) here.follows refl refl

pub returns-in_default-clause-wires : goal.returns-in_default-clause-wires
returns-in_default-clause-wires c = ap (λ o. reply_wires o c.args.call c.args.node c.args.attempt c.args.code c.args.text c.args.self.now) c.in_default.ensures

pub returns-in_default-aim-clause-wires : goal.returns-in_default-aim-clause-wires
returns-in_default-aim-clause-wires c =
    let what : ℕ → ℕ → Event = λ n k. event.Reply n k c.args.code c.args.text in
    let change : ℕ → Link → Link = λ id. received (record { id = id; code = c.args.code; text = c.args.text }) in
    let is =
    c.in_ok-event.ensures.wires
    ∙ sym (ap (λ o. event_wires o (event.Reply c.args.node c.args.attempt c.args.code c.args.text) c.args.self.now) c.in-Some.ensures) in
    unaimed-wires change what c.args.self.now c.event.new.self.wires.items c.in-Some.ticket.now c.args.call c.args.node c.args.attempt is c.in_default-aim.ensures.none
    ∙ ap (λ o. reply_wires o c.args.call c.args.node c.args.attempt c.args.code c.args.text c.args.self.now) c.in-Some.ensures

pub returns-clause-wires : goal.returns-clause-wires
returns-clause-wires c =
    let what : ℕ → ℕ → Event = λ n k. event.Reply n k c.args.code c.args.text in
    let change : ℕ → Link → Link = λ id. received (record { id = id; code = c.args.code; text = c.args.text }) in
    let acts = rw c.in_ok-reply.ensures.reply at c.in_ok-deliver.ensures.acts in
    aimed-wires change what c.args.self.now c.deliver.new.wires.items c.receive.new.wires.items c.in-Some.ticket.now c.args.call c.args.node c.args.attempt c.in-Some-aim.aim.id
    c.in-Some-aim.aim.server (ap (λ (p : List Link × List Mark). p.0) acts) c.in_ok-reply.ensures.wire c.in-Some-aim.ensures.server c.in-Some-aim.ensures.id
    ∙ ap (λ o. reply_wires o c.args.call c.args.node c.args.attempt c.args.code c.args.text c.args.self.now) c.in-Some.ensures
