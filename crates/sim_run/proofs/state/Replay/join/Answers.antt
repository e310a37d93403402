-- A join tells what it finds.
use Rattle.std.proofs.Common.{List, ◌∷◌, [], Some, sym, refl, ap, arith, ◌∙◌}
use Rattle.timer_core.specs.declared.mark.Mark.{Mark}
use Rattle.sim_run.specs.Link.{Link}
use Rattle.sim_run.specs.Desk.{IsServedIn, ticket_in}
use Rattle.id_pool.specs.Ranges.{look}
use Rattle.sim_run.specs.Acting.{joined_by}
use Rattle.sim_run.specs.Slots.{acts_by}
use Rattle.sim_run.specs.Closing.{closed_by, closed_after, join_wires}
use Rattle.sim_run.proofs.Closed.{closed-wired}
use Rattle.sim_run.proofs.Entries.{entry-of}
use Rattle.sim_run.proofs.Replies.{ticket-low}
use Rattle.std.proofs.lemmas.List.{append-nil}
use Rattle.rpc_model.specs.Told as spec
use Rattle.sim_run.proofs.Ready.{ready-brings}
use Rattle.sim_run.proofs.JoinSteps.{moment_or, tells_or, join-first}
use Rattle.sim_run.proofs.JoinReady.{join-replay, join-brings, join-wired, join-early, joins-absent, joins-full, joins-ticket}
use Rattle.sim_run.proofs.state.Replay.join.Goals as goal

pub returns-in_default-clause-after : goal.returns-in_default-clause-after
returns-in_default-clause-after c =
    let j = joins-absent c.args.script.now c.args.self.now c.args.call c.requires.ready c.in_default.ensures.value in
    join-replay c.args.self.now
    (record { reached = c.args.self.now.reached; calls = c.args.self.now.calls; pool = c.args.self.now.pool; wires = c.args.self.now.wires; marks = c.args.self.now.marks }) c.args.call
    j.follows refl j.moment

pub returns-in_default-clause-tells : goal.returns-in_default-clause-tells
returns-in_default-clause-tells c =
    let j = joins-absent c.args.script.now c.args.self.now c.args.call c.requires.ready c.in_default.ensures.value in
    rw j.tells_it (sym (append-nil c.args.told.now.items))

pub returns-in_default-known-clause-after : goal.returns-in_default-known-clause-after
returns-in_default-known-clause-after c =
    let j = joins-full c.args.script.now c.args.self.now c.args.call c.requires.ready (rw c.in_default-known.is at c.in-Some.ensures.value) in
    join-replay c.args.self.now
    (record { reached = c.args.self.now.reached; calls = c.args.self.now.calls; pool = c.args.self.now.pool; wires = c.args.self.now.wires; marks = c.args.self.now.marks }) c.args.call
    j.follows refl j.moment

pub returns-in_default-known-clause-tells : goal.returns-in_default-known-clause-tells
returns-in_default-known-clause-tells c =
    let j = joins-full c.args.script.now c.args.self.now c.args.call c.requires.ready (rw c.in_default-known.is at c.in-Some.ensures.value) in
    rw j.tells_it c.in_ok-push.ensures.items

pub join-requires-clause-first : goal.join-requires-clause-first
join-requires-clause-first c =
    join-first c.args.self.now.pool c.args.self.now.calls.entries c.args.call c.in-Some-known.ticket c.requires.ready.sound c.requires.few (sym (rw c.in-Some-known.is at c.in-Some.ensures.value))

pub join-requires-clause-few : goal.join-requires-clause-few
join-requires-clause-few c = omega (arith, c.requires.ready.pool, c.requires.fits.few_slots)

pub join-requires-clause-early : goal.join-requires-clause-early
join-requires-clause-early c = join-early c.args.script.now c.args.self.now c.args.call c.in-Some-known.ticket c.requires.ready (rw c.in-Some-known.is at c.in-Some.ensures.value) c.requires.early

pub returns-in_default-joined-clause-ready : goal.returns-in_default-joined-clause-ready
returns-in_default-joined-clause-ready c =
    let j = joins-ticket c.args.script.now c.args.self.now c.args.call c.in-Some-known.ticket c.requires.ready c.requires.few (rw c.in-Some-known.is at c.in-Some.ensures.value) in
    let b =
    join-brings c.args.script.now c.args.self.now c.join.new.pool c.join.new.wires.items c.join.new.marks c.args.call c.in-Some-known.ticket c.requires.ready c.requires.few
    (rw c.in-Some-known.is at c.in-Some.ensures.value) j.follows c.in_ok-joined.ensures.after c.in_ok-joined.ensures.acts in
    let wired =
    join-wired c.args.script.now c.args.self.now c.join.new.pool c.join.new.wires.items c.join.new.marks c.args.call c.in-Some-known.ticket c.requires.ready c.requires.few
    (rw c.in-Some-known.is at c.in-Some.ensures.value) b.follows c.in_ok-joined.ensures.acts in
    ready-brings c.args.script.now c.args.self.now
    (record { reached = c.args.self.now.reached; calls = c.args.self.now.calls; pool = c.join.new.pool; wires = c.join.new.wires; marks = c.join.new.marks }) c.args.call
    (spec.joined c.args.self.now.reached) c.requires.ready b refl wired

pub returns-in_default-joined-clause-after : goal.returns-in_default-joined-clause-after
returns-in_default-joined-clause-after c =
    let j = joins-ticket c.args.script.now c.args.self.now c.args.call c.in-Some-known.ticket c.requires.ready c.requires.few (rw c.in-Some-known.is at c.in-Some.ensures.value) in
    join-replay c.args.self.now (record { reached = c.args.self.now.reached; calls = c.args.self.now.calls; pool = c.join.new.pool; wires = c.join.new.wires; marks = c.join.new.marks })
    c.args.call (rw (← c.in_ok-joined.ensures.after) at j.follows) refl (ap (moment_or c.args.self.now.reached) (sym c.in_default-joined.is ∙ c.in_ok-joined.ensures.says) ∙ sym j.moment)

pub returns-in_default-joined-clause-tells : goal.returns-in_default-joined-clause-tells
returns-in_default-joined-clause-tells c =
    let j = joins-ticket c.args.script.now c.args.self.now c.args.call c.in-Some-known.ticket c.requires.ready c.requires.few (rw c.in-Some-known.is at c.in-Some.ensures.value) in
    rw (j.tells ∙ ap (λ x. tells_or c.args.call x ∷ []) (sym (sym c.in_default-joined.is ∙ c.in_ok-joined.ensures.says))) c.in_ok-push-2.ensures.items

pub returns-clause-ready : goal.returns-clause-ready
returns-clause-ready c =
    let j = joins-ticket c.args.script.now c.args.self.now c.args.call c.in-Some-known.ticket c.requires.ready c.requires.few (rw c.in-Some-known.is at c.in-Some.ensures.value) in
    let b =
    join-brings c.args.script.now c.args.self.now c.join.new.pool c.join.new.wires.items c.join.new.marks c.args.call c.in-Some-known.ticket c.requires.ready c.requires.few
    (rw c.in-Some-known.is at c.in-Some.ensures.value) j.follows c.in_ok-joined.ensures.after c.in_ok-joined.ensures.acts in
    let wired =
    join-wired c.args.script.now c.args.self.now c.join.new.pool c.join.new.wires.items c.join.new.marks c.args.call c.in-Some-known.ticket c.requires.ready c.requires.few
    (rw c.in-Some-known.is at c.in-Some.ensures.value) b.follows c.in_ok-joined.ensures.acts in
    let closed =
    closed-wired c.args.script.now.servers c.join.new.pool c.args.self.now.calls.entries c.args.call c.in-Some-known.ticket (sym (rw c.in-Some-known.is at c.in-Some.ensures.value))
    c.in-Some-joined.tells c.join.new.wires.items wired in
    ready-brings c.args.script.now c.args.self.now
    (record { reached = c.in-Some-joined.reached; calls = c.args.self.now.calls; pool = c.join.new.pool; wires = c.close_told.new.wires; marks = c.join.new.marks }) c.args.call
    (spec.joined c.args.self.now.reached) c.requires.ready b refl (rw c.close_told.ensures closed)

pub returns-clause-after : goal.returns-clause-after
returns-clause-after c =
    let j = joins-ticket c.args.script.now c.args.self.now c.args.call c.in-Some-known.ticket c.requires.ready c.requires.few (rw c.in-Some-known.is at c.in-Some.ensures.value) in
    join-replay c.args.self.now (record { reached = c.in-Some-joined.reached; calls = c.args.self.now.calls; pool = c.join.new.pool; wires = c.join.new.wires; marks = c.join.new.marks })
    c.args.call (rw (← c.in_ok-joined.ensures.after) at j.follows) refl (ap (moment_or c.args.self.now.reached) (sym c.in-Some-joined.is ∙ c.in_ok-joined.ensures.says) ∙ sym j.moment)

pub returns-clause-tells : goal.returns-clause-tells
returns-clause-tells c =
    let j = joins-ticket c.args.script.now c.args.self.now c.args.call c.in-Some-known.ticket c.requires.ready c.requires.few (rw c.in-Some-known.is at c.in-Some.ensures.value) in
    rw (j.tells ∙ ap (λ x. tells_or c.args.call x ∷ []) (sym (sym c.in-Some-joined.is ∙ c.in_ok-joined.ensures.says))) c.in_ok-push-3.ensures.items

pub close_told-requires-clause-low : goal.close_told-requires-clause-low
close_told-requires-clause-low c =
    let low = ticket-low c.args.script.now c.args.self.now c.args.call c.in-Some-known.ticket c.requires.ready c.requires.few c.requires.fits.few_slots
    (ap ticket_in (rw c.in-Some-known.is at c.in-Some.ensures.value)) in
    omega (arith, low.first)

pub close_told-requires-clause-served : goal.close_told-requires-clause-served
close_told-requires-clause-served c =
    entry-of (IsServedIn c.args.script.now.servers) c.args.call (Some c.in-Some-known.ticket) c.args.self.now.calls.entries c.requires.ready.served
    (sym (rw c.in-Some-known.is at c.in-Some.ensures.value))

pub returns-in_default-clause-wires : goal.returns-in_default-clause-wires
returns-in_default-clause-wires c = ap (λ o. join_wires c.args.call (ticket_in o) c.args.self.now) c.in_default.ensures.value

pub returns-in_default-known-clause-wires : goal.returns-in_default-known-clause-wires
returns-in_default-known-clause-wires c = ap (λ o. join_wires c.args.call (ticket_in o) c.args.self.now) (rw c.in_default-known.is at c.in-Some.ensures.value)

pub returns-in_default-joined-clause-wires : goal.returns-in_default-joined-clause-wires
returns-in_default-joined-clause-wires c =
    let ticket = c.in-Some-known.ticket in
    let old = c.args.self.now in
    let acts = (acts_by ticket.first (joined_by old.reached) (look ticket.first old.pool) old.wires.items old.marks).0 in
    ap (λ (p : List Link × List Mark). p.0) c.in_ok-joined.ensures.acts
    ∙ ap (λ o. closed_after o ticket c.args.call acts) (sym c.in_default-joined.is ∙ c.in_ok-joined.ensures.says)
    ∙ ap (λ o. join_wires c.args.call (ticket_in o) old) (rw c.in-Some-known.is at c.in-Some.ensures.value)

pub returns-clause-wires : goal.returns-clause-wires
returns-clause-wires c =
    let ticket = c.in-Some-known.ticket in
    let old = c.args.self.now in
    let acts = (acts_by ticket.first (joined_by old.reached) (look ticket.first old.pool) old.wires.items old.marks).0 in
    c.close_told.ensures
    ∙ ap (λ ws. closed_by c.in-Some-joined.tells ticket c.args.call ws) (ap (λ (p : List Link × List Mark). p.0) c.in_ok-joined.ensures.acts)
    ∙ ap (λ o. closed_after o ticket c.args.call acts) (sym c.in-Some-joined.is ∙ c.in_ok-joined.ensures.says)
    ∙ ap (λ o. join_wires c.args.call (ticket_in o) old) (rw c.in-Some-known.is at c.in-Some.ensures.value)
