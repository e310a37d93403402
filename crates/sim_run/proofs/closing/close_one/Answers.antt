-- The leaf of an attempt has servers, and the attempt's id stands at its offset.
use Rattle.std.proofs.Common.{◌≡◌, ◌+◌, None, Some, ap, sym, subst, ◌∙◌}
use Rattle.rpc_model.specs.declared.meaning.Meaning.TheVariants.{Attempt}
use Rattle.rpc_model.specs.Versions.{leaf_at, meaning_of}
use Rattle.sim_run.specs.Closing.{closed_one, closed_id}
use Rattle.sim_run.specs.Desk.{plan_of}
use Rattle.sim_run.specs.Sends.{leaf_server, server_to}
use Rattle.sim_run.proofs.Attempts.{means-leaf}
use Rattle.sim_run.proofs.Leaves.{IsServedIn, leaf-served}
use Rattle.sim_run.proofs.Shut.{attempt-here, some-none}
use Rattle.sim_run.proofs.closing.close_one.Goals as goal
use Rattle.sim_run.proofs.closing.close_one.Goals.{After-leaf}

means : (c : After-leaf) → meaning_of (plan_of c.args.ticket.now) c.args.offset ≡ Some (Attempt c.in-Some-Attempt.node c.in-Some-Attempt.attempt)
means c =
    let m = c.meaning_of.ensures in
    let d = ap (λ p. meaning_of p c.args.offset) c.deref.ensures in
    let i = c.in-Some-Attempt.is in
    let f = c.in-Some-Attempt.field-0-is in
    cc

pub unreachable-requires : goal.unreachable-requires
unreachable-requires c =
    let some = means-leaf (plan_of c.args.ticket.now) c.in-Some-Attempt.node c.in-Some-Attempt.attempt c.args.offset (means (goal.at.unreachable-requires c).After-leaf) in
    some-none some (sym (c.in_default-leaf.ensures ∙ ap (λ p. leaf_at 0 p c.in-Some-Attempt.node) c.deref-2.ensures))

pub server_of-server-requires : goal.server_of-server-requires
server_of-server-requires c =
    let found = leaf-served c.args.servers 0 (plan_of c.args.ticket.now) c.in-Some-Attempt.node c.requires.served in
    let is : leaf_at 0 (plan_of c.args.ticket.now) c.in-Some-Attempt.node ≡ Some c.in-Some.leaf.now = sym (c.in-Some.ensures ∙ ap (λ p. leaf_at 0 p c.in-Some-Attempt.node) c.deref-2.ensures) in
    (subst (IsServedIn c.args.servers) is found).0

pub returns : goal.returns
returns c =
    let ticket = c.args.ticket.now in
    let node = c.in-Some-Attempt.node in
    let attempt = c.in-Some-Attempt.attempt in
    let wires = c.args.wires.now.items in
    let is : Some c.in-Some.leaf.now ≡ leaf_at 0 (plan_of ticket) node = c.in-Some.ensures ∙ ap (λ p. leaf_at 0 p node) c.deref-2.ensures in
    let server = c.server_of-server.ensures ∙ ap (λ l. leaf_server l c.args.call attempt) is in
    let id = attempt-here ticket node attempt c.args.offset (means (goal.at.returns c).After-leaf) in
    c.forget.ensures
    ∙ ap (λ o. closed_id (Some (ticket.first + o)) c.server_of-server.result wires) c.from.ensures
    ∙ ap (λ s. closed_id (Some (ticket.first + c.args.offset)) s wires) server
    ∙ ap (λ i. closed_id i (server_to (plan_of ticket) c.args.call node attempt) wires) (sym id)
    ∙ ap (λ m. closed_one ticket c.args.call m wires) (sym (means (goal.at.returns c).After-leaf))
