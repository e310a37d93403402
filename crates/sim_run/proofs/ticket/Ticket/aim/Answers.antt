-- The leaf that was found has servers, all of them known.
use Rattle.std.proofs.Common.{◌≡◌, ◌+◌, Some, None, ap, sym, subst, ◌∙◌}
use Rattle.rpc_model.specs.Versions.{leaf_at}
use Rattle.sim_run.specs.Desk.{plan_of}
use Rattle.sim_run.proofs.Leaves.{IsServedIn, leaf-served, server-known}
use Rattle.sim_run.proofs.ticket.Ticket.aim.Goals as goal

pub server_of-requires : goal.server_of-requires
server_of-requires c =
    let found = leaf-served c.args.servers 0 (plan_of c.args.self.now) c.args.node c.requires.served in
    let is : leaf_at 0 (plan_of c.args.self.now) c.args.node ≡ Some c.in_ok-offset.leaf.now = sym (c.in_ok-offset.ensures.leaf ∙ ap (λ p. leaf_at 0 p c.args.node) c.deref.ensures) in
    (subst (IsServedIn c.args.servers) is found).0

pub returns-clause-bound : goal.returns-clause-bound
returns-clause-bound c =
    let found = leaf-served c.args.servers 0 (plan_of c.args.self.now) c.args.node c.requires.served in
    let is : leaf_at 0 (plan_of c.args.self.now) c.args.node ≡ Some c.in_ok-offset.leaf.now = sym (c.in_ok-offset.ensures.leaf ∙ ap (λ p. leaf_at 0 p c.args.node) c.deref.ensures) in
    rw c.server_of.ensures (server-known c.args.servers c.in_ok-offset.leaf.now c.args.call c.args.attempt (subst (IsServedIn c.args.servers) is found))
