use Rattle.std.proofs.Common.{◌≡◌, ℕ, ◌<◌, ◌+◌, ◌-◌, arith, ap}
use Rattle.mark_line.specs.declared.log.Log.{Log}
use Rattle.mark_line.proofs.Balances.{shares}
use Rattle.mark_line.proofs.line.MarkLine.shared.Goals as goal

pub another-other-requires-clause-rule : goal.another-other-requires-clause-rule
another-other-requires-clause-rule c =
    let p : c.loop-left.seat.me.view.client.passes ≡ c.args.self.now.passes + 1 - c.loop-left._left = ap (λ (v : Log). v.passes) c.loop-left.invariant.1 in
    shares c.loop-left.seat.id c.loop-left.seat.me.view.client (omega (arith, p))
