-- One more sub.
use Rattle.std.proofs.Common.{◌≡◌, ◌%◌, ℕ, get_or, length, subst}
use Rattle.sim_run.proofs.Coming.{over-next, multiple}
use Rattle.sim_run.proofs.rounds.over_tries.Goals as goal

pub loop-sub-preserved : goal.loop-sub-preserved
loop-sub-preserved c =
    let number = λ (s : ℕ). get_or c.args.rounds.now s 0 in
    record {
      turns = multiple c.loop-sub.round (length c.args.subs.now) c.common-round.result c.common-round.ensures.first c.loop-sub.invariant.turns;
      over =
          over-next number c.args.subs.now c.loop-sub.sub-index _ c.loop-sub.round c.common-round.result c.loop-sub-test.true c.common-round.ensures.first
          (subst (λ n. c.common-round.result % n ≡ 0) c.round_at.ensures c.common-round.ensures.second)
          c.loop-sub.invariant.over;
    }
