-- One more sub.
use Rattle.std.proofs.Common.{◌≡◌, ◌%◌, get_or, subst}
use Rattle.std.specs.List.{AllByRecursion}
use Rattle.rpc_model.specs.declared.chan.Sub.{Sub}
use Rattle.rpc_model.specs.declared.kinds.MapKind.{MapKind}
use Rattle.rpc_model.specs.declared.kinds.MergeKind.{MergeKind}
use Rattle.sim_run.proofs.Coming.{over-next, over-numbers, take-past}
use Rattle.sim_run.proofs.rounds.over_subs.Goals as goal

pub loop-sub-preserved : goal.loop-sub-preserved
loop-sub-preserved c =
    let number = λ (s : Sub MapKind MergeKind). get_or c.args.rounds.now s.chan 0 in
    record {
      over =
          over-next number c.args.subs.now c.loop-sub.sub-index _ c.loop-sub.round c.common-round.result c.loop-sub-test.true c.common-round.ensures.first
          (subst (λ n. c.common-round.result % n ≡ 0) c.round_at.ensures c.common-round.ensures.second)
          c.loop-sub.invariant.over;
    }

pub returns : goal.returns
returns c =
    let over = c.loop-sub.invariant.over in
    over-numbers c.args.rounds.now c.args.subs.now c.loop-sub.round
    (subst (λ xs. AllByRecursion (λ (s : Sub MapKind MergeKind). c.loop-sub.round % get_or c.args.rounds.now s.chan 0 ≡ 0) xs)
    (take-past c.args.subs.now c.loop-sub.sub-index c.loop-sub-test.false) over)
