use Rattle.timer_core.proofs.Spread.{pushed_same}
use Rattle.timer_core.proofs.wheel.lay_out.Goals as goal

pub loop-chains-preserved : goal.loop-chains-preserved
loop-chains-preserved c = pushed_same c.args.chains.now c.loop-chains.chains c.push_list.new.self c.loop-chains.invariant c.in_ok-push_list.ensures.after
