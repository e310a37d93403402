-- One copy more.
use Rattle.std.proofs.Common.{arith, ◌-◌, ◌++◌, ap, ◌∙◌}
use Rattle.rpc_model.specs.Plan.{copies}
use Rattle.chan_tree.proofs.Built.{copy-next}
use Rattle.chan_tree.proofs.building.copied.Goals as goal

pub loop-left-preserved : goal.loop-left-preserved
loop-left-preserved g c =
    record {
      so_far = ap (λ ys. ys ++ copies (c.loop-left.left - 1) c.args.x) c.in_ok-push.ensures.items
          ∙ copy-next c.loop-left.xs.items c.loop-left.left c.args.x (let some = c.loop-left-test.true in omega (arith, some)) ∙ c.loop-left.invariant.so_far;
    }
