use Rattle.std.proofs.Common.{◌≡◌, None, subst}
use Rattle.std.specs.Result.{IfOk}
use Rattle.rpc_model.specs.declared.event.End.{End}
use Rattle.fan_out.proofs.Longest.{longest-fold}
use Rattle.fan_out.proofs.tests.longest_part.Goals as goal

pub returns : goal.returns
returns c = subst (λ (x : End). IfOk c.fold_parts.result (λ e. e ≡ x)) (longest-fold None c.args.parts.now 1 0) c.fold_parts.ensures.end
