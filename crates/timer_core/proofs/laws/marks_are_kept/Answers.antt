use Rattle.std.proofs.Common.{[]}
use Rattle.timer_core.proofs.Order.{kept, all_kept, took, left}
use Rattle.timer_core.proofs.laws.marks_are_kept.Goals as goal

pub returns : goal.returns
returns c = ((λ mark marks. kept mark marks), (λ more. all_kept [] more), (λ now mark marks e. took now mark marks e), (λ now marks e. left now marks e))
