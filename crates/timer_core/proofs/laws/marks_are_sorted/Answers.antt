use Rattle.std.proofs.Common.{[]}
use Rattle.timer_core.proofs.Order.{sorted_all_added, sorted_added, sorted_rest}
use Rattle.timer_core.proofs.laws.marks_are_sorted.Goals as goal

pub returns : goal.returns
returns c = ((λ more. sorted_all_added [] more tt), (λ mark marks h. sorted_added mark marks h), (λ now marks h. sorted_rest now marks h))
