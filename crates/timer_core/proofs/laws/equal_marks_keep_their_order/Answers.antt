use Rattle.std.proofs.Common.{[]}
use Rattle.timer_core.proofs.Order.{equal_all_added}
use Rattle.timer_core.proofs.laws.equal_marks_keep_their_order.Goals as goal

pub returns : goal.returns
returns c = λ moment rank more. equal_all_added moment rank [] more tt
