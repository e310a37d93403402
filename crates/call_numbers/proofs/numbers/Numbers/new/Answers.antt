-- No number is found yet.
use Rattle.call_numbers.proofs.Finds.{none_found}
use Rattle.call_numbers.proofs.numbers.Numbers.new.Goals as goal

pub invariant_of-result : goal.invariant_of-result
invariant_of-result c = rw c.new.ensures.items (none_found c.new-2.result c.new-2.ensures.empty)
