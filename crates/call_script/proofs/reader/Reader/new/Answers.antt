-- Nothing is within the limits.
use Rattle.call_script.proofs.Kept.{within_nothing}
use Rattle.call_script.proofs.reader.Reader.new.Goals as goal

pub invariant_of-result : goal.invariant_of-result
invariant_of-result c = rw (c.new.ensures, c.new-2.ensures, c.new-3.ensures, c.new-4.ensures.items, c.new-5.ensures.items, c.new-6.ensures) within_nothing
