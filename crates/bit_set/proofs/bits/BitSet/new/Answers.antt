use Rattle.bit_set.proofs.Words.{new_none, new_used}
use Rattle.bit_set.proofs.bits.BitSet.new.Goals as goal

pub invariant_of-result : goal.invariant_of-result
invariant_of-result c = new_used

pub returns : goal.returns
returns c = new_none
