use Rattle.std.proofs.lemmas.Nat.Bits.{bit_at_set_same, bit_at_set_other}
use Rattle.std.specs.Int.{w64}
use Rattle.bit_set.proofs.bits.with_bit.Goals as goal

pub returns-clause-in_it : goal.returns-clause-in_it
returns-clause-in_it c = bit_at_set_same w64 c.args.word c.args.bit c.requires

pub returns-clause-others : goal.returns-clause-others
returns-clause-others c = λ k n. bit_at_set_other w64 c.args.word c.args.bit c.requires k n
