use Rattle.std.proofs.lemmas.Nat.Bits.{bit_at_clear_same, bit_at_clear_other}
use Rattle.std.specs.Int.{w64}
use Rattle.bit_set.proofs.bits.without_bit.Goals as goal

pub returns-clause-out : goal.returns-clause-out
returns-clause-out c = bit_at_clear_same w64 c.args.word c.args.bit c.requires

pub returns-clause-others : goal.returns-clause-others
returns-clause-others c = λ k l n. bit_at_clear_other w64 c.args.word c.args.bit c.requires k l n
