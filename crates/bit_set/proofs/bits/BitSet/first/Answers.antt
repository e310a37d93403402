use Rattle.std.proofs.Common.{ℕ, List, arith, subst}
use Rattle.std.specs.Int.{w64, trailing_zeros}
use Rattle.std.proofs.Common.{◌+◌, ◌*◌}
use Rattle.bit_set.specs.Bits.{word_at, IsLeast}
use Rattle.bit_set.proofs.Words.{least}
use Rattle.bit_set.proofs.bits.BitSet.first.Goals as goal

pub returns : goal.returns
returns c =
    subst (λ (words : List ℕ). IsLeast words (trailing_zeros w64 c.self.inside.used * 64 + trailing_zeros w64 (word_at c.self.inside.words (trailing_zeros w64 c.self.inside.used)))) c.self.view_is
    (least c.self.inside.used c.self.inside.words c.self.invariant (omega (arith, c.if-self-eq0.false)))
