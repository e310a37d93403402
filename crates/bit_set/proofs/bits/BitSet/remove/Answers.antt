use Rattle.std.proofs.Common.{◌/◌, arith, refl}
use Rattle.bit_set.proofs.Words.{changed_used}
use Rattle.bit_set.proofs.bits.BitSet.remove.Goals as goal

pub invariant_of-self-else-bits-eq0 : goal.invariant_of-self-else-bits-eq0
invariant_of-self-else-bits-eq0 c =
    let less = c.without_bit-bits.ensures.less in
    let fit = c.self.invariant.fit (c.args.number / 64) in
    changed_used c.self.inside.used c.self.inside.used c.self.inside.words (c.args.number / 64) c.without_bit-bits.result c.self.invariant (omega arith) (omega (arith, less, fit))
    c.self.invariant.small
    (λ h. let z = c.self.invariant.none (c.args.number / 64) (omega arith) h in omega (arith, less, z)) (λ _. omega (arith, c.if-bits-eq0.false)) (λ i l n. refl)
