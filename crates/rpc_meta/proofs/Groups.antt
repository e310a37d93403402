-- The value of a varint modulo 2 ^ 64, group by group from the lowest.
use Rattle.std.proofs.Common.{◌≡◌, ℕ, zero, suc, ◌+◌, ◌-◌, ◌*◌, ◌%◌, ◌^◌, ◌<◌, ◌≤◌, List, [], ◌∷◌, length, get_or, drop, Result, Ok, Err, refl, ap, ◌∙◌, arith}
use Rattle.std.proofs.lemmas.Bool.{le-ltb, lt-ltb}
use Rattle.std.proofs.lemmas.Nat.{mul-mod_first}
use Rattle.rpc_meta.specs.declared.fault.MetaFault.{MetaFault}
use Rattle.rpc_meta.specs.declared.fault.MetaFault.TheVariants.{Cut, LongVarint}
use Rattle.rpc_meta.specs.Meta.Wire.{◌>>=◌, groups, wrapped, varint}

-- a varint of one byte
pub varint_small : (at : ℕ) (bytes : List ℕ) → 0 < length bytes → get_or bytes 0 0 < 128 → varint at bytes ≡ Ok (get_or bytes 0 0, drop 1 bytes)
unfolding wrapped groups
varint_small at [] k lt = absurd (omega arith)
varint_small at (b ∷ bytes) k lt = let small : b % 2 ^ 64 ≡ b = omega arith in rw (lt-ltb b 128 lt, small) refl

-- the groups that are left, of this weight, with a sum of those before
abbrev pub sum_from : ℕ → ℕ → Result (ℕ × List ℕ) MetaFault → Result (ℕ × List ℕ) MetaFault
sum_from low weight r = r >>= λ high. Ok ((low + weight * high.0) % 2 ^ 64, high.1)

sum_first : (r : Result (ℕ × List ℕ) MetaFault) → (r >>= λ n. Ok (n.0 % 2 ^ 64, n.1)) ≡ sum_from 0 1 r
sum_first (Ok x) = let e : x.0 % 2 ^ 64 ≡ (0 + 1 * x.0) % 2 ^ 64 = omega arith in ap (λ (n : ℕ). Ok (n, x.1)) e
sum_first (Err e) = refl

pub sum_all : (at : ℕ) (bytes : List ℕ) → varint at bytes ≡ sum_from 0 1 (groups at 10 bytes)
unfolding wrapped
sum_all at bytes = sum_first (groups at 10 bytes)

last_mod : (low p : ℕ) → (low + p) % 2 ^ 64 ≡ (low + p % 2 ^ 64) % 2 ^ 64
last_mod low p = omega arith

-- what the whole is, at the end of the groups, at the last one and at one before
pub sum_none : (at low weight most : ℕ) (bytes : List ℕ) (total : Result (ℕ × List ℕ) MetaFault) → most ≡ 0 → total ≡ sum_from low weight (groups at most bytes) → total ≡ Err (LongVarint at)
unfolding groups
sum_none at low weight zero bytes total h e = e
sum_none at low weight (suc most) bytes total h e = absurd (omega arith)

pub sum_cut : (at low weight most : ℕ) (bytes : List ℕ) (total : Result (ℕ × List ℕ) MetaFault) → 0 < most → length bytes ≡ 0
    → total ≡ sum_from low weight (groups at most bytes) → total ≡ Err (Cut at)
unfolding groups
sum_cut at low weight zero bytes total h k e = absurd (omega arith)
sum_cut at low weight (suc most) [] total h k e = e
sum_cut at low weight (suc most) (b ∷ bytes) total h k e = absurd (omega arith)

pub sum_last : (at low weight most b : ℕ) (bytes rest : List ℕ) (total : Result (ℕ × List ℕ) MetaFault) → 0 < most → bytes ≡ b ∷ rest → b < 128
    → total ≡ sum_from low weight (groups at most bytes) → total ≡ Ok ((low + weight * b % 2 ^ 64) % 2 ^ 64, rest)
unfolding groups
sum_last at low weight zero b bytes rest total h first lt e = absurd (omega arith)
sum_last at low weight (suc most) b bytes rest total h first lt e =
    let one : sum_from low weight (groups at (suc most) bytes) ≡ Ok ((low + weight * b) % 2 ^ 64, rest) = rw (first, lt-ltb b 128 lt) refl in
    e ∙ (one ∙ ap (λ (n : ℕ). Ok (n, rest)) (last_mod low (weight * b)))

sum_mod : (low p s r : ℕ) → r % 2 ^ 64 ≡ s % 2 ^ 64 → (low + (p + s)) % 2 ^ 64 ≡ ((low + p % 2 ^ 64) % 2 ^ 64 + r) % 2 ^ 64
sum_mod low p s r e = omega (arith, e)

sum_step : (low weight b high : ℕ) → (low + weight * (b + 128 * high)) % 2 ^ 64 ≡ ((low + weight * b % 2 ^ 64) % 2 ^ 64 + weight * 128 % 2 ^ 64 * high) % 2 ^ 64
sum_step low weight b high =
    let parts : weight * (b + 128 * high) ≡ weight * b + weight * 128 * high = grind arith in
    ap (λ (n : ℕ). (low + n) % 2 ^ 64) parts ∙ sum_mod low (weight * b) (weight * 128 * high) (weight * 128 % 2 ^ 64 * high) (mul-mod_first (weight * 128) high (2 ^ 64))

sum_bind : (low weight b : ℕ) (r : Result (ℕ × List ℕ) MetaFault)
    → sum_from low weight (r >>= λ high. Ok (b + 128 * high.0, high.1)) ≡ sum_from ((low + weight * b % 2 ^ 64) % 2 ^ 64) (weight * 128 % 2 ^ 64) r
sum_bind low weight b (Ok x) = ap (λ (n : ℕ). Ok (n, x.1)) (sum_step low weight b x.0)
sum_bind low weight b (Err e) = refl

pub sum_more : (at low weight most b : ℕ) (bytes rest : List ℕ) (total : Result (ℕ × List ℕ) MetaFault) → 0 < most → bytes ≡ b ∷ rest → 128 ≤ b
    → total ≡ sum_from low weight (groups at most bytes)
    → total ≡ sum_from ((low + weight * (b - 128) % 2 ^ 64) % 2 ^ 64) (weight * 128 % 2 ^ 64) (groups at (most - 1) rest)
unfolding groups
sum_more at low weight zero b bytes rest total h first le e = absurd (omega arith)
sum_more at low weight (suc most) b bytes rest total h first le e =
    let one : suc most - 1 ≡ most = omega arith in
    e ∙ (rw (first, le-ltb b 128 le, one) (sum_bind low weight (b - 128) (groups at most rest)))

pub ruleset group_steps = (sum_all, sum_none, sum_cut, sum_last, sum_more)
