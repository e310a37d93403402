-- Places that rise.
use Rattle.std.proofs.Common.{◌≡◌, ℕ, zero, suc, ◌-◌, ◌<◌, ◌≤◌, Bool, true, false, nat_lt, List, length, get_or, arith, refl, subst}
use Rattle.std.proofs.lemmas.Bool.Decides.{nat_tests}
use Rattle.chan_tree.specs.Table.{IsRising, IsLastUpTo}

pub weakly : (xs : List ℕ) → IsRising xs → (i j : ℕ) → i ≤ j → j < length xs → get_or xs i 0 ≤ get_or xs j 0
weakly xs rise i j le most = by (nat_lt i j) refl
  where
    by : (b : Bool) → nat_lt i j ≡ b → get_or xs i 0 ≤ get_or xs j 0
    by true e = let less : i < j = grind (arith, nat_tests) in let r = rise i j less most in omega (arith, r)
    by false e = let same : i ≡ j = grind (arith, nat_tests) in subst (λ k. get_or xs i 0 ≤ get_or xs k 0) same (omega arith)

pub behind-some : (xs : List ℕ) (to i : ℕ) → 0 < length xs → get_or xs 0 0 ≤ to → ((k : ℕ) → i ≤ k → k < length xs → to < get_or xs k 0) → 1 ≤ i
behind-some xs to zero some first above = absurd (let h = above 0 (omega arith) some in omega (arith, h, first))
behind-some xs to (suc i) some first above = omega arith

pub last-at : (xs : List ℕ) (to i : ℕ) → IsRising xs → i < length xs → get_or xs i 0 ≡ to → IsLastUpTo xs to i
last-at xs to i rise place is = record { place = place; low = omega (arith, is); high = λ k before most. let r = rise i k before most in omega (arith, r, is) }

pub last-behind : (xs : List ℕ) (to i : ℕ) → 0 < length xs → get_or xs 0 0 ≤ to → i ≤ length xs → ((k : ℕ) → k < i → get_or xs k 0 < to)
    → ((k : ℕ) → i ≤ k → k < length xs → to < get_or xs k 0) → IsLastUpTo xs to (i - 1)
last-behind xs to i some first most below above =
    let one = behind-some xs to i some first above in
    record {
      place = omega (arith, one, most);
      low = (let b = below (i - 1) (omega (arith, one)) in omega (arith, b));
      high = λ k before short. above k (omega (arith, before, one)) short;
    }
