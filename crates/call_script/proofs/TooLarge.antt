-- A number that is too large isn't one of those that are right.
use Rattle.std.proofs.Common.{◌≡◌, ℕ, ◌<◌, Bool, true, false, ◌&&◌, refl, arith}
use Rattle.std.specs.Prelude.{nat_le}
use Rattle.std.proofs.lemmas.Bool.Decides.{nat_tests}

pub too_large : (right : Bool) (n high : ℕ) → high < n → (right && nat_le n high) ≡ false
too_large true n high over = grind (arith, nat_tests)
too_large false n high over = refl
