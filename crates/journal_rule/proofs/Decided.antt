-- Tests and what they decide.
use Rattle.std.proofs.Common.{◌≡◌, ℕ, ◌≤◌, Bool, true, false, nat_le, List, Option, Some, None, is_none, All, refl, ap, arith}
use Rattle.std.specs.Bool.{Decides}
use Rattle.std.specs.List.{list_all}
use Rattle.std.proofs.lemmas.Bool.{false≢true}
use Rattle.std.proofs.lemmas.Bool.Decides.{Decides-by_and, Decides-like, nat_tests}
use Rattle.journal_rule.specs.Sources.{is_some_of}

-- a test is true exactly where it is
pub itself : (b : Bool) → Decides b (b ≡ true)
itself b = (λ h. h, λ h. h)

pub always : Decides true (Unit {0})
always = (λ h. tt, λ h. refl)

pub never : Decides false ⊥
never = (λ h. absurd (false≢true h), λ h. absurd h)

pub at_most : (n m : ℕ) → Decides (nat_le n m) (n ≤ m)
at_most n m = (λ h. grind (arith, nat_tests), λ h. grind (arith, nat_tests))

-- each element passes
pub each : {X : Type 0} (test : X → Bool) (P : X → Type 0) → ((x : X) → Decides (test x) (P x)) → (xs : List X) → Decides (list_all test xs) (All P xs)
each test P one xs = Decides-by_and test P (list_all test) one refl (λ _ _. refl) xs

pub nothing : {X : Type 0} (o : Option X) → Decides (is_none o) (o ≡ None)
nothing None = (λ h. refl, λ h. refl)
nothing (Some x) = (λ h. absurd (false≢true h), λ h. absurd cc)

pub inside : {X : Type 0} (x y : X) → Some y ≡ Some x → y ≡ x
inside x y e = cc

-- the test is that of one value
pub some_of : {X : Type 0} (test : X → Bool) (x : X) → ((y : X) → Decides (test y) (y ≡ x)) → (o : Option X) → Decides (is_some_of test o) (o ≡ Some x)
some_of test x one None = (λ h. absurd (false≢true h), λ h. absurd cc)
some_of test x one (Some y) = Decides-like (test y) (λ e. ap Some e) (λ e. inside x y e) (one y)
