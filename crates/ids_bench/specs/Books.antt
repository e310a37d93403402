-- What is noted of the errors of a held range. This project's own choice.
use Rattle.std.specs.Prelude.{◌≡◌, ◌≢◌, ℕ, List, ◌++◌, Some}
use Rattle.id_rule.specs.declared.view.Receipt.{Receipt}
use Rattle.id_shared.specs.Claims.{IsHoldingWith}
use Rattle.id_shared.specs.Standing.{Claim, Standing, first_id_of}
use Rattle.id_shared.specs.Views.{receipts_in_errors}
use Rattle.id_rule.specs.Parts.{part_of}
use Rattle.ids_bench.specs.declared.book.Book.{Book}

-- the pass holds the range, and the book has what it had at the lock and then each receipt that was handed out since
abbrev pub IsOpen : Standing Receipt → Claim → Book → Type 0
IsOpen p c book = (book.first ≡ first_id_of c)
    × ((old : List Receipt) × ((got : List Receipt) × IsHoldingWith p c old got × (book.taken.items ≡ old ++ got)))

-- the receipts of some errors were noted, the first of those to hand out
abbrev pub IsNoted : Standing Receipt → List Receipt → Standing Receipt → List Receipt → Type 0
IsNoted p old q new = (some : List Receipt) × (new ≡ old ++ some) × (receipts_in_errors p.scratch ≡ some ++ receipts_in_errors q.scratch)

-- the pass has each Owner that it had of other slots
abbrev pub KeepsOwnersBut : ℕ → Standing Receipt → Standing Receipt → Type 0
KeepsOwnersBut slot p q = (other : ℕ) (r : ℕ × ℕ) → other ≢ slot → (part_of p.view other).owner ≡ Some r → (part_of q.view other).owner ≡ Some r
