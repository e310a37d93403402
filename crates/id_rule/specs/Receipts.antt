-- Receipts: what each pass numbered, and where each of its errors is now. This project's own choice.
use Rattle.std.specs.Prelude.{◌≡◌, ℕ, ◌+◌, ◌<◌, ◌≤◌, List, [], ◌∷◌, ◌++◌, ◌==◌, if◌then◌else◌, reverse, Option, Some, None}
use Rattle.id_rule.specs.declared.view.Notice.{Notice}
use Rattle.id_rule.specs.declared.view.Receipt.{Receipt}
use Rattle.id_rule.specs.declared.view.Queued.{Queued}
use Rattle.id_rule.specs.Nodes.{numbers_of, receipts_of}

-- how often the number stands in the list
abbrev pub occurrences : ℕ → List ℕ → ℕ
occurrences n [] = 0
occurrences n (x ∷ xs) = (if x == n then 1 else 0) + occurrences n xs

-- the same numbers, each as often
abbrev pub IsReordered : List ℕ → List ℕ → Type 0
IsReordered xs ys = (n : ℕ) → occurrences n xs ≡ occurrences n ys

-- the receipt, if it is for the range with this first version
abbrev pub receipt_if : ℕ → ℕ × Receipt → List Receipt
receipt_if first r = if r.0 == first then r.1 ∷ [] else []

-- the receipts for a range, of those for a slot
abbrev pub receipts_of_range : ℕ → List (ℕ × Receipt) → List Receipt
receipts_of_range first [] = []
receipts_of_range first (r ∷ rs) = receipt_if first r ++ receipts_of_range first rs

-- the receipt, if there is one, as a list
abbrev pub receipts_from : Option Receipt → List Receipt
receipts_from None = []
receipts_from (Some r) = r ∷ []

-- the receipts of a log's entries
abbrev pub receipts_in : {E : Type 0} → (E → Option Receipt) → List E → List Receipt
receipts_in rec [] = []
receipts_in rec (e ∷ es) = receipts_from (rec e) ++ receipts_in rec es

-- each number is at least the least one, and above those before it
abbrev pub IsRising : ℕ → List ℕ → Type 0
IsRising least [] = Unit {0}
IsRising least (n ∷ ns) = (least ≤ n) × IsRising (n + 1) ns

-- What happened so far, which the rule alone knows: what each pass numbered, by slot, range and pass, oldest first; of each range that ended its last
-- log, what was dropped then, and the seat that destroyed it; how many receipts each pass numbered, and the error of each; how many nodes each pass has
pub record History (E : Type 0) : Type 0 where
  pub numbered : ℕ → ℕ → ℕ → List ℕ
  pub last : ℕ → ℕ → Option (List E)
  pub lost : ℕ → ℕ → List Receipt
  pub ender : ℕ → ℕ → ℕ
  pub sent : ℕ → ℕ
  pub notice : ℕ → ℕ → Notice
  pub width : ℕ

-- the error was queued so
abbrev pub IsNoticed : {E : Type 0} → History E → Notice → Type 0
IsNoticed g e = (e.receipt.number < g.sent e.receipt.pass) × (g.notice e.receipt.pass e.receipt.number ≡ e)

-- the range hasn't ended
abbrev pub IsGoingOn : {E : Type 0} → History E → ℕ → ℕ → Type 0
IsGoingOn g slot f = (g.last slot f ≡ None) × (g.lost slot f ≡ [])

-- nothing is numbered for ranges from this first version on, and none of them ended
abbrev pub IsFresh : {E : Type 0} → History E → ℕ → ℕ → Type 0
IsFresh g slot from = (f : ℕ) → from ≤ f → ((a : ℕ) → g.numbered slot f a ≡ []) × IsGoingOn g slot f

-- the pass with these numbers has numbered n receipts under its own
abbrev pub HasSent : (ℕ → ℕ) → List ℕ → ℕ → Type 0
HasSent sent [] n = Unit {0}
HasSent sent (a ∷ as_well) n = n ≡ sent a

-- a pass's numbers for a range rise, and are below those that it will give
abbrev pub IsRisingBelow : List ℕ → ℕ → Type 0
IsRisingBelow ns next = IsRising 0 ns × ((n : ℕ) → 1 ≤ occurrences n ns → n < next)

-- of a free range: each pass's receipts are, each once, those in the log
abbrev pub AreLogged : (ℕ → List ℕ) → List Receipt → Type 0
AreLogged numbered logged = (a : ℕ) → IsReordered (numbered a) (numbers_of a logged)

-- of a locked range: each pass's receipts are, each once, those in the log at the lock and then, in the pass's order, those that the holder got since
-- and those in the chain
abbrev pub AreWaiting : (ℕ → List ℕ) → List Receipt → List Receipt → List Queued → Type 0
AreWaiting numbered logged got qs = (a : ℕ) → (old : List ℕ) × (numbered a ≡ old ++ numbers_of a (got ++ reverse (receipts_of qs)))
    × IsReordered old (numbers_of a logged)

-- of a range that ended: each pass's receipts are, each once, those in the last log and those that were dropped
abbrev pub AreSettled : (ℕ → List ℕ) → List Receipt → List Receipt → Type 0
AreSettled numbered logged lost = (a : ℕ) → IsReordered (numbered a) (numbers_of a logged ++ numbers_of a lost)

-- the log begins with the old one, and the receipts of the rest are those got, each once
abbrev pub IsGrown : {E : Type 0} → (E → Option Receipt) → List E → List E → List Receipt → Type 0
IsGrown {E} rec old log got = (new : List E) × (old ++ new ≡ log) × ((a : ℕ) → IsReordered (numbers_of a got) (numbers_of a (receipts_in rec new)))

-- the log begins with the old one, and the receipts of the rest and these that are left out are those got, each once
abbrev pub IsGrownWithout : {E : Type 0} → (E → Option Receipt) → List E → List E → List Receipt → List Receipt → Type 0
IsGrownWithout {E} rec old log got out =
    (new : List E) × (old ++ new ≡ log) × ((a : ℕ) → IsReordered (numbers_of a got) (numbers_of a (receipts_in rec new) ++ numbers_of a out))
