-- What follows from the rule for ranges: no two calls of a slot have an id in common. This project's own choice.
use Rattle.std.specs.Prelude.{ℕ, ◌+◌, ◌≤◌, ◌⊎◌, List, [], ◌∷◌}
use Rattle.std.specs.List.{AllByRecursion}
use Rattle.rpc_model.specs.declared.script.Script.{Script}
use Rattle.rpc_model.specs.declared.journal.CallLog.{CallLog}
use Rattle.rpc_model.specs.declared.journal.Journal.{Journal}
use Rattle.journal_rule.specs.Ranges.{calls_in_slot, HasRanges}

-- one of the two ranges ends before the other begins
abbrev pub Apart : CallLog → CallLog → Type 0
Apart c d = (c.first + c.width ≤ d.first) ⊎ (d.first + d.width ≤ c.first)

-- each two of the ranges are apart
abbrev pub AreApart : List CallLog → Type 0
AreApart [] = Unit {0}
AreApart (call ∷ calls) = AllByRecursion (Apart call) calls × AreApart calls

-- The ranges of a slot are apart.
abbrev pub RangesAreApart : Type 0
RangesAreApart = (script : Script) (lanes : ℕ) (journal : Journal) → HasRanges script lanes journal → (slot : ℕ) → AreApart (calls_in_slot slot journal.calls)
