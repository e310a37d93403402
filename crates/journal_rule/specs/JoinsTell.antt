-- What follows from the rule for joins: the first join of each call tells its end. This project's own choice.
use Rattle.std.specs.Prelude.{◌≡◌, ℕ, Some}
use Rattle.rpc_model.specs.declared.script.Script.{Script}
use Rattle.rpc_model.specs.declared.told.Told.{Told}
use Rattle.rpc_model.specs.declared.told.Told.TheVariants.{Ended, Unended, Full, Gone}
use Rattle.rpc_model.specs.declared.journal.Journal.{Journal}
use Rattle.journal_rule.specs.Calls.{CallLine, line_of, HasCalls}
use Rattle.journal_rule.specs.Ends.{HasEnds}
use Rattle.journal_rule.specs.EndsText.{first_told}

abbrev pub IsEnd : Told → Type 0
IsEnd (Ended call end attempts) = Unit {0}
IsEnd (Unended call) = ⊥
IsEnd (Full call) = ⊥
IsEnd (Gone call) = ⊥

-- The first join of a call of the script tells an end.
abbrev pub FirstJoinsTellEnds : Type 0
FirstJoinsTellEnds = (script : Script) (lanes : ℕ) (journal : Journal) → HasCalls script lanes journal → HasEnds script journal
    → (number : ℕ) (line : CallLine) → line_of script number ≡ Some line → IsEnd (first_told script journal number)
