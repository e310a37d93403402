-- How the code's outcome of a leaf stands for the definition's.
use Rattle.std.specs.Prelude.{Option, None, Some}
use Rattle.call_leaf.specs.Keeps as keeps
use Rattle.call_leaf.specs.declared.leaf.Outcome.{Outcome}
use Rattle.call_leaf.specs.declared.leaf.Outcome.TheVariants.{Won, Failed}

abbrev pub outcome_with : Outcome → keeps.Outcome
outcome_with Won = keeps.won
outcome_with (Failed code) = keeps.failed code

abbrev pub outcome_of : Option Outcome → Option keeps.Outcome
outcome_of None = None
outcome_of (Some outcome) = Some (outcome_with outcome)
