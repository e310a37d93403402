-- Tables of journals: each a journal in which some lines are changed, and the parts of the rule that it then breaks.
use Rattle.std.proofs.Common.{◌≡◌, ℕ, ◌==◌, List, [], ◌∷◌, ◌++◌, Option, Some, find, flat_map, unwrap_or}
use Rattle.std.specs.Option.{option_map}
use Rattle.std.specs.List.{enumerate_from}
use Rattle.std.specs.Prelude.{map}
use Rattle.journal_rule.specs.declared.part.Part.{Part}
use Rattle.journal_rule.specs.Judged.{texts_break, texts_tell}

-- lines by their numbers, counted from 0, with those that stand in their place, and the parts that the journal then breaks
pub record Row : Type 0 where
  pub changes : List (ℕ × List (List ℕ))
  pub breaks : List Part

abbrev pub row : List (ℕ × List (List ℕ)) → List Part → Row
row changes breaks = record { changes = changes; breaks = breaks }

-- what stands in the place of a line
abbrev pub lines_for : List (ℕ × List (List ℕ)) → ℕ × List ℕ → List (List ℕ)
lines_for changes line = unwrap_or (option_map (λ (c : ℕ × List (List ℕ)). c.1) (find (λ (c : ℕ × List (List ℕ)). c.0 == line.0) changes)) (line.1 ∷ [])

abbrev pub changed : List (List ℕ) → List (ℕ × List (List ℕ)) → List (List ℕ)
changed lines changes = flat_map (lines_for changes) (enumerate_from 0 lines)

-- each line with a newline behind it
abbrev pub text_of : List (List ℕ) → List ℕ
text_of lines = flat_map (λ (line : List ℕ). line ++ 10 ∷ []) lines

abbrev pub row_breaks : List (List ℕ) → ℕ → List (List ℕ) → Row → Option (List Part)
row_breaks script lanes journal r = texts_break (text_of script) lanes (text_of (changed journal r.changes))

-- each row of a table breaks what it says
abbrev pub AreRows : List (List ℕ) → ℕ → List (List ℕ) → List Row → Type 0
AreRows script lanes journal rows = map (row_breaks script lanes journal) rows ≡ map (λ (r : Row). Some r.breaks) rows

-- the joins tell these lines by the journal
abbrev pub Tells : List (List ℕ) → List (List ℕ) → List (List ℕ) → Type 0
Tells script journal ends = texts_tell (text_of script) (text_of journal) ≡ Some (text_of ends)
