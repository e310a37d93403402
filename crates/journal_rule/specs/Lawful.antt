-- Which journals are lawful for a script that ran on so many lanes: this project's own choice.
use Rattle.std.specs.Prelude.{ℕ, Bool, true, false, List, [], ◌∷◌, if◌then◌else◌}
use Rattle.rpc_model.specs.declared.script.Script.{Script}
use Rattle.rpc_model.specs.declared.journal.Journal.{Journal}
use Rattle.journal_rule.specs.declared.part.Part.{Part}
use Rattle.journal_rule.specs.declared.part.Part.TheVariants.{Calls, Ranges, Ends, Requests, Sources, GoneWords, Strays, Marks, Losses, Cancels}
use Rattle.journal_rule.specs.Calls.{HasCalls, has_calls}
use Rattle.journal_rule.specs.Ranges.{HasRanges, has_ranges}
use Rattle.journal_rule.specs.Ends.{HasEnds, has_ends}
use Rattle.journal_rule.specs.Requests.{HasRequests, has_requests}
use Rattle.journal_rule.specs.Sources.{HasSources, has_sources}
use Rattle.journal_rule.specs.Words.{HasGoneWords, has_gone_words}
use Rattle.journal_rule.specs.Strays.{HasStrays, has_strays}
use Rattle.journal_rule.specs.Fired.{HasMarks, has_marks}
use Rattle.journal_rule.specs.Losses.{HasLosses, has_losses}
use Rattle.journal_rule.specs.Cancels.{HasCancels, has_cancels}

-- The journal of a run of the script is lawful: its parts, in the order in which a broken one is named.
pub record IsLawful (script : Script) (lanes : ℕ) (journal : Journal) : Type 0 where
  pub calls : HasCalls script lanes journal
  pub ranges : HasRanges script lanes journal
  pub ends : HasEnds script journal
  pub requests : HasRequests script journal
  pub sources : HasSources script journal
  pub gone_words : HasGoneWords script lanes journal
  pub strays : HasStrays script lanes journal
  pub marks : HasMarks script journal
  pub losses : HasLosses journal
  pub cancels : HasCancels script journal

-- ---- computed

-- the parts whose tests fail
abbrev pub failed : List (Part × Bool) → List Part
failed [] = []
failed (test ∷ tests) = if test.1 then failed tests else test.0 ∷ failed tests

-- the parts that a journal breaks, in order
unfoldable pub broken_parts : Script → ℕ → Journal → List Part
broken_parts script lanes journal = failed (
    (Calls, has_calls script lanes journal)
    ∷ (Ranges, has_ranges script lanes journal)
    ∷ (Ends, has_ends script journal)
    ∷ (Requests, has_requests script journal)
    ∷ (Sources, has_sources script journal)
    ∷ (GoneWords, has_gone_words script lanes journal)
    ∷ (Strays, has_strays script lanes journal)
    ∷ (Marks, has_marks script journal)
    ∷ (Losses, has_losses journal)
    ∷ (Cancels, has_cancels script journal)
    ∷ []
    )

abbrev pub are_none : List Part → Bool
are_none [] = true
are_none (part ∷ parts) = false

unfoldable pub is_lawful : Script → ℕ → Journal → Bool
is_lawful script lanes journal = are_none (broken_parts script lanes journal)
