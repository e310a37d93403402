-- What the texts of a script and of a journal say together: the parts that the journal breaks. This project's own choice.
use Rattle.std.specs.Prelude.{ℕ, List, Option, None, Some, Result, Ok, Err}
use Rattle.rpc_model.specs.declared.script.Cause.{Cause}
use Rattle.rpc_model.specs.declared.script.Mode.TheVariants.{Live}
use Rattle.rpc_model.specs.declared.script.Script.{Script}
use Rattle.rpc_model.specs.declared.journal.Journal.{Journal}
use Rattle.rpc_model.specs.Script.{script}
use Rattle.journal_text.specs.Drafts.{journal_of}
use Rattle.journal_rule.specs.declared.part.Part.{Part}
use Rattle.journal_rule.specs.Lawful.{broken_parts}
use Rattle.journal_rule.specs.EndsText.{ends_text}

abbrev pub judged : Result Script (ℕ × Cause) → ℕ → Result Journal ℕ → Option (List Part)
judged (Ok s) lanes (Ok j) = Some (broken_parts s lanes j)
judged (Ok s) lanes (Err line) = None
judged (Err fault) lanes j = None

-- the parts that a journal breaks, where both texts can be read
abbrev pub texts_break : List ℕ → ℕ → List ℕ → Option (List Part)
texts_break script_text lanes text = judged (script Live script_text) lanes (journal_of text)

abbrev pub told_by : Result Script (ℕ × Cause) → Result Journal ℕ → Option (List ℕ)
told_by (Ok s) (Ok j) = Some (ends_text s j)
told_by (Ok s) (Err line) = None
told_by (Err fault) j = None

-- what the joins of a script tell by a journal, where both texts can be read
abbrev pub texts_tell : List ℕ → List ℕ → Option (List ℕ)
texts_tell script_text text = told_by (script Live script_text) (journal_of text)
