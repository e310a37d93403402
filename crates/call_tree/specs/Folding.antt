-- What the subs of a parallel node bring to its merging, one after the other. This project's own choice.
use Rattle.std.specs.Prelude.{ℕ, List, set, Option, None, Some}
use Rattle.rpc_model.specs.declared.event.End.{End}
use Rattle.rpc_model.specs.declared.event.End.TheVariants.{Good, Bad}
use Rattle.rpc_model.specs.declared.merger.Merged.{Merged}
use Rattle.rpc_model.specs.declared.merger.Verdict.{Verdict}
use Rattle.rpc_model.specs.declared.merger.Verdict.TheVariants.{Taken}
use Rattle.rpc_model.specs.Kinds.{merged_into}

-- the ends, where the sub of this index is to end so, if that is given
abbrev pub with_last : List (Option End) → ℕ → Option End → List (Option End)
with_last ends at None = ends
with_last ends at (Some end) = set ends at (Some end)

-- the end that is given, or else the one that is there
abbrev pub or_end : Option End → Option End → Option End
or_end None now = now
or_end (Some end) now = Some end

-- the text of a good end
abbrev pub text_in : Option End → Option (List ℕ)
text_in None = None
text_in (Some (Good text)) = Some text
text_in (Some (Bad code)) = None

-- the value after a sub that brings a text or none, and what came of it
abbrev pub merged_with : {G : Type 0} → (G → Option (List ℕ) → ℕ → List ℕ → Merged) → G → Option (List ℕ) → ℕ → Option (List ℕ) → Option (List ℕ) × Verdict
merged_with answer merge so_far index None = (so_far, Taken)
merged_with answer merge so_far index (Some text) = merged_into so_far (answer merge so_far index text)
