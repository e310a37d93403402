-- A mapper and a merger of one's own, which a test has, and what a fold by that merger comes to.
use Rattle.std.specs.Prelude.{ℕ, ◌-◌, ◌==◌, List, [], ◌∷◌, length, nat_le, Option, None, Some, if◌then◌else◌}
use Rattle.rpc_model.specs.declared.mapper.Mapped.{Mapped}
use Rattle.rpc_model.specs.declared.mapper.Mapped.TheVariants.{Send, Skip}
use Rattle.rpc_model.specs.declared.merger.Merged.{Merged as MergedTo}
use Rattle.rpc_model.specs.declared.merger.Merged.TheVariants.{Merged}
use Rattle.rpc_model.specs.declared.part.Part.{Part}

-- only the last sub is asked
abbrev pub last_only : ℕ → ℕ → List ℕ → Mapped
last_only index count request = if index == count - 1 then Send request else Skip

-- the longer text, or the earlier of two that are as long
abbrev pub longer_text : Option (List ℕ) → List ℕ → List ℕ
longer_text None part = part
longer_text (Some so_far) part = if nat_le (length part) (length so_far) then so_far else part

abbrev pub longer : Option (List ℕ) → List ℕ → MergedTo
longer so_far part = Merged (longer_text so_far part)

-- the longest of the texts of these parts and the one so far, the first of several that are as long
abbrev pub longest : {G : Type 0} → Option (List ℕ) → List (Part G) → Option (List ℕ)
longest so_far [] = so_far
longest so_far (part ∷ parts) = longest (Some (longer_text so_far part.text)) parts
