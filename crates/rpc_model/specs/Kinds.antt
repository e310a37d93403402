-- How mappers and mergers answer, as functions, and the tables of the kinds that a script has. brpc's documents on combination channels have mappers and mergers; the kinds are this project's own.
use Rattle.std.specs.Prelude.{ℕ, ◌+◌, ◌-◌, ◌^◌, Bool, ◌==◌, ◌&&◌, nat_le, List, [], ◌++◌, bytes_eq, slice_get, unwrap_or, Option, None, Some, if◌then◌else◌}
use Rattle.std.specs.List.{slice_split}
use Rattle.std.specs.Fmt.{decimal}
use Rattle.rpc_model.specs.Words.{is_numeral, digits_after}
use Rattle.rpc_model.specs.declared.kinds.MapKind.{MapKind}
use Rattle.rpc_model.specs.declared.kinds.MapKind.TheVariants as map_kind
use Rattle.rpc_model.specs.declared.kinds.MergeKind.{MergeKind}
use Rattle.rpc_model.specs.declared.kinds.MergeKind.TheVariants as merge_kind
use Rattle.rpc_model.specs.declared.mapper.Mapped.{Mapped}
use Rattle.rpc_model.specs.declared.mapper.Mapped.TheVariants.{Send, Skip, Bad}
use Rattle.rpc_model.specs.declared.merger.Merged.{Merged as MergedTo}
use Rattle.rpc_model.specs.declared.merger.Merged.TheVariants.{Merged, Fail, FailAll}
use Rattle.rpc_model.specs.declared.merger.Verdict.{Verdict}
use Rattle.rpc_model.specs.declared.merger.Verdict.TheVariants as verdict

-- How the mappers and mergers of two types answer.
pub record Kinds (M G : Type 0) : Type 0 where
  -- of the sub's index, the number of subs, and the node's request
  pub map : M → ℕ → ℕ → List ℕ → Mapped
  -- of the value so far, none before the first, the sub's index, and its text
  pub merge : G → Option (List ℕ) → ℕ → List ℕ → MergedTo

-- ---- mappers

abbrev pub send_part : Option (List ℕ) → Mapped
send_part None = Skip
send_part (Some part) = Send part

-- the pieces of a request between its commas
abbrev pub pieces : List ℕ → List (List ℕ)
pieces request = slice_split (λ b. b == 44) request

abbrev pub map_answer : MapKind → ℕ → ℕ → List ℕ → Mapped
map_answer map_kind.Same index count request = Send request
map_answer map_kind.Index index count request = Send (request ++ decimal index)
map_answer map_kind.Split index count request = send_part (slice_get (pieces request) index)
map_answer map_kind.Skip index count request = Skip
map_answer map_kind.Bad index count request = Bad

-- ---- mergers

-- a decimal number without a needless zero in front, of at most u64's greatest
abbrev pub is_number : List ℕ → Bool
is_number text = is_numeral text && nat_le (digits_after 0 text) (2 ^ 64 - 1)

abbrev pub sum_of : ℕ → MergedTo
sum_of n = if nat_le n (2 ^ 64 - 1) then Merged (decimal n) else Fail

abbrev pub summed : Option (List ℕ) → List ℕ → MergedTo
summed None part = if is_number part then Merged part else Fail
summed (Some so_far) part = if is_number so_far && is_number part then sum_of (digits_after 0 so_far + digits_after 0 part) else Fail

abbrev pub same_as : Option (List ℕ) → List ℕ → MergedTo
same_as None part = Merged part
same_as (Some so_far) part = if bytes_eq so_far part then Merged part else FailAll

abbrev pub merge_answer : MergeKind → Option (List ℕ) → ℕ → List ℕ → MergedTo
merge_answer merge_kind.Cat so_far index part = Merged (unwrap_or so_far [] ++ part)
merge_answer merge_kind.Sum so_far index part = summed so_far part
merge_answer merge_kind.Same so_far index part = same_as so_far part
merge_answer merge_kind.Drop so_far index part = Fail

-- the value after a merger's answer, and what came of it
abbrev pub merged_into : Option (List ℕ) → MergedTo → Option (List ℕ) × Verdict
merged_into so_far (Merged text) = (Some text, verdict.Taken)
merged_into so_far Fail = (so_far, verdict.Fail)
merged_into so_far FailAll = (so_far, verdict.FailAll)

-- the kinds of mapper and merger that a script has
abbrev pub script_kinds : Kinds MapKind MergeKind
script_kinds = record { map = map_answer; merge = merge_answer }
