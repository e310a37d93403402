-- A parallel node: what it asks of its subs, when it ends, and how the parts are merged. brpc's documents on combination channels; where it ends, and with which code, is this project's own choice.
use Rattle.std.specs.Prelude.{ℕ, zero, suc, ◌+◌, ◌-◌, Bool, true, false, ◌==◌, ◌||◌, nat_le, min, List, [], ◌∷◌, length, count_by, unwrap_or, Option, None, Some, if◌then◌else◌}
use Rattle.std.specs.List.{list_any}
use Rattle.rpc_model.specs.declared.codes.TheConstants.{ECANCELED, EREQUEST, ETOOMANYFAILS, ERPCTIMEDOUT, ERESPONSE}
use Rattle.rpc_model.specs.declared.event.End.{End}
use Rattle.rpc_model.specs.declared.event.End.TheVariants.{Good, Bad}
use Rattle.rpc_model.specs.declared.part.Part.{Part}
use Rattle.rpc_model.specs.declared.mapper.Mapped.{Mapped}
use Rattle.rpc_model.specs.declared.mapper.Mapped.TheVariants as answer
use Rattle.rpc_model.specs.declared.merger.Merged.{Merged}
use Rattle.rpc_model.specs.declared.merger.Merged.TheVariants as merge
use Rattle.rpc_model.specs.Kinds.{Kinds}
use Rattle.rpc_model.specs.Plan.{Rule}

-- ---- requests

-- what mappers of a type answer that answer so, from the sub of this index on, among so many
abbrev pub mapped_from : {M : Type 0} → (M → ℕ → ℕ → List ℕ → Mapped) → ℕ → ℕ → List M → List ℕ → List Mapped
mapped_from answer_of index count [] request = []
mapped_from answer_of index count (map ∷ maps) request = answer_of map index count request ∷ mapped_from answer_of (index + 1) count maps request

-- the mappers' answers by rising index
abbrev pub mapped : {M : Type 0} → (M → ℕ → ℕ → List ℕ → Mapped) → List M → List ℕ → List Mapped
mapped answer_of maps request = mapped_from answer_of 0 (length maps) maps request

abbrev pub is_bad : Mapped → Bool
is_bad (answer.Send text) = false
is_bad answer.Skip = false
is_bad answer.Bad = true

abbrev pub is_asked : Mapped → Bool
is_asked (answer.Send text) = true
is_asked answer.Skip = false
is_asked answer.Bad = false

-- how a node ends that starts no sub
abbrev pub refused : List Mapped → Option End
refused asked = if list_any is_bad asked then Some (Bad EREQUEST) else if list_any is_asked asked then None else Some (Bad ECANCELED)

-- ---- limits

-- the number of subs that are asked, and how many failures or successes end the node
pub record Limits : Type 0 where
  pub count : ℕ
  pub fail : ℕ
  pub ok : ℕ

abbrev pub limit : ℕ → ℕ → ℕ
limit zero count = count
limit (suc n) count = min (suc n) count

abbrev pub limits : {M G : Type 0} → Rule M G → List Mapped → Limits
limits rule asked = let n = count_by is_asked asked in record { count = n; fail = limit rule.fail n; ok = limit rule.ok n }

-- ---- merging

-- after a merger's answer: the next value, one failure more, or the end of the whole
abbrev pub fold_on : (Option (List ℕ) → ℕ → End) → Option (List ℕ) → ℕ → ℕ → Merged → End
fold_on next so_far fails fail (merge.Merged text) = next (Some text) fails
fold_on next so_far fails fail merge.Fail = if fails + 1 == fail then Bad ETOOMANYFAILS else next so_far (fails + 1)
fold_on next so_far fails fail merge.FailAll = Bad ERESPONSE

-- the parts that are left are merged into the value so far
abbrev pub fold_from : {G : Type 0} → (G → Option (List ℕ) → ℕ → List ℕ → Merged) → List (Part G) → ℕ → Option (List ℕ) → ℕ → End
fold_from answer_of [] fail so_far fails = Good (unwrap_or so_far [])
fold_from answer_of (part ∷ parts) fail so_far fails = fold_on (fold_from answer_of parts fail) so_far fails fail (answer_of part.merge so_far part.index part.text)

-- the parts, in rising order of their subs, are merged, where so many subs failed already and this many may not
abbrev pub fold_parts : {G : Type 0} → (G → Option (List ℕ) → ℕ → List ℕ → Merged) → List (Part G) → ℕ → ℕ → End
fold_parts answer_of parts fails fail = fold_from answer_of parts fail None fails

-- ---- the end, from the subs' ends by index, none where a sub hasn't ended

abbrev pub count_good : Option End → ℕ → ℕ
count_good None n = n
count_good (Some (Good text)) n = n + 1
count_good (Some (Bad code)) n = n

abbrev pub count_bad : Option End → ℕ → ℕ
count_bad None n = n
count_bad (Some (Good text)) n = n
count_bad (Some (Bad code)) n = n + 1

abbrev pub goods : List (Option End) → ℕ
goods [] = 0
goods (end ∷ ends) = count_good end (goods ends)

abbrev pub bads : List (Option End) → ℕ
bads [] = 0
bads (end ∷ ends) = count_bad end (bads ends)

abbrev pub and_part : {G : Type 0} → ℕ → G → Option End → List (Part G) → List (Part G)
and_part index merge None parts = parts
and_part index merge (Some (Good text)) parts = record { index = index; merge = merge; text = text } ∷ parts
and_part index merge (Some (Bad code)) parts = parts

-- the parts of the subs that succeeded, from the sub of this index on
abbrev pub parts_from : {G : Type 0} → ℕ → List G → List (Option End) → List (Part G)
parts_from index [] ends = []
parts_from index (merge ∷ merges) [] = []
parts_from index (merge ∷ merges) (end ∷ ends) = and_part index merge end (parts_from (index + 1) merges ends)

abbrev pub parts_of : {G : Type 0} → List G → List (Option End) → List (Part G)
parts_of merges ends = parts_from 0 merges ends

-- the end that a node has once these subs have ended, where it had none before the last of them did
abbrev pub judged : {M G : Type 0} → Kinds M G → Limits → List G → List (Option End) → Option End
judged kinds limits merges ends =
    if nat_le limits.fail (bads ends) then Some (Bad ETOOMANYFAILS)
    else if nat_le limits.ok (goods ends) || nat_le limits.count (goods ends + bads ends) then Some (fold_parts kinds.merge (parts_of merges ends) (bads ends) limits.fail)
    else None

-- the end that the node's deadline brings: each sub that hasn't ended has failed
abbrev pub par_deadline : {M G : Type 0} → Kinds M G → Limits → List G → List (Option End) → End
par_deadline kinds limits merges ends =
    let fails = limits.count - goods ends in
    if nat_le limits.fail fails then Bad ERPCTIMEDOUT else fold_parts kinds.merge (parts_of merges ends) fails limits.fail

-- ---- the same from the completions: the subs that ended, each with its end, the last one first

-- the end of the sub of this index
abbrev pub end_at : List (ℕ × End) → ℕ → Option End
end_at [] index = None
end_at ((i, end) ∷ done) index = if i == index then Some end else end_at done index

-- the ends of so many subs from this index on
abbrev pub ends_from : ℕ → ℕ → List (ℕ × End) → List (Option End)
ends_from index zero done = []
ends_from index (suc count) done = end_at done index ∷ ends_from (index + 1) count done

abbrev pub or_else : Option End → Option End → Option End
or_else None later = later
or_else (Some end) later = Some end

-- The end of a parallel node by its completions: that which an earlier one brought, or else that which the last one brings. So the shortest run of them from the first on that brings an end decides.
abbrev pub par_end : {M G : Type 0} → Kinds M G → Limits → List G → List (ℕ × End) → Option End
par_end kinds limits merges [] = None
par_end kinds limits merges (c ∷ done) = or_else (par_end kinds limits merges done) (judged kinds limits merges (ends_from 0 (length merges) (c ∷ done)))
