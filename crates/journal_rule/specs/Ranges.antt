-- The ranges of ids of a lawful journal: those of a slot follow each other. This project's own choice.
use Rattle.std.specs.Prelude.{◌≡◌, ℕ, ◌+◌, ◌*◌, ◌/◌, ◌%◌, ◌^◌, ◌≤◌, max, Bool, true, ◌==◌, ◌&&◌, nat_le, nat_lt, List, [], ◌∷◌, filter, All, if◌then◌else◌}
use Rattle.std.specs.List.{list_all}
use Rattle.rpc_model.specs.declared.script.Script.{Script}
use Rattle.rpc_model.specs.declared.journal.CallLog.{CallLog}
use Rattle.rpc_model.specs.declared.journal.Journal.{Journal}

-- the slot that an id names, counted from 1: 0 is no slot
abbrev pub slot_in : ℕ → ℕ
slot_in id = id / 2 ^ 32

abbrev pub version_in : ℕ → ℕ
version_in id = id % 2 ^ 32

-- how many slots a run on so many lanes has: each lane its part of those that may be open, and at least one
abbrev pub slots : Script → ℕ → ℕ
slots script lanes = lanes * max 1 (script.slots / lanes)

-- the id names one of so many slots
abbrev pub NamesSlot : ℕ → ℕ → Type 0
NamesSlot count id = (1 ≤ slot_in id) × (slot_in id ≤ count)

-- the call's range has the id
abbrev pub has_id : CallLog → ℕ → Bool
has_id call id = nat_le call.first id && nat_lt id (call.first + call.width)

abbrev pub calls_in_slot : ℕ → List CallLog → List CallLog
calls_in_slot slot calls = filter (λ (call : CallLog). slot_in call.first == slot) calls

abbrev pub insert_by_first : CallLog → List CallLog → List CallLog
insert_by_first call [] = call ∷ []
insert_by_first call (c ∷ calls) = if nat_le call.first c.first then call ∷ c ∷ calls else c ∷ insert_by_first call calls

-- by their first ids
abbrev pub sorted : List CallLog → List CallLog
sorted [] = []
sorted (call ∷ calls) = insert_by_first call (sorted calls)

-- the first range begins at this version, and each other one where the one before it ends
abbrev pub Follow : ℕ → List CallLog → Type 0
Follow version [] = Unit {0}
Follow version (call ∷ calls) = (version_in call.first ≡ version) × Follow (version + call.width) calls

-- Each call has a slot, and the ranges of each slot begin at version 1 and follow each other without a gap.
pub record HasRanges (script : Script) (lanes : ℕ) (journal : Journal) : Type 0 where
  pub places : All (λ (call : CallLog). NamesSlot (slots script lanes) call.first) journal.calls
  pub follow : (slot : ℕ) → Follow 1 (sorted (calls_in_slot slot journal.calls))

-- ---- computed

abbrev pub names_slot : ℕ → ℕ → Bool
names_slot count id = nat_le 1 (slot_in id) && nat_le (slot_in id) count

abbrev pub follow : ℕ → List CallLog → Bool
follow version [] = true
follow version (call ∷ calls) = version_in call.first == version && follow (version + call.width) calls

-- the call has one of so many slots, and the ranges of its slot follow each other
abbrev pub has_place : ℕ → List CallLog → CallLog → Bool
has_place count calls call = names_slot count call.first && follow 1 (sorted (calls_in_slot (slot_in call.first) calls))

-- the slots without a call need no look
abbrev pub has_ranges : Script → ℕ → Journal → Bool
has_ranges script lanes journal = list_all (has_place (slots script lanes) journal.calls) journal.calls
