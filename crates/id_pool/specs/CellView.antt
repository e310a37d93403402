-- What the fields of a cell stand for: a slot.
use Rattle.std.specs.Prelude.{◌-◌, ◌≤◌, ◌^◌}
use Rattle.id_pool.specs.Ranges.{Slot, Vacant, Retired, Taken}
use Rattle.id_pool.specs.declared.cell.Content.{Content}
use Rattle.id_pool.specs.declared.cell.Content.TheVariants.{Vacant as IsVacant, Retired as IsRetired, Taken as IsTaken}

abbrev pub slot_of : {T : Type 0} → Content T → Slot T
slot_of (IsVacant next) = Vacant next
slot_of IsRetired = Retired
slot_of (IsTaken r) = Taken r

-- the next range of a vacant slot stays within the versions
abbrev pub IsSound : {T : Type 0} → Content T → Type 0
IsSound (IsVacant next) = (1 ≤ next) × (next ≤ 2 ^ 32 - 1024)
IsSound IsRetired = Unit {0}
IsSound (IsTaken r) = Unit {0}
