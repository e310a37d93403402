-- Where a pool looks for an id's slot.
use Rattle.std.specs.Prelude.{ℕ, ltb, if◌then◌else◌, Some, None}
use Rattle.std.specs.declared.option.Option.{Option}
use Rattle.id_pool.specs.Ids.{slot_of}

-- a number below n
abbrev pub below : ℕ → Option ℕ → Option ℕ
below n None = None
below n (Some i) = if ltb i n then Some i else None

-- the slot that an id names among n
abbrev pub place : ℕ → ℕ → Option ℕ
place n id = below n (slot_of id)
