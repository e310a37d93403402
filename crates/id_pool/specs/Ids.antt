-- How an id is laid out: the slot plus one above 32 bits of version. This project's own choice; bthread_id asks only that no id is zero.
use Rattle.std.specs.Prelude.{ℕ, zero, suc, ◌+◌, ◌*◌, ◌/◌, ◌%◌, ◌^◌, Some, None}
use Rattle.std.specs.declared.option.Option.{Option}

-- the id of a version of a slot
abbrev pub make_id : ℕ → ℕ → ℕ
make_id slot version = (slot + 1) * 2 ^ 32 + version

-- the number before this one, and nothing before 0
abbrev pub one_less : ℕ → Option ℕ
one_less zero = None
one_less (suc n) = Some n

-- the slot that an id names, and nothing where its high half is 0
abbrev pub slot_of : ℕ → Option ℕ
slot_of id = one_less (id / 2 ^ 32)

-- the version that an id names
abbrev pub version_of : ℕ → ℕ
version_of id = id % 2 ^ 32
