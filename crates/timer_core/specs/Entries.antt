-- A mark with its place among the others. This project's own choice.
use Rattle.std.specs.Prelude.{ℕ}
use Rattle.timer_core.specs.declared.mark.Mark.{Mark}
use Rattle.timer_core.specs.declared.entry.Entry.{Entry}

-- the mark of an entry
abbrev pub mark_of : Entry → Mark
mark_of e = record { moment = e.moment; rank = e.rank; id = e.id; code = e.code }

-- the entry of a mark, before which so many had been added
abbrev pub entry_of : ℕ → Mark → Entry
entry_of order m = record { moment = m.moment; rank = m.rank; order = order; id = m.id; code = m.code }
