-- How an answer of the reader stands to the definition: this project's own choice.
use Rattle.std.specs.Prelude.{◌≡◌, ℕ, None, Some, Result, Ok, Err}
use Rattle.std.specs.declared.option.Option.{Option}
use Rattle.rpc_model.specs.declared.journal.Journal.{Journal}
use Rattle.journal_text.specs.declared.fault.LineFault.{LineFault}
use Rattle.journal_text.specs.declared.fault.LineFault.TheVariants.{Refused, Memory}
use Rattle.journal_text.specs.declared.fault.JournalFault.{JournalFault}
use Rattle.journal_text.specs.declared.fault.JournalFault.TheVariants as fault

-- what one more line makes of a draft, but for want of memory, which is free
abbrev pub Judged : {A : Type 0} → Result (Unit {0}) LineFault → A → Option A → Type 0
Judged (Ok done) new says = says ≡ Some new
Judged (Err Refused) new says = says ≡ None
Judged (Err Memory) new says = Unit {0}

-- what a text says, but for want of memory
abbrev pub Reads : Result Journal JournalFault → Result Journal ℕ → Type 0
Reads (Ok journal) says = says ≡ Ok journal
Reads (Err (fault.Bad line)) says = says ≡ Err line
Reads (Err fault.Memory) says = Unit {0}

-- a fault that names this line, but for want of memory
abbrev pub Names : JournalFault → ℕ → Type 0
Names (fault.Bad line) n = line ≡ n
Names fault.Memory n = Unit {0}
