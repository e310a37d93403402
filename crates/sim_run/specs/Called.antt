-- The calls of a replay by their numbers, in the order of their lines. This project's own choice.
use Rattle.std.specs.Prelude.{◌≡◌, ℕ, List, Option}
use Rattle.std.specs.Map.{keys_of}
use Rattle.sim_run.specs.declared.ticket.Ticket.{Ticket}

-- each call's number with its ticket, where it took a slot
pub record Called : Type 0 where
  pub entries : List (ℕ × Option Ticket)

-- these are the numbers of these calls
abbrev pub AreNumbers : List ℕ → List (ℕ × Option Ticket) → Type 0
AreNumbers numbers entries = numbers ≡ keys_of entries
