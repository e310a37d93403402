-- The ids of a call that was told wait no more: what passed on the wires then is that its attempts were lost.
use Rattle.std.proofs.Common.{◌≡◌, ℕ, zero, suc, nat_eq, List, Option, None, Some, refl}
use Rattle.std.specs.Map.{lookup}
use Rattle.rpc_model.specs.declared.meaning.Meaning.{Meaning}
use Rattle.rpc_model.specs.declared.meaning.Meaning.TheVariants.{Node, Attempt}
use Rattle.rpc_model.specs.declared.told.Told.{Told}
use Rattle.rpc_model.specs.declared.told.Told.TheVariants.{Ended, Unended, Full, Gone}
use Rattle.rpc_model.specs.Marks.{Begun}
use Rattle.rpc_model.specs.Versions.{meaning_of}
use Rattle.id_pool.specs.Ranges.{Slot}
use Rattle.sim_run.specs.declared.ticket.Ticket.{Ticket}
use Rattle.sim_run.specs.Link.{Link}
use Rattle.sim_run.specs.Sends.{server_to}
use Rattle.sim_run.specs.Passages.{was_lost}
use Rattle.sim_run.specs.Desk.{plan_of, width_of, attempt_id, AreWired}
use Rattle.sim_run.specs.Closing.{closed_id, closed_one, closed, closed_by}
use Rattle.sim_run.proofs.Wiring.{wired-in}

module _ (servers : ℕ) (slots : List (Slot Begun)) (entries : List (ℕ × Option Ticket)) (call : ℕ) (ticket : Ticket) (found : lookup (nat_eq call) entries ≡ Some (Some ticket)) where
  closed-attempt : (node attempt : ℕ) (o : Option ℕ) → o ≡ attempt_id ticket node attempt → (wires : List Link) → AreWired servers slots entries wires
      → AreWired servers slots entries (closed_id o (server_to (plan_of ticket) call node attempt) wires)
  closed-attempt node attempt None e wires w = w
  closed-attempt node attempt (Some id) e wires w =
      wired-in servers slots entries wires (was_lost call (server_to (plan_of ticket) call node attempt) id)
      (record { ticket = ticket; node = node; attempt = attempt; found = found; named = e; to = refl }) (λ c. refl) w

  closed-one : (o : Option Meaning) (wires : List Link) → AreWired servers slots entries wires → AreWired servers slots entries (closed_one ticket call o wires)
  closed-one None wires w = w
  closed-one (Some (Node node)) wires w = w
  closed-one (Some (Attempt node attempt)) wires w = closed-attempt node attempt (attempt_id ticket node attempt) refl wires w

  closed-all : (count : ℕ) (wires : List Link) → AreWired servers slots entries wires → AreWired servers slots entries (closed ticket call count wires)
  closed-all zero wires w = w
  closed-all (suc count) wires w = closed-one (meaning_of (plan_of ticket) count) (closed ticket call count wires) (closed-all count wires w)

  -- Whatever a join told.
  pub closed-wired : (told : Told) (wires : List Link) → AreWired servers slots entries wires → AreWired servers slots entries (closed_by told ticket call wires)
  closed-wired (Ended number end attempts) wires w = closed-all (width_of ticket) wires w
  closed-wired (Unended number) wires w = w
  closed-wired (Full number) wires w = w
  closed-wired (Gone number) wires w = w
