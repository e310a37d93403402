-- The ids of a call's nodes never wait, and an attempt stands at the offset of its meaning.
use Rattle.std.proofs.Common.{◌≡◌, ℕ, zero, suc, ◌+◌, ◌<◌, ◌≤◌, Bool, true, List, Option, None, Some, is_some, arith, refl, ap, sym, ◌∙◌}
use Rattle.rpc_model.specs.declared.meaning.Meaning.{Meaning}
use Rattle.rpc_model.specs.declared.meaning.Meaning.TheVariants.{Node, Attempt}
use Rattle.rpc_model.specs.Versions.{nodes, meaning_of, offset_of}
use Rattle.rpc_model.proofs.Versions.{offset-meaning}
use Rattle.chan_tree.proofs.Offsets.{node_meaning}
use Rattle.sim_run.specs.declared.ticket.Ticket.{Ticket}
use Rattle.sim_run.specs.Closing.{closed, closed_one, closed_id}
use Rattle.sim_run.specs.Desk.{plan_of, attempt_id}
use Rattle.sim_run.specs.Link.{Link}

pub nodes-closed : (ticket : Ticket) (call count : ℕ) (wires : List Link) → count ≤ nodes (plan_of ticket) → closed ticket call count wires ≡ wires
nodes-closed ticket call zero wires few = refl
nodes-closed ticket call (suc count) wires few =
    ap (λ m. closed_one ticket call m (closed ticket call count wires)) (node_meaning (plan_of ticket) count (omega (arith, few)))
    ∙ nodes-closed ticket call count wires (omega (arith, few))

pub attempt-here : (ticket : Ticket) (node attempt offset : ℕ) → meaning_of (plan_of ticket) offset ≡ Some (Attempt node attempt) → attempt_id ticket node attempt ≡ Some (ticket.first + offset)
attempt-here ticket node attempt offset is = ap (λ o. mapped o) (offset-meaning (plan_of ticket) (Attempt node attempt) offset is)
  where
    mapped : Option ℕ → Option ℕ
    mapped None = None
    mapped (Some o) = Some (ticket.first + o)

pub some-none : {X : Type 0} {o : Option X} → is_some o ≡ true → o ≡ None → ⊥
some-none some none = let both = ap is_some none in absurd (cc)
