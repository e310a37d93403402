-- A call that acts: what comes to it, what it sends on the wires, and the marks that it sets, step by step as the plain machine does. This project's own choice.
use Rattle.std.specs.Prelude.{ℕ, zero, suc, max, nat_le, List, Option, None, Some, is_some, if◌then◌else◌}
use Rattle.rpc_model.specs.declared.event.Event.{Event}
use Rattle.rpc_model.specs.Effects.{Mark as CallMark}
use Rattle.rpc_model.specs.Kinds.{script_kinds}
use Rattle.rpc_model.specs.Machine.{step}
use Rattle.rpc_model.specs.State.{end_of}
use Rattle.rpc_model.specs.Marks.{Begun, apply, least_mark, mark_event, marks_left}
use Rattle.timer_core.specs.declared.mark.Mark.{Mark}
use Rattle.sim_run.specs.declared.turn.Turn.{Turn}
use Rattle.sim_run.specs.declared.turn.Turn.TheVariants as turn
use Rattle.sim_run.specs.Link.{Link}
use Rattle.sim_run.specs.Sends.{posted}
use Rattle.sim_run.specs.Marked.{marked}

-- a call with the wires on which it sends and the list of marks in which it sets its own
pub record Acting : Type 0 where
  pub call : Begun
  pub wires : List Link
  pub marks : List Mark

abbrev pub acting : Begun → List Link → List Mark → Acting
acting call wires marks = record { call = call; wires = wires; marks = marks }

-- an event comes to the call with this first id
abbrev pub acted : ℕ → Event → ℕ → Acting → Acting
acted first event moment a =
    let run = step script_kinds a.call.call a.call.state event moment in
    record { call = apply a.call event moment; wires = posted first a.call.plan a.call.call run.sends a.wires; marks = marked first run.marks a.marks }

-- it takes a mark at the mark's own moment
abbrev pub taken : ℕ → Acting → CallMark → List CallMark → Acting
taken first a mark others = acted first (mark_event mark.node mark.backup) mark.moment (record a { call = record a.call { waiting = others } })

abbrev pub woven_least : (Acting → Acting) → ℕ → ℕ → Acting → Option (CallMark × List CallMark) → Acting
woven_least again first moment a None = a
woven_least again first moment a (Some (mark, others)) = if nat_le mark.moment moment then again (taken first a mark others) else a

abbrev pub woven_at_most : ℕ → ℕ → ℕ → Acting → Acting
woven_at_most zero first moment a = a
woven_at_most (suc count) first moment a = woven_least (woven_at_most count first moment) first moment a (least_mark a.call.waiting)

-- it takes its marks that are due
abbrev pub woven : ℕ → ℕ → Acting → Acting
woven first moment a = woven_at_most (marks_left a.call) first moment a

abbrev pub finished_least : (ℕ → Acting → ℕ × Acting) → ℕ → ℕ → Acting → Option (CallMark × List CallMark) → ℕ × Acting
finished_least again first reached a None = (reached, a)
finished_least again first reached a (Some (mark, others)) = again (max reached mark.moment) (taken first a mark others)

abbrev pub finished_at_most : ℕ → ℕ → ℕ → Acting → ℕ × Acting
finished_at_most zero first reached a = (reached, a)
finished_at_most (suc count) first reached a =
    if is_some (end_of a.call.state) then (reached, a) else finished_least (finished_at_most count first) first reached a (least_mark a.call.waiting)

-- it takes its marks until it has an end or none is left
abbrev pub finished_by : ℕ → ℕ → Acting → ℕ × Acting
finished_by first reached a = finished_at_most (marks_left a.call) first reached a

-- what comes to it does this
abbrev pub turned_by : Turn → ℕ → Acting → Acting
turned_by (turn.Event event moment) first a = acted first event moment a
turned_by (turn.Due moment) first a = woven first moment a

abbrev pub joined_by : ℕ → ℕ → Acting → Acting
joined_by reached first a = (finished_by first reached a).1
