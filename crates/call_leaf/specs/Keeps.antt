-- What a leaf keeps beside the text of its reply, and what it answers: the table of a leaf's events in the model, by
-- brpc's documents on the client and on backup requests, with this project's own choices.
use Rattle.std.specs.Prelude.{◌≡◌, ℕ, Bool, false, nat_lt, List, Option, None, Some, if◌then◌else◌}
use Rattle.rpc_model.specs.declared.event.End.{End}
use Rattle.rpc_model.specs.declared.event.End.TheVariants as end
use Rattle.rpc_model.specs.declared.event.Event.{Event}
use Rattle.rpc_model.specs.declared.event.Event.TheVariants as event
use Rattle.rpc_model.specs.Leaf.{Leaf, leaf_step}
use Rattle.call_leaf.specs.declared.event.LeafEvent.{LeafEvent}
use Rattle.call_leaf.specs.declared.event.LeafEvent.TheVariants.{Good, Fail, Backup, Deadline}
use Rattle.call_leaf.specs.declared.event.LeafStep.{LeafStep}
use Rattle.call_leaf.specs.declared.event.LeafStep.TheVariants.{Nothing, Issue, Won, Ended}

-- how a leaf ended: by a reply, whose text its owner keeps, or with a code
pub data Outcome : Type 0 where
  won : Outcome
  failed : ℕ → Outcome

-- the retry limit, and the leaf without the text
pub record Kept : Type 0 where
  pub retry : ℕ
  pub issued : ℕ
  pub current : ℕ
  pub older : Option ℕ
  pub backed_up : Bool
  pub outcome : Option Outcome

abbrev pub end_with : Outcome → List ℕ → End
end_with won text = end.Good text
end_with (failed code) text = end.Bad code

abbrev pub end_of : Option Outcome → List ℕ → Option End
end_of None text = None
end_of (Some outcome) text = Some (end_with outcome text)

-- the model's leaf, with the text of its reply where it ended by one
abbrev pub leaf_of : Kept → List ℕ → Leaf
leaf_of kept text = record { issued = kept.issued; current = kept.current; older = kept.older; backed_up = kept.backed_up; end = end_of kept.outcome text }

-- the model's event at this node, with the text of a reply
abbrev pub event_of : LeafEvent → List ℕ → Event
event_of (Good attempt) text = event.Reply 0 attempt 0 text
event_of (Fail attempt code) text = event.Lost 0 attempt code
event_of Backup text = event.Backup 0
event_of Deadline text = event.Deadline 0

-- a leaf that has issued its first attempt
abbrev pub begun : ℕ → Kept
begun retry = record { retry = retry; issued = 1; current = 0; older = None; backed_up = false; outcome = None }

-- the attempt that an event names
abbrev pub attempt_of : LeafEvent → ℕ
attempt_of (Good attempt) = attempt
attempt_of (Fail attempt code) = attempt
attempt_of Backup = 0
attempt_of Deadline = 0

abbrev pub new_end : LeafEvent → Option End → Option End → LeafStep
new_end e before None = Nothing
new_end e (Some old) (Some now) = Nothing
new_end e None (Some (end.Good text)) = Won (attempt_of e)
new_end e None (Some (end.Bad code)) = Ended code

-- what a step of the model's leaf made it do
abbrev pub step_says : LeafEvent → Leaf → Leaf → LeafStep
step_says e before now = if nat_lt before.issued now.issued then Issue before.issued else new_end e before.end now.end

-- the outcome that an answer tells of
abbrev pub outcome_after : LeafStep → Option Outcome
outcome_after Nothing = None
outcome_after (Issue attempt) = None
outcome_after (Won attempt) = Some won
outcome_after (Ended code) = Some (failed code)

-- A leaf that hadn't ended has the outcome that the answer tells of, and one that had keeps its own.
abbrev pub Ends : Option Outcome → LeafStep → Option Outcome → Type 0
Ends None answer now = now ≡ outcome_after answer
Ends (Some outcome) answer now = (answer ≡ Nothing) × (now ≡ Some outcome)

-- The event took the model's step, whatever the text of a reply is.
abbrev pub Steps : Kept → Kept → LeafEvent → Type 0
Steps before now e = (text : List ℕ) → leaf_of now text ≡ leaf_step before.retry (leaf_of before text) (event_of e text)

-- The answer is what that step made the leaf do.
abbrev pub Says : Kept → LeafEvent → LeafStep → Type 0
Says before e answer = (text : List ℕ) → answer ≡ step_says e (leaf_of before text) (leaf_step before.retry (leaf_of before text) (event_of e text))
