-- How the subs of a parallel node start, one after the other: this project's own choice.
use Rattle.std.specs.Prelude.{◌≡◌, ℕ, Bool, true, false, List, [], ◌∷◌, ◌++◌, Option, None, Some}
use Rattle.rpc_model.specs.declared.event.End.{End}
use Rattle.rpc_model.specs.declared.mapper.Mapped.{Mapped}
use Rattle.rpc_model.specs.declared.mapper.Mapped.TheVariants as answer
use Rattle.rpc_model.specs.Kinds.{Kinds}
use Rattle.rpc_model.specs.Plan.{Plan, Plans, last_plan, plan_then}
use Rattle.rpc_model.specs.Selective.{next_try}
use Rattle.rpc_model.specs.Parallel.{Limits, judged}
use Rattle.rpc_model.specs.State.{State, waits, States, state_then, Run, Below, waiting_states, quiet, still}
use Rattle.rpc_model.specs.Machine.{where_ended, start_at, start_subs, start_tries}
use Rattle.rpc_model.specs.Effects.{Send, Mark}
use Rattle.call_tree.specs.declared.nodes.ParNode.{ParNode}
use Rattle.call_tree.specs.declared.nodes.SelNode.{SelNode}
use Rattle.call_tree.specs.declared.outbox.Outbox.{Outbox}
use Rattle.call_tree.specs.Growing.{IsGrown}
use Rattle.call_tree.specs.Shown.{states_of}

-- the request that the first answer of the mappers asks
abbrev pub first_ask : List Mapped → Option (List ℕ)
first_ask [] = None
first_ask (answer.Send request ∷ asked) = Some request
first_ask (answer.Skip ∷ asked) = None
first_ask (answer.Bad ∷ asked) = None

abbrev pub rest_of : List Mapped → List Mapped
rest_of [] = []
rest_of (a ∷ asked) = asked

module _ {M G : Type 0} where
  -- states, and then these
  abbrev pub append_states : List (State M G) → States M G → States M G
  append_states [] states = states
  append_states (s ∷ ss) states = state_then s (append_states ss states)

  -- these subs, sends and marks, and then those that are below
  abbrev pub joined : List (State M G) → List Send → List Mark → Below M G → Below M G
  joined kids sends marks below = record { states = append_states kids below.states; sends = sends ++ below.sends; marks = marks ++ below.marks; end = below.end }

  -- the node has the subs and the end of this run, and this went out on it
  pub record IsStarted (par : ParNode M G) (old now : Outbox) (below : Below M G) : Type 0 where
    pub subs_are : states_of par.kids.items ≡ below.states
    pub end_is : par.end ≡ below.end
    pub grown : IsGrown old now below.sends below.marks

module _ {M G : Type 0} (kinds : Kinds M G) where
  -- a sub starts, where it is asked and the node has no end
  abbrev pub sub_run : Bool → ℕ → Plan M G → ℕ → Option (List ℕ) → ℕ → Run M G
  sub_run true node plan call (Some request) moment = start_at kinds node plan call request moment
  sub_run true node plan call None moment = quiet (waits plan)
  sub_run false node plan call asked moment = quiet (waits plan)

  -- the node's end, where one more sub has this end behind these
  abbrev pub end_with : Option End → Limits → List G → List (Option End) → Option End → Option End
  end_with None lim merges ends now = where_ended now (judged kinds lim merges (ends ++ now ∷ []))
  end_with (Some end) lim merges ends now = Some end

  -- the subs that are left start, where the node has this end or none
  abbrev pub subs_left : Option End → ℕ → Plans M G → ℕ → List Mapped → Limits → List G → ℕ → List (Option End) → Below M G
  subs_left None node plans call asked lim merges moment ends = start_subs kinds node plans call asked lim merges moment ends
  subs_left (Some end) node plans call asked lim merges moment ends = record (still (waiting_states plans)) { end = Some end }

-- whether the next try starts, and the node's end, where the last one has this end or none and others are left or not
abbrev pub after_end : Option End → Bool × Option End
after_end None = (true, None)
after_end (Some up) = (false, Some up)

abbrev pub after_try : Bool → Option End → Bool × Option End
after_try is_left None = (false, None)
after_try is_left (Some end) = after_end (next_try is_left end)

-- the same, where tries may not start any more and the node has this end or none
abbrev pub tried : Bool → Option End → Bool → Option End → Bool × Option End
tried true over is_left end = after_try is_left end
tried false over is_left end = (false, over)

-- the request of the next try
abbrev pub ask_while : Bool → List ℕ → Option (List ℕ)
ask_while true request = Some request
ask_while false request = None

abbrev pub are_left : {M G : Type 0} → Plans M G → Bool
are_left last_plan = false
are_left (plan_then plan plans) = true

module _ {M G : Type 0} (kinds : Kinds M G) where
  -- the tries that are left start, where they may, and else they wait and the node has this end or none
  abbrev pub tries_left : Bool → Option End → ℕ → Plans M G → ℕ → List ℕ → ℕ → Below M G
  tries_left true over node plans call request moment = start_tries kinds node plans call request moment
  tries_left false over node plans call request moment = record (still (waiting_states plans)) { end = over }

module _ {M G : Type 0} where
  -- a selective node has the tries and the end of this run, and this went out on it
  pub record AreStarted (sel : SelNode M G) (old now : Outbox) (below : Below M G) : Type 0 where
    pub tries_are : states_of sel.kids.items ≡ below.states
    pub end_is : sel.end ≡ below.end
    pub grown : IsGrown old now below.sends below.marks
