-- The plain machine of a call: how its tree of nodes starts, and what an event does to it. brpc's documents on the
-- client and on combination channels, with this project's own choices where they leave one.
use Rattle.std.specs.Prelude.{ℕ, ◌+◌, Bool, true, false, ◌==◌, nat_lt, List, [], ◌∷◌, ◌++◌, fold, Option, None, Some, is_none, if◌then◌else◌}
use Rattle.rpc_model.specs.declared.codes.TheConstants.{ECANCELED, ERPCTIMEDOUT}
use Rattle.rpc_model.specs.declared.chan.LeafChan.{LeafChan}
use Rattle.rpc_model.specs.declared.event.End.{End}
use Rattle.rpc_model.specs.declared.event.End.TheVariants.{Bad}
use Rattle.rpc_model.specs.declared.event.Event.{Event}
use Rattle.rpc_model.specs.declared.event.Event.TheVariants.{Reply, Lost, Backup, Deadline, Cancel}
use Rattle.rpc_model.specs.Leaf.{Leaf, started, ended, leaf_step}
use Rattle.rpc_model.specs.Effects.{deadline, sent, mark_after, leaf_marks}
use Rattle.rpc_model.specs.declared.mapper.Mapped.{Mapped}
use Rattle.rpc_model.specs.declared.mapper.Mapped.TheVariants as answer
use Rattle.rpc_model.specs.Kinds.{Kinds}
use Rattle.rpc_model.specs.Plan.{Plan, leaf_plan, par_plan, sel_plan, Plans, last_plan, plan_then}
use Rattle.rpc_model.specs.Versions.{nodes}
use Rattle.rpc_model.specs.Parallel.{mapped, refused, Limits, limits, judged, par_deadline}
use Rattle.rpc_model.specs.Selective.{next_try}
use Rattle.rpc_model.specs.State.{Par, Sel, State, waits, leaf_state, par_state, sel_state, States, last_state, state_then, Run, Below, end_of, ends_of}
use Rattle.rpc_model.specs.State.{size, waiting_states, quiet, still, beside, run_then, run_beside, and_then}

-- the node that an event names
abbrev pub node_of : Event → ℕ
node_of (Reply node attempt code text) = node
node_of (Lost node attempt code) = node
node_of (Backup node) = node
node_of (Deadline node) = node
node_of Cancel = 0

abbrev pub is_deadline : Event → Bool
is_deadline (Reply node attempt code text) = false
is_deadline (Lost node attempt code) = false
is_deadline (Backup node) = false
is_deadline (Deadline node) = true
is_deadline Cancel = false

-- where a child ended, the end that this brings its parent
abbrev pub where_ended : Option End → Option End → Option End
where_ended None up = None
where_ended (Some end) up = up

-- the end that a node got between two states
abbrev pub new_end : Option End → Option End → Option End
new_end (Some end) now = None
new_end None now = now

module _ {M G : Type 0} where
  -- ---- the children of a node

  -- a parallel node that starts no sub has its end at once
  abbrev pub par_started : Plans M G → Below M G → Option End → Below M G
  par_started plans below None = below
  par_started plans below (Some end) = record (still (waiting_states plans)) { end = Some end }

  -- the subs behind one that was started: none starts where the node has an end
  abbrev pub sub_started : Run M G → Plans M G → Below M G → Option End → Below M G
  sub_started run plans next None = run_then run next
  sub_started run plans next (Some end) = run_beside run (waiting_states plans) (Some end)

  abbrev pub is_left : States M G → Bool
  is_left last_state = false
  is_left (state_then state states) = true

  -- a try's end ends the node, or the tries behind it come next
  abbrev pub try_ended : Run M G → States M G → Below M G → Option End → Below M G
  try_ended run states next (Some up) = run_beside run states (Some up)
  try_ended run states next None = run_then run next

  -- a try that hasn't ended leaves the tries behind it as they are
  abbrev pub try_run : Run M G → States M G → Below M G → Option End → Below M G
  try_run run states next None = run_beside run states None
  try_run run states next (Some end) = try_ended run states next (next_try (is_left states) end)

  -- ---- the node itself

  -- a node that starts sets the mark of its deadline, and then its children start
  abbrev pub par_run : ℕ → Option ℕ → ℕ → Limits → List G → Below M G → Run M G
  par_run node timeout moment lim merges below = record {
    state = par_state (record { limits = lim; merges = merges; end = below.end }) below.states;
    sends = below.sends;
    marks = mark_after timeout node moment deadline ++ below.marks;
  }

  abbrev pub sel_run : ℕ → Option ℕ → List ℕ → ℕ → Below M G → Run M G
  sel_run node timeout request moment below = record {
    state = sel_state (record { request = request; end = below.end }) below.states;
    sends = below.sends;
    marks = mark_after timeout node moment deadline ++ below.marks;
  }

  abbrev pub leaf_run : LeafChan → ℕ → ℕ → List ℕ → Leaf → Leaf → Run M G
  leaf_run leaf call node request before now =
      record { state = leaf_state leaf request now; sends = sent leaf call node request before.issued now.issued; marks = [] }

  -- where a node has an end nothing happens at it or below it
  abbrev pub while_open : Option End → State M G → Run M G → Run M G
  while_open None state run = run
  while_open (Some end) state run = quiet state

  -- the tries of a selective node took a step
  abbrev pub sel_stepped : Sel → Below M G → Run M G
  sel_stepped sel below = record { state = sel_state (record sel { end = below.end }) below.states; sends = below.sends; marks = below.marks }

  -- an event at a selective node itself
  abbrev pub sel_at : Sel → States M G → Event → Run M G
  sel_at sel states event = quiet (sel_state (if is_deadline event then record sel { end = Some (Bad ERPCTIMEDOUT) } else sel) states)

  -- a root that has no end is cancelled
  abbrev pub cancelled : State M G → State M G
  cancelled (waits plan) = waits plan
  cancelled (leaf_state chan request leaf) = leaf_state chan request (if is_none leaf.end then ended leaf (Bad ECANCELED) else leaf)
  cancelled (par_state par states) = par_state (if is_none par.end then record par { end = Some (Bad ECANCELED) } else par) states
  cancelled (sel_state sel states) = sel_state (if is_none sel.end then record sel { end = Some (Bad ECANCELED) } else sel) states

module _ {M G : Type 0} (kinds : Kinds M G) where
  -- ---- the start

  abbrev mutual
    -- a node of this number is started with this request
    pub start_at : ℕ → Plan M G → ℕ → List ℕ → ℕ → Run M G
    start_at node (leaf_plan leaf) call request moment =
        record { state = leaf_state leaf request started; sends = sent leaf call node request 0 1; marks = leaf_marks leaf node moment }
    start_at node (par_plan rule plans) call request moment =
        let asked = mapped kinds.map rule.maps request in
        let lim = limits rule asked in
        par_run node rule.timeout moment lim rule.merges (par_started plans (start_subs (node + 1) plans call asked lim rule.merges moment []) (refused asked))
    start_at node (sel_plan timeout plans) call request moment = sel_run node timeout request moment (start_tries (node + 1) plans call request moment)

    -- the subs that are asked are started, until the node has an end; the ends of those before them are given
    pub start_subs : ℕ → Plans M G → ℕ → List Mapped → Limits → List G → ℕ → List (Option End) → Below M G
    start_subs node last_plan call asked lim merges moment ends = still last_state
    start_subs node (plan_then plan plans) call (answer.Send request ∷ asked) lim merges moment ends =
        let run = start_at node plan call request moment in
        let now = ends ++ end_of run.state ∷ [] in
        sub_started run plans (start_subs (node + nodes plan) plans call asked lim merges moment now) (where_ended (end_of run.state) (judged kinds lim merges now))
    start_subs node (plan_then plan plans) call (answer.Skip ∷ asked) lim merges moment ends =
        beside (waits plan) (start_subs (node + nodes plan) plans call asked lim merges moment (ends ++ None ∷ []))
    start_subs node (plan_then plan plans) call (answer.Bad ∷ asked) lim merges moment ends =
        beside (waits plan) (start_subs (node + nodes plan) plans call asked lim merges moment (ends ++ None ∷ []))
    start_subs node (plan_then plan plans) call [] lim merges moment ends =
        beside (waits plan) (start_subs (node + nodes plan) plans call [] lim merges moment (ends ++ None ∷ []))

    -- the first try is started, and the next one where a try ends at its start
    pub start_tries : ℕ → Plans M G → ℕ → List ℕ → ℕ → Below M G
    start_tries node last_plan call request moment = still last_state
    start_tries node (plan_then plan plans) call request moment =
        let run = start_at node plan call request moment in
        try_run run (waiting_states plans) (start_tries (node + nodes plan) plans call request moment) (end_of run.state)

  -- a call of this number begins
  abbrev pub start : Plan M G → ℕ → List ℕ → ℕ → Run M G
  start plan call request moment = start_at 0 plan call request moment

  -- ---- a step

  -- the subs of a parallel node took a step
  abbrev pub par_stepped : Par G → Below M G → Run M G
  par_stepped par below = record {
    state = par_state (record par { end = where_ended below.end (judged kinds par.limits par.merges (ends_of below.states)) }) below.states;
    sends = below.sends;
    marks = below.marks;
  }

  -- an event at a parallel node itself
  abbrev pub par_at : Par G → States M G → Event → Run M G
  par_at par states event =
      quiet (par_state (if is_deadline event then record par { end = Some (par_deadline kinds par.limits par.merges (ends_of states)) } else par) states)

  -- the tries that wait are started, from the first on, until one is left open or the node has an end
  abbrev pub start_waiting : ℕ → States M G → ℕ → List ℕ → ℕ → Below M G
  start_waiting node last_state call request moment = still last_state
  start_waiting node (state_then (waits plan) states) call request moment =
      let run = start_at node plan call request moment in
      try_run run states (start_waiting (node + nodes plan) states call request moment) (end_of run.state)
  start_waiting node (state_then state states) call request moment = still (state_then state states)

  abbrev mutual
    -- what an event does at the node of this number and below it
    pub step_at : ℕ → State M G → ℕ → Event → ℕ → Run M G
    step_at node (waits plan) call event moment = quiet (waits plan)
    step_at node (leaf_state chan request leaf) call event moment =
        if node_of event == node then leaf_run chan call node request leaf (leaf_step chan.retry leaf event) else quiet (leaf_state chan request leaf)
    step_at node (par_state par states) call event moment =
        while_open par.end (par_state par states) (if node_of event == node then par_at par states event else par_stepped par (step_subs (node + 1) states call event moment))
    step_at node (sel_state sel states) call event moment =
        while_open sel.end (sel_state sel states) (if node_of event == node then sel_at sel states event else sel_stepped sel (step_tries (node + 1) states call event moment sel.request))

    -- an event below a parallel node, at the first of these subs or at one behind it
    pub step_subs : ℕ → States M G → ℕ → Event → ℕ → Below M G
    step_subs node last_state call event moment = still last_state
    step_subs node (state_then state states) call event moment =
        let run = step_at node state call event moment in
        if nat_lt (node_of event) (node + size state) then run_beside run states (new_end (end_of state) (end_of run.state))
        else beside state (step_subs (node + size state) states call event moment)

    -- an event below a selective node, at the first of these tries or at one behind it
    pub step_tries : ℕ → States M G → ℕ → Event → ℕ → List ℕ → Below M G
    step_tries node last_state call event moment request = still last_state
    step_tries node (state_then state states) call event moment request =
        let run = step_at node state call event moment in
        if nat_lt (node_of event) (node + size state)
        then try_run run states (start_waiting (node + size state) states call request moment) (new_end (end_of state) (end_of run.state))
        else beside state (step_tries (node + size state) states call event moment request)

  -- what an event does to a call at a moment
  abbrev pub step : ℕ → State M G → Event → ℕ → Run M G
  step call state Cancel moment = quiet (cancelled state)
  step call state event moment = step_at 0 state call event moment

  -- a call from its start through a list of events, each with its moment
  abbrev pub machine : Plan M G → ℕ → List ℕ → ℕ → List (Event × ℕ) → Run M G
  machine plan call request begun events = fold (λ run timed. and_then run (step call run.state timed.0 timed.1)) (start plan call request begun) events
