-- Each node of a call keeps its plan, and the request that the mappers above it made.
use Rattle.std.proofs.Common.{◌≡◌, ℕ, ◌+◌, Bool, true, false, cond, ◌==◌, nat_lt, fold, List, [], ◌∷◌, ◌++◌, Option, Some, None, is_none, refl, ap, sym, subst}
use Rattle.rpc_model.specs.declared.codes.TheConstants.{ECANCELED, ERPCTIMEDOUT}
use Rattle.rpc_model.specs.declared.event.End.{End}
use Rattle.rpc_model.specs.declared.event.End.TheVariants.{Bad}
use Rattle.rpc_model.specs.declared.event.Event.{Event}
use Rattle.rpc_model.specs.declared.event.Event.TheVariants as event
use Rattle.rpc_model.specs.Leaf.{leaf_step}
use Rattle.rpc_model.specs.declared.mapper.Mapped.{Mapped}
use Rattle.rpc_model.specs.declared.mapper.Mapped.TheVariants as answer
use Rattle.rpc_model.specs.Kinds.{Kinds}
use Rattle.rpc_model.specs.Plan.{Plan, leaf_plan, par_plan, sel_plan, Plans, last_plan, plan_then}
use Rattle.rpc_model.specs.Versions.{nodes}
use Rattle.rpc_model.specs.Parallel.{mapped, refused, Limits, limits, judged, par_deadline}
use Rattle.rpc_model.specs.Selective.{next_try}
use Rattle.rpc_model.specs.State.{State, waits, leaf_state, par_state, sel_state, States, last_state, state_then, Run, Below, end_of, ends_of, size, waiting_states, quiet, and_then}
use Rattle.rpc_model.specs.Machine.{par_started, sub_started, where_ended, start_at, start_subs, start_tries, node_of, is_deadline, new_end, leaf_run, par_at, par_stepped, sel_at}
use Rattle.rpc_model.specs.Machine.{sel_stepped, while_open, try_ended, try_run, is_left, start_waiting, step_at, step_subs, step_tries, step, start, machine, cancelled}
use Rattle.model_laws.specs.Requests.{IsOf, SubsAreOf, TriesAreOf}

module _ {M G : Type 0} (kinds : Kinds M G) where
  subs-wait : (asked : List Mapped) (plans : Plans M G) → SubsAreOf kinds asked plans (waiting_states plans)
  subs-wait asked last_plan = tt
  subs-wait (answer.Send request ∷ asked) (plan_then plan plans) = (refl, subs-wait asked plans)
  subs-wait (answer.Skip ∷ asked) (plan_then plan plans) = (refl, subs-wait asked plans)
  subs-wait (answer.Bad ∷ asked) (plan_then plan plans) = (refl, subs-wait asked plans)
  subs-wait [] (plan_then plan plans) = (refl, subs-wait [] plans)

  tries-wait : (request : List ℕ) (plans : Plans M G) → TriesAreOf kinds request plans (waiting_states plans)
  tries-wait request last_plan = tt
  tries-wait request (plan_then plan plans) = (refl, tries-wait request plans)

  -- ---- a start

  of-sub : (request : List ℕ) (asked : List Mapped) (plan : Plan M G) (plans : Plans M G) (run : Run M G) (next : Below M G) (o : Option End) → IsOf kinds request plan run.state
      → SubsAreOf kinds asked plans next.states
      → SubsAreOf kinds (answer.Send request ∷ asked) (plan_then plan plans) (sub_started run plans next o).states
  of-sub request asked plan plans run next None h hs = (h, hs)
  of-sub request asked plan plans run next (Some end) h hs = (h, subs-wait asked plans)

  of-par : (asked : List Mapped) (plans : Plans M G) (below : Below M G) (o : Option End) → SubsAreOf kinds asked plans below.states → SubsAreOf kinds asked plans (par_started plans below o).states
  of-par asked plans below None h = h
  of-par asked plans below (Some end) h = subs-wait asked plans

  of-ended : (request : List ℕ) (plan : Plan M G) (plans : Plans M G) (run : Run M G) (states : States M G) (next : Below M G) (o : Option End) → IsOf kinds request plan run.state
      → TriesAreOf kinds request plans states → TriesAreOf kinds request plans next.states
      → TriesAreOf kinds request (plan_then plan plans) (try_ended run states next o).states
  of-ended request plan plans run states next None h hs hn = (h, hn)
  of-ended request plan plans run states next (Some up) h hs hn = (h, hs)

  of-try : (request : List ℕ) (plan : Plan M G) (plans : Plans M G) (run : Run M G) (states : States M G) (next : Below M G) (o : Option End) → IsOf kinds request plan run.state
      → TriesAreOf kinds request plans states → TriesAreOf kinds request plans next.states
      → TriesAreOf kinds request (plan_then plan plans) (try_run run states next o).states
  of-try request plan plans run states next None h hs hn = (h, hs)
  of-try request plan plans run states next (Some end) h hs hn = of-ended request plan plans run states next (next_try (is_left states) end) h hs hn

  mutual
    pub start-of : (node : ℕ) (plan : Plan M G) (call : ℕ) (request : List ℕ) (m : ℕ) → IsOf kinds request plan (start_at kinds node plan call request m).state
    start-of node (leaf_plan leaf) call request m = (refl, refl)
    start-of node (par_plan rule plans) call request m =
        let asked = mapped kinds.map rule.maps request in (
          refl,
          refl,
          of-par asked plans (start_subs kinds (node + 1) plans call asked (limits rule asked) rule.merges m []) (refused asked)
              (subs-of (node + 1) plans call asked (limits rule asked) rule.merges m []),
        )
    start-of node (sel_plan timeout plans) call request m = (refl, tries-of (node + 1) plans call request m)

    subs-of : (node : ℕ) (plans : Plans M G) (call : ℕ) (asked : List Mapped) (lim : Limits) (merges : List G) (m : ℕ) (ends : List (Option End))
        → SubsAreOf kinds asked plans (start_subs kinds node plans call asked lim merges m ends).states
    subs-of node last_plan call asked lim merges m ends = tt
    subs-of node (plan_then plan plans) call (answer.Send request ∷ asked) lim merges m ends =
        let run = start_at kinds node plan call request m in
        let now = ends ++ end_of run.state ∷ [] in
        of-sub request asked plan plans run (start_subs kinds (node + nodes plan) plans call asked lim merges m now) (where_ended (end_of run.state) (judged kinds lim merges now))
        (start-of node plan call request m)
        (subs-of (node + nodes plan) plans call asked lim merges m now)
    subs-of node (plan_then plan plans) call (answer.Skip ∷ asked) lim merges m ends = (refl, subs-of (node + nodes plan) plans call asked lim merges m (ends ++ None ∷ []))
    subs-of node (plan_then plan plans) call (answer.Bad ∷ asked) lim merges m ends = (refl, subs-of (node + nodes plan) plans call asked lim merges m (ends ++ None ∷ []))
    subs-of node (plan_then plan plans) call [] lim merges m ends = (refl, subs-of (node + nodes plan) plans call [] lim merges m (ends ++ None ∷ []))

    tries-of : (node : ℕ) (plans : Plans M G) (call : ℕ) (request : List ℕ) (m : ℕ) → TriesAreOf kinds request plans (start_tries kinds node plans call request m).states
    tries-of node last_plan call request m = tt
    tries-of node (plan_then plan plans) call request m =
        let run = start_at kinds node plan call request m in
        of-try request plan plans run (waiting_states plans) (start_tries kinds (node + nodes plan) plans call request m) (end_of run.state) (start-of node plan call request m)
        (tries-wait request plans) (tries-of (node + nodes plan) plans call request m)

  -- ---- a step

  of-open : (request : List ℕ) (plan : Plan M G) (o : Option End) (state : State M G) (run : Run M G) → IsOf kinds request plan state → IsOf kinds request plan run.state
      → IsOf kinds request plan (while_open o state run).state
  of-open request plan None state run h hr = hr
  of-open request plan (Some end) state run h hr = h

  of-either : (request : List ℕ) (plan : Plan M G) (b : Bool) (p q : Run M G) → IsOf kinds request plan p.state → IsOf kinds request plan q.state → IsOf kinds request plan (cond b p q).state
  of-either request plan true p q hp hq = hp
  of-either request plan false p q hp hq = hq

  subs-either : (asked : List Mapped) (plans : Plans M G) (b : Bool) (p q : Below M G) → SubsAreOf kinds asked plans p.states → SubsAreOf kinds asked plans q.states
      → SubsAreOf kinds asked plans (cond b p q).states
  subs-either asked plans true p q hp hq = hp
  subs-either asked plans false p q hp hq = hq

  tries-either : (request : List ℕ) (plans : Plans M G) (b : Bool) (p q : Below M G) → TriesAreOf kinds request plans p.states → TriesAreOf kinds request plans q.states
      → TriesAreOf kinds request plans (cond b p q).states
  tries-either request plans true p q hp hq = hp
  tries-either request plans false p q hp hq = hq

  par-of : (request : List ℕ) (rule plans : _) (b : Bool) (par : _) (end : Option End) (states : States M G) → IsOf kinds request (par_plan rule plans) (par_state par states)
      → IsOf kinds request (par_plan rule plans) (par_state (cond b (record par { end = end }) par) states)
  par-of request rule plans true par end states h = h
  par-of request rule plans false par end states h = h

  sel-of : (request : List ℕ) (timeout : Option ℕ) (plans : Plans M G) (b : Bool) (sel : _) (end : Option End) (states : States M G)
      → IsOf kinds request (sel_plan timeout plans) (sel_state sel states) → IsOf kinds request (sel_plan timeout plans) (sel_state (cond b (record sel { end = end }) sel) states)
  sel-of request timeout plans true sel end states h = h
  sel-of request timeout plans false sel end states h = h

  waits-on : (node : ℕ) (plan : Plan M G) (state : State M G) (call : ℕ) (e : Event) (m : ℕ) → state ≡ waits plan → (step_at kinds node state call e m).state ≡ waits plan
  waits-on node plan state call e m h = ap (λ s. (step_at kinds node s call e m).state) h

  waiting-of : (node : ℕ) (plans : Plans M G) (states : States M G) (call : ℕ) (request : List ℕ) (m : ℕ) → TriesAreOf kinds request plans states
      → TriesAreOf kinds request plans (start_waiting kinds node states call request m).states
  waiting-of node last_plan last_state call request m h = tt
  waiting-of node (plan_then plan plans) last_state call request m h = absurd h
  waiting-of node last_plan (state_then state states) call request m h = absurd h
  waiting-of node (plan_then plan plans) (state_then (waits p) states) call request m h =
      let run = start_at kinds node p call request m in
      of-try request plan plans run states (start_waiting kinds (node + nodes p) states call request m) (end_of run.state)
      (subst (λ q. IsOf kinds request q run.state) h.0 (start-of node p call request m)) h.1 (waiting-of (node + nodes p) plans states call request m h.1)
  waiting-of node (plan_then plan plans) (state_then (leaf_state chan q leaf) states) call request m h = h
  waiting-of node (plan_then plan plans) (state_then (par_state par below) states) call request m h = h
  waiting-of node (plan_then plan plans) (state_then (sel_state sel below) states) call request m h = h

  mutual
    pub step-of : (node : ℕ) (plan : Plan M G) (state : State M G) (call : ℕ) (e : Event) (m : ℕ) (request : List ℕ) → IsOf kinds request plan state
        → IsOf kinds request plan (step_at kinds node state call e m).state
    step-of node plan (waits p) call e m request h = h
    step-of node (leaf_plan chan) (leaf_state c q leaf) call e m request h =
        of-either request (leaf_plan chan) (node_of e == node) (leaf_run c call node q leaf (leaf_step c.retry leaf e)) (quiet (leaf_state c q leaf)) h h
    step-of node (par_plan rule plans) (leaf_state c q leaf) call e m request h = absurd h
    step-of node (sel_plan timeout plans) (leaf_state c q leaf) call e m request h = absurd h
    step-of node (leaf_plan chan) (par_state par states) call e m request h = absurd h
    step-of node (par_plan rule plans) (par_state par states) call e m request h =
        of-open request (par_plan rule plans) par.end (par_state par states) _ h
        (of-either request (par_plan rule plans) (node_of e == node) (par_at kinds par states e) (par_stepped kinds par (step_subs kinds (node + 1) states call e m))
        (par-of request rule plans (is_deadline e) par (Some (par_deadline kinds par.limits par.merges (ends_of states))) states h)
        (h.0, h.1, subs-step-of (node + 1) plans states call e m (mapped kinds.map rule.maps request) h.2))
    step-of node (sel_plan timeout plans) (par_state par states) call e m request h = absurd h
    step-of node (leaf_plan chan) (sel_state sel states) call e m request h = absurd h
    step-of node (par_plan rule plans) (sel_state sel states) call e m request h = absurd h
    step-of node (sel_plan timeout plans) (sel_state sel states) call e m request h =
        of-open request (sel_plan timeout plans) sel.end (sel_state sel states) _ h
        (of-either request (sel_plan timeout plans) (node_of e == node) (sel_at sel states e) (sel_stepped sel (step_tries kinds (node + 1) states call e m sel.request))
        (sel-of request timeout plans (is_deadline e) sel (Some (Bad ERPCTIMEDOUT)) states h)
        (h.0, subst (λ q. TriesAreOf kinds request plans (step_tries kinds (node + 1) states call e m q).states) (sym h.0) (tries-step-of (node + 1) plans states call e m request h.1)))

    subs-step-of : (node : ℕ) (plans : Plans M G) (states : States M G) (call : ℕ) (e : Event) (m : ℕ) (asked : List Mapped) → SubsAreOf kinds asked plans states
        → SubsAreOf kinds asked plans (step_subs kinds node states call e m).states
    subs-step-of node last_plan last_state call e m asked h = tt
    subs-step-of node (plan_then plan plans) last_state call e m asked h = absurd h
    subs-step-of node last_plan (state_then state states) call e m asked h = absurd h
    subs-step-of node (plan_then plan plans) (state_then state states) call e m (answer.Send request ∷ asked) h =
        subs-either (answer.Send request ∷ asked) (plan_then plan plans) (nat_lt (node_of e) (node + size state)) _ _ (step-of node plan state call e m request h.0, h.1)
        (h.0, subs-step-of (node + size state) plans states call e m asked h.1)
    subs-step-of node (plan_then plan plans) (state_then state states) call e m (answer.Skip ∷ asked) h =
        subs-either (answer.Skip ∷ asked) (plan_then plan plans) (nat_lt (node_of e) (node + size state)) _ _ (waits-on node plan state call e m h.0, h.1)
        (h.0, subs-step-of (node + size state) plans states call e m asked h.1)
    subs-step-of node (plan_then plan plans) (state_then state states) call e m (answer.Bad ∷ asked) h =
        subs-either (answer.Bad ∷ asked) (plan_then plan plans) (nat_lt (node_of e) (node + size state)) _ _ (waits-on node plan state call e m h.0, h.1)
        (h.0, subs-step-of (node + size state) plans states call e m asked h.1)
    subs-step-of node (plan_then plan plans) (state_then state states) call e m [] h =
        subs-either [] (plan_then plan plans) (nat_lt (node_of e) (node + size state)) _ _ (waits-on node plan state call e m h.0, h.1)
        (h.0, subs-step-of (node + size state) plans states call e m [] h.1)

    tries-step-of : (node : ℕ) (plans : Plans M G) (states : States M G) (call : ℕ) (e : Event) (m : ℕ) (request : List ℕ) → TriesAreOf kinds request plans states
        → TriesAreOf kinds request plans (step_tries kinds node states call e m request).states
    tries-step-of node last_plan last_state call e m request h = tt
    tries-step-of node (plan_then plan plans) last_state call e m request h = absurd h
    tries-step-of node last_plan (state_then state states) call e m request h = absurd h
    tries-step-of node (plan_then plan plans) (state_then state states) call e m request h =
        let run = step_at kinds node state call e m in
        tries-either request (plan_then plan plans) (nat_lt (node_of e) (node + size state)) _ _
        (of-try request plan plans run states (start_waiting kinds (node + size state) states call request m) (new_end (end_of state) (end_of run.state))
        (step-of node plan state call e m request h.0) h.1
        (waiting-of (node + size state) plans states call request m h.1))
        (h.0, tries-step-of (node + size state) plans states call e m request h.1)

  -- ---- a run

  cancelled-of : (plan : Plan M G) (state : State M G) (request : List ℕ) → IsOf kinds request plan state → IsOf kinds request plan (cancelled state)
  cancelled-of plan (waits p) request h = h
  cancelled-of (leaf_plan chan) (leaf_state c q leaf) request h = h
  cancelled-of (par_plan rule plans) (leaf_state c q leaf) request h = absurd h
  cancelled-of (sel_plan timeout plans) (leaf_state c q leaf) request h = absurd h
  cancelled-of (leaf_plan chan) (par_state par states) request h = absurd h
  cancelled-of (par_plan rule plans) (par_state par states) request h = par-of request rule plans (is_none par.end) par (Some (Bad ECANCELED)) states h
  cancelled-of (sel_plan timeout plans) (par_state par states) request h = absurd h
  cancelled-of (leaf_plan chan) (sel_state sel states) request h = absurd h
  cancelled-of (par_plan rule plans) (sel_state sel states) request h = absurd h
  cancelled-of (sel_plan timeout plans) (sel_state sel states) request h = sel-of request timeout plans (is_none sel.end) sel (Some (Bad ECANCELED)) states h

  pub call-step-of : (plan : Plan M G) (state : State M G) (call : ℕ) (e : Event) (m : ℕ) (request : List ℕ) → IsOf kinds request plan state
      → IsOf kinds request plan (step kinds call state e m).state
  call-step-of plan state call (event.Reply node attempt code text) m request h = step-of 0 plan state call (event.Reply node attempt code text) m request h
  call-step-of plan state call (event.Lost node attempt code) m request h = step-of 0 plan state call (event.Lost node attempt code) m request h
  call-step-of plan state call (event.Backup node) m request h = step-of 0 plan state call (event.Backup node) m request h
  call-step-of plan state call (event.Deadline node) m request h = step-of 0 plan state call (event.Deadline node) m request h
  call-step-of plan state call event.Cancel m request h = cancelled-of plan state request h

  run-of : (plan : Plan M G) (call : ℕ) (request : List ℕ) (events : List (Event × ℕ)) (run : Run M G) → IsOf kinds request plan run.state
      → IsOf kinds request plan (fold (λ (r : Run M G) timed. and_then r (step kinds call r.state timed.0 timed.1)) run events).state
  run-of plan call request [] run h = h
  run-of plan call request (timed ∷ events) run h = run-of plan call request events (and_then run (step kinds call run.state timed.0 timed.1))
      (call-step-of plan run.state call timed.0 timed.1 request h)

  -- Whatever comes to a call, its nodes are those of its plan, each with the request that the mappers above it made of the call's.
  pub machine-of : (plan : Plan M G) (call : ℕ) (request : List ℕ) (begun : ℕ) (events : List (Event × ℕ)) → IsOf kinds request plan (machine kinds plan call request begun events).state
  machine-of plan call request begun events = run-of plan call request events (start kinds plan call request begun) (start-of 0 plan call request begun)
