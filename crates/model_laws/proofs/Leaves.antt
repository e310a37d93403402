-- What holds of each leaf of a tree is kept, where a leaf's step keeps it.
use Rattle.std.proofs.Common.{ℕ, ◌+◌, ◌≤◌, inl, inr, Bool, true, false, cond, ◌==◌, nat_lt, fold, List, [], ◌∷◌, ◌++◌, Option, Some, None, is_none, arith}
use Rattle.rpc_model.specs.declared.codes.TheConstants.{ECANCELED}
use Rattle.rpc_model.specs.declared.chan.LeafChan.{LeafChan}
use Rattle.rpc_model.specs.declared.event.End.{End}
use Rattle.rpc_model.specs.declared.event.End.TheVariants.{Bad}
use Rattle.rpc_model.specs.declared.event.Event.{Event}
use Rattle.rpc_model.specs.declared.event.Event.TheVariants as event
use Rattle.rpc_model.specs.Leaf.{Leaf, started, ended, leaf_step}
use Rattle.model_laws.proofs.Issues.{IssuesFew, leaf_step-issues}
use Rattle.rpc_model.specs.declared.mapper.Mapped.{Mapped}
use Rattle.rpc_model.specs.declared.mapper.Mapped.TheVariants as answer
use Rattle.model_laws.specs.Leaves.{EachLeaf, EachLeafOf}
use Rattle.rpc_model.specs.Kinds.{Kinds}
use Rattle.rpc_model.specs.Plan.{Plan, leaf_plan, par_plan, sel_plan, Plans, last_plan, plan_then}
use Rattle.rpc_model.specs.Versions.{nodes}
use Rattle.rpc_model.specs.Parallel.{mapped, refused, Limits, limits, judged}
use Rattle.rpc_model.specs.Selective.{next_try}
use Rattle.rpc_model.specs.State.{State, waits, leaf_state, par_state, sel_state, States, last_state, state_then, Run, Below, end_of, waiting_states, run_beside, beside, quiet, and_then, size}
use Rattle.rpc_model.specs.Machine.{par_started, sub_started, where_ended, start_at, start_subs, start_tries, start, node_of, new_end, leaf_run, par_at, par_stepped, sel_at, sel_stepped}
use Rattle.rpc_model.specs.Machine.{step_tries, while_open, try_ended, try_run, is_left, start_waiting, step_at, step_subs, step, cancelled, machine}

-- it holds at a start, and a step and a cancel keep it
pub record IsKept (P : LeafChan → Leaf → Type 0) : Type 0 where
  pub at_start : (chan : LeafChan) → P chan started
  pub at_step : (chan : LeafChan) (leaf : Leaf) (e : Event) → P chan leaf → P chan (leaf_step chan.retry leaf e)
  pub at_cancel : (chan : LeafChan) (leaf : Leaf) → P chan leaf → P chan (ended leaf (Bad ECANCELED))

abbrev pub IssuedFew : LeafChan → Leaf → Type 0
IssuedFew chan leaf = leaf.issued ≤ chan.retry + 1

module _ {M G : Type 0} (kinds : Kinds M G) where
  each-waits : (P : LeafChan → Leaf → Type 0) (plans : Plans M G) → EachLeafOf P (waiting_states plans)
  each-waits P last_plan = tt
  each-waits P (plan_then plan plans) = (tt, each-waits P plans)

  each-ended : (P : LeafChan → Leaf → Type 0) (run : Run M G) (states : States M G) (next : Below M G) (o : Option End) → EachLeaf P run.state → EachLeafOf P states → EachLeafOf P next.states
      → EachLeafOf P (try_ended run states next o).states
  each-ended P run states next None h hs hn = (h, hn)
  each-ended P run states next (Some up) h hs hn = (h, hs)

  each-try : (P : LeafChan → Leaf → Type 0) (run : Run M G) (states : States M G) (next : Below M G) (o : Option End) → EachLeaf P run.state → EachLeafOf P states → EachLeafOf P next.states
      → EachLeafOf P (try_run run states next o).states
  each-try P run states next None h hs hn = (h, hs)
  each-try P run states next (Some end) h hs hn = each-ended P run states next (next_try (is_left states) end) h hs hn

  each-sub : (P : LeafChan → Leaf → Type 0) (run : Run M G) (plans : Plans M G) (next : Below M G) (o : Option End) → EachLeaf P run.state → EachLeafOf P next.states
      → EachLeafOf P (sub_started run plans next o).states
  each-sub P run plans next None h hn = (h, hn)
  each-sub P run plans next (Some end) h hn = (h, each-waits P plans)

  each-par : (P : LeafChan → Leaf → Type 0) (plans : Plans M G) (below : Below M G) (o : Option End) → EachLeafOf P below.states → EachLeafOf P (par_started plans below o).states
  each-par P plans below None h = h
  each-par P plans below (Some end) h = each-waits P plans

  mutual
    pub start-each : (P : LeafChan → Leaf → Type 0) → IsKept P → (node : ℕ) (plan : Plan M G) (call : ℕ) (request : List ℕ) (m : ℕ) → EachLeaf P (start_at kinds node plan call request m).state
    start-each P k node (leaf_plan leaf) call request m = k.at_start leaf
    start-each P k node (par_plan rule plans) call request m =
        each-par P plans (start_subs kinds (node + 1) plans call (mapped kinds.map rule.maps request) (limits rule (mapped kinds.map rule.maps request)) rule.merges m [])
        (refused (mapped kinds.map rule.maps request))
        (subs-each P k (node + 1) plans call (mapped kinds.map rule.maps request) (limits rule (mapped kinds.map rule.maps request)) rule.merges m [])
    start-each P k node (sel_plan timeout plans) call request m = tries-each P k (node + 1) plans call request m

    subs-each : (P : LeafChan → Leaf → Type 0) → IsKept P → (node : ℕ) (plans : Plans M G) (call : ℕ) (asked : List Mapped) (lim : Limits) (merges : List G) (m : ℕ) (ends : List (Option End))
        → EachLeafOf P (start_subs kinds node plans call asked lim merges m ends).states
    subs-each P k node last_plan call asked lim merges m ends = tt
    subs-each P k node (plan_then plan plans) call (answer.Send request ∷ asked) lim merges m ends =
        let run = start_at kinds node plan call request m in
        let now = ends ++ end_of run.state ∷ [] in
        each-sub P run plans (start_subs kinds (node + nodes plan) plans call asked lim merges m now) (where_ended (end_of run.state) (judged kinds lim merges now))
        (start-each P k node plan call request m)
        (subs-each P k (node + nodes plan) plans call asked lim merges m now)
    subs-each P k node (plan_then plan plans) call (answer.Skip ∷ asked) lim merges m ends = (tt, subs-each P k (node + nodes plan) plans call asked lim merges m (ends ++ None ∷ []))
    subs-each P k node (plan_then plan plans) call (answer.Bad ∷ asked) lim merges m ends = (tt, subs-each P k (node + nodes plan) plans call asked lim merges m (ends ++ None ∷ []))
    subs-each P k node (plan_then plan plans) call [] lim merges m ends = (tt, subs-each P k (node + nodes plan) plans call [] lim merges m (ends ++ None ∷ []))

    tries-each : (P : LeafChan → Leaf → Type 0) → IsKept P → (node : ℕ) (plans : Plans M G) (call : ℕ) (request : List ℕ) (m : ℕ) → EachLeafOf P (start_tries kinds node plans call request m).states
    tries-each P k node last_plan call request m = tt
    tries-each P k node (plan_then plan plans) call request m =
        let run = start_at kinds node plan call request m in
        each-try P run (waiting_states plans) (start_tries kinds (node + nodes plan) plans call request m) (end_of run.state) (start-each P k node plan call request m) (each-waits P plans)
        (tries-each P k (node + nodes plan) plans call request m)

  waiting-each : (P : LeafChan → Leaf → Type 0) → IsKept P → (node : ℕ) (states : States M G) (call : ℕ) (request : List ℕ) (m : ℕ) → EachLeafOf P states
      → EachLeafOf P (start_waiting kinds node states call request m).states
  waiting-each P k node last_state call request m h = tt
  waiting-each P k node (state_then (waits plan) states) call request m h =
      let run = start_at kinds node plan call request m in
      each-try P run states (start_waiting kinds (node + nodes plan) states call request m) (end_of run.state) (start-each P k node plan call request m) h.1
      (waiting-each P k (node + nodes plan) states call request m h.1)
  waiting-each P k node (state_then (leaf_state chan q leaf) states) call request m h = h
  waiting-each P k node (state_then (par_state par below) states) call request m h = h
  waiting-each P k node (state_then (sel_state sel below) states) call request m h = h

  each-either : (P : LeafChan → Leaf → Type 0) (b : Bool) (p q : Run M G) → EachLeaf P p.state → EachLeaf P q.state → EachLeaf P (cond b p q).state
  each-either P true p q hp hq = hp
  each-either P false p q hp hq = hq

  each-below : (P : LeafChan → Leaf → Type 0) (b : Bool) (p q : Below M G) → EachLeafOf P p.states → EachLeafOf P q.states → EachLeafOf P (cond b p q).states
  each-below P true p q hp hq = hp
  each-below P false p q hp hq = hq

  each-open : (P : LeafChan → Leaf → Type 0) (o : Option End) (state : State M G) (run : Run M G) → EachLeaf P state → EachLeaf P run.state → EachLeaf P (while_open o state run).state
  each-open P None state run h hs = hs
  each-open P (Some end) state run h hs = h

  mutual
    pub step-each : (P : LeafChan → Leaf → Type 0) → IsKept P → (node : ℕ) (state : State M G) (call : ℕ) (e : Event) (m : ℕ) → EachLeaf P state
        → EachLeaf P (step_at kinds node state call e m).state
    step-each P k node (waits plan) call e m h = tt
    step-each P k node (leaf_state chan request leaf) call e m h =
        each-either P (node_of e == node) (leaf_run chan call node request leaf (leaf_step chan.retry leaf e)) (quiet (leaf_state chan request leaf)) (k.at_step chan leaf e h) h
    step-each P k node (par_state par states) call e m h =
        each-open P par.end (par_state par states) _ h
        (each-either P (node_of e == node) (par_at kinds par states e) (par_stepped kinds par (step_subs kinds (node + 1) states call e m)) h (subs-step-each P k (node + 1) states call e m h))
    step-each P k node (sel_state sel states) call e m h =
        each-open P sel.end (sel_state sel states) _ h
        (each-either P (node_of e == node) (sel_at sel states e) (sel_stepped sel (step_tries kinds (node + 1) states call e m sel.request)) h
        (tries-step-each P k (node + 1) states call e m sel.request h))

    subs-step-each : (P : LeafChan → Leaf → Type 0) → IsKept P → (node : ℕ) (states : States M G) (call : ℕ) (e : Event) (m : ℕ) → EachLeafOf P states
        → EachLeafOf P (step_subs kinds node states call e m).states
    subs-step-each P k node last_state call e m h = tt
    subs-step-each P k node (state_then state states) call e m h =
        each-below P (nat_lt (node_of e) (node + size state)) (run_beside (step_at kinds node state call e m) states (new_end (end_of state) (end_of (step_at kinds node state call e m).state)))
        (beside state (step_subs kinds (node + size state) states call e m))
        (step-each P k node state call e m h.0, h.1) (h.0, subs-step-each P k (node + size state) states call e m h.1)

    tries-step-each : (P : LeafChan → Leaf → Type 0) → IsKept P → (node : ℕ) (states : States M G) (call : ℕ) (e : Event) (m : ℕ) (request : List ℕ) → EachLeafOf P states
        → EachLeafOf P (step_tries kinds node states call e m request).states
    tries-step-each P k node last_state call e m request h = tt
    tries-step-each P k node (state_then state states) call e m request h =
        let run = step_at kinds node state call e m in
        let next = start_waiting kinds (node + size state) states call request m in
        each-below P (nat_lt (node_of e) (node + size state)) (try_run run states next (new_end (end_of state) (end_of run.state)))
        (beside state (step_tries kinds (node + size state) states call e m request))
        (each-try P run states next (new_end (end_of state) (end_of run.state)) (step-each P k node state call e m h.0) h.1 (waiting-each P k (node + size state) states call request m h.1))
        (h.0, tries-step-each P k (node + size state) states call e m request h.1)

  cancelled-each : (P : LeafChan → Leaf → Type 0) → IsKept P → (state : State M G) → EachLeaf P state → EachLeaf P (cancelled state)
  cancelled-each P k (waits plan) h = h
  cancelled-each P k (leaf_state chan request leaf) h = by (is_none leaf.end)
    where
      by : (v : Bool) → P chan (cond v (ended leaf (Bad ECANCELED)) leaf)
      by true = k.at_cancel chan leaf h
      by false = h
  cancelled-each P k (par_state par states) h = h
  cancelled-each P k (sel_state sel states) h = h

  call-step-each : (P : LeafChan → Leaf → Type 0) → IsKept P → (call : ℕ) (state : State M G) (e : Event) (m : ℕ) → EachLeaf P state → EachLeaf P (step kinds call state e m).state
  call-step-each P k call state (event.Reply node attempt code text) m h = step-each P k 0 state call (event.Reply node attempt code text) m h
  call-step-each P k call state (event.Lost node attempt code) m h = step-each P k 0 state call (event.Lost node attempt code) m h
  call-step-each P k call state (event.Backup node) m h = step-each P k 0 state call (event.Backup node) m h
  call-step-each P k call state (event.Deadline node) m h = step-each P k 0 state call (event.Deadline node) m h
  call-step-each P k call state event.Cancel m h = cancelled-each P k state h

  run-each : (P : LeafChan → Leaf → Type 0) → IsKept P → (call : ℕ) (events : List (Event × ℕ)) (run : Run M G) → EachLeaf P run.state
      → EachLeaf P (fold (λ (r : Run M G) timed. and_then r (step kinds call r.state timed.0 timed.1)) run events).state
  run-each P k call [] run h = h
  run-each P k call (timed ∷ events) run h = run-each P k call events (and_then run (step kinds call run.state timed.0 timed.1)) (call-step-each P k call run.state timed.0 timed.1 h)

  -- What is kept holds of each leaf of every run.
  pub machine-each : (P : LeafChan → Leaf → Type 0) → IsKept P → (plan : Plan M G) (call : ℕ) (request : List ℕ) (begun : ℕ) (events : List (Event × ℕ))
      → EachLeaf P (machine kinds plan call request begun events).state
  machine-each P k plan call request begun events = run-each P k call events (start kinds plan call request begun) (start-each P k 0 plan call request begun)

  -- ---- a leaf issues at most one attempt more than it may retry

  few-step : (chan : LeafChan) (before now : Leaf) → IssuesFew chan.retry before now → IssuedFew chan before → IssuedFew chan now
  few-step chan before now (inl same) h = omega (arith, same, h)
  few-step chan before now (inr more) h = let a = more.0 in let b = more.1 in omega (arith, a, b)

  few-kept : IsKept IssuedFew
  few-kept = record {
    at_start = λ chan. omega arith;
    at_step = λ chan leaf e h. few-step chan leaf (leaf_step chan.retry leaf e) (leaf_step-issues chan.retry leaf e) h;
    at_cancel = λ chan leaf h. h;
  }

  -- Each leaf of every run issues at most one attempt more than its channel may retry.
  pub attempts-few : (plan : Plan M G) (call : ℕ) (request : List ℕ) (begun : ℕ) (events : List (Event × ℕ))
      → EachLeaf (λ chan leaf. leaf.issued ≤ chan.retry + 1) (machine kinds plan call request begun events).state
  attempts-few plan call request begun events = machine-each IssuedFew few-kept plan call request begun events
