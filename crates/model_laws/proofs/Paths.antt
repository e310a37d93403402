-- In a step of a call each node of the tree takes a step of its own, is started, or stays as it is.
use Rattle.std.proofs.Common.{◌≡◌, ℕ, zero, suc, ◌+◌, ◌⊎◌, inl, inr, Bool, true, false, cond, ◌==◌, nat_lt, fold, List, [], ◌∷◌, ◌++◌, Option, Some, None, refl, ap, sym, ◌∙◌, subst}
use Rattle.std.proofs.lemmas.List.Sums.{fold-append}
use Rattle.rpc_model.specs.declared.event.End.{End}
use Rattle.rpc_model.specs.declared.event.Event.{Event}
use Rattle.rpc_model.specs.declared.event.Event.TheVariants as event
use Rattle.rpc_model.specs.Leaf.{leaf_step}
use Rattle.rpc_model.specs.declared.mapper.Mapped.{Mapped}
use Rattle.rpc_model.specs.declared.mapper.Mapped.TheVariants as answer
use Rattle.rpc_model.specs.Kinds.{Kinds}
use Rattle.rpc_model.specs.Plan.{Plan, leaf_plan, par_plan, sel_plan, Plans, last_plan, plan_then}
use Rattle.rpc_model.specs.Versions.{nodes}
use Rattle.rpc_model.specs.Parallel.{mapped, refused, Limits, limits, judged}
use Rattle.rpc_model.specs.Selective.{next_try}
use Rattle.rpc_model.specs.State.{State, waits, leaf_state, par_state, sel_state, States, last_state, state_then, Run, Below, end_of, size, waiting_states, run_beside, quiet, and_then}
use Rattle.rpc_model.specs.Machine.{par_started, sub_started, where_ended, start_at, start_subs, start_tries, node_of, new_end, leaf_run, par_at, par_stepped, sel_at, sel_stepped}
use Rattle.rpc_model.specs.Machine.{while_open, try_ended, try_run, is_left, start_waiting, step_at, step_subs, step_tries, step, start, machine, cancelled}
use Rattle.model_laws.specs.Paths.{plans_below, children, child, in_child, node_at, child_number, in_number, number_at}
use Rattle.model_laws.proofs.Ended.{node-ended, step-ended}
use Rattle.model_laws.proofs.Sizes.{size-start, size-step}

module _ {M G : Type 0} (kinds : Kinds M G) (call : ℕ) (e : Event) (m : ℕ) where
  -- the node of this number stayed, took a step, or was started with some request
  abbrev pub Moved : ℕ → State M G → State M G → Type 0
  Moved number before now =
      (now ≡ before)
      ⊎ ((now ≡ (step_at kinds number before call e m).state)
      ⊎ ((plan : Plan M G) × (request : List ℕ) × (before ≡ waits plan) × (now ≡ (start_at kinds number plan call request m).state)))

  -- a child of this number, and what it is afterwards
  abbrev ChildMoved : ℕ → Option (State M G) → Option (State M G) → Type 0
  ChildMoved number None after = after ≡ None
  ChildMoved number (Some before) None = ⊥
  ChildMoved number (Some before) (Some now) = Moved number before now

  stays : (number : ℕ) (o : Option (State M G)) → ChildMoved number o o
  stays number None = refl
  stays number (Some state) = inl refl

  -- ---- children that are started

  started : (number : ℕ) (plan : Plan M G) (request : List ℕ) → Moved number (waits plan) (start_at kinds number plan call request m).state
  started number plan request = inr (inr (plan, request, refl, refl))

  -- children of which the first has this number
  abbrev ChildrenMoved : ℕ → States M G → States M G → Type 0
  ChildrenMoved number before now = (k : ℕ) → ChildMoved (child_number number k before) (child k before) (child k now)

  all-stay : (number : ℕ) (states : States M G) → ChildrenMoved number states states
  all-stay number states k = stays (child_number number k states) (child k states)

  moved-then : (number : ℕ) (before now : State M G) (states others : States M G) → Moved number before now → ChildrenMoved (number + size before) states others
      → ChildrenMoved number (state_then before states) (state_then now others)
  moved-then number before now states others h hs zero = h
  moved-then number before now states others h hs (suc k) = hs k

  moved-ended : (number : ℕ) (before : State M G) (states : States M G) (run : Run M G) (next : Below M G) (o : Option End) → Moved number before run.state
      → ChildrenMoved (number + size before) states next.states → ChildrenMoved number (state_then before states) (try_ended run states next o).states
  moved-ended number before states run next None h hs = moved-then number before run.state states next.states h hs
  moved-ended number before states run next (Some up) h hs = moved-then number before run.state states states h (all-stay (number + size before) states)

  moved-try : (number : ℕ) (before : State M G) (states : States M G) (run : Run M G) (next : Below M G) (o : Option End) → Moved number before run.state
      → ChildrenMoved (number + size before) states next.states → ChildrenMoved number (state_then before states) (try_run run states next o).states
  moved-try number before states run next None h hs = moved-then number before run.state states states h (all-stay (number + size before) states)
  moved-try number before states run next (Some end) h hs = moved-ended number before states run next (next_try (is_left states) end) h hs

  moved-sub : (number : ℕ) (before : State M G) (run : Run M G) (plans : Plans M G) (next : Below M G) (o : Option End) → Moved number before run.state
      → ChildrenMoved (number + size before) (waiting_states plans) next.states → ChildrenMoved number (state_then before (waiting_states plans)) (sub_started run plans next o).states
  moved-sub number before run plans next None h hs = moved-then number before run.state (waiting_states plans) next.states h hs
  moved-sub number before run plans next (Some end) h hs =
      moved-then number before run.state (waiting_states plans) (waiting_states plans) h (all-stay (number + size before) (waiting_states plans))

  subs-start : (node : ℕ) (plans : Plans M G) (asked : List Mapped) (lim : Limits) (merges : List G) (ends : List (Option End))
      → ChildrenMoved node (waiting_states plans) (start_subs kinds node plans call asked lim merges m ends).states
  subs-start node last_plan asked lim merges ends = all-stay node last_state
  subs-start node (plan_then plan plans) (answer.Send request ∷ asked) lim merges ends =
      let run = start_at kinds node plan call request m in
      let now = ends ++ end_of run.state ∷ [] in
      moved-sub node (waits plan) run plans (start_subs kinds (node + nodes plan) plans call asked lim merges m now) (where_ended (end_of run.state) (judged kinds lim merges now))
      (started node plan request) (subs-start (node + nodes plan) plans asked lim merges now)
  subs-start node (plan_then plan plans) (answer.Skip ∷ asked) lim merges ends = moved-then node (waits plan) (waits plan) (waiting_states plans) _ (inl refl)
      (subs-start (node + nodes plan) plans asked lim merges (ends ++ None ∷ []))
  subs-start node (plan_then plan plans) (answer.Bad ∷ asked) lim merges ends = moved-then node (waits plan) (waits plan) (waiting_states plans) _ (inl refl)
      (subs-start (node + nodes plan) plans asked lim merges (ends ++ None ∷ []))
  subs-start node (plan_then plan plans) [] lim merges ends = moved-then node (waits plan) (waits plan) (waiting_states plans) _ (inl refl)
      (subs-start (node + nodes plan) plans [] lim merges (ends ++ None ∷ []))

  tries-start : (node : ℕ) (plans : Plans M G) (request : List ℕ) → ChildrenMoved node (waiting_states plans) (start_tries kinds node plans call request m).states
  tries-start node last_plan request = all-stay node last_state
  tries-start node (plan_then plan plans) request =
      let run = start_at kinds node plan call request m in
      moved-try node (waits plan) (waiting_states plans) run (start_tries kinds (node + nodes plan) plans call request m) (end_of run.state) (started node plan request)
      (tries-start (node + nodes plan) plans request)

  waiting-start : (node : ℕ) (states : States M G) (request : List ℕ) → ChildrenMoved node states (start_waiting kinds node states call request m).states
  waiting-start node last_state request = all-stay node last_state
  waiting-start node (state_then (waits plan) states) request =
      let run = start_at kinds node plan call request m in
      moved-try node (waits plan) states run (start_waiting kinds (node + nodes plan) states call request m) (end_of run.state) (started node plan request)
      (waiting-start (node + nodes plan) states request)
  waiting-start node (state_then (leaf_state chan q leaf) states) request = all-stay node (state_then (leaf_state chan q leaf) states)
  waiting-start node (state_then (par_state par below) states) request = all-stay node (state_then (par_state par below) states)
  waiting-start node (state_then (sel_state sel below) states) request = all-stay node (state_then (sel_state sel below) states)

  -- ---- children of which one takes a step

  moved-either : (number : ℕ) (before : States M G) (b : Bool) (p q : Below M G) → ChildrenMoved number before p.states → ChildrenMoved number before q.states
      → ChildrenMoved number before (cond b p q).states
  moved-either number before true p q hp hq = hp
  moved-either number before false p q hp hq = hq

  stepped : (number : ℕ) (state : State M G) → Moved number state (step_at kinds number state call e m).state
  stepped number state = inr (inl refl)

  subs-step : (node : ℕ) (states : States M G) → ChildrenMoved node states (step_subs kinds node states call e m).states
  subs-step node last_state = all-stay node last_state
  subs-step node (state_then state states) =
      let run = step_at kinds node state call e m in
      moved-either node (state_then state states) (nat_lt (node_of e) (node + size state)) (run_beside run states (new_end (end_of state) (end_of run.state))) _
      (moved-then node state run.state states states (stepped node state) (all-stay (node + size state) states))
      (moved-then node state state states _ (inl refl) (subs-step (node + size state) states))

  tries-step : (node : ℕ) (states : States M G) (request : List ℕ) → ChildrenMoved node states (step_tries kinds node states call e m request).states
  tries-step node last_state request = all-stay node last_state
  tries-step node (state_then state states) request =
      let run = step_at kinds node state call e m in
      moved-either node (state_then state states) (nat_lt (node_of e) (node + size state)) _ _
      (moved-try node state states run (start_waiting kinds (node + size state) states call request m) (new_end (end_of state) (end_of run.state)) (stepped node state)
      (waiting-start (node + size state) states request))
      (moved-then node state state states _ (inl refl) (tries-step (node + size state) states request))

  -- ---- a node at the end of a path

  children-either : (number : ℕ) (before : States M G) (b : Bool) (p q : Run M G) → ChildrenMoved number before (children p.state) → ChildrenMoved number before (children q.state)
      → ChildrenMoved number before (children (cond b p q).state)
  children-either number before true p q hp hq = hp
  children-either number before false p q hp hq = hq

  children-open : (number : ℕ) (o : Option End) (state : State M G) (run : Run M G) → ChildrenMoved number (children state) (children run.state)
      → ChildrenMoved number (children state) (children (while_open o state run).state)
  children-open number None state run h = h
  children-open number (Some end) state run h = all-stay number (children state)

  children-step : (number : ℕ) (state : State M G) → ChildrenMoved (number + 1) (children state) (children (step_at kinds number state call e m).state)
  children-step number (waits plan) = all-stay (number + 1) (waiting_states (plans_below plan))
  children-step number (leaf_state chan request leaf) =
      children-either (number + 1) last_state (node_of e == number) (leaf_run chan call number request leaf (leaf_step chan.retry leaf e)) (quiet (leaf_state chan request leaf))
      (all-stay (number + 1) last_state) (all-stay (number + 1) last_state)
  children-step number (par_state par states) =
      children-open (number + 1) par.end (par_state par states) _
      (children-either (number + 1) states (node_of e == number) (par_at kinds par states e) (par_stepped kinds par (step_subs kinds (number + 1) states call e m))
      (all-stay (number + 1) states) (subs-step (number + 1) states))
  children-step number (sel_state sel states) =
      children-open (number + 1) sel.end (sel_state sel states) _
      (children-either (number + 1) states (node_of e == number) (sel_at sel states e) (sel_stepped sel (step_tries kinds (number + 1) states call e m sel.request))
      (all-stay (number + 1) states) (tries-step (number + 1) states sel.request))

  par-begun : (number : ℕ) (plans : Plans M G) (below : Below M G) (o : Option End) → ChildrenMoved number (waiting_states plans) below.states
      → ChildrenMoved number (waiting_states plans) (par_started plans below o).states
  par-begun number plans below None h = h
  par-begun number plans below (Some end) h = all-stay number (waiting_states plans)

  children-start : (number : ℕ) (plan : Plan M G) (request : List ℕ)
      → ChildrenMoved (number + 1) (waiting_states (plans_below plan)) (children (start_at kinds number plan call request m).state)
  children-start number (leaf_plan leaf) request = all-stay (number + 1) last_state
  children-start number (par_plan rule plans) request =
      let asked = mapped kinds.map rule.maps request in
      par-begun (number + 1) plans (start_subs kinds (number + 1) plans call asked (limits rule asked) rule.merges m []) (refused asked)
      (subs-start (number + 1) plans asked (limits rule asked) rule.merges [])
  children-start number (sel_plan timeout plans) request = tries-start (number + 1) plans request

  -- what a node at the end of a path is after the node above moved
  abbrev Follows : List ℕ → Type 0
  Follows path = (number : ℕ) (before now : State M G) → Moved number before now → ChildMoved (number_at number path before) (node_at path before) (node_at path now)

  follow : (path : List ℕ) → Follows path → (number : ℕ) (o p : Option (State M G)) → ChildMoved number o p
      → ChildMoved (in_number (number_at number path) o) (in_child (node_at path) o) (in_child (node_at path) p)
  follow path again number None p h = ap (in_child (node_at path)) h
  follow path again number (Some before) None h = absurd h
  follow path again number (Some before) (Some now) h = again number before now h

  children-moved : (number : ℕ) (before now : State M G) → Moved number before now → ChildrenMoved (number + 1) (children before) (children now)
  children-moved number before now (inl same) = subst (λ s. ChildrenMoved (number + 1) (children before) (children s)) (sym same) (all-stay (number + 1) (children before))
  children-moved number before now (inr (inl is)) = subst (λ s. ChildrenMoved (number + 1) (children before) (children s)) (sym is) (children-step number before)
  children-moved number before now (inr (inr (plan, request, was, is))) =
      subst (λ s. ChildrenMoved (number + 1) (children before) (children s)) (sym is)
      (subst (λ s. ChildrenMoved (number + 1) (children s) (children (start_at kinds number plan call request m).state)) (sym was) (children-start number plan request))

  pub node-moved : (path : List ℕ) → Follows path
  node-moved [] number before now h = h
  node-moved (k ∷ path) number before now h =
      follow path (node-moved path) (child_number (number + 1) k (children before)) (child k (children before)) (child k (children now)) (children-moved number before now h k)

  -- ---- its number

  size-moved : (number : ℕ) (before now : State M G) → Moved number before now → size now ≡ size before
  size-moved number before now (inl same) = ap size same
  size-moved number before now (inr (inl is)) = ap size is ∙ size-step kinds number before call e m
  size-moved number before now (inr (inr (plan, request, was, is))) = ap size is ∙ size-start kinds number plan call request m ∙ sym (ap size was)

  -- the children keep their numbers
  numbers-stay : (k number : ℕ) (before now : States M G) → ChildrenMoved number before now → child_number number k now ≡ child_number number k before
  numbers-stay k number last_state last_state h = refl
  numbers-stay k number last_state (state_then state states) h = absurd (let none = h zero in cc)
  numbers-stay k number (state_then state states) last_state h = absurd (h zero)
  numbers-stay zero number (state_then before states) (state_then now others) h = refl
  numbers-stay (suc k) number (state_then before states) (state_then now others) h =
      ap (λ n. child_number (number + n) k others) (size-moved number before now (h zero)) ∙ numbers-stay k (number + size before) states others (λ i. h (suc i))

  in-numbers : (path : List ℕ) → ((number : ℕ) (before now : State M G) → Moved number before now → number_at number path now ≡ number_at number path before) → (number : ℕ)
      (o p : Option (State M G)) → ChildMoved number o p → in_number (number_at number path) p ≡ in_number (number_at number path) o
  in-numbers path again number None p h = ap (in_number (number_at number path)) h
  in-numbers path again number (Some before) None h = absurd h
  in-numbers path again number (Some before) (Some now) h = again number before now h

  -- A node keeps its number.
  pub number-moved : (path : List ℕ) (number : ℕ) (before now : State M G) → Moved number before now → number_at number path now ≡ number_at number path before
  number-moved [] number before now h = refl
  number-moved (k ∷ path) number before now h =
      let hs = children-moved number before now h in
      ap (λ n. in_number (number_at n path) (child k (children now))) (numbers-stay k (number + 1) (children before) (children now) hs)
      ∙ in-numbers path (number-moved path) (child_number (number + 1) k (children before)) (child k (children before)) (child k (children now)) (hs k)

-- ---- what follows for one node

module _ {M G : Type 0} (kinds : Kinds M G) (call : ℕ) where
  -- after an event the node of this number moved, or it is the root and was cancelled
  abbrev pub NodeMoved : ℕ → List ℕ → Event → ℕ → State M G → State M G → Type 0
  NodeMoved number path e m before now = Moved kinds call e m number before now ⊎ ((path ≡ []) × (e ≡ event.Cancel) × (now ≡ cancelled before))

  abbrev pub AtMoved : ℕ → List ℕ → Event → ℕ → Option (State M G) → Option (State M G) → Type 0
  AtMoved number path e m None now = Unit {0}
  AtMoved number path e m (Some before) None = ⊥
  AtMoved number path e m (Some before) (Some now) = NodeMoved number path e m before now

  at-moved : (number : ℕ) (path : List ℕ) (e : Event) (m : ℕ) (o p : Option (State M G)) → ChildMoved kinds call e m number o p → AtMoved number path e m o p
  at-moved number path e m None p h = tt
  at-moved number path e m (Some before) None h = h
  at-moved number path e m (Some before) (Some now) h = inl h

  at-stays : (number : ℕ) (path : List ℕ) (e : Event) (m : ℕ) (o : Option (State M G)) → AtMoved number path e m o o
  at-stays number path e m None = tt
  at-stays number path e m (Some state) = inl (inl refl)

  cancelled-children : (state : State M G) → children (cancelled state) ≡ children state
  cancelled-children (waits plan) = refl
  cancelled-children (leaf_state chan request leaf) = refl
  cancelled-children (par_state par states) = refl
  cancelled-children (sel_state sel states) = refl

  at-cancelled : (path : List ℕ) (m : ℕ) (state : State M G) → AtMoved (number_at 0 path state) path event.Cancel m (node_at path state) (node_at path (cancelled state))
  at-cancelled [] m state = inr (refl, refl, refl)
  at-cancelled (k ∷ path) m state =
      subst (λ ss. AtMoved (number_at 0 (k ∷ path) state) (k ∷ path) event.Cancel m (node_at (k ∷ path) state) (in_child (node_at path) (child k ss))) (sym (cancelled-children state))
      (at-stays (number_at 0 (k ∷ path) state) (k ∷ path) event.Cancel m (node_at (k ∷ path) state))

  abbrev StepMoves : List ℕ → Event → ℕ → State M G → Type 0
  StepMoves path e m state = AtMoved (number_at 0 path state) path e m (node_at path state) (node_at path (step kinds call state e m).state)

  step-at : (path : List ℕ) (e : Event) (m : ℕ) (state : State M G)
      → AtMoved (number_at 0 path state) path e m (node_at path state) (node_at path (step_at kinds 0 state call e m).state)
  step-at path e m state =
      at-moved (number_at 0 path state) path e m (node_at path state) (node_at path (step_at kinds 0 state call e m).state)
      (node-moved kinds call e m path 0 state (step_at kinds 0 state call e m).state (inr (inl refl)))

  -- Each node of the tree takes a step of its own, is started, or stays as it is.
  pub step-moved : (path : List ℕ) (e : Event) (m : ℕ) (state : State M G) → StepMoves path e m state
  step-moved path (event.Reply node attempt code text) m state = step-at path (event.Reply node attempt code text) m state
  step-moved path (event.Lost node attempt code) m state = step-at path (event.Lost node attempt code) m state
  step-moved path (event.Backup node) m state = step-at path (event.Backup node) m state
  step-moved path (event.Deadline node) m state = step-at path (event.Deadline node) m state
  step-moved path event.Cancel m state = at-cancelled path m state

  -- the same at a start
  pub start-moved : (path : List ℕ) (plan : Plan M G) (request : List ℕ) (m : ℕ)
      → AtMoved (number_at 0 path (waits plan)) path event.Cancel m (node_at path (waits plan)) (node_at path (start kinds plan call request m).state)
  start-moved path plan request m =
      at-moved (number_at 0 path (waits plan)) path event.Cancel m (node_at path (waits plan)) (node_at path (start kinds plan call request m).state)
      (node-moved kinds call event.Cancel m path 0 (waits plan) (start kinds plan call request m).state (inr (inr (plan, request, refl, refl))))

  -- ---- a node keeps its number

  number-step : (path : List ℕ) (e : Event) (m : ℕ) (state : State M G) → number_at 0 path (step_at kinds 0 state call e m).state ≡ number_at 0 path state
  number-step path e m state = number-moved kinds call e m path 0 state (step_at kinds 0 state call e m).state (inr (inl refl))

  number-cancelled : (path : List ℕ) (state : State M G) → number_at 0 path (cancelled state) ≡ number_at 0 path state
  number-cancelled [] state = refl
  number-cancelled (k ∷ path) state = ap (λ ss. in_number (number_at (child_number 1 k ss) path) (child k ss)) (cancelled-children state)

  number-stepped : (path : List ℕ) (e : Event) (m : ℕ) (state : State M G) → number_at 0 path (step kinds call state e m).state ≡ number_at 0 path state
  number-stepped path (event.Reply node attempt code text) m state = number-step path (event.Reply node attempt code text) m state
  number-stepped path (event.Lost node attempt code) m state = number-step path (event.Lost node attempt code) m state
  number-stepped path (event.Backup node) m state = number-step path (event.Backup node) m state
  number-stepped path (event.Deadline node) m state = number-step path (event.Deadline node) m state
  number-stepped path event.Cancel m state = number-cancelled path state

  run-numbered : (path : List ℕ) (events : List (Event × ℕ)) (run : Run M G)
      → number_at 0 path (fold (λ (r : Run M G) timed. and_then r (step kinds call r.state timed.0 timed.1)) run events).state ≡ number_at 0 path run.state
  run-numbered path [] run = refl
  run-numbered path (timed ∷ events) run =
      run-numbered path events (and_then run (step kinds call run.state timed.0 timed.1)) ∙ number-stepped path timed.0 timed.1 run.state

  -- A node has the number that it has in the plan.
  pub node-numbered : (path : List ℕ) (plan : Plan M G) (request : List ℕ) (begun : ℕ) (events : List (Event × ℕ))
      → number_at 0 path (machine kinds plan call request begun events).state ≡ number_at 0 path (waits plan)
  node-numbered path plan request begun events =
      run-numbered path events (start kinds plan call request begun)
      ∙ number-moved kinds call event.Cancel begun path 0 (waits plan) (start kinds plan call request begun).state (inr (inr (plan, request, refl, refl)))

  -- ---- an end stays

  waits-open : (state : State M G) (plan : Plan M G) (end : End) → state ≡ waits plan → end_of state ≡ Some end → ⊥
  waits-open state plan end was h = let none = ap end_of was in cc

  ended-moved : (number : ℕ) (path : List ℕ) (e : Event) (m : ℕ) (before now : State M G) (end : End) → end_of before ≡ Some end → NodeMoved number path e m before now → now ≡ before
  ended-moved number path e m before now end h (inl (inl same)) = same
  ended-moved number path e m before now end h (inl (inr (inl is))) = is ∙ node-ended kinds number before call e m end h
  ended-moved number path e m before now end h (inl (inr (inr (plan, request, was, is)))) = absurd (waits-open before plan end was h)
  ended-moved number path e m before now end h (inr (root, cancel, is)) = is ∙ step-ended kinds call before event.Cancel m end h

  same-at : (number : ℕ) (path : List ℕ) (e : Event) (m : ℕ) (node : State M G) (end : End) (o p : Option (State M G)) → end_of node ≡ Some end → o ≡ Some node
      → AtMoved number path e m o p → p ≡ Some node
  same-at number path e m node end None p h is moved = absurd (cc)
  same-at number path e m node end (Some before) None h is moved = absurd moved
  same-at number path e m node end (Some before) (Some now) h is moved =
      let was : before ≡ node = cc in
      ap Some (ended-moved number path e m before now end (ap end_of was ∙ h) moved ∙ was)

  run-stays : (path : List ℕ) (events : List (Event × ℕ)) (run : Run M G) (node : State M G) (end : End) → end_of node ≡ Some end → node_at path run.state ≡ Some node
      → node_at path (fold (λ (r : Run M G) timed. and_then r (step kinds call r.state timed.0 timed.1)) run events).state ≡ Some node
  run-stays path [] run node end h is = is
  run-stays path (timed ∷ events) run node end h is =
      let next = step kinds call run.state timed.0 timed.1 in
      run-stays path events (and_then run next) node end h
      (same-at (number_at 0 path run.state) path timed.0 timed.1 node end (node_at path run.state) (node_at path next.state) h is (step-moved path timed.0 timed.1 run.state))

  -- A node that has an end stays as it is, with all that is below it.
  pub node-stays : (path : List ℕ) (plan : Plan M G) (request : List ℕ) (begun : ℕ) (events more : List (Event × ℕ)) (node : State M G) (end : End) → end_of node ≡ Some end
      → node_at path (machine kinds plan call request begun events).state ≡ Some node → node_at path (machine kinds plan call request begun (events ++ more)).state ≡ Some node
  node-stays path plan request begun events more node end h is = rw fold-append (run-stays path more (machine kinds plan call request begun events) node end h is)
