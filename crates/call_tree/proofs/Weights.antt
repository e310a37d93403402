-- A start and a step keep the weight of the plan.
use Rattle.std.proofs.Common.{◌≡◌, ℕ, ◌+◌, Bool, true, false, cond, ◌==◌, nat_lt, List, [], ◌∷◌, ◌++◌, Option, Some, None, arith, refl, ap, sym, ◌∙◌}
use Rattle.rpc_model.specs.declared.chan.LeafChan.{LeafChan}
use Rattle.rpc_model.specs.declared.event.End.{End}
use Rattle.rpc_model.specs.declared.event.Event.{Event}
use Rattle.rpc_model.specs.declared.mapper.Mapped.{Mapped}
use Rattle.rpc_model.specs.declared.mapper.Mapped.TheVariants as answer
use Rattle.rpc_model.specs.Kinds.{Kinds}
use Rattle.rpc_model.specs.Plan.{Plan, leaf_plan, par_plan, sel_plan, Plans, last_plan, plan_then}
use Rattle.rpc_model.specs.Versions.{nodes, nodes_of, possible_attempts, possible_attempts_of}
use Rattle.rpc_model.specs.Parallel.{mapped, refused, Limits, limits, judged}
use Rattle.rpc_model.specs.Selective.{next_try}
use Rattle.rpc_model.specs.State.{State, waits, leaf_state, par_state, sel_state, States, last_state, state_then, Run, Below, end_of, size, size_of, waiting_states}
use Rattle.rpc_model.specs.Machine.{par_started, sub_started, where_ended, try_ended, try_run, is_left, start_at, start_subs, start_tries, start_waiting, while_open, node_of, new_end}
use Rattle.rpc_model.specs.Machine.{par_at, par_stepped, sel_at, sel_stepped, step_at, step_subs, step_tries}
use Rattle.call_tree.specs.Weights.{plan_weight, plans_weight, state_weight, states_weight, leaf_attempts, possible}

module _ {M G : Type 0} (w : LeafChan → ℕ) (v : ℕ) (kinds : Kinds M G) where
  weight-wait : (plans : Plans M G) → states_weight w v (waiting_states plans) ≡ plans_weight w v plans
  weight-wait last_plan = refl
  weight-wait (plan_then plan plans) = ap (λ n. plan_weight w v plan + n) (weight-wait plans)

  both : (a b c d : ℕ) → a ≡ c → b ≡ d → a + b ≡ c + d
  both a b c d p q = omega (arith, p, q)

  weight-ended : (n k : ℕ) (run : Run M G) (states : States M G) (next : Below M G) (o : Option End) → state_weight w v run.state ≡ n → states_weight w v states ≡ k → states_weight w v next.states ≡ k
      → states_weight w v (try_ended run states next o).states ≡ n + k
  weight-ended n k run states next None h hs hn = both (state_weight w v run.state) (states_weight w v next.states) n k h hn
  weight-ended n k run states next (Some end) h hs hn = both (state_weight w v run.state) (states_weight w v states) n k h hs

  weight-try : (n k : ℕ) (run : Run M G) (states : States M G) (next : Below M G) (o : Option End) → state_weight w v run.state ≡ n → states_weight w v states ≡ k → states_weight w v next.states ≡ k
      → states_weight w v (try_run run states next o).states ≡ n + k
  weight-try n k run states next None h hs hn = both (state_weight w v run.state) (states_weight w v states) n k h hs
  weight-try n k run states next (Some end) h hs hn = weight-ended n k run states next (next_try (is_left states) end) h hs hn

  weight-started : (plans : Plans M G) (below : Below M G) (o : Option End) → states_weight w v below.states ≡ plans_weight w v plans
      → states_weight w v (par_started plans below o).states ≡ plans_weight w v plans
  weight-started plans below None h = h
  weight-started plans below (Some end) h = weight-wait plans

  weight-sub : (n : ℕ) (run : Run M G) (plans : Plans M G) (next : Below M G) (o : Option End) → state_weight w v run.state ≡ n → states_weight w v next.states ≡ plans_weight w v plans
      → states_weight w v (sub_started run plans next o).states ≡ n + plans_weight w v plans
  weight-sub n run plans next None h hs = both (state_weight w v run.state) (states_weight w v next.states) n (plans_weight w v plans) h hs
  weight-sub n run plans next (Some end) h hs = both (state_weight w v run.state) (states_weight w v (waiting_states plans)) n (plans_weight w v plans) h (weight-wait plans)

  mutual
    pub weight-start : (node : ℕ) (plan : Plan M G) (call : ℕ) (request : List ℕ) (moment : ℕ) → state_weight w v (start_at kinds node plan call request moment).state ≡ plan_weight w v plan
    weight-start node (leaf_plan leaf) call request moment = refl
    weight-start node (par_plan rule plans) call request moment =
        ap (λ n. v + n) (weight-started plans _ (refused (mapped kinds.map rule.maps request))
        (weight-subs (node + 1) plans call (mapped kinds.map rule.maps request) (limits rule (mapped kinds.map rule.maps request)) rule.merges moment []))
    weight-start node (sel_plan timeout plans) call request moment = ap (λ n. v + n) (weight-tries (node + 1) plans call request moment)

    weight-subs : (node : ℕ) (plans : Plans M G) (call : ℕ) (asked : List Mapped) (lim : Limits) (merges : List G) (moment : ℕ) (ends : List (Option End))
        → states_weight w v (start_subs kinds node plans call asked lim merges moment ends).states ≡ plans_weight w v plans
    weight-subs node last_plan call asked lim merges moment ends = refl
    weight-subs node (plan_then plan plans) call (answer.Send request ∷ asked) lim merges moment ends =
        let run = start_at kinds node plan call request moment in
        let now = ends ++ end_of run.state ∷ [] in
        weight-sub (plan_weight w v plan) run plans (start_subs kinds (node + nodes plan) plans call asked lim merges moment now) (where_ended (end_of run.state) (judged kinds lim merges now))
        (weight-start node plan call request moment)
        (weight-subs (node + nodes plan) plans call asked lim merges moment now)
    weight-subs node (plan_then plan plans) call (answer.Skip ∷ asked) lim merges moment ends = ap (λ n. plan_weight w v plan + n)
        (weight-subs (node + nodes plan) plans call asked lim merges moment (ends ++ None ∷ []))
    weight-subs node (plan_then plan plans) call (answer.Bad ∷ asked) lim merges moment ends = ap (λ n. plan_weight w v plan + n)
        (weight-subs (node + nodes plan) plans call asked lim merges moment (ends ++ None ∷ []))
    weight-subs node (plan_then plan plans) call [] lim merges moment ends = ap (λ n. plan_weight w v plan + n) (weight-subs (node + nodes plan) plans call [] lim merges moment (ends ++ None ∷ []))

    weight-tries : (node : ℕ) (plans : Plans M G) (call : ℕ) (request : List ℕ) (moment : ℕ) → states_weight w v (start_tries kinds node plans call request moment).states ≡ plans_weight w v plans
    weight-tries node last_plan call request moment = refl
    weight-tries node (plan_then plan plans) call request moment =
        let run = start_at kinds node plan call request moment in
        weight-try (plan_weight w v plan) (plans_weight w v plans) run (waiting_states plans) (start_tries kinds (node + nodes plan) plans call request moment) (end_of run.state)
        (weight-start node plan call request moment) (weight-wait plans)
        (weight-tries (node + nodes plan) plans call request moment)

  weight-waiting : (node : ℕ) (states : States M G) (call : ℕ) (request : List ℕ) (moment : ℕ)
      → states_weight w v (start_waiting kinds node states call request moment).states ≡ states_weight w v states
  weight-waiting node last_state call request moment = refl
  weight-waiting node (state_then (waits plan) states) call request moment =
      let run = start_at kinds node plan call request moment in
      weight-try (plan_weight w v plan) (states_weight w v states) run states (start_waiting kinds (node + nodes plan) states call request moment) (end_of run.state)
      (weight-start node plan call request moment) refl
      (weight-waiting (node + nodes plan) states call request moment)
  weight-waiting node (state_then (leaf_state chan q leaf) states) call request moment = refl
  weight-waiting node (state_then (par_state par below) states) call request moment = refl
  weight-waiting node (state_then (sel_state sel below) states) call request moment = refl

  weight-open : (n : ℕ) (o : Option End) (state : State M G) (run : Run M G) → state_weight w v state ≡ n → state_weight w v run.state ≡ n → state_weight w v (while_open o state run).state ≡ n
  weight-open n None state run h hs = hs
  weight-open n (Some end) state run h hs = h

  weight-either : (n : ℕ) (b : Bool) (p q : Run M G) → state_weight w v p.state ≡ n → state_weight w v q.state ≡ n → state_weight w v (cond b p q).state ≡ n
  weight-either n true p q hp hq = hp
  weight-either n false p q hp hq = hq

  weight-below : (n : ℕ) (b : Bool) (p q : Below M G) → states_weight w v p.states ≡ n → states_weight w v q.states ≡ n → states_weight w v (cond b p q).states ≡ n
  weight-below n true p q hp hq = hp
  weight-below n false p q hp hq = hq

  mutual
    pub weight-step : (node : ℕ) (state : State M G) (call : ℕ) (e : Event) (moment : ℕ) → state_weight w v (step_at kinds node state call e moment).state ≡ state_weight w v state
    weight-step node (waits plan) call e moment = refl
    weight-step node (leaf_state chan request leaf) call e moment = weight-either (w chan) (node_of e == node) _ _ refl refl
    weight-step node (par_state par states) call e moment =
        weight-open (v + states_weight w v states) par.end (par_state par states) _ refl
        (weight-either (v + states_weight w v states) (node_of e == node) (par_at kinds par states e) (par_stepped kinds par (step_subs kinds (node + 1) states call e moment)) refl
        (ap (λ n. v + n) (weight-subs-step (node + 1) states call e moment)))
    weight-step node (sel_state sel states) call e moment =
        weight-open (v + states_weight w v states) sel.end (sel_state sel states) _ refl
        (weight-either (v + states_weight w v states) (node_of e == node) (sel_at sel states e) (sel_stepped sel (step_tries kinds (node + 1) states call e moment sel.request)) refl
        (ap (λ n. v + n) (weight-tries-step (node + 1) states call e moment sel.request)))

    weight-subs-step : (node : ℕ) (states : States M G) (call : ℕ) (e : Event) (moment : ℕ) → states_weight w v (step_subs kinds node states call e moment).states ≡ states_weight w v states
    weight-subs-step node last_state call e moment = refl
    weight-subs-step node (state_then state states) call e moment =
        weight-below (state_weight w v state + states_weight w v states) (nat_lt (node_of e) (node + size state)) _ _ (ap (λ n. n + states_weight w v states) (weight-step node state call e moment))
        (ap (λ n. state_weight w v state + n) (weight-subs-step (node + size state) states call e moment))

    weight-tries-step : (node : ℕ) (states : States M G) (call : ℕ) (e : Event) (moment : ℕ) (request : List ℕ)
        → states_weight w v (step_tries kinds node states call e moment request).states ≡ states_weight w v states
    weight-tries-step node last_state call e moment request = refl
    weight-tries-step node (state_then state states) call e moment request =
        let run = step_at kinds node state call e moment in
        weight-below (state_weight w v state + states_weight w v states) (nat_lt (node_of e) (node + size state)) _ _
        (weight-try (state_weight w v state) (states_weight w v states) run states (start_waiting kinds (node + size state) states call request moment) (new_end (end_of state) (end_of run.state))
        (weight-step node state call e moment) refl
        (weight-waiting (node + size state) states call request moment))
        (ap (λ n. state_weight w v state + n) (weight-tries-step (node + size state) states call e moment request))

-- The number of nodes is the weight where each node weighs 1.
abbrev one : LeafChan → ℕ
one chan = 1

module _ {M G : Type 0} where
  mutual
    nodes-weigh : (plan : Plan M G) → nodes plan ≡ plan_weight one 1 plan
    nodes-weigh (leaf_plan leaf) = refl
    nodes-weigh (par_plan rule plans) = ap (λ n. 1 + n) (nodes_of-weigh plans)
    nodes-weigh (sel_plan timeout plans) = ap (λ n. 1 + n) (nodes_of-weigh plans)

    nodes_of-weigh : (plans : Plans M G) → nodes_of plans ≡ plans_weight one 1 plans
    nodes_of-weigh last_plan = refl
    nodes_of-weigh (plan_then plan plans) = let a = nodes-weigh plan in let b = nodes_of-weigh plans in omega (arith, a, b)

  mutual
    size-weigh : (state : State M G) → size state ≡ state_weight one 1 state
    size-weigh (waits plan) = nodes-weigh plan
    size-weigh (leaf_state chan request leaf) = refl
    size-weigh (par_state par states) = ap (λ n. 1 + n) (size_of-weigh states)
    size-weigh (sel_state sel states) = ap (λ n. 1 + n) (size_of-weigh states)

    size_of-weigh : (states : States M G) → size_of states ≡ states_weight one 1 states
    size_of-weigh last_state = refl
    size_of-weigh (state_then state states) = let a = size-weigh state in let b = size_of-weigh states in omega (arith, a, b)

  mutual
    attempts-weigh : (plan : Plan M G) → possible_attempts plan ≡ plan_weight leaf_attempts 0 plan
    attempts-weigh (leaf_plan leaf) = refl
    attempts-weigh (par_plan rule plans) = let a = attempts_of-weigh plans in omega (arith, a)
    attempts-weigh (sel_plan timeout plans) = let a = attempts_of-weigh plans in omega (arith, a)

    attempts_of-weigh : (plans : Plans M G) → possible_attempts_of plans ≡ plans_weight leaf_attempts 0 plans
    attempts_of-weigh last_plan = refl
    attempts_of-weigh (plan_then plan plans) = let a = attempts-weigh plan in let b = attempts_of-weigh plans in omega (arith, a, b)

module _ {M G : Type 0} (kinds : Kinds M G) where
  pub size-start : (node : ℕ) (plan : Plan M G) (call : ℕ) (request : List ℕ) (moment : ℕ) → size (start_at kinds node plan call request moment).state ≡ nodes plan
  size-start node plan call request moment = size-weigh (start_at kinds node plan call request moment).state ∙ weight-start one 1 kinds node plan call request moment ∙ sym (nodes-weigh plan)

  pub size-step : (node : ℕ) (state : State M G) (call : ℕ) (e : Event) (moment : ℕ) → size (step_at kinds node state call e moment).state ≡ size state
  size-step node state call e moment = size-weigh (step_at kinds node state call e moment).state ∙ weight-step one 1 kinds node state call e moment ∙ sym (size-weigh state)

  pub possible-start : (node : ℕ) (plan : Plan M G) (call : ℕ) (request : List ℕ) (moment : ℕ) → possible (start_at kinds node plan call request moment).state ≡ possible_attempts plan
  possible-start node plan call request moment = weight-start leaf_attempts 0 kinds node plan call request moment ∙ sym (attempts-weigh plan)

  pub possible-step : (node : ℕ) (state : State M G) (call : ℕ) (e : Event) (moment : ℕ) → possible (step_at kinds node state call e moment).state ≡ possible state
  possible-step = weight-step leaf_attempts 0 kinds
