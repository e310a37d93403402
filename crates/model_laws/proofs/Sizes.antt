-- A step keeps the number of nodes.
use Rattle.std.proofs.Common.{◌≡◌, ℕ, ◌+◌, Bool, true, false, cond, ◌==◌, nat_lt, List, [], ◌∷◌, ◌++◌, Option, Some, None, arith, refl, ap}
use Rattle.rpc_model.specs.declared.event.End.{End}
use Rattle.rpc_model.specs.declared.event.Event.{Event}
use Rattle.rpc_model.specs.declared.mapper.Mapped.{Mapped}
use Rattle.rpc_model.specs.declared.mapper.Mapped.TheVariants as answer
use Rattle.rpc_model.specs.Kinds.{Kinds}
use Rattle.rpc_model.specs.Plan.{Plan, leaf_plan, par_plan, sel_plan, Plans, last_plan, plan_then}
use Rattle.rpc_model.specs.Versions.{nodes, nodes_of}
use Rattle.rpc_model.specs.Parallel.{mapped, refused, Limits, limits, judged}
use Rattle.rpc_model.specs.Selective.{next_try}
use Rattle.rpc_model.specs.State.{State, waits, leaf_state, par_state, sel_state, States, last_state, state_then, Run, Below, end_of, size, size_of, waiting_states}
use Rattle.rpc_model.specs.Machine.{par_started, sub_started, where_ended, try_ended, try_run, is_left, start_at, start_subs, start_tries, start_waiting, while_open, node_of, new_end}
use Rattle.rpc_model.specs.Machine.{par_at, par_stepped, sel_at, sel_stepped, step_at, step_subs, step_tries}

module _ {M G : Type 0} (kinds : Kinds M G) where
  size-wait : (plans : Plans M G) → size_of (waiting_states plans) ≡ nodes_of plans
  size-wait last_plan = refl
  size-wait (plan_then plan plans) = ap (λ n. nodes plan + n) (size-wait plans)

  both : (a b c d : ℕ) → a ≡ c → b ≡ d → a + b ≡ c + d
  both a b c d p q = omega (arith, p, q)

  size-ended : (n k : ℕ) (run : Run M G) (states : States M G) (next : Below M G) (o : Option End) → size run.state ≡ n → size_of states ≡ k → size_of next.states ≡ k
      → size_of (try_ended run states next o).states ≡ n + k
  size-ended n k run states next None h hs hn = both (size run.state) (size_of next.states) n k h hn
  size-ended n k run states next (Some end) h hs hn = both (size run.state) (size_of states) n k h hs

  size-try : (n k : ℕ) (run : Run M G) (states : States M G) (next : Below M G) (o : Option End) → size run.state ≡ n → size_of states ≡ k → size_of next.states ≡ k
      → size_of (try_run run states next o).states ≡ n + k
  size-try n k run states next None h hs hn = both (size run.state) (size_of states) n k h hs
  size-try n k run states next (Some end) h hs hn = size-ended n k run states next (next_try (is_left states) end) h hs hn

  size-started : (plans : Plans M G) (below : Below M G) (o : Option End) → size_of below.states ≡ nodes_of plans → size_of (par_started plans below o).states ≡ nodes_of plans
  size-started plans below None h = h
  size-started plans below (Some end) h = size-wait plans

  size-sub : (n : ℕ) (run : Run M G) (plans : Plans M G) (next : Below M G) (o : Option End) → size run.state ≡ n → size_of next.states ≡ nodes_of plans
      → size_of (sub_started run plans next o).states ≡ n + nodes_of plans
  size-sub n run plans next None h hs = both (size run.state) (size_of next.states) n (nodes_of plans) h hs
  size-sub n run plans next (Some end) h hs = both (size run.state) (size_of (waiting_states plans)) n (nodes_of plans) h (size-wait plans)

  mutual
    pub size-start : (node : ℕ) (plan : Plan M G) (call : ℕ) (request : List ℕ) (moment : ℕ) → size (start_at kinds node plan call request moment).state ≡ nodes plan
    size-start node (leaf_plan leaf) call request moment = refl
    size-start node (par_plan rule plans) call request moment =
        ap (λ n. 1 + n) (size-started plans _ (refused (mapped kinds.map rule.maps request))
        (size-subs (node + 1) plans call (mapped kinds.map rule.maps request) (limits rule (mapped kinds.map rule.maps request)) rule.merges moment []))
    size-start node (sel_plan timeout plans) call request moment = ap (λ n. 1 + n) (size-tries (node + 1) plans call request moment)

    size-subs : (node : ℕ) (plans : Plans M G) (call : ℕ) (asked : List Mapped) (lim : Limits) (merges : List G) (moment : ℕ) (ends : List (Option End))
        → size_of (start_subs kinds node plans call asked lim merges moment ends).states ≡ nodes_of plans
    size-subs node last_plan call asked lim merges moment ends = refl
    size-subs node (plan_then plan plans) call (answer.Send request ∷ asked) lim merges moment ends =
        let run = start_at kinds node plan call request moment in
        let now = ends ++ end_of run.state ∷ [] in
        size-sub (nodes plan) run plans (start_subs kinds (node + nodes plan) plans call asked lim merges moment now) (where_ended (end_of run.state) (judged kinds lim merges now))
        (size-start node plan call request moment)
        (size-subs (node + nodes plan) plans call asked lim merges moment now)
    size-subs node (plan_then plan plans) call (answer.Skip ∷ asked) lim merges moment ends = ap (λ n. nodes plan + n)
        (size-subs (node + nodes plan) plans call asked lim merges moment (ends ++ None ∷ []))
    size-subs node (plan_then plan plans) call (answer.Bad ∷ asked) lim merges moment ends = ap (λ n. nodes plan + n)
        (size-subs (node + nodes plan) plans call asked lim merges moment (ends ++ None ∷ []))
    size-subs node (plan_then plan plans) call [] lim merges moment ends = ap (λ n. nodes plan + n) (size-subs (node + nodes plan) plans call [] lim merges moment (ends ++ None ∷ []))

    size-tries : (node : ℕ) (plans : Plans M G) (call : ℕ) (request : List ℕ) (moment : ℕ) → size_of (start_tries kinds node plans call request moment).states ≡ nodes_of plans
    size-tries node last_plan call request moment = refl
    size-tries node (plan_then plan plans) call request moment =
        let run = start_at kinds node plan call request moment in
        size-try (nodes plan) (nodes_of plans) run (waiting_states plans) (start_tries kinds (node + nodes plan) plans call request moment) (end_of run.state)
        (size-start node plan call request moment) (size-wait plans)
        (size-tries (node + nodes plan) plans call request moment)

  size-waiting : (node : ℕ) (states : States M G) (call : ℕ) (request : List ℕ) (moment : ℕ) → size_of (start_waiting kinds node states call request moment).states ≡ size_of states
  size-waiting node last_state call request moment = refl
  size-waiting node (state_then (waits plan) states) call request moment =
      let run = start_at kinds node plan call request moment in
      size-try (nodes plan) (size_of states) run states (start_waiting kinds (node + nodes plan) states call request moment) (end_of run.state) (size-start node plan call request moment) refl
      (size-waiting (node + nodes plan) states call request moment)
  size-waiting node (state_then (leaf_state chan q leaf) states) call request moment = refl
  size-waiting node (state_then (par_state par below) states) call request moment = refl
  size-waiting node (state_then (sel_state sel below) states) call request moment = refl

  size-open : (n : ℕ) (o : Option End) (state : State M G) (run : Run M G) → size state ≡ n → size run.state ≡ n → size (while_open o state run).state ≡ n
  size-open n None state run h hs = hs
  size-open n (Some end) state run h hs = h

  size-either : (n : ℕ) (b : Bool) (p q : Run M G) → size p.state ≡ n → size q.state ≡ n → size (cond b p q).state ≡ n
  size-either n true p q hp hq = hp
  size-either n false p q hp hq = hq

  size-below : (n : ℕ) (b : Bool) (p q : Below M G) → size_of p.states ≡ n → size_of q.states ≡ n → size_of (cond b p q).states ≡ n
  size-below n true p q hp hq = hp
  size-below n false p q hp hq = hq

  mutual
    pub size-step : (node : ℕ) (state : State M G) (call : ℕ) (e : Event) (moment : ℕ) → size (step_at kinds node state call e moment).state ≡ size state
    size-step node (waits plan) call e moment = refl
    size-step node (leaf_state chan request leaf) call e moment = size-either 1 (node_of e == node) _ _ refl refl
    size-step node (par_state par states) call e moment =
        size-open (1 + size_of states) par.end (par_state par states) _ refl
        (size-either (1 + size_of states) (node_of e == node) (par_at kinds par states e) (par_stepped kinds par (step_subs kinds (node + 1) states call e moment)) refl
        (ap (λ n. 1 + n) (size-subs-step (node + 1) states call e moment)))
    size-step node (sel_state sel states) call e moment =
        size-open (1 + size_of states) sel.end (sel_state sel states) _ refl
        (size-either (1 + size_of states) (node_of e == node) (sel_at sel states e) (sel_stepped sel (step_tries kinds (node + 1) states call e moment sel.request)) refl
        (ap (λ n. 1 + n) (size-tries-step (node + 1) states call e moment sel.request)))

    size-subs-step : (node : ℕ) (states : States M G) (call : ℕ) (e : Event) (moment : ℕ) → size_of (step_subs kinds node states call e moment).states ≡ size_of states
    size-subs-step node last_state call e moment = refl
    size-subs-step node (state_then state states) call e moment =
        size-below (size state + size_of states) (nat_lt (node_of e) (node + size state)) _ _ (ap (λ n. n + size_of states) (size-step node state call e moment))
        (ap (λ n. size state + n) (size-subs-step (node + size state) states call e moment))

    size-tries-step : (node : ℕ) (states : States M G) (call : ℕ) (e : Event) (moment : ℕ) (request : List ℕ) → size_of (step_tries kinds node states call e moment request).states ≡ size_of states
    size-tries-step node last_state call e moment request = refl
    size-tries-step node (state_then state states) call e moment request =
        let run = step_at kinds node state call e moment in
        size-below (size state + size_of states) (nat_lt (node_of e) (node + size state)) _ _
        (size-try (size state) (size_of states) run states (start_waiting kinds (node + size state) states call request moment) (new_end (end_of state) (end_of run.state))
        (size-step node state call e moment) refl
        (size-waiting (node + size state) states call request moment))
        (ap (λ n. size state + n) (size-tries-step (node + size state) states call e moment request))
