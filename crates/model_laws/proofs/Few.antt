-- A node that is started sets two marks at the most, and no node is started twice.
use Rattle.std.proofs.Common.{◌≡◌, ℕ, ◌+◌, ◌*◌, ◌≤◌, Bool, true, false, cond, ◌==◌, nat_lt, List, [], ◌∷◌, ◌++◌, length, Option, Some, None, arith, refl, ap, sym, subst, length-append}
use Rattle.rpc_model.specs.declared.event.End.{End}
use Rattle.rpc_model.specs.declared.event.Event.{Event}
use Rattle.rpc_model.specs.declared.event.Event.TheVariants as event
use Rattle.rpc_model.specs.Leaf.{leaf_step}
use Rattle.rpc_model.specs.Effects.{deadline, backup, mark_after}
use Rattle.rpc_model.specs.declared.mapper.Mapped.{Mapped}
use Rattle.rpc_model.specs.declared.mapper.Mapped.TheVariants as answer
use Rattle.rpc_model.specs.Marks.{unstarted, unstarted_of}
use Rattle.rpc_model.specs.Kinds.{Kinds}
use Rattle.rpc_model.specs.Plan.{Plan, leaf_plan, par_plan, sel_plan, Plans, last_plan, plan_then}
use Rattle.rpc_model.specs.Versions.{nodes, nodes_of}
use Rattle.rpc_model.specs.Parallel.{mapped, refused, Limits, limits, judged}
use Rattle.rpc_model.specs.Selective.{next_try}
use Rattle.rpc_model.specs.State.{State, waits, leaf_state, par_state, sel_state, States, last_state, state_then, Run, Below, end_of, waiting_states, run_then, run_beside, quiet, size}
use Rattle.rpc_model.specs.Machine.{par_started, sub_started, where_ended, start_at, start_subs, start_tries, node_of, leaf_run, new_end, par_at, par_stepped, sel_at, sel_stepped}
use Rattle.rpc_model.specs.Machine.{while_open, try_ended, try_run, is_left, start_waiting, step_at, step_subs, step_tries, step, cancelled}

module _ {M G : Type 0} (kinds : Kinds M G) where
  abbrev IsFew : ℕ → Run M G → Type 0
  IsFew n run = length run.marks + 2 * unstarted run.state ≤ 2 * n

  abbrev AreFew : ℕ → Below M G → Type 0
  AreFew n below = length below.marks + 2 * unstarted_of below.states ≤ 2 * n

  mark-few : (o : Option ℕ) (node moment : ℕ) (kind : Bool) → length (mark_after o node moment kind) ≤ 1
  mark-few None node moment kind = omega arith
  mark-few (Some wait) node moment kind = omega arith

  all-wait : (plans : Plans M G) → unstarted_of (waiting_states plans) ≡ nodes_of plans
  all-wait last_plan = refl
  all-wait (plan_then plan plans) = ap (λ n. nodes plan + n) (all-wait plans)

  few-then : (n k : ℕ) (run : Run M G) (below : Below M G) → IsFew n run → AreFew k below → AreFew (n + k) (run_then run below)
  few-then n k run below h hs = let l = length-append run.marks below.marks in omega (arith, l, h, hs)

  few-beside : (n : ℕ) (run : Run M G) (plans : Plans M G) (end : Option End) → IsFew n run → AreFew (n + nodes_of plans) (run_beside run (waiting_states plans) end)
  few-beside n run plans end h = let w = all-wait plans in omega (arith, w, h)

  few-sub : (n : ℕ) (run : Run M G) (plans : Plans M G) (next : Below M G) (o : Option End) → IsFew n run → AreFew (nodes_of plans) next → AreFew (n + nodes_of plans) (sub_started run plans next o)
  few-sub n run plans next None h hs = few-then n (nodes_of plans) run next h hs
  few-sub n run plans next (Some end) h hs = few-beside n run plans (Some end) h

  few-ended : (n : ℕ) (run : Run M G) (states : States M G) (next : Below M G) (o : Option End) → IsFew n run → AreFew (unstarted_of states) next
      → AreFew (n + unstarted_of states) (try_ended run states next o)
  few-ended n run states next None h hs = few-then n (unstarted_of states) run next h hs
  few-ended n run states next (Some up) h hs = omega (arith, h)

  few-try : (n : ℕ) (run : Run M G) (states : States M G) (next : Below M G) (o : Option End) → IsFew n run → AreFew (unstarted_of states) next
      → AreFew (n + unstarted_of states) (try_run run states next o)
  few-try n run states next None h hs = omega (arith, h)
  few-try n run states next (Some end) h hs = few-ended n run states next (next_try (is_left states) end) h hs

  pub few-par : (plans : Plans M G) (below : Below M G) (o : Option End) → AreFew (nodes_of plans) below → AreFew (nodes_of plans) (par_started plans below o)
  few-par plans below None h = h
  few-par plans below (Some end) h = let w = all-wait plans in omega (arith, w)

  few-node : (o : Option ℕ) (node moment n : ℕ) (below : Below M G) → AreFew n below → length (mark_after o node moment deadline ++ below.marks) + 2 * unstarted_of below.states ≤ 2 * (1 + n)
  few-node o node moment n below h = let l = length-append (mark_after o node moment deadline) below.marks in let m = mark-few o node moment deadline in omega (arith, l, m, h)

  mutual
    pub start-few : (node : ℕ) (plan : Plan M G) (call : ℕ) (request : List ℕ) (moment : ℕ) → IsFew (nodes plan) (start_at kinds node plan call request moment)
    start-few node (leaf_plan leaf) call request moment =
        let d = mark-few leaf.timeout node moment deadline in
        let b = mark-few leaf.backup node moment backup in
        let both = length-append (mark_after leaf.timeout node moment deadline) (mark_after leaf.backup node moment backup) in
        omega (arith, d, b, both)
    start-few node (par_plan rule plans) call request moment =
        let asked = mapped kinds.map rule.maps request in
        let lim = limits rule asked in
        let below = start_subs kinds (node + 1) plans call asked lim rule.merges moment [] in
        few-node rule.timeout node moment (nodes_of plans) (par_started plans below (refused asked))
        (few-par plans below (refused asked) (subs-few (node + 1) plans call asked lim rule.merges moment []))
    start-few node (sel_plan timeout plans) call request moment =
        few-node timeout node moment (nodes_of plans) (start_tries kinds (node + 1) plans call request moment) (tries-few (node + 1) plans call request moment)

    pub subs-few : (node : ℕ) (plans : Plans M G) (call : ℕ) (asked : List Mapped) (lim : Limits) (merges : List G) (moment : ℕ) (ends : List (Option End))
        → AreFew (nodes_of plans) (start_subs kinds node plans call asked lim merges moment ends)
    subs-few node last_plan call asked lim merges moment ends = omega arith
    subs-few node (plan_then plan plans) call (answer.Send request ∷ asked) lim merges moment ends =
        let run = start_at kinds node plan call request moment in
        let now = ends ++ end_of run.state ∷ [] in
        few-sub (nodes plan) run plans (start_subs kinds (node + nodes plan) plans call asked lim merges moment now) (where_ended (end_of run.state) (judged kinds lim merges now))
        (start-few node plan call request moment)
        (subs-few (node + nodes plan) plans call asked lim merges moment now)
    subs-few node (plan_then plan plans) call (answer.Skip ∷ asked) lim merges moment ends = let h = subs-few (node + nodes plan) plans call asked lim merges moment (ends ++ None ∷ []) in omega
        (arith, h)
    subs-few node (plan_then plan plans) call (answer.Bad ∷ asked) lim merges moment ends = let h = subs-few (node + nodes plan) plans call asked lim merges moment (ends ++ None ∷ []) in omega
        (arith, h)
    subs-few node (plan_then plan plans) call [] lim merges moment ends = let h = subs-few (node + nodes plan) plans call [] lim merges moment (ends ++ None ∷ []) in omega (arith, h)

    pub tries-few : (node : ℕ) (plans : Plans M G) (call : ℕ) (request : List ℕ) (moment : ℕ) → AreFew (nodes_of plans) (start_tries kinds node plans call request moment)
    tries-few node last_plan call request moment = omega arith
    tries-few node (plan_then plan plans) call request moment =
        let run = start_at kinds node plan call request moment in
        let w = all-wait plans in
        let h = few-try (nodes plan) run (waiting_states plans) (start_tries kinds (node + nodes plan) plans call request moment) (end_of run.state) (start-few node plan call request moment)
        (subst (λ n. AreFew n (start_tries kinds (node + nodes plan) plans call request moment)) (sym w) (tries-few (node + nodes plan) plans call request moment)) in
        subst (λ n. AreFew (nodes plan + n) (start_tries kinds node (plan_then plan plans) call request moment)) w h

  -- ---- a step

  pub waiting-few : (node : ℕ) (states : States M G) (call : ℕ) (request : List ℕ) (moment : ℕ) → AreFew (unstarted_of states) (start_waiting kinds node states call request moment)
  waiting-few node last_state call request moment = omega arith
  waiting-few node (state_then (waits plan) states) call request moment =
      let run = start_at kinds node plan call request moment in
      few-try (nodes plan) run states (start_waiting kinds (node + nodes plan) states call request moment) (end_of run.state) (start-few node plan call request moment)
      (waiting-few (node + nodes plan) states call request moment)
  waiting-few node (state_then (leaf_state chan q leaf) states) call request moment = omega arith
  waiting-few node (state_then (par_state par below) states) call request moment = omega arith
  waiting-few node (state_then (sel_state sel below) states) call request moment = omega arith

  few-open : (n : ℕ) (o : Option End) (state : State M G) (run : Run M G) → unstarted state ≤ n → IsFew n run → IsFew n (while_open o state run)
  few-open n None state run h hs = hs
  few-open n (Some end) state run h hs = omega (arith, h)

  few-either : (n : ℕ) (b : Bool) (p q : Run M G) → IsFew n p → IsFew n q → IsFew n (cond b p q)
  few-either n true p q hp hq = hp
  few-either n false p q hp hq = hq

  few-either-below : (n : ℕ) (b : Bool) (p q : Below M G) → AreFew n p → AreFew n q → AreFew n (cond b p q)
  few-either-below n true p q hp hq = hp
  few-either-below n false p q hp hq = hq

  mutual
    pub step-few : (node : ℕ) (state : State M G) (call : ℕ) (e : Event) (moment : ℕ) → IsFew (unstarted state) (step_at kinds node state call e moment)
    step-few node (waits plan) call e moment = omega arith
    step-few node (leaf_state chan request leaf) call e moment =
        few-either 0 (node_of e == node) (leaf_run chan call node request leaf (leaf_step chan.retry leaf e)) (quiet (leaf_state chan request leaf)) (omega arith) (omega arith)
    step-few node (par_state par states) call e moment =
        let below = step_subs kinds (node + 1) states call e moment in
        few-open (unstarted_of states) par.end (par_state par states) _ (omega arith)
        (few-either (unstarted_of states) (node_of e == node) (par_at kinds par states e) (par_stepped kinds par below) (omega arith) (subs-step-few (node + 1) states call e moment))
    step-few node (sel_state sel states) call e moment =
        let below = step_tries kinds (node + 1) states call e moment sel.request in
        few-open (unstarted_of states) sel.end (sel_state sel states) _ (omega arith)
        (few-either (unstarted_of states) (node_of e == node) (sel_at sel states e) (sel_stepped sel below) (omega arith) (tries-step-few (node + 1) states call e moment sel.request))

    pub subs-step-few : (node : ℕ) (states : States M G) (call : ℕ) (e : Event) (moment : ℕ) → AreFew (unstarted_of states) (step_subs kinds node states call e moment)
    subs-step-few node last_state call e moment = omega arith
    subs-step-few node (state_then state states) call e moment =
        let run = step_at kinds node state call e moment in
        let one = step-few node state call e moment in
        let h = subs-step-few (node + size state) states call e moment in
        few-either-below (unstarted state + unstarted_of states) (nat_lt (node_of e) (node + size state)) _ _ (omega (arith, one)) (omega (arith, h))

    pub tries-step-few : (node : ℕ) (states : States M G) (call : ℕ) (e : Event) (moment : ℕ) (request : List ℕ) → AreFew (unstarted_of states) (step_tries kinds node states call e moment request)
    tries-step-few node last_state call e moment request = omega arith
    tries-step-few node (state_then state states) call e moment request =
        let run = step_at kinds node state call e moment in
        let h = tries-step-few (node + size state) states call e moment request in
        few-either-below (unstarted state + unstarted_of states) (nat_lt (node_of e) (node + size state)) _ _
        (few-try (unstarted state) run states (start_waiting kinds (node + size state) states call request moment) (new_end (end_of state) (end_of run.state)) (step-few node state call e moment)
        (waiting-few (node + size state) states call request moment)) (omega (arith, h))

  cancelled-few : (state : State M G) → unstarted (cancelled state) ≡ unstarted state
  cancelled-few (waits plan) = refl
  cancelled-few (leaf_state chan request leaf) = refl
  cancelled-few (par_state par states) = refl
  cancelled-few (sel_state sel states) = refl

  -- A step sets no more marks than twice the number of nodes that it starts.
  pub call-step-few : (call : ℕ) (state : State M G) (e : Event) (moment : ℕ) → IsFew (unstarted state) (step kinds call state e moment)
  call-step-few call state event.Cancel moment = let same = cancelled-few state in omega (arith, same)
  call-step-few call state (event.Reply node attempt code text) moment = step-few 0 state call (event.Reply node attempt code text) moment
  call-step-few call state (event.Lost node attempt code) moment = step-few 0 state call (event.Lost node attempt code) moment
  call-step-few call state (event.Backup node) moment = step-few 0 state call (event.Backup node) moment
  call-step-few call state (event.Deadline node) moment = step-few 0 state call (event.Deadline node) moment
