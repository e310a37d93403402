-- A step sets marks of nodes within the tree alone.
use Rattle.std.proofs.Common.{ℕ, ◌+◌, ◌<◌, ◌≤◌, Bool, true, false, cond, ◌==◌, nat_lt, List, [], ◌∷◌, ◌++◌, Option, Some, None, arith}
use Rattle.std.specs.List.{AllByRecursion}
use Rattle.rpc_model.specs.declared.event.End.{End}
use Rattle.rpc_model.specs.declared.event.Event.{Event}
use Rattle.rpc_model.specs.declared.event.Event.TheVariants.{Reply, Lost, Backup, Deadline, Cancel}
use Rattle.rpc_model.specs.Effects.{Mark, deadline, backup, mark_after}
use Rattle.rpc_model.specs.declared.mapper.Mapped.{Mapped}
use Rattle.rpc_model.specs.declared.mapper.Mapped.TheVariants as answer
use Rattle.rpc_model.specs.Kinds.{Kinds}
use Rattle.rpc_model.specs.Plan.{Plan, leaf_plan, par_plan, sel_plan, Plans, last_plan, plan_then}
use Rattle.rpc_model.specs.Versions.{nodes, nodes_of}
use Rattle.rpc_model.specs.Parallel.{mapped, refused, Limits, limits, judged}
use Rattle.rpc_model.specs.Selective.{next_try}
use Rattle.rpc_model.specs.State.{State, waits, leaf_state, par_state, sel_state, States, last_state, state_then, Run, Below, end_of, waiting_states, size, size_of}
use Rattle.rpc_model.specs.Machine.{par_started, sub_started, where_ended, start_at, start_subs, start_tries, node_of, new_end, par_at, par_stepped, sel_at, sel_stepped, while_open}
use Rattle.rpc_model.specs.Machine.{try_ended, try_run, is_left, start_waiting, step_at, step_subs, step_tries, step}

abbrev pub AreWithin : ℕ → List Mark → Type 0
AreWithin bound marks = AllByRecursion (λ (mark : Mark). mark.node < bound) marks

append-within : (n : ℕ) (xs ys : List Mark) → AreWithin n xs → AreWithin n ys → AreWithin n (xs ++ ys)
append-within n [] ys h hs = hs
append-within n (x ∷ xs) ys h hs = (h.0, append-within n xs ys h.1 hs)

mark-within : (n : ℕ) (o : Option ℕ) (node m : ℕ) (kind : Bool) → node < n → AreWithin n (mark_after o node m kind)
mark-within n None node m kind h = tt
mark-within n (Some wait) node m kind h = (h, tt)

module _ {M G : Type 0} (kinds : Kinds M G) where
  ended-within : (n : ℕ) (run : Run M G) (states : States M G) (next : Below M G) (o : Option End) → AreWithin n run.marks → AreWithin n next.marks → AreWithin n (try_ended run states next o).marks
  ended-within n run states next None h hn = append-within n run.marks next.marks h hn
  ended-within n run states next (Some up) h hn = h

  try-within : (n : ℕ) (run : Run M G) (states : States M G) (next : Below M G) (o : Option End) → AreWithin n run.marks → AreWithin n next.marks → AreWithin n (try_run run states next o).marks
  try-within n run states next None h hn = h
  try-within n run states next (Some end) h hn = ended-within n run states next (next_try (is_left states) end) h hn

  sub-within : (n : ℕ) (run : Run M G) (plans : Plans M G) (next : Below M G) (o : Option End) → AreWithin n run.marks → AreWithin n next.marks → AreWithin n (sub_started run plans next o).marks
  sub-within n run plans next None h hn = append-within n run.marks next.marks h hn
  sub-within n run plans next (Some end) h hn = h

  par-within : (n : ℕ) (plans : Plans M G) (below : Below M G) (o : Option End) → AreWithin n below.marks → AreWithin n (par_started plans below o).marks
  par-within n plans below None h = h
  par-within n plans below (Some end) h = tt

  mutual
    pub start-within : (n node : ℕ) (plan : Plan M G) (call : ℕ) (request : List ℕ) (m : ℕ) → node + nodes plan ≤ n → AreWithin n (start_at kinds node plan call request m).marks
    start-within n node (leaf_plan leaf) call request m h =
        append-within n (mark_after leaf.timeout node m deadline) (mark_after leaf.backup node m backup) (mark-within n leaf.timeout node m deadline (omega arith))
        (mark-within n leaf.backup node m backup (omega arith))
    start-within n node (par_plan rule plans) call request m h =
        let asked = mapped kinds.map rule.maps request in
        append-within n (mark_after rule.timeout node m deadline) _ (mark-within n rule.timeout node m deadline (omega arith))
        (par-within n plans (start_subs kinds (node + 1) plans call asked (limits rule asked) rule.merges m []) (refused asked)
        (subs-within n (node + 1) plans call asked (limits rule asked) rule.merges m [] (omega arith)))
    start-within n node (sel_plan timeout plans) call request m h =
        append-within n (mark_after timeout node m deadline) _ (mark-within n timeout node m deadline (omega arith)) (tries-within n (node + 1) plans call request m (omega arith))

    subs-within : (n node : ℕ) (plans : Plans M G) (call : ℕ) (asked : List Mapped) (lim : Limits) (merges : List G) (m : ℕ) (ends : List (Option End)) → node + nodes_of plans ≤ n
        → AreWithin n (start_subs kinds node plans call asked lim merges m ends).marks
    subs-within n node last_plan call asked lim merges m ends h = tt
    subs-within n node (plan_then plan plans) call (answer.Send request ∷ asked) lim merges m ends h =
        let run = start_at kinds node plan call request m in
        let now = ends ++ end_of run.state ∷ [] in
        sub-within n run plans (start_subs kinds (node + nodes plan) plans call asked lim merges m now) (where_ended (end_of run.state) (judged kinds lim merges now))
        (start-within n node plan call request m (omega arith)) (subs-within n (node + nodes plan) plans call asked lim merges m now (omega arith))
    subs-within n node (plan_then plan plans) call (answer.Skip ∷ asked) lim merges m ends h = subs-within n (node + nodes plan) plans call asked lim merges m (ends ++ None ∷ []) (omega arith)
    subs-within n node (plan_then plan plans) call (answer.Bad ∷ asked) lim merges m ends h = subs-within n (node + nodes plan) plans call asked lim merges m (ends ++ None ∷ []) (omega arith)
    subs-within n node (plan_then plan plans) call [] lim merges m ends h = subs-within n (node + nodes plan) plans call [] lim merges m (ends ++ None ∷ []) (omega arith)

    tries-within : (n node : ℕ) (plans : Plans M G) (call : ℕ) (request : List ℕ) (m : ℕ) → node + nodes_of plans ≤ n → AreWithin n (start_tries kinds node plans call request m).marks
    tries-within n node last_plan call request m h = tt
    tries-within n node (plan_then plan plans) call request m h =
        let run = start_at kinds node plan call request m in
        try-within n run (waiting_states plans) (start_tries kinds (node + nodes plan) plans call request m) (end_of run.state) (start-within n node plan call request m (omega arith))
        (tries-within n (node + nodes plan) plans call request m (omega arith))

  waiting-within : (n node : ℕ) (states : States M G) (call : ℕ) (request : List ℕ) (m : ℕ) → node + size_of states ≤ n → AreWithin n (start_waiting kinds node states call request m).marks
  waiting-within n node last_state call request m h = tt
  waiting-within n node (state_then (waits plan) states) call request m h =
      let run = start_at kinds node plan call request m in
      try-within n run states (start_waiting kinds (node + nodes plan) states call request m) (end_of run.state) (start-within n node plan call request m (omega arith))
      (waiting-within n (node + nodes plan) states call request m (omega arith))
  waiting-within n node (state_then (leaf_state chan q leaf) states) call request m h = tt
  waiting-within n node (state_then (par_state par below) states) call request m h = tt
  waiting-within n node (state_then (sel_state sel below) states) call request m h = tt

  open-within : (n : ℕ) (o : Option End) (state : State M G) (run : Run M G) → AreWithin n run.marks → AreWithin n (while_open o state run).marks
  open-within n None state run h = h
  open-within n (Some end) state run h = tt

  either-within : (n : ℕ) (b : Bool) (p q : Run M G) → AreWithin n p.marks → AreWithin n q.marks → AreWithin n (cond b p q).marks
  either-within n true p q hp hq = hp
  either-within n false p q hp hq = hq

  below-within : (n : ℕ) (b : Bool) (p q : Below M G) → AreWithin n p.marks → AreWithin n q.marks → AreWithin n (cond b p q).marks
  below-within n true p q hp hq = hp
  below-within n false p q hp hq = hq

  mutual
    pub step_at-within : (n node : ℕ) (state : State M G) (call : ℕ) (e : Event) (m : ℕ) → node + size state ≤ n → AreWithin n (step_at kinds node state call e m).marks
    step_at-within n node (waits plan) call e m h = tt
    step_at-within n node (leaf_state chan request leaf) call e m h = either-within n (node_of e == node) _ _ tt tt
    step_at-within n node (par_state par states) call e m h =
        open-within n par.end (par_state par states) _ (either-within n (node_of e == node) (par_at kinds par states e) (par_stepped kinds par (step_subs kinds (node + 1) states call e m)) tt
        (subs-step-within n (node + 1) states call e m (omega arith)))
    step_at-within n node (sel_state sel states) call e m h =
        open-within n sel.end (sel_state sel states) _ (either-within n (node_of e == node) (sel_at sel states e) (sel_stepped sel (step_tries kinds (node + 1) states call e m sel.request)) tt
        (tries-step-within n (node + 1) states call e m sel.request (omega arith)))

    subs-step-within : (n node : ℕ) (states : States M G) (call : ℕ) (e : Event) (m : ℕ) → node + size_of states ≤ n → AreWithin n (step_subs kinds node states call e m).marks
    subs-step-within n node last_state call e m h = tt
    subs-step-within n node (state_then state states) call e m h =
        below-within n (nat_lt (node_of e) (node + size state)) _ _ (step_at-within n node state call e m (omega arith)) (subs-step-within n (node + size state) states call e m (omega arith))

    tries-step-within : (n node : ℕ) (states : States M G) (call : ℕ) (e : Event) (m : ℕ) (request : List ℕ) → node + size_of states ≤ n
        → AreWithin n (step_tries kinds node states call e m request).marks
    tries-step-within n node last_state call e m request h = tt
    tries-step-within n node (state_then state states) call e m request h =
        let run = step_at kinds node state call e m in
        below-within n (nat_lt (node_of e) (node + size state)) _ _
        (try-within n run states (start_waiting kinds (node + size state) states call request m) (new_end (end_of state) (end_of run.state)) (step_at-within n node state call e m (omega arith))
        (waiting-within n (node + size state) states call request m (omega arith)))
        (tries-step-within n (node + size state) states call e m request (omega arith))

  -- The marks that a call sets are of its own nodes.
  pub step-within : (n : ℕ) (state : State M G) (call : ℕ) (e : Event) (m : ℕ) → size state ≤ n → AreWithin n (step kinds call state e m).marks
  step-within n state call (Reply node attempt code text) m h = step_at-within n 0 state call (Reply node attempt code text) m (omega (arith, h))
  step-within n state call (Lost node attempt code) m h = step_at-within n 0 state call (Lost node attempt code) m (omega (arith, h))
  step-within n state call (Backup node) m h = step_at-within n 0 state call (Backup node) m (omega (arith, h))
  step-within n state call (Deadline node) m h = step_at-within n 0 state call (Deadline node) m (omega (arith, h))
  step-within n state call Cancel m h = tt
