-- A step sets its marks at most the longest wait ahead, and so does every step after it.
use Rattle.std.proofs.Common.{ℕ, ◌+◌, ◌^◌, ◌<◌, Bool, true, false, cond, ◌==◌, nat_lt, List, [], ◌∷◌, ◌++◌, Option, Some, None, arith}
use Rattle.std.specs.List.{AllByRecursion}
use Rattle.rpc_model.specs.declared.event.End.{End}
use Rattle.rpc_model.specs.declared.event.Event.{Event}
use Rattle.rpc_model.specs.Limits.{IsWait}
use Rattle.rpc_model.specs.Effects.{Mark, deadline, backup, mark_after}
use Rattle.rpc_model.specs.declared.mapper.Mapped.{Mapped}
use Rattle.rpc_model.specs.declared.mapper.Mapped.TheVariants as answer
use Rattle.model_laws.specs.Soon.{IsShort, AreShort, WaitsShortly, WaitShortly, IsSoon, RunIsSoon, BelowIsSoon}
use Rattle.rpc_model.specs.Kinds.{Kinds}
use Rattle.rpc_model.specs.Plan.{Plan, leaf_plan, par_plan, sel_plan, Plans, last_plan, plan_then}
use Rattle.rpc_model.specs.Versions.{nodes}
use Rattle.rpc_model.specs.Parallel.{mapped, refused, Limits, limits, judged}
use Rattle.rpc_model.specs.Selective.{next_try}
use Rattle.rpc_model.specs.State.{State, waits, leaf_state, par_state, sel_state, States, last_state, state_then, Run, Below, end_of, waiting_states, run_then, size}
use Rattle.rpc_model.specs.Machine.{par_started, sub_started, where_ended, start_at, start_subs, start_tries, node_of, new_end, par_at, par_stepped, sel_at, sel_stepped, while_open}
use Rattle.rpc_model.specs.Machine.{try_ended, try_run, is_left, start_waiting, step_at, step_subs, step_tries}

module _ {M G : Type 0} (kinds : Kinds M G) where
  append-soon : (m : ℕ) (xs ys : List Mark) → AllByRecursion (IsSoon m) xs → AllByRecursion (IsSoon m) ys → AllByRecursion (IsSoon m) (xs ++ ys)
  append-soon m [] ys h hs = hs
  append-soon m (x ∷ xs) ys h hs = (h.0, append-soon m xs ys h.1 hs)

  mark-soon : (o : Option ℕ) (node m : ℕ) (kind : Bool) → IsWait o → AllByRecursion (IsSoon m) (mark_after o node m kind)
  mark-soon None node m kind h = tt
  mark-soon (Some wait) node m kind h = ((let short : wait < 2 ^ 31 = h in omega arith), tt)

  wait-shortly : (plans : Plans M G) → AreShort plans → WaitShortly (waiting_states plans)
  wait-shortly last_plan h = tt
  wait-shortly (plan_then plan plans) h = (h.0, wait-shortly plans h.1)

  then-soon : (m : ℕ) (run : Run M G) (below : Below M G) → RunIsSoon m run → BelowIsSoon m below → BelowIsSoon m (run_then run below)
  then-soon m run below h hs = (append-soon m run.marks below.marks h.0 hs.0, (h.1, hs.1))

  ended-soon : (m : ℕ) (run : Run M G) (states : States M G) (next : Below M G) (o : Option End) → RunIsSoon m run → WaitShortly states → BelowIsSoon m next
      → BelowIsSoon m (try_ended run states next o)
  ended-soon m run states next None h hs hn = then-soon m run next h hn
  ended-soon m run states next (Some up) h hs hn = (h.0, (h.1, hs))

  try-soon : (m : ℕ) (run : Run M G) (states : States M G) (next : Below M G) (o : Option End) → RunIsSoon m run → WaitShortly states → BelowIsSoon m next → BelowIsSoon m (try_run run states next o)
  try-soon m run states next None h hs hn = (h.0, (h.1, hs))
  try-soon m run states next (Some end) h hs hn = ended-soon m run states next (next_try (is_left states) end) h hs hn

  sub-soon : (m : ℕ) (run : Run M G) (plans : Plans M G) (next : Below M G) (o : Option End) → AreShort plans → RunIsSoon m run → BelowIsSoon m next → BelowIsSoon m (sub_started run plans next o)
  sub-soon m run plans next None short h hn = then-soon m run next h hn
  sub-soon m run plans next (Some end) short h hn = (h.0, (h.1, wait-shortly plans short))

  par-soon : (m : ℕ) (plans : Plans M G) (below : Below M G) (o : Option End) → AreShort plans → BelowIsSoon m below → BelowIsSoon m (par_started plans below o)
  par-soon m plans below None short h = h
  par-soon m plans below (Some end) short h = (tt, wait-shortly plans short)

  mutual
    pub start-soon : (node : ℕ) (plan : Plan M G) (call : ℕ) (request : List ℕ) (m : ℕ) → IsShort plan → RunIsSoon m (start_at kinds node plan call request m)
    start-soon node (leaf_plan leaf) call request m h = (
      append-soon m (mark_after leaf.timeout node m deadline) (mark_after leaf.backup node m backup) (mark-soon leaf.timeout node m deadline h.0)
          (mark-soon leaf.backup node m backup h.1),
      tt,
    )
    start-soon node (par_plan rule plans) call request m h =
        let asked = mapped kinds.map rule.maps request in
        let b = par-soon m plans (start_subs kinds (node + 1) plans call asked (limits rule asked) rule.merges m []) (refused asked) h.1
        (subs-soon (node + 1) plans call asked (limits rule asked) rule.merges m [] h.1) in
        (append-soon m (mark_after rule.timeout node m deadline) _ (mark-soon rule.timeout node m deadline h.0) b.0, b.1)
    start-soon node (sel_plan timeout plans) call request m h =
        let b = tries-soon (node + 1) plans call request m h.1 in
        (append-soon m (mark_after timeout node m deadline) _ (mark-soon timeout node m deadline h.0) b.0, b.1)

    subs-soon : (node : ℕ) (plans : Plans M G) (call : ℕ) (asked : List Mapped) (lim : Limits) (merges : List G) (m : ℕ) (ends : List (Option End)) → AreShort plans
        → BelowIsSoon m (start_subs kinds node plans call asked lim merges m ends)
    subs-soon node last_plan call asked lim merges m ends h = (tt, tt)
    subs-soon node (plan_then plan plans) call (answer.Send request ∷ asked) lim merges m ends h =
        let run = start_at kinds node plan call request m in
        let now = ends ++ end_of run.state ∷ [] in
        sub-soon m run plans (start_subs kinds (node + nodes plan) plans call asked lim merges m now) (where_ended (end_of run.state) (judged kinds lim merges now)) h.1
        (start-soon node plan call request m h.0)
        (subs-soon (node + nodes plan) plans call asked lim merges m now h.1)
    subs-soon node (plan_then plan plans) call (answer.Skip ∷ asked) lim merges m ends h = let b = subs-soon (node + nodes plan) plans call asked lim merges m (ends ++ None ∷ []) h.1 in
        (b.0, (h.0, b.1))
    subs-soon node (plan_then plan plans) call (answer.Bad ∷ asked) lim merges m ends h = let b = subs-soon (node + nodes plan) plans call asked lim merges m (ends ++ None ∷ []) h.1 in
        (b.0, (h.0, b.1))
    subs-soon node (plan_then plan plans) call [] lim merges m ends h = let b = subs-soon (node + nodes plan) plans call [] lim merges m (ends ++ None ∷ []) h.1 in (b.0, (h.0, b.1))

    tries-soon : (node : ℕ) (plans : Plans M G) (call : ℕ) (request : List ℕ) (m : ℕ) → AreShort plans → BelowIsSoon m (start_tries kinds node plans call request m)
    tries-soon node last_plan call request m h = (tt, tt)
    tries-soon node (plan_then plan plans) call request m h =
        let run = start_at kinds node plan call request m in
        try-soon m run (waiting_states plans) (start_tries kinds (node + nodes plan) plans call request m) (end_of run.state) (start-soon node plan call request m h.0) (wait-shortly plans h.1)
        (tries-soon (node + nodes plan) plans call request m h.1)

  waiting-soon : (node : ℕ) (states : States M G) (call : ℕ) (request : List ℕ) (m : ℕ) → WaitShortly states → BelowIsSoon m (start_waiting kinds node states call request m)
  waiting-soon node last_state call request m h = (tt, tt)
  waiting-soon node (state_then (waits plan) states) call request m h =
      let run = start_at kinds node plan call request m in
      try-soon m run states (start_waiting kinds (node + nodes plan) states call request m) (end_of run.state) (start-soon node plan call request m h.0) h.1
      (waiting-soon (node + nodes plan) states call request m h.1)
  waiting-soon node (state_then (leaf_state chan q leaf) states) call request m h = (tt, h)
  waiting-soon node (state_then (par_state par below) states) call request m h = (tt, h)
  waiting-soon node (state_then (sel_state sel below) states) call request m h = (tt, h)

  open-soon : (m : ℕ) (o : Option End) (state : State M G) (run : Run M G) → WaitsShortly state → RunIsSoon m run → RunIsSoon m (while_open o state run)
  open-soon m None state run h hs = hs
  open-soon m (Some end) state run h hs = (tt, h)

  either-soon : (m : ℕ) (b : Bool) (p q : Run M G) → RunIsSoon m p → RunIsSoon m q → RunIsSoon m (cond b p q)
  either-soon m true p q hp hq = hp
  either-soon m false p q hp hq = hq

  below-soon : (m : ℕ) (b : Bool) (p q : Below M G) → BelowIsSoon m p → BelowIsSoon m q → BelowIsSoon m (cond b p q)
  below-soon m true p q hp hq = hp
  below-soon m false p q hp hq = hq

  mutual
    pub step-soon : (node : ℕ) (state : State M G) (call : ℕ) (e : Event) (m : ℕ) → WaitsShortly state → RunIsSoon m (step_at kinds node state call e m)
    step-soon node (waits plan) call e m h = (tt, h)
    step-soon node (leaf_state chan request leaf) call e m h = either-soon m (node_of e == node) _ _ (tt, tt) (tt, tt)
    step-soon node (par_state par states) call e m h =
        open-soon m par.end (par_state par states) _ h (either-soon m (node_of e == node) (par_at kinds par states e) (par_stepped kinds par (step_subs kinds (node + 1) states call e m)) (tt, h)
        (subs-step-soon (node + 1) states call e m h))
    step-soon node (sel_state sel states) call e m h =
        open-soon m sel.end (sel_state sel states) _ h
        (either-soon m (node_of e == node) (sel_at sel states e) (sel_stepped sel (step_tries kinds (node + 1) states call e m sel.request)) (tt, h)
        (tries-step-soon (node + 1) states call e m sel.request h))

    subs-step-soon : (node : ℕ) (states : States M G) (call : ℕ) (e : Event) (m : ℕ) → WaitShortly states → BelowIsSoon m (step_subs kinds node states call e m)
    subs-step-soon node last_state call e m h = (tt, tt)
    subs-step-soon node (state_then state states) call e m h =
        let one = step-soon node state call e m h.0 in
        let more = subs-step-soon (node + size state) states call e m h.1 in
        below-soon m (nat_lt (node_of e) (node + size state)) _ _ (one.0, (one.1, h.1)) (more.0, (h.0, more.1))

    tries-step-soon : (node : ℕ) (states : States M G) (call : ℕ) (e : Event) (m : ℕ) (request : List ℕ) → WaitShortly states → BelowIsSoon m (step_tries kinds node states call e m request)
    tries-step-soon node last_state call e m request h = (tt, tt)
    tries-step-soon node (state_then state states) call e m request h =
        let run = step_at kinds node state call e m in
        let one = step-soon node state call e m h.0 in
        let more = tries-step-soon (node + size state) states call e m request h.1 in
        below-soon m (nat_lt (node_of e) (node + size state)) _ _
        (try-soon m run states (start_waiting kinds (node + size state) states call request m) (new_end (end_of state) (end_of run.state)) one h.1
        (waiting-soon (node + size state) states call request m h.1))
        (more.0, (h.0, more.1))
