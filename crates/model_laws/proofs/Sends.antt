-- A call sends what its state shows: of each leaf the attempts that it issued, once each.
use Rattle.std.proofs.Common.{◌≡◌, ℕ, suc, ◌+◌, inl, inr, Bool, true, false, cond, ◌==◌, nat_lt, fold, List, [], ◌∷◌, ◌++◌, Option, Some, None, arith, refl, ap, sym, ◌∙◌}
use Rattle.std.proofs.lemmas.Bool.Decides.{nat_tests}
use Rattle.rpc_model.specs.declared.chan.LeafChan.{LeafChan}
use Rattle.rpc_model.specs.declared.event.End.{End}
use Rattle.rpc_model.specs.declared.event.Event.{Event}
use Rattle.rpc_model.specs.declared.event.Event.TheVariants as event
use Rattle.rpc_model.specs.Leaf.{Leaf, leaf_step}
use Rattle.rpc_model.specs.Effects.{Send, sent, server_of}
use Rattle.model_laws.proofs.Issues.{IssuesFew, leaf_step-issues}
use Rattle.rpc_model.specs.declared.mapper.Mapped.{Mapped}
use Rattle.rpc_model.specs.declared.mapper.Mapped.TheVariants as answer
use Rattle.rpc_model.specs.Kinds.{Kinds}
use Rattle.rpc_model.specs.Plan.{Plan, leaf_plan, par_plan, sel_plan, Plans, last_plan, plan_then}
use Rattle.rpc_model.specs.Versions.{nodes}
use Rattle.rpc_model.specs.Parallel.{mapped, refused, Limits, limits, judged}
use Rattle.rpc_model.specs.Selective.{next_try}
use Rattle.rpc_model.specs.State.{State, waits, leaf_state, par_state, sel_state, States, last_state, state_then, Run, Below, end_of, size, waiting_states, run_then, run_beside, quiet, and_then}
use Rattle.rpc_model.specs.Machine.{par_started, sub_started, where_ended, start_at, start_subs, start_tries, node_of, new_end, leaf_run, par_at, par_stepped, sel_at, sel_stepped}
use Rattle.rpc_model.specs.Machine.{while_open, try_ended, try_run, is_left, start_waiting, step_at, step_subs, step_tries, step, start, machine, cancelled}
use Rattle.model_laws.specs.Sends.{leaf_sends, sends_of, all_sends}
use Rattle.model_laws.proofs.Sizes.{size-start, size-step}

-- how many of these pass a test
abbrev pub counted : (Send → Bool) → List Send → ℕ
counted t [] = 0
counted t (s ∷ ss) = cond (t s) 1 0 + counted t ss

pub counted-append : (t : Send → Bool) (xs ys : List Send) → counted t (xs ++ ys) ≡ counted t xs + counted t ys
counted-append t [] ys = omega arith
counted-append t (x ∷ xs) ys = let h = counted-append t xs ys in omega (arith, h)

module _ {M G : Type 0} (kinds : Kinds M G) (t : Send → Bool) (call : ℕ) where
  -- so many before, and one more for each that is sent
  abbrev IsSent : ℕ → ℕ → Run M G → Type 0
  IsSent node n run = counted t (sends_of call node run.state) ≡ n + counted t run.sends

  abbrev AreSent : ℕ → ℕ → Below M G → Type 0
  AreSent node n below = counted t (all_sends call node below.states) ≡ n + counted t below.sends

  none-wait : (node : ℕ) (plans : Plans M G) → all_sends call node (waiting_states plans) ≡ []
  none-wait node last_plan = refl
  none-wait node (plan_then plan plans) = none-wait (node + nodes plan) plans

  none-counted : (node : ℕ) (plans : Plans M G) → counted t (all_sends call node (waiting_states plans)) ≡ 0
  none-counted node plans = ap (counted t) (none-wait node plans)

  -- a state, and then others, of which the first begins behind it
  split : (node k : ℕ) (state : State M G) (states : States M G) → size state ≡ k
      → counted t (all_sends call node (state_then state states)) ≡ counted t (sends_of call node state) + counted t (all_sends call (node + k) states)
  split node k state states e =
      counted-append t (sends_of call node state) (all_sends call (node + size state) states)
      ∙ ap (λ s. counted t (sends_of call node state) + counted t (all_sends call (node + s) states)) e

  sent-then : (node k n j : ℕ) (run : Run M G) (below : Below M G) → size run.state ≡ k → IsSent node n run → AreSent (node + k) j below → AreSent node (n + j) (run_then run below)
  sent-then node k n j run below e h hs =
      let s = split node k run.state below.states e in
      let l = counted-append t run.sends below.sends in
      omega (arith, s, l, h, hs)

  sent-beside : (node k n : ℕ) (run : Run M G) (states : States M G) (end : Option End) → size run.state ≡ k → IsSent node n run
      → AreSent node (n + counted t (all_sends call (node + k) states)) (run_beside run states end)
  sent-beside node k n run states end e h = let s = split node k run.state states e in omega (arith, s, h)

  sent-ended : (node k n : ℕ) (run : Run M G) (states : States M G) (next : Below M G) (o : Option End) → size run.state ≡ k → IsSent node n run
      → AreSent (node + k) (counted t (all_sends call (node + k) states)) next
      → AreSent node (n + counted t (all_sends call (node + k) states)) (try_ended run states next o)
  sent-ended node k n run states next None e h hs = sent-then node k n (counted t (all_sends call (node + k) states)) run next e h hs
  sent-ended node k n run states next (Some up) e h hs = sent-beside node k n run states (Some up) e h

  sent-try : (node k n : ℕ) (run : Run M G) (states : States M G) (next : Below M G) (o : Option End) → size run.state ≡ k → IsSent node n run
      → AreSent (node + k) (counted t (all_sends call (node + k) states)) next
      → AreSent node (n + counted t (all_sends call (node + k) states)) (try_run run states next o)
  sent-try node k n run states next None e h hs = sent-beside node k n run states None e h
  sent-try node k n run states next (Some end) e h hs = sent-ended node k n run states next (next_try (is_left states) end) e h hs

  sent-sub : (node k : ℕ) (run : Run M G) (plans : Plans M G) (next : Below M G) (o : Option End) → size run.state ≡ k → IsSent node 0 run → AreSent (node + k) 0 next
      → AreSent node 0 (sub_started run plans next o)
  sent-sub node k run plans next None e h hs = sent-then node k 0 0 run next e h hs
  sent-sub node k run plans next (Some end) e h hs =
      let w = none-counted (node + k) plans in
      let s = split node k run.state (waiting_states plans) e in
      omega (arith, w, s, h)

  sent-par : (node : ℕ) (plans : Plans M G) (below : Below M G) (o : Option End) → AreSent node 0 below → AreSent node 0 (par_started plans below o)
  sent-par node plans below None h = h
  sent-par node plans below (Some end) h = none-counted node plans

  mutual
    pub start-sends : (node : ℕ) (plan : Plan M G) (request : List ℕ) (m : ℕ) → IsSent node 0 (start_at kinds node plan call request m)
    start-sends node (leaf_plan leaf) request m = omega arith
    start-sends node (par_plan rule plans) request m =
        sent-par (node + 1) plans _ (refused (mapped kinds.map rule.maps request))
        (subs-sends (node + 1) plans (mapped kinds.map rule.maps request) (limits rule (mapped kinds.map rule.maps request)) rule.merges m [])
    start-sends node (sel_plan timeout plans) request m = tries-sends (node + 1) plans request m

    subs-sends : (node : ℕ) (plans : Plans M G) (asked : List Mapped) (lim : Limits) (merges : List G) (m : ℕ) (ends : List (Option End))
        → AreSent node 0 (start_subs kinds node plans call asked lim merges m ends)
    subs-sends node last_plan asked lim merges m ends = omega arith
    subs-sends node (plan_then plan plans) (answer.Send request ∷ asked) lim merges m ends =
        let run = start_at kinds node plan call request m in
        let now = ends ++ end_of run.state ∷ [] in
        sent-sub node (nodes plan) run plans (start_subs kinds (node + nodes plan) plans call asked lim merges m now) (where_ended (end_of run.state) (judged kinds lim merges now))
        (size-start kinds node plan call request m) (start-sends node plan request m)
        (subs-sends (node + nodes plan) plans asked lim merges m now)
    subs-sends node (plan_then plan plans) (answer.Skip ∷ asked) lim merges m ends = subs-sends (node + nodes plan) plans asked lim merges m (ends ++ None ∷ [])
    subs-sends node (plan_then plan plans) (answer.Bad ∷ asked) lim merges m ends = subs-sends (node + nodes plan) plans asked lim merges m (ends ++ None ∷ [])
    subs-sends node (plan_then plan plans) [] lim merges m ends = subs-sends (node + nodes plan) plans [] lim merges m (ends ++ None ∷ [])

    tries-sends : (node : ℕ) (plans : Plans M G) (request : List ℕ) (m : ℕ) → AreSent node 0 (start_tries kinds node plans call request m)
    tries-sends node last_plan request m = omega arith
    tries-sends node (plan_then plan plans) request m =
        let run = start_at kinds node plan call request m in
        let w = none-counted (node + nodes plan) plans in
        let more = tries-sends (node + nodes plan) plans request m in
        let h = sent-try node (nodes plan) 0 run (waiting_states plans) (start_tries kinds (node + nodes plan) plans call request m) (end_of run.state) (size-start kinds node plan call request m)
        (start-sends node plan request m) (omega (arith, w, more)) in
        omega (arith, h, w)

  waiting-sends : (node : ℕ) (states : States M G) (request : List ℕ) (m : ℕ) → AreSent node (counted t (all_sends call node states)) (start_waiting kinds node states call request m)
  waiting-sends node last_state request m = omega arith
  waiting-sends node (state_then (waits plan) states) request m =
      let run = start_at kinds node plan call request m in
      let h = sent-try node (nodes plan) 0 run states (start_waiting kinds (node + nodes plan) states call request m) (end_of run.state) (size-start kinds node plan call request m)
      (start-sends node plan request m)
      (waiting-sends (node + nodes plan) states request m) in
      omega (arith, h)
  waiting-sends node (state_then (leaf_state chan q leaf) states) request m = omega arith
  waiting-sends node (state_then (par_state par below) states) request m = omega arith
  waiting-sends node (state_then (sel_state sel below) states) request m = omega arith

  sent-open : (node n : ℕ) (o : Option End) (state : State M G) (run : Run M G) → counted t (sends_of call node state) ≡ n → IsSent node n run → IsSent node n (while_open o state run)
  sent-open node n None state run h hs = hs
  sent-open node n (Some end) state run h hs = omega (arith, h)

  sent-either : (node n : ℕ) (b : Bool) (p q : Run M G) → IsSent node n p → IsSent node n q → IsSent node n (cond b p q)
  sent-either node n true p q hp hq = hp
  sent-either node n false p q hp hq = hq

  sent-below : (node n : ℕ) (b : Bool) (p q : Below M G) → AreSent node n p → AreSent node n q → AreSent node n (cond b p q)
  sent-below node n true p q hp hq = hp
  sent-below node n false p q hp hq = hq

  -- a leaf's step issues one attempt or none
  leaf-sends : (chan : LeafChan) (node : ℕ) (request : List ℕ) (before now : Leaf) → IssuesFew chan.retry before now
      → counted t (leaf_sends chan call node request now.issued) ≡ counted t (leaf_sends chan call node request before.issued) + counted t (sent chan call node request before.issued now.issued)
  leaf-sends chan node request before now (inl same) =
      let test : nat_lt before.issued now.issued ≡ false = grind (arith, nat_tests) in
      let none = ap (λ v. counted t (cond v (record { node = node; attempt = before.issued; server = server_of chan call before.issued; payload = request } ∷ []) [])) test in
      let as_before = ap (λ n. counted t (leaf_sends chan call node request n)) same in
      omega (arith, as_before, none)
  leaf-sends chan node request before now (inr more) =
      let test : nat_lt before.issued now.issued ≡ true = (let h = more.0 in grind (arith, nat_tests)) in
      let next : List Send = record { node = node; attempt = before.issued; server = server_of chan call before.issued; payload = request } ∷ [] in
      let one = ap (λ v. counted t (cond v next [])) test in
      let up : now.issued ≡ suc before.issued = (let h = more.0 in omega (arith, h)) in
      let is_more = ap (λ n. counted t (leaf_sends chan call node request n)) up in
      let l = counted-append t (leaf_sends chan call node request before.issued) next in
      is_more ∙ l ∙ ap (λ n. counted t (leaf_sends chan call node request before.issued) + n) (sym one)

  mutual
    pub step-sends : (node : ℕ) (state : State M G) (e : Event) (m : ℕ) → IsSent node (counted t (sends_of call node state)) (step_at kinds node state call e m)
    step-sends node (waits plan) e m = omega arith
    step-sends node (leaf_state chan request leaf) e m =
        sent-either node (counted t (leaf_sends chan call node request leaf.issued)) (node_of e == node) (leaf_run chan call node request leaf (leaf_step chan.retry leaf e))
        (quiet (leaf_state chan request leaf))
        (leaf-sends chan node request leaf (leaf_step chan.retry leaf e) (leaf_step-issues chan.retry leaf e)) (omega arith)
    step-sends node (par_state par states) e m =
        sent-open node (counted t (all_sends call (node + 1) states)) par.end (par_state par states) _ refl
        (sent-either node (counted t (all_sends call (node + 1) states)) (node_of e == node) (par_at kinds par states e) (par_stepped kinds par (step_subs kinds (node + 1) states call e m))
        (omega arith) (subs-step-sends (node + 1) states e m))
    step-sends node (sel_state sel states) e m =
        sent-open node (counted t (all_sends call (node + 1) states)) sel.end (sel_state sel states) _ refl
        (sent-either node (counted t (all_sends call (node + 1) states)) (node_of e == node) (sel_at sel states e) (sel_stepped sel (step_tries kinds (node + 1) states call e m sel.request))
        (omega arith) (tries-step-sends (node + 1) states e m sel.request))

    subs-step-sends : (node : ℕ) (states : States M G) (e : Event) (m : ℕ) → AreSent node (counted t (all_sends call node states)) (step_subs kinds node states call e m)
    subs-step-sends node last_state e m = omega arith
    subs-step-sends node (state_then state states) e m =
        let run = step_at kinds node state call e m in
        let before = split node (size state) state states refl in
        let one = sent-beside node (size state) (counted t (sends_of call node state)) run states (new_end (end_of state) (end_of run.state)) (size-step kinds node state call e m)
        (step-sends node state e m) in
        let more = subs-step-sends (node + size state) states e m in
        let next = step_subs kinds (node + size state) states call e m in
        let after = split node (size state) state next.states refl in
        sent-below node (counted t (all_sends call node (state_then state states))) (nat_lt (node_of e) (node + size state)) _ _ (omega (arith, before, one)) (omega (arith, before, after, more))

    tries-step-sends : (node : ℕ) (states : States M G) (e : Event) (m : ℕ) (request : List ℕ) → AreSent node (counted t (all_sends call node states)) (step_tries kinds node states call e m request)
    tries-step-sends node last_state e m request = omega arith
    tries-step-sends node (state_then state states) e m request =
        let run = step_at kinds node state call e m in
        let before = split node (size state) state states refl in
        let one = sent-try node (size state) (counted t (sends_of call node state)) run states (start_waiting kinds (node + size state) states call request m)
        (new_end (end_of state) (end_of run.state)) (size-step kinds node state call e m) (step-sends node state e m)
        (waiting-sends (node + size state) states request m) in
        let more = tries-step-sends (node + size state) states e m request in
        let next = step_tries kinds (node + size state) states call e m request in
        let after = split node (size state) state next.states refl in
        sent-below node (counted t (all_sends call node (state_then state states))) (nat_lt (node_of e) (node + size state)) _ _ (omega (arith, before, one)) (omega (arith, before, after, more))

  cancelled-sends : (state : State M G) → sends_of call 0 (cancelled state) ≡ sends_of call 0 state
  cancelled-sends (waits plan) = refl
  cancelled-sends (leaf_state chan request leaf) = by leaf.end refl
    where
      by : (o : Option End) → leaf.end ≡ o → sends_of call 0 (cancelled {M = M} {G = G} (leaf_state chan request leaf)) ≡ leaf_sends chan call 0 request leaf.issued
      by None h = rw h refl
      by (Some end) h = rw h refl
  cancelled-sends (par_state par states) = refl
  cancelled-sends (sel_state sel states) = refl

  call-step-sends : (state : State M G) (e : Event) (m : ℕ) → IsSent 0 (counted t (sends_of call 0 state)) (step kinds call state e m)
  call-step-sends state (event.Reply node attempt code text) m = step-sends 0 state (event.Reply node attempt code text) m
  call-step-sends state (event.Lost node attempt code) m = step-sends 0 state (event.Lost node attempt code) m
  call-step-sends state (event.Backup node) m = step-sends 0 state (event.Backup node) m
  call-step-sends state (event.Deadline node) m = step-sends 0 state (event.Deadline node) m
  call-step-sends state event.Cancel m = let same = ap (counted t) (cancelled-sends state) in omega (arith, same)

  run-sends : (events : List (Event × ℕ)) (run : Run M G) → IsSent 0 0 run → IsSent 0 0 (fold (λ (r : Run M G) timed. and_then r (step kinds call r.state timed.0 timed.1)) run events)
  run-sends [] run h = h
  run-sends (timed ∷ events) run h =
      let next = step kinds call run.state timed.0 timed.1 in
      let one = call-step-sends run.state timed.0 timed.1 in
      let l = counted-append t run.sends next.sends in
      run-sends events (and_then run next) (omega (arith, h, one, l))

  -- What a call sent, in some order, is what its state shows.
  pub machine-sends : (plan : Plan M G) (request : List ℕ) (begun : ℕ) (events : List (Event × ℕ))
      → let run = machine kinds plan call request begun events in counted t run.sends ≡ counted t (sends_of call 0 run.state)
  machine-sends plan request begun events =
      let h = run-sends events (start kinds plan call request begun) (start-sends 0 plan request begun) in
      omega (arith, h)
