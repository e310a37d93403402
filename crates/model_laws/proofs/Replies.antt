-- A leaf with a good end came by a live reply.
use Rattle.std.proofs.Common.{◌≡◌, ℕ, ◌+◌, ◌⊎◌, inl, inr, Bool, true, false, cond, ◌==◌, nat_lt, fold, List, [], ◌∷◌, ◌++◌, Option, Some, None, arith, refl, ap, sym, ◌∙◌, subst}
use Rattle.rpc_model.specs.declared.event.End.{End}
use Rattle.rpc_model.specs.declared.event.End.TheVariants.{Good, Bad}
use Rattle.rpc_model.specs.declared.event.Event.{Event}
use Rattle.rpc_model.specs.declared.event.Event.TheVariants as event
use Rattle.rpc_model.specs.Leaf.{Leaf, leaf_step}
use Rattle.model_laws.proofs.Attempts.{NeedsReply, success-needs}
use Rattle.rpc_model.specs.declared.mapper.Mapped.{Mapped}
use Rattle.rpc_model.specs.declared.mapper.Mapped.TheVariants as answer
use Rattle.model_laws.specs.Earned.{IsGood, AnswersLeaf, Answers, AnswersOneOf, HasLiveReply, HasGoodLeaf, HaveGoodLeaf}
use Rattle.model_laws.proofs.Ended.{leaf-ended}
use Rattle.rpc_model.specs.Kinds.{Kinds}
use Rattle.rpc_model.specs.Plan.{Plan, leaf_plan, par_plan, sel_plan, Plans, last_plan, plan_then}
use Rattle.rpc_model.specs.Versions.{nodes}
use Rattle.rpc_model.specs.Parallel.{mapped, refused, Limits, limits, judged}
use Rattle.rpc_model.specs.Selective.{next_try}
use Rattle.rpc_model.specs.State.{State, waits, leaf_state, par_state, sel_state, States, last_state, state_then, Run, Below, end_of, waiting_states, quiet, and_then, size}
use Rattle.rpc_model.specs.Machine.{par_started, sub_started, where_ended, start_at, start_subs, start_tries, node_of, new_end, leaf_run, par_at, par_stepped, sel_at, sel_stepped}
use Rattle.rpc_model.specs.Machine.{step_tries, while_open, try_ended, try_run, is_left, start_waiting, step_at, step_subs, step, cancelled}

module _ {M G : Type 0} (kinds : Kinds M G) where
  -- there is one only where P
  abbrev From : Type 0 → Run M G → Type 0
  From P run = HasGoodLeaf run.state → P

  abbrev AreFrom : Type 0 → Below M G → Type 0
  AreFrom P below = HaveGoodLeaf below.states → P

  none-waits : (plans : Plans M G) → HaveGoodLeaf (waiting_states plans) → ⊥
  none-waits last_plan h = h
  none-waits (plan_then plan plans) (inl h) = h
  none-waits (plan_then plan plans) (inr h) = none-waits plans h

  from-then : (P : Type 0) (state : State M G) (states : States M G) → (HasGoodLeaf state → P) → (HaveGoodLeaf states → P) → HaveGoodLeaf (state_then state states) → P
  from-then P state states h hs (inl g) = h g
  from-then P state states h hs (inr g) = hs g

  from-ended : (P : Type 0) (run : Run M G) (states : States M G) (next : Below M G) (o : Option End) → From P run → (HaveGoodLeaf states → P) → AreFrom P next
      → AreFrom P (try_ended run states next o)
  from-ended P run states next None h hs hn g = from-then P run.state next.states h hn g
  from-ended P run states next (Some up) h hs hn g = from-then P run.state states h hs g

  from-try : (P : Type 0) (run : Run M G) (states : States M G) (next : Below M G) (o : Option End) → From P run → (HaveGoodLeaf states → P) → AreFrom P next → AreFrom P (try_run run states next o)
  from-try P run states next None h hs hn g = from-then P run.state states h hs g
  from-try P run states next (Some end) h hs hn g = from-ended P run states next (next_try (is_left states) end) h hs hn g

  from-sub : (run : Run M G) (plans : Plans M G) (next : Below M G) (o : Option End) → From ⊥ run → AreFrom ⊥ next → AreFrom ⊥ (sub_started run plans next o)
  from-sub run plans next None h hn g = from-then ⊥ run.state next.states h hn g
  from-sub run plans next (Some end) h hn g = from-then ⊥ run.state (waiting_states plans) h (none-waits plans) g

  from-par : (plans : Plans M G) (below : Below M G) (o : Option End) → AreFrom ⊥ below → AreFrom ⊥ (par_started plans below o)
  from-par plans below None h g = h g
  from-par plans below (Some end) h g = none-waits plans g

  mutual
    pub start-from : (node : ℕ) (plan : Plan M G) (call : ℕ) (request : List ℕ) (m : ℕ) → From ⊥ (start_at kinds node plan call request m)
    start-from node (leaf_plan leaf) call request m g = g
    start-from node (par_plan rule plans) call request m g =
        from-par plans _ (refused (mapped kinds.map rule.maps request)) (subs-from (node + 1) plans call (mapped kinds.map rule.maps request)
        (limits rule (mapped kinds.map rule.maps request)) rule.merges m []) g
    start-from node (sel_plan timeout plans) call request m g = tries-from (node + 1) plans call request m g

    subs-from : (node : ℕ) (plans : Plans M G) (call : ℕ) (asked : List Mapped) (lim : Limits) (merges : List G) (m : ℕ) (ends : List (Option End))
        → AreFrom ⊥ (start_subs kinds node plans call asked lim merges m ends)
    subs-from node last_plan call asked lim merges m ends g = g
    subs-from node (plan_then plan plans) call (answer.Send request ∷ asked) lim merges m ends g =
        let run = start_at kinds node plan call request m in
        let now = ends ++ end_of run.state ∷ [] in
        from-sub run plans (start_subs kinds (node + nodes plan) plans call asked lim merges m now) (where_ended (end_of run.state) (judged kinds lim merges now))
        (start-from node plan call request m)
        (subs-from (node + nodes plan) plans call asked lim merges m now) g
    subs-from node (plan_then plan plans) call (answer.Skip ∷ asked) lim merges m ends (inl g) = g
    subs-from node (plan_then plan plans) call (answer.Skip ∷ asked) lim merges m ends (inr g) = subs-from (node + nodes plan) plans call asked lim merges m (ends ++ None ∷ []) g
    subs-from node (plan_then plan plans) call (answer.Bad ∷ asked) lim merges m ends (inl g) = g
    subs-from node (plan_then plan plans) call (answer.Bad ∷ asked) lim merges m ends (inr g) = subs-from (node + nodes plan) plans call asked lim merges m (ends ++ None ∷ []) g
    subs-from node (plan_then plan plans) call [] lim merges m ends (inl g) = g
    subs-from node (plan_then plan plans) call [] lim merges m ends (inr g) = subs-from (node + nodes plan) plans call [] lim merges m (ends ++ None ∷ []) g

    tries-from : (node : ℕ) (plans : Plans M G) (call : ℕ) (request : List ℕ) (m : ℕ) → AreFrom ⊥ (start_tries kinds node plans call request m)
    tries-from node last_plan call request m g = g
    tries-from node (plan_then plan plans) call request m g =
        let run = start_at kinds node plan call request m in
        from-try ⊥ run (waiting_states plans) (start_tries kinds (node + nodes plan) plans call request m) (end_of run.state) (start-from node plan call request m) (none-waits plans)
        (tries-from (node + nodes plan) plans call request m) g

  waiting-from : (node : ℕ) (states : States M G) (call : ℕ) (request : List ℕ) (m : ℕ) → AreFrom (HaveGoodLeaf states) (start_waiting kinds node states call request m)
  waiting-from node last_state call request m g = g
  waiting-from node (state_then (waits plan) states) call request m g =
      let run = start_at kinds node plan call request m in
      from-try (HaveGoodLeaf (state_then (waits plan) states)) run states (start_waiting kinds (node + nodes plan) states call request m) (end_of run.state)
      (λ h. absurd (start-from node plan call request m h)) (λ h. inr h) (λ h. inr (waiting-from (node + nodes plan) states call request m h)) g
  waiting-from node (state_then (leaf_state chan q leaf) states) call request m g = g
  waiting-from node (state_then (par_state par below) states) call request m g = g
  waiting-from node (state_then (sel_state sel below) states) call request m g = g

  -- ---- a step

  is-good : (o : Option End) → IsGood o → (text : List ℕ) × (o ≡ Some (Good text))
  is-good None h = absurd h
  is-good (Some (Good text)) h = (text, refl)
  is-good (Some (Bad code)) h = absurd h

  needed : (node : ℕ) (leaf : Leaf) (e : Event) (text : List ℕ) → NeedsReply leaf e text → node_of e ≡ node → AnswersLeaf node leaf e
  needed node leaf e text h at =
      let is : e ≡ event.Reply h.0 h.1 0 text = h.2 in
      let same : h.0 ≡ node = sym (ap node_of is) ∙ at in
      subst (AnswersLeaf node leaf) (sym is) (same, refl, h.3)

  leaf-from : (retry node : ℕ) (leaf : Leaf) (e : Event) (o : Option End) → leaf.end ≡ o → node_of e ≡ node → IsGood (leaf_step retry leaf e).end → IsGood leaf.end ⊎ AnswersLeaf node leaf e
  leaf-from retry node leaf e None open_ at g =
      let good = is-good (leaf_step retry leaf e).end g in
      inr (needed node leaf e good.0 (success-needs retry leaf e good.0 open_ good.1) at)
  leaf-from retry node leaf e (Some end) ended at g = inl (subst (λ (l : Leaf). IsGood l.end) (leaf-ended retry leaf e end ended) g)

  from-either : (P : Type 0) (b : Bool) (p q : Run M G) → (b ≡ true → From P p) → From P q → From P (cond b p q)
  from-either P true p q hp hq = hp refl
  from-either P false p q hp hq = hq

  from-below : (P : Type 0) (b : Bool) (p q : Below M G) → AreFrom P p → AreFrom P q → AreFrom P (cond b p q)
  from-below P true p q hp hq = hp
  from-below P false p q hp hq = hq

  from-open : (P : Type 0) (o : Option End) (state : State M G) (run : Run M G) → (HasGoodLeaf state → P) → (o ≡ None → From P run) → From P (while_open o state run)
  from-open P None state run h hs = hs refl
  from-open P (Some end) state run h hs = h

  same-node : (a b : ℕ) → (a == b) ≡ true → a ≡ b
  same-node a b h = grind arith

  lift : (P Q R : Type 0) → (R → P ⊎ Q) → (S T : Type 0) → (P → S) → (Q → T) → R → S ⊎ T
  lift P Q R h S T f g r = by (h r)
    where
      by : P ⊎ Q → S ⊎ T
      by (inl p) = inl (f p)
      by (inr q) = inr (g q)

  mutual
    pub step-from : (node : ℕ) (state : State M G) (call : ℕ) (e : Event) (m : ℕ) → From (HasGoodLeaf state ⊎ Answers node state e) (step_at kinds node state call e m)
    step-from node (waits plan) call e m g = absurd g
    step-from node (leaf_state chan request leaf) call e m g =
        from-either (IsGood leaf.end ⊎ AnswersLeaf node leaf e) (node_of e == node) (leaf_run chan call node request leaf (leaf_step chan.retry leaf e)) (quiet (leaf_state chan request leaf))
        (λ here h. leaf-from chan.retry node leaf e leaf.end refl (same-node (node_of e) node here) h) (λ h. inl h) g
    step-from node (par_state par states) call e m g =
        from-open (HaveGoodLeaf states ⊎ ((par.end ≡ None) × AnswersOneOf (node + 1) states e)) par.end (par_state par states) _ (λ h. inl h)
        (λ none. from-either (HaveGoodLeaf states ⊎ ((par.end ≡ None) × AnswersOneOf (node + 1) states e)) (node_of e == node) (par_at kinds par states e)
        (par_stepped kinds par (step_subs kinds (node + 1) states call e m)) (λ here h. inl h)
        (lift (HaveGoodLeaf states) (AnswersOneOf (node + 1) states e) (HaveGoodLeaf (step_subs kinds (node + 1) states call e m).states) (subs-step-from (node + 1) states call e m)
        (HaveGoodLeaf states) ((par.end ≡ None) × AnswersOneOf (node + 1) states e) (λ p. p) (λ q. (none, q))))
        g
    step-from node (sel_state sel states) call e m g =
        from-open (HaveGoodLeaf states ⊎ ((sel.end ≡ None) × AnswersOneOf (node + 1) states e)) sel.end (sel_state sel states) _ (λ h. inl h)
        (λ none. from-either (HaveGoodLeaf states ⊎ ((sel.end ≡ None) × AnswersOneOf (node + 1) states e)) (node_of e == node) (sel_at sel states e)
        (sel_stepped sel (step_tries kinds (node + 1) states call e m sel.request)) (λ here h. inl h)
        (lift (HaveGoodLeaf states) (AnswersOneOf (node + 1) states e) (HaveGoodLeaf (step_tries kinds (node + 1) states call e m sel.request).states)
        (tries-step-from (node + 1) states call e m sel.request) (HaveGoodLeaf states) ((sel.end ≡ None) × AnswersOneOf (node + 1) states e) (λ p. p) (λ q. (none, q))))
        g

    subs-step-from : (node : ℕ) (states : States M G) (call : ℕ) (e : Event) (m : ℕ) → AreFrom (HaveGoodLeaf states ⊎ AnswersOneOf node states e) (step_subs kinds node states call e m)
    subs-step-from node last_state call e m g = absurd g
    subs-step-from node (state_then state states) call e m g =
        from-below (HaveGoodLeaf (state_then state states) ⊎ AnswersOneOf node (state_then state states) e) (nat_lt (node_of e) (node + size state)) _ _
        (λ h. from-then (HaveGoodLeaf (state_then state states) ⊎ AnswersOneOf node (state_then state states) e) (step_at kinds node state call e m).state states
        (lift (HasGoodLeaf state) (Answers node state e) (HasGoodLeaf (step_at kinds node state call e m).state) (step-from node state call e m) (HaveGoodLeaf (state_then state states))
        (AnswersOneOf node (state_then state states) e) (λ p. inl p) (λ q. inl q))
        (λ p. inl (inr p)) h)
        (λ h. from-then (HaveGoodLeaf (state_then state states) ⊎ AnswersOneOf node (state_then state states) e) state (step_subs kinds (node + size state) states call e m).states (λ p. inl (inl p))
        (lift (HaveGoodLeaf states) (AnswersOneOf (node + size state) states e) (HaveGoodLeaf (step_subs kinds (node + size state) states call e m).states)
        (subs-step-from (node + size state) states call e m) (HaveGoodLeaf (state_then state states)) (AnswersOneOf node (state_then state states) e) (λ p. inr p) (λ q. inr q)) h)
        g

    tries-step-from : (node : ℕ) (states : States M G) (call : ℕ) (e : Event) (m : ℕ) (request : List ℕ)
        → AreFrom (HaveGoodLeaf states ⊎ AnswersOneOf node states e) (step_tries kinds node states call e m request)
    tries-step-from node last_state call e m request g = absurd g
    tries-step-from node (state_then state states) call e m request g =
        let run = step_at kinds node state call e m in
        from-below (HaveGoodLeaf (state_then state states) ⊎ AnswersOneOf node (state_then state states) e) (nat_lt (node_of e) (node + size state)) _ _
        (from-try (HaveGoodLeaf (state_then state states) ⊎ AnswersOneOf node (state_then state states) e) run states (start_waiting kinds (node + size state) states call request m)
        (new_end (end_of state) (end_of run.state))
        (lift (HasGoodLeaf state) (Answers node state e) (HasGoodLeaf (step_at kinds node state call e m).state) (step-from node state call e m) (HaveGoodLeaf (state_then state states))
        (AnswersOneOf node (state_then state states) e) (λ p. inl p) (λ q. inl q))
        (λ p. inl (inr p)) (λ p. inl (inr (waiting-from (node + size state) states call request m p))))
        (λ h. from-then (HaveGoodLeaf (state_then state states) ⊎ AnswersOneOf node (state_then state states) e) state (step_tries kinds (node + size state) states call e m request).states
        (λ p. inl (inl p))
        (lift (HaveGoodLeaf states) (AnswersOneOf (node + size state) states e) (HaveGoodLeaf (step_tries kinds (node + size state) states call e m request).states)
        (tries-step-from (node + size state) states call e m request) (HaveGoodLeaf (state_then state states)) (AnswersOneOf node (state_then state states) e) (λ p. inr p) (λ q. inr q)) h)
        g

  -- ---- a run

  cancelled-from : (state : State M G) → HasGoodLeaf (cancelled state) → HasGoodLeaf state
  cancelled-from (waits plan) g = g
  cancelled-from (leaf_state chan request leaf) g = by leaf.end refl g
    where
      by : (o : Option End) → leaf.end ≡ o → HasGoodLeaf {M = M} {G = G} (cancelled (leaf_state chan request leaf)) → IsGood leaf.end
      by None e h = absurd (rw e at h)
      by (Some end) e h = subst IsGood (sym e) (rw e at h)
  cancelled-from (par_state par states) g = g
  cancelled-from (sel_state sel states) g = g

  call-step-from : (call : ℕ) (state : State M G) (e : Event) (m : ℕ) → From (HasGoodLeaf state ⊎ Answers 0 state e) (step kinds call state e m)
  call-step-from call state (event.Reply node attempt code text) m g = step-from 0 state call (event.Reply node attempt code text) m g
  call-step-from call state (event.Lost node attempt code) m g = step-from 0 state call (event.Lost node attempt code) m g
  call-step-from call state (event.Backup node) m g = step-from 0 state call (event.Backup node) m g
  call-step-from call state (event.Deadline node) m g = step-from 0 state call (event.Deadline node) m g
  call-step-from call state event.Cancel m g = inl (cancelled-from state g)

  -- A run reaches a good leaf from a good leaf, or by a live reply.
  pub run-from : (call : ℕ) (events : List (Event × ℕ)) (run : Run M G) → HasGoodLeaf (fold (λ (r : Run M G) timed. and_then r (step kinds call r.state timed.0 timed.1)) run events).state
      → HasGoodLeaf run.state ⊎ HasLiveReply kinds call run.state events
  run-from call [] run g = inl g
  run-from call (timed ∷ events) run g = by (run-from call events (and_then run (step kinds call run.state timed.0 timed.1)) g) (call-step-from call run.state timed.0 timed.1)
    where
      by : HasGoodLeaf (step kinds call run.state timed.0 timed.1).state ⊎ HasLiveReply kinds call (step kinds call run.state timed.0 timed.1).state events
          → (HasGoodLeaf (step kinds call run.state timed.0 timed.1).state → HasGoodLeaf run.state ⊎ Answers 0 run.state timed.0)
          → HasGoodLeaf run.state ⊎ (Answers 0 run.state timed.0 ⊎ HasLiveReply kinds call (step kinds call run.state timed.0 timed.1).state events)
      by (inl h) f = lift (HasGoodLeaf run.state) (Answers 0 run.state timed.0) (HasGoodLeaf (step kinds call run.state timed.0 timed.1).state) f (HasGoodLeaf run.state)
          (Answers 0 run.state timed.0 ⊎ HasLiveReply kinds call (step kinds call run.state timed.0 timed.1).state events) (λ p. p) (λ q. inl q) h
      by (inr h) f = inr (inr h)
