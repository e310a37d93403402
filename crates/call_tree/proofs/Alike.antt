-- The state that a start makes hangs on no number and no moment.
use Rattle.std.proofs.Common.{◌≡◌, ℕ, ◌+◌, List, [], ◌∷◌, ◌++◌, Option, Some, None, refl, ap, sym, ◌∙◌, subst}
use Rattle.rpc_model.specs.declared.event.End.{End}
use Rattle.rpc_model.specs.declared.mapper.Mapped.{Mapped}
use Rattle.rpc_model.specs.declared.mapper.Mapped.TheVariants as answer
use Rattle.rpc_model.specs.Kinds.{Kinds}
use Rattle.rpc_model.specs.Plan.{Plan, leaf_plan, par_plan, sel_plan, Plans, last_plan, plan_then}
use Rattle.rpc_model.specs.Versions.{nodes}
use Rattle.rpc_model.specs.Parallel.{mapped, refused, Limits, limits, judged}
use Rattle.rpc_model.specs.Selective.{next_try}
use Rattle.rpc_model.specs.State.{Par, Sel, State, waits, leaf_state, par_state, sel_state, States, last_state, state_then, Run, Below, end_of, waiting_states, beside}
use Rattle.rpc_model.specs.Machine.{par_started, sub_started, where_ended, try_ended, try_run, is_left, start_at, start_subs, start_tries, start_waiting}

module _ {M G : Type 0} where
  pub record AreAlike (b c : Below M G) : Type 0 where
    pub states : b.states ≡ c.states
    pub end : b.end ≡ c.end

  alike-beside : (s : State M G) (b c : Below M G) → AreAlike b c → AreAlike (beside s b) (beside s c)
  alike-beside s b c h = record { states = ap (state_then s) h.states; end = h.end }

  -- a first state and the ones behind it
  both : (s t : State M G) (ss ts : States M G) → s ≡ t → ss ≡ ts → state_then s ss ≡ state_then t ts
  both s t ss ts p q = ap (λ x. state_then x ss) p ∙ ap (state_then t) q

  alike-sub : (r q : Run M G) (plans : Plans M G) (b c : Below M G) (o : Option End) → r.state ≡ q.state → AreAlike b c → AreAlike (sub_started r plans b o) (sub_started q plans c o)
  alike-sub r q plans b c None h hs = record { states = both r.state q.state b.states c.states h hs.states; end = hs.end }
  alike-sub r q plans b c (Some end) h hs = record { states = ap (λ x. state_then x (waiting_states plans)) h; end = refl }

  alike-par : (plans : Plans M G) (b c : Below M G) (o : Option End) → AreAlike b c → AreAlike (par_started plans b o) (par_started plans c o)
  alike-par plans b c None h = h
  alike-par plans b c (Some end) h = record { states = refl; end = refl }

  alike-ended : (r q : Run M G) (states : States M G) (b c : Below M G) (o : Option End) → r.state ≡ q.state → AreAlike b c → AreAlike (try_ended r states b o) (try_ended q states c o)
  alike-ended r q states b c None h hs = record { states = both r.state q.state b.states c.states h hs.states; end = hs.end }
  alike-ended r q states b c (Some end) h hs = record { states = ap (λ x. state_then x states) h; end = refl }

  pub alike-try : (r q : Run M G) (states : States M G) (b c : Below M G) (o : Option End) → r.state ≡ q.state → AreAlike b c → AreAlike (try_run r states b o) (try_run q states c o)
  alike-try r q states b c None h hs = record { states = ap (λ x. state_then x states) h; end = refl }
  alike-try r q states b c (Some end) h hs = alike-ended r q states b c (next_try (is_left states) end) h hs

  par-is : (par : Par G) (o : Option End) (b c : Below M G) → AreAlike b c
      → (λ (x : Below M G). par_state (record par { end = x.end }) x.states) b ≡ (λ (x : Below M G). par_state (record par { end = x.end }) x.states) c
  par-is par o b c h = ap (λ e. par_state (record par { end = e }) b.states) h.end ∙ ap (par_state (record par { end = c.end })) h.states

  sel-is : (sel : Sel) (b c : Below M G) → AreAlike b c
      → (λ (x : Below M G). sel_state (record sel { end = x.end }) x.states) b ≡ (λ (x : Below M G). sel_state (record sel { end = x.end }) x.states) c
  sel-is sel b c h = ap (λ e. sel_state (record sel { end = e }) b.states) h.end ∙ ap (sel_state (record sel { end = c.end })) h.states

module _ {M G : Type 0} (kinds : Kinds M G) where
  -- the subs behind one, by the end that it has
  next-alike : (n : ℕ) (plans : Plans M G) (call : ℕ) (asked : List Mapped) (lim : Limits) (merges : List G) (m : ℕ) (ends : List (Option End)) (s t : State M G) (b : Below M G) → s ≡ t
      → AreAlike (start_subs kinds n plans call asked lim merges m (ends ++ end_of s ∷ [])) b → AreAlike (start_subs kinds n plans call asked lim merges m (ends ++ end_of t ∷ [])) b
  next-alike n plans call asked lim merges m ends s t b is h = subst (λ (x : State M G). AreAlike (start_subs kinds n plans call asked lim merges m (ends ++ end_of x ∷ [])) b) is h

  over-alike : (r q : Run M G) (plans : Plans M G) (b c : Below M G) (lim : Limits) (merges : List G) (ends : List (Option End)) → r.state ≡ q.state → AreAlike b c
      → AreAlike (sub_started r plans b (where_ended (end_of r.state) (judged kinds lim merges (ends ++ end_of r.state ∷ []))))
      (sub_started q plans c (where_ended (end_of q.state) (judged kinds lim merges (ends ++ end_of q.state ∷ []))))
  over-alike r q plans b c lim merges ends is h =
      subst (λ (x : State M G). AreAlike (sub_started r plans b (where_ended (end_of r.state) (judged kinds lim merges (ends ++ end_of r.state ∷ []))))
      (sub_started q plans c (where_ended (end_of x) (judged kinds lim merges (ends ++ end_of x ∷ []))))) is
      (alike-sub r q plans b c (where_ended (end_of r.state) (judged kinds lim merges (ends ++ end_of r.state ∷ []))) is h)

  pub tried-alike : (r q : Run M G) (states : States M G) (b c : Below M G) → r.state ≡ q.state → AreAlike b c → AreAlike (try_run r states b (end_of r.state)) (try_run q states c (end_of q.state))
  tried-alike r q states b c is h = subst (λ (x : State M G). AreAlike (try_run r states b (end_of r.state)) (try_run q states c (end_of x))) is (alike-try r q states b c (end_of r.state) is h)

  mutual
    pub start-alike : (n k : ℕ) (plan : Plan M G) (call other : ℕ) (request : List ℕ) (m w : ℕ) → (start_at kinds n plan call request m).state ≡ (start_at kinds k plan other request w).state
    start-alike n k (leaf_plan leaf) call other request m w = refl
    start-alike n k (par_plan rule plans) call other request m w =
        let asked = mapped kinds.map rule.maps request in
        let lim = limits rule asked in
        par-is (record { limits = lim; merges = rule.merges; end = None }) None
        (par_started plans (start_subs kinds (n + 1) plans call asked lim rule.merges m []) (refused asked))
        (par_started plans (start_subs kinds (k + 1) plans other asked lim rule.merges w []) (refused asked))
        (alike-par plans (start_subs kinds (n + 1) plans call asked lim rule.merges m []) (start_subs kinds (k + 1) plans other asked lim rule.merges w []) (refused asked)
        (subs-alike (n + 1) (k + 1) plans call other asked lim rule.merges m w []))
    start-alike n k (sel_plan timeout plans) call other request m w =
        sel-is (record { request = request; end = None }) (start_tries kinds (n + 1) plans call request m) (start_tries kinds (k + 1) plans other request w)
        (tries-alike (n + 1) (k + 1) plans call other request m w)

    subs-alike : (n k : ℕ) (plans : Plans M G) (call other : ℕ) (asked : List Mapped) (lim : Limits) (merges : List G) (m w : ℕ) (ends : List (Option End))
        → AreAlike (start_subs kinds n plans call asked lim merges m ends) (start_subs kinds k plans other asked lim merges w ends)
    subs-alike n k last_plan call other asked lim merges m w ends = record { states = refl; end = refl }
    subs-alike n k (plan_then plan plans) call other (answer.Send request ∷ asked) lim merges m w ends =
        let r = start_at kinds n plan call request m in
        let q = start_at kinds k plan other request w in
        let is = start-alike n k plan call other request m w in
        let next = start_subs kinds (k + nodes plan) plans other asked lim merges w (ends ++ end_of q.state ∷ []) in
        over-alike r q plans (start_subs kinds (n + nodes plan) plans call asked lim merges m (ends ++ end_of r.state ∷ [])) next lim merges ends is
        (next-alike (n + nodes plan) plans call asked lim merges m ends q.state r.state next (sym is)
        (subs-alike (n + nodes plan) (k + nodes plan) plans call other asked lim merges m w (ends ++ end_of q.state ∷ [])))
    subs-alike n k (plan_then plan plans) call other (answer.Skip ∷ asked) lim merges m w ends =
        alike-beside (waits plan) (start_subs kinds (n + nodes plan) plans call asked lim merges m (ends ++ None ∷ []))
        (start_subs kinds (k + nodes plan) plans other asked lim merges w (ends ++ None ∷ []))
        (subs-alike (n + nodes plan) (k + nodes plan) plans call other asked lim merges m w (ends ++ None ∷ []))
    subs-alike n k (plan_then plan plans) call other (answer.Bad ∷ asked) lim merges m w ends =
        alike-beside (waits plan) (start_subs kinds (n + nodes plan) plans call asked lim merges m (ends ++ None ∷ []))
        (start_subs kinds (k + nodes plan) plans other asked lim merges w (ends ++ None ∷ []))
        (subs-alike (n + nodes plan) (k + nodes plan) plans call other asked lim merges m w (ends ++ None ∷ []))
    subs-alike n k (plan_then plan plans) call other [] lim merges m w ends =
        alike-beside (waits plan) (start_subs kinds (n + nodes plan) plans call [] lim merges m (ends ++ None ∷ [])) (start_subs kinds (k + nodes plan) plans other [] lim merges w (ends ++ None ∷ []))
        (subs-alike (n + nodes plan) (k + nodes plan) plans call other [] lim merges m w (ends ++ None ∷ []))

    tries-alike : (n k : ℕ) (plans : Plans M G) (call other : ℕ) (request : List ℕ) (m w : ℕ) → AreAlike (start_tries kinds n plans call request m) (start_tries kinds k plans other request w)
    tries-alike n k last_plan call other request m w = record { states = refl; end = refl }
    tries-alike n k (plan_then plan plans) call other request m w =
        tried-alike (start_at kinds n plan call request m) (start_at kinds k plan other request w) (waiting_states plans)
        (start_tries kinds (n + nodes plan) plans call request m) (start_tries kinds (k + nodes plan) plans other request w)
        (start-alike n k plan call other request m w) (tries-alike (n + nodes plan) (k + nodes plan) plans call other request m w)

  pub waiting-alike : (n k : ℕ) (states : States M G) (call other : ℕ) (request : List ℕ) (m w : ℕ)
      → AreAlike (start_waiting kinds n states call request m) (start_waiting kinds k states other request w)
  waiting-alike n k last_state call other request m w = record { states = refl; end = refl }
  waiting-alike n k (state_then (waits plan) states) call other request m w =
      tried-alike (start_at kinds n plan call request m) (start_at kinds k plan other request w) states
      (start_waiting kinds (n + nodes plan) states call request m) (start_waiting kinds (k + nodes plan) states other request w)
      (start-alike n k plan call other request m w) (waiting-alike (n + nodes plan) (k + nodes plan) states call other request m w)
  waiting-alike n k (state_then (leaf_state chan q leaf) states) call other request m w = record { states = refl; end = refl }
  waiting-alike n k (state_then (par_state par below) states) call other request m w = record { states = refl; end = refl }
  waiting-alike n k (state_then (sel_state sel below) states) call other request m w = record { states = refl; end = refl }
