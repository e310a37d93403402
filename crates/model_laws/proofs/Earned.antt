-- A node with a good end has a leaf with one below it.
use Rattle.std.proofs.Common.{◌≡◌, ℕ, zero, suc, ◌+◌, ◌-◌, ◌<◌, ◌≤◌, ◌⊎◌, inl, inr, Bool, true, false, cond, ◌==◌, ◌||◌, ◌&&◌, not, nat_lt, nat_le, fold, count_by, List, [], ◌∷◌, ◌++◌}
use Rattle.std.proofs.Common.{Option, Some, None, is_none, arith, refl, ap, sym, ◌∙◌}
use Rattle.std.specs.List.{list_any}
use Rattle.std.proofs.lemmas.List.Sums.{sum_by-cons}
use Rattle.rpc_model.specs.declared.codes.TheConstants.{ECANCELED, EREQUEST, ETOOMANYFAILS, ERPCTIMEDOUT}
use Rattle.rpc_model.specs.declared.event.End.{End}
use Rattle.rpc_model.specs.declared.event.End.TheVariants.{Good, Bad}
use Rattle.rpc_model.specs.declared.event.Event.{Event}
use Rattle.rpc_model.specs.declared.event.Event.TheVariants as event
use Rattle.rpc_model.specs.Leaf.{leaf_step}
use Rattle.rpc_model.specs.declared.mapper.Mapped.{Mapped}
use Rattle.rpc_model.specs.declared.mapper.Mapped.TheVariants as answer
use Rattle.model_laws.specs.Earned.{IsGood, HasLiveReply, GoodEndsNeedALiveReply, HasGoodLeaf, HaveGoodLeaf}
use Rattle.model_laws.proofs.Replies.{start-from, run-from}
use Rattle.rpc_model.specs.Kinds.{Kinds}
use Rattle.rpc_model.specs.Plan.{Rule, Plan, leaf_plan, par_plan, sel_plan, Plans, last_plan, plan_then}
use Rattle.rpc_model.specs.Versions.{nodes}
use Rattle.rpc_model.specs.Parallel.{Limits, bads, count_good, fold_parts, goods, is_asked, is_bad, judged, limit, limits, mapped, par_deadline, parts_of, refused}
use Rattle.rpc_model.specs.Selective.{next_try}
use Rattle.rpc_model.specs.State.{State, waits, leaf_state, par_state, sel_state, States, last_state, state_then, Par, Sel, Run, Below, end_of, ends_of, waiting_states, quiet, and_then, size}
use Rattle.rpc_model.specs.Machine.{par_run, par_started, sub_started, where_ended, start_at, start_subs, start_tries, start, node_of, is_deadline, new_end, leaf_run, par_at, par_stepped}
use Rattle.rpc_model.specs.Machine.{sel_at, sel_stepped, step_tries, while_open, try_ended, try_run, is_left, start_waiting, step_at, step_subs, step, cancelled, machine}

module _ {M G : Type 0} (kinds : Kinds M G) where
  -- ---- limits

  pub record IsFit (lim : Limits) : Type 0 where
    pub fails : 1 ≤ lim.fail
    pub few : lim.fail ≤ lim.count
    pub oks : 1 ≤ lim.ok

  limit-fits : (n count : ℕ) → 1 ≤ count → (1 ≤ limit n count) × (limit n count ≤ count)
  limit-fits zero count h = (h, omega arith)
  limit-fits (suc n) count h = (grind arith, grind arith)

  counted : {X : Type 0} (p : X → Bool) (xs : List X) → list_any p xs ≡ true → 1 ≤ count_by p xs
  counted p [] h = absurd (cc)
  counted p (x ∷ xs) h = by (p x) refl (list_any p xs) refl (λ e. counted p xs e)
    where
      by : (v : Bool) → p x ≡ v → (w : Bool) → list_any p xs ≡ w → (list_any p xs ≡ true → 1 ≤ count_by p xs) → 1 ≤ count_by p (x ∷ xs)
      by true e w f again =
          let more = sum_by-cons (λ s. cond (p s) 1 0) x xs in
          let one : cond (p x) 1 0 ≡ 1 = ap {B = ℕ} (λ v. cond v 1 0) e in
          omega (arith, more, one)
      by false e true f again =
          let more = sum_by-cons (λ s. cond (p s) 1 0) x xs in
          let rest = again f in
          omega (arith, more, rest)
      by false e false f again =
          let none : (p x || list_any p xs) ≡ false = ap (λ v. v || list_any p xs) e ∙ f in
          absurd (let both : true ≡ false = sym h ∙ none in cc)

  refused-asks : (asked : List Mapped) (v w : Bool) → list_any is_bad asked ≡ v → list_any is_asked asked ≡ w → refused asked ≡ None → 1 ≤ count_by is_asked asked
  refused-asks asked true w ev ew h = absurd (let is = ap (λ v. cond v (Some (Bad EREQUEST)) (cond (list_any is_asked asked) None (Some (Bad ECANCELED)))) ev in let both = sym is ∙ h in cc)
  refused-asks asked false true ev ew h = counted is_asked asked ew
  refused-asks asked false false ev ew h =
      absurd (let is = ap (λ v. cond v (Some (Bad EREQUEST)) (cond (list_any is_asked asked) None (Some (Bad ECANCELED)))) ev ∙ ap (λ v. cond v None (Some (Bad ECANCELED))) ew in let both = sym is
      ∙ h in cc)

  limits-fit : (rule : Rule M G) (asked : List Mapped) → refused asked ≡ None → IsFit (limits rule asked)
  limits-fit rule asked h =
      let n = refused-asks asked (list_any is_bad asked) (list_any is_asked asked) refl refl h in
      let fail = limit-fits rule.fail (count_by is_asked asked) n in
      let ok = limit-fits rule.ok (count_by is_asked asked) n in
      record { fails = fail.0; few = fail.1; oks = ok.0 }

  -- ---- a good judgement

  judged-by : (lim : Limits) (fails oks : ℕ) (end : End) (u v w : Bool) → IsFit lim → nat_le lim.fail fails ≡ u → nat_le lim.ok oks ≡ v → nat_le lim.count (oks + fails) ≡ w
      → IsGood (cond u (Some (Bad ETOOMANYFAILS)) (cond (v || w) (Some end) None)) → 1 ≤ oks
  judged-by lim fails oks end true v w fit hu hv hw g = absurd g
  judged-by lim fails oks end false true w fit hu hv hw g = let a = fit.oks in let b : lim.ok ≤ oks = grind arith in omega (arith, a, b)
  judged-by lim fails oks end false false true fit hu hv hw g =
      let a = fit.few in
      let b : fails < lim.fail = grind arith in
      let c : lim.count ≤ oks + fails = grind arith in
      omega (arith, a, b, c)
  judged-by lim fails oks end false false false fit hu hv hw g = absurd g

  -- A good judgement has a good part.
  judged-good : (lim : Limits) (merges : List G) (ends : List (Option End)) → IsFit lim → IsGood (judged kinds lim merges ends) → 1 ≤ goods ends
  judged-good lim merges ends fit g =
      judged-by lim (bads ends) (goods ends) (fold_parts kinds.merge (parts_of merges ends) (bads ends) lim.fail) (nat_le lim.fail (bads ends)) (nat_le lim.ok (goods ends))
      (nat_le lim.count (goods ends + bads ends)) fit refl refl refl g

  deadline-by : (lim : Limits) (oks : ℕ) (end : End) (u : Bool) → IsFit lim → nat_le lim.fail (lim.count - oks) ≡ u → IsGood (Some (cond u (Bad ERPCTIMEDOUT) end)) → 1 ≤ oks
  deadline-by lim oks end true fit h g = absurd g
  deadline-by lim oks end false fit h g = let a = fit.few in let b : lim.count - oks < lim.fail = grind arith in omega (arith, a, b)

  deadline-good : (lim : Limits) (merges : List G) (ends : List (Option End)) → IsFit lim → IsGood (Some (par_deadline kinds lim merges ends)) → 1 ≤ goods ends
  deadline-good lim merges ends fit g =
      deadline-by lim (goods ends) (fold_parts kinds.merge (parts_of merges ends) (lim.count - goods ends) lim.fail) (nat_le lim.fail (lim.count - goods ends)) fit refl g

  -- ---- what holds of a tree

  -- each node with a good end has a leaf with one below it, and the limits of an open one are fit
  abbrev mutual
    pub IsEarned : State M G → Type 0
    IsEarned (waits plan) = Unit {0}
    IsEarned (leaf_state chan request leaf) = Unit {0}
    IsEarned (par_state par states) = (IsGood par.end → HaveGoodLeaf states) × (par.end ≡ None → IsFit par.limits) × AreEarned states
    IsEarned (sel_state sel states) = (IsGood sel.end → HaveGoodLeaf states) × AreEarned states

    pub AreEarned : States M G → Type 0
    AreEarned last_state = Unit {0}
    AreEarned (state_then state states) = IsEarned state × AreEarned states

  -- the subs' part, and what the end that they bring needs
  BelowEarned : Below M G → Type 0
  BelowEarned below = AreEarned below.states × (IsGood below.end → HaveGoodLeaf below.states)

  pub earned-end : (state : State M G) → IsEarned state → IsGood (end_of state) → HasGoodLeaf state
  earned-end (waits plan) h g = g
  earned-end (leaf_state chan request leaf) h g = g
  earned-end (par_state par states) h g = h.0 g
  earned-end (sel_state sel states) h g = h.0 g

  one-good : (o : Option End) (n : ℕ) → 1 ≤ count_good o n → IsGood o ⊎ (1 ≤ n)
  one-good None n h = inr h
  one-good (Some (Good text)) n h = inl tt
  one-good (Some (Bad code)) n h = inr h

  earned-goods : (states : States M G) → AreEarned states → 1 ≤ goods (ends_of states) → HaveGoodLeaf states
  earned-goods last_state h g = absurd (omega (arith, g))
  earned-goods (state_then state states) h g = by (one-good (end_of state) (goods (ends_of states)) g) (λ more. earned-goods states h.1 more)
    where
      by : IsGood (end_of state) ⊎ (1 ≤ goods (ends_of states)) → (1 ≤ goods (ends_of states) → HaveGoodLeaf states) → HasGoodLeaf state ⊎ HaveGoodLeaf states
      by (inl one) again = inl (earned-end state h.0 one)
      by (inr more) again = inr (again more)

  pub waiting-earned : (plans : Plans M G) → AreEarned (waiting_states plans)
  waiting-earned last_plan = tt
  waiting-earned (plan_then plan plans) = (tt, waiting-earned plans)

  -- ---- the start

  -- at a start no end is good
  StartsEarned : Run M G → Type 0
  StartsEarned run = IsEarned run.state × (IsGood (end_of run.state) → ⊥)

  StartEarned : Below M G → Type 0
  StartEarned below = AreEarned below.states × (IsGood below.end → ⊥)

  where-good : (o up : Option End) → IsGood (where_ended o up) → IsGood up
  where-good None up g = absurd g
  where-good (Some end) up g = g

  good-not : (o : Option End) (n : ℕ) → n ≡ 0 → (IsGood o → ⊥) → count_good o n ≡ 0
  good-not None n e h = e
  good-not (Some (Good text)) n e h = absurd (h tt)
  good-not (Some (Bad code)) n e h = e

  goods-push : (ends : List (Option End)) (o : Option End) → goods ends ≡ 0 → (IsGood o → ⊥) → goods (ends ++ o ∷ []) ≡ 0
  goods-push [] o e h = good-not o 0 refl h
  goods-push (None ∷ ends) o e h = goods-push ends o e h
  goods-push (Some (Good text) ∷ ends) o e h = absurd (omega (arith, e))
  goods-push (Some (Bad code) ∷ ends) o e h = goods-push ends o e h

  next-good : (is_left : Bool) (end : End) → IsGood (next_try is_left end) → IsGood (Some end)
  next-good is_left (Good text) g = tt
  next-good is_left (Bad code) g = by (is_left && not (code == EREQUEST)) g
    where
      by : (v : Bool) → IsGood (cond v None (Some (Bad code))) → ⊥
      by true h = h
      by false h = h

  start-ended : (run : Run M G) (states : States M G) (next : Below M G) (o : Option End) → IsEarned run.state → (IsGood o → ⊥) → AreEarned states → StartEarned next
      → StartEarned (try_ended run states next o)
  unfolding StartEarned
  start-ended run states next None h bad_end hs hn = ((h, hn.0), hn.1)
  start-ended run states next (Some up) h bad_end hs hn = ((h, hs), bad_end)

  start-try : (run : Run M G) (states : States M G) (next : Below M G) (o : Option End) → IsEarned run.state → (IsGood o → ⊥) → AreEarned states → StartEarned next
      → StartEarned (try_run run states next o)
  unfolding StartEarned
  start-try run states next None h bad_end hs hn = ((h, hs), λ g. g)
  start-try run states next (Some end) h bad_end hs hn = start-ended run states next (next_try (is_left states) end) h (λ g. bad_end (next-good (is_left states) end g)) hs hn

  start-sub : (run : Run M G) (plans : Plans M G) (next : Below M G) (o : Option End) → IsEarned run.state → (IsGood o → ⊥) → StartEarned next → StartEarned (sub_started run plans next o)
  unfolding StartEarned
  start-sub run plans next None h bad_end hn = ((h, hn.0), hn.1)
  start-sub run plans next (Some end) h bad_end hn = ((h, waiting-earned plans), bad_end)

  refused-bad : (asked : List Mapped) (v w : Bool) → IsGood (cond v (Some (Bad EREQUEST)) (cond w None (Some (Bad ECANCELED)))) → ⊥
  refused-bad asked true w g = g
  refused-bad asked false true g = g
  refused-bad asked false false g = g

  start-par : (node : ℕ) (timeout : Option ℕ) (m : ℕ) (lim : Limits) (merges : List G) (plans : Plans M G) (below : Below M G) (o : Option End) → (IsGood o → ⊥) → (o ≡ None → IsFit lim)
      → (IsFit lim → StartEarned below)
      → StartsEarned (par_run node timeout m lim merges (par_started plans below o))
  unfolding StartsEarned StartEarned
  start-par node timeout m lim merges plans below None bad_end fit h = let s = h (fit refl) in ((λ g. absurd (s.1 g), λ e. fit refl, s.0), s.1)
  start-par node timeout m lim merges plans below (Some end) bad_end fit h = ((λ g. absurd (bad_end g), λ e. absurd (cc), waiting-earned plans), bad_end)

  mutual
    unfolding StartsEarned StartEarned

    start-earned : (node : ℕ) (plan : Plan M G) (call : ℕ) (request : List ℕ) (m : ℕ) → StartsEarned (start_at kinds node plan call request m)
    start-earned node (leaf_plan leaf) call request m = (tt, λ g. g)
    start-earned node (par_plan rule plans) call request m =
        let asked = mapped kinds.map rule.maps request in
        let lim = limits rule asked in
        start-par node rule.timeout m lim rule.merges plans (start_subs kinds (node + 1) plans call asked lim rule.merges m []) (refused asked)
        (λ g. refused-bad asked (list_any is_bad asked) (list_any is_asked asked) g)
        (λ e. limits-fit rule asked e) (λ fit. start-subs-earned (node + 1) plans call asked lim rule.merges m [] fit refl)
    start-earned node (sel_plan timeout plans) call request m = let h = start-tries-earned (node + 1) plans call request m in ((λ g. absurd (h.1 g), h.0), h.1)

    start-subs-earned : (node : ℕ) (plans : Plans M G) (call : ℕ) (asked : List Mapped) (lim : Limits) (merges : List G) (m : ℕ) (ends : List (Option End)) → IsFit lim → goods ends ≡ 0
        → StartEarned (start_subs kinds node plans call asked lim merges m ends)
    start-subs-earned node last_plan call asked lim merges m ends fit none = (tt, λ g. g)
    start-subs-earned node (plan_then plan plans) call (answer.Send request ∷ asked) lim merges m ends fit none =
        let run = start_at kinds node plan call request m in
        let now = ends ++ end_of run.state ∷ [] in
        let h = start-earned node plan call request m in
        let still_none = goods-push ends (end_of run.state) none h.1 in
        start-sub run plans (start_subs kinds (node + nodes plan) plans call asked lim merges m now) (where_ended (end_of run.state) (judged kinds lim merges now)) h.0
        (λ g. let some = judged-good lim merges now fit (where-good (end_of run.state) (judged kinds lim merges now) g) in omega (arith, some, still_none))
        (start-subs-earned (node + nodes plan) plans call asked lim merges m now fit still_none)
    start-subs-earned node (plan_then plan plans) call (answer.Skip ∷ asked) lim merges m ends fit none =
        let h = start-subs-earned (node + nodes plan) plans call asked lim merges m (ends ++ None ∷ []) fit (goods-push ends None none (λ g. g)) in ((tt, h.0), h.1)
    start-subs-earned node (plan_then plan plans) call (answer.Bad ∷ asked) lim merges m ends fit none =
        let h = start-subs-earned (node + nodes plan) plans call asked lim merges m (ends ++ None ∷ []) fit (goods-push ends None none (λ g. g)) in ((tt, h.0), h.1)
    start-subs-earned node (plan_then plan plans) call [] lim merges m ends fit none =
        let h = start-subs-earned (node + nodes plan) plans call [] lim merges m (ends ++ None ∷ []) fit (goods-push ends None none (λ g. g)) in ((tt, h.0), h.1)

    start-tries-earned : (node : ℕ) (plans : Plans M G) (call : ℕ) (request : List ℕ) (m : ℕ) → StartEarned (start_tries kinds node plans call request m)
    start-tries-earned node last_plan call request m = (tt, λ g. g)
    start-tries-earned node (plan_then plan plans) call request m =
        let run = start_at kinds node plan call request m in
        let h = start-earned node plan call request m in
        start-try run (waiting_states plans) (start_tries kinds (node + nodes plan) plans call request m) (end_of run.state) h.0 h.1 (waiting-earned plans)
        (start-tries-earned (node + nodes plan) plans call request m)

  -- ---- a step

  below-ended : (run : Run M G) (states : States M G) (next : Below M G) (o : Option End) → IsEarned run.state → (IsGood o → HasGoodLeaf run.state) → AreEarned states → BelowEarned next
      → BelowEarned (try_ended run states next o)
  unfolding BelowEarned
  below-ended run states next None h up hs hn = ((h, hn.0), λ g. inr (hn.1 g))
  below-ended run states next (Some end) h up hs hn = ((h, hs), λ g. inl (up g))

  below-try : (run : Run M G) (states : States M G) (next : Below M G) (o : Option End) → IsEarned run.state → (IsGood o → HasGoodLeaf run.state) → AreEarned states → BelowEarned next
      → BelowEarned (try_run run states next o)
  unfolding BelowEarned
  below-try run states next None h up hs hn = ((h, hs), λ g. absurd g)
  below-try run states next (Some end) h up hs hn = below-ended run states next (next_try (is_left states) end) h (λ g. up (next-good (is_left states) end g)) hs hn

  waiting-step : (node : ℕ) (states : States M G) (call : ℕ) (request : List ℕ) (m : ℕ) → AreEarned states → BelowEarned (start_waiting kinds node states call request m)
  unfolding BelowEarned StartsEarned
  waiting-step node last_state call request m h = (tt, λ g. absurd g)
  waiting-step node (state_then (waits plan) states) call request m h =
      let run = start_at kinds node plan call request m in
      let s = start-earned node plan call request m in
      below-try run states (start_waiting kinds (node + nodes plan) states call request m) (end_of run.state) s.0 (λ g. absurd (s.1 g)) h.1
      (waiting-step (node + nodes plan) states call request m h.1)
  waiting-step node (state_then (leaf_state chan q leaf) states) call request m h = (h, λ g. absurd g)
  waiting-step node (state_then (par_state par below) states) call request m h = (h, λ g. absurd g)
  waiting-step node (state_then (sel_state sel below) states) call request m h = (h, λ g. absurd g)

  earned-either : (b : Bool) (p q : Run M G) → IsEarned p.state → IsEarned q.state → IsEarned (cond b p q).state
  earned-either true p q hp hq = hp
  earned-either false p q hp hq = hq

  below-either : (b : Bool) (p q : Below M G) → BelowEarned p → BelowEarned q → BelowEarned (cond b p q)
  below-either true p q hp hq = hp
  below-either false p q hp hq = hq

  earned-open : (o : Option End) (state : State M G) (run : Run M G) → IsEarned state → (o ≡ None → IsEarned run.state) → IsEarned (while_open o state run).state
  earned-open None state run h hs = hs refl
  earned-open (Some end) state run h hs = h

  new-good : (o p : Option End) → IsGood (new_end o p) → IsGood p
  new-good None p g = g
  new-good (Some end) p g = absurd g

  par-at-earned : (par : Par G) (states : States M G) (e : Event) (v : Bool) → IsEarned (par_state par states) → par.end ≡ None
      → IsEarned (par_state (cond v (record par { end = Some (par_deadline kinds par.limits par.merges (ends_of states)) }) par) states)
  par-at-earned par states e false h none = h
  par-at-earned par states e true h none = (λ g. earned-goods states h.2 (deadline-good par.limits par.merges (ends_of states) (h.1 none) g), λ no_end. absurd (cc), h.2)

  sel-at-earned : (sel : Sel) (states : States M G) (v : Bool) → IsEarned (sel_state sel states) → IsEarned (sel_state (cond v (record sel { end = Some (Bad ERPCTIMEDOUT) }) sel) states)
  sel-at-earned sel states false h = h
  sel-at-earned sel states true h = (λ g. absurd g, h.1)

  par-stepped-earned : (par : Par G) (below : Below M G) → IsFit par.limits → AreEarned below.states → IsEarned (par_stepped kinds par below).state
  par-stepped-earned par below fit h = (
    λ g. earned-goods below.states h (judged-good par.limits par.merges (ends_of below.states) fit
        (where-good below.end (judged kinds par.limits par.merges (ends_of below.states)) g)),
    λ e. fit,
    h,
  )

  mutual
    unfolding BelowEarned

    step-earned : (node : ℕ) (state : State M G) (call : ℕ) (e : Event) (m : ℕ) → IsEarned state → IsEarned (step_at kinds node state call e m).state
    step-earned node (waits plan) call e m h = tt
    step-earned node (leaf_state chan request leaf) call e m h =
        earned-either (node_of e == node) (leaf_run chan call node request leaf (leaf_step chan.retry leaf e)) (quiet (leaf_state chan request leaf)) tt tt
    step-earned node (par_state par states) call e m h =
        earned-open par.end (par_state par states) _ h
        (λ none. earned-either (node_of e == node) (par_at kinds par states e) (par_stepped kinds par (step_subs kinds (node + 1) states call e m))
        (par-at-earned par states e (is_deadline e) h none)
        (par-stepped-earned par (step_subs kinds (node + 1) states call e m) (h.1 none) (subs-step-earned (node + 1) states call e m h.2).0))
    step-earned node (sel_state sel states) call e m h =
        earned-open sel.end (sel_state sel states) _ h
        (λ none. earned-either (node_of e == node) (sel_at sel states e) (sel_stepped sel (step_tries kinds (node + 1) states call e m sel.request)) (sel-at-earned sel states (is_deadline e) h)
        (let t = tries-step-earned (node + 1) states call e m sel.request h.1 in (t.1, t.0)))

    subs-step-earned : (node : ℕ) (states : States M G) (call : ℕ) (e : Event) (m : ℕ) → AreEarned states → BelowEarned (step_subs kinds node states call e m)
    subs-step-earned node last_state call e m h = (tt, λ g. absurd g)
    subs-step-earned node (state_then state states) call e m h =
        let run = step_at kinds node state call e m in
        let one = step-earned node state call e m h.0 in
        let more = subs-step-earned (node + size state) states call e m h.1 in
        below-either (nat_lt (node_of e) (node + size state)) _ _ ((one, h.1), λ g. inl (earned-end run.state one (new-good (end_of state) (end_of run.state) g)))
        ((h.0, more.0), λ g. inr (more.1 g))

    tries-step-earned : (node : ℕ) (states : States M G) (call : ℕ) (e : Event) (m : ℕ) (request : List ℕ) → AreEarned states → BelowEarned (step_tries kinds node states call e m request)
    tries-step-earned node last_state call e m request h = (tt, λ g. absurd g)
    tries-step-earned node (state_then state states) call e m request h =
        let run = step_at kinds node state call e m in
        let one = step-earned node state call e m h.0 in
        let more = tries-step-earned (node + size state) states call e m request h.1 in
        below-either (nat_lt (node_of e) (node + size state)) _ _
        (below-try run states (start_waiting kinds (node + size state) states call request m) (new_end (end_of state) (end_of run.state)) one
        (λ g. earned-end run.state one (new-good (end_of state) (end_of run.state) g)) h.1 (waiting-step (node + size state) states call request m h.1))
        ((h.0, more.0), λ g. inr (more.1 g))

  -- ---- a run

  cancelled-earned : (state : State M G) → IsEarned state → IsEarned (cancelled state)
  cancelled-earned (waits plan) h = tt
  cancelled-earned (leaf_state chan request leaf) h = tt
  cancelled-earned (par_state par states) h = by (is_none par.end)
    where
      by : (v : Bool) → IsEarned (par_state (cond v (record par { end = Some (Bad ECANCELED) }) par) states)
      by true = (λ g. absurd g, λ e. absurd (cc), h.2)
      by false = h
  cancelled-earned (sel_state sel states) h = by (is_none sel.end)
    where
      by : (v : Bool) → IsEarned (sel_state (cond v (record sel { end = Some (Bad ECANCELED) }) sel) states)
      by true = (λ g. absurd g, h.1)
      by false = h

  call-step-earned : (call : ℕ) (state : State M G) (e : Event) (m : ℕ) → IsEarned state → IsEarned (step kinds call state e m).state
  call-step-earned call state (event.Reply node attempt code text) m h = step-earned 0 state call (event.Reply node attempt code text) m h
  call-step-earned call state (event.Lost node attempt code) m h = step-earned 0 state call (event.Lost node attempt code) m h
  call-step-earned call state (event.Backup node) m h = step-earned 0 state call (event.Backup node) m h
  call-step-earned call state (event.Deadline node) m h = step-earned 0 state call (event.Deadline node) m h
  call-step-earned call state event.Cancel m h = cancelled-earned state h

  run-earned : (call : ℕ) (events : List (Event × ℕ)) (run : Run M G) → IsEarned run.state
      → IsEarned (fold (λ (r : Run M G) timed. and_then r (step kinds call r.state timed.0 timed.1)) run events).state
  run-earned call [] run h = h
  run-earned call (timed ∷ events) run h = run-earned call events (and_then run (step kinds call run.state timed.0 timed.1)) (call-step-earned call run.state timed.0 timed.1 h)

  pub machine-earned : (plan : Plan M G) (call : ℕ) (request : List ℕ) (begun : ℕ) (events : List (Event × ℕ)) → IsEarned (machine kinds plan call request begun events).state
  unfolding StartsEarned
  machine-earned plan call request begun events = run-earned call events (start kinds plan call request begun) (start-earned 0 plan call request begun).0

  -- A call ends with a text only if a reply of code 0 came to an attempt that was live then.
  pub good-ends : GoodEndsNeedALiveReply kinds
  good-ends plan call request begun events good =
      let first = start kinds plan call request begun in
      let last = machine kinds plan call request begun events in
      by (run-from kinds call events first (earned-end last.state (machine-earned plan call request begun events) good))
    where
      by : HasGoodLeaf (start kinds plan call request begun).state ⊎ HasLiveReply kinds call (start kinds plan call request begun).state events
          → HasLiveReply kinds call (start kinds plan call request begun).state events
      by (inl h) = absurd (start-from kinds 0 plan call request begun h)
      by (inr h) = h
