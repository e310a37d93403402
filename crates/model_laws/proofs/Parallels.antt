-- Each parallel node of a call stands by its completions, wherever it is in the tree.
use Rattle.std.proofs.Common.{◌≡◌, ℕ, ◌+◌, inl, inr, Bool, true, false, cond, ◌==◌, fold, List, [], ◌∷◌, ◌++◌, length, Option, Some, None, arith, refl, ap, sym, ◌∙◌, subst}
use Rattle.std.proofs.lemmas.List.{append-nil, append_assoc}
use Rattle.std.proofs.lemmas.List.Sums.{fold-append}
use Rattle.rpc_model.specs.declared.codes.TheConstants.{ECANCELED}
use Rattle.rpc_model.specs.declared.event.End.{End}
use Rattle.rpc_model.specs.declared.event.End.TheVariants.{Bad}
use Rattle.rpc_model.specs.declared.event.Event.{Event}
use Rattle.rpc_model.specs.declared.event.Event.TheVariants as event
use Rattle.rpc_model.specs.Kinds.{Kinds}
use Rattle.rpc_model.specs.Plan.{Rule, Plan, par_plan, Plans}
use Rattle.rpc_model.specs.Parallel.{limits, mapped, refused, par_end, par_deadline, ends_from}
use Rattle.rpc_model.specs.State.{Par, State, waits, leaf_state, par_state, sel_state, States, Run, ends_of, waiting_states, quiet, and_then}
use Rattle.rpc_model.specs.Machine.{par_run, par_started, start_at, start_subs, node_of, is_deadline, while_open, par_stepped, step_subs, step_at, step, start, machine, cancelled}
use Rattle.model_laws.specs.Paths.{children, node_at, number_at}
use Rattle.model_laws.specs.Completions.{newly, newly_at, children_at, count_of, completions_from, completions, IsOpen, CameTo, EndsBy, StandsBy, NodeStandsBy, ParallelNodesStandByCompletions}
use Rattle.model_laws.proofs.Ended.{node-ended}
use Rattle.model_laws.proofs.Even.{plan-even, node-even}
use Rattle.model_laws.proofs.Completions.{IsJudged, AreDone, newly-same, step-judged, start-judged, ends-waiting}
use Rattle.model_laws.proofs.Paths.{NodeMoved, AtMoved, step-moved, start-moved, node-numbered}

-- an event that is a deadline of this node
deadline-is : (e : Event) (number : ℕ) → (node_of e == number) ≡ true → is_deadline e ≡ true → e ≡ event.Deadline number
deadline-is (event.Reply node attempt code text) number here due = absurd (cc)
deadline-is (event.Lost node attempt code) number here due = absurd (cc)
deadline-is (event.Backup node) number here due = absurd (cc)
deadline-is (event.Deadline node) number here due = let same : node ≡ number = grind arith in ap event.Deadline same
deadline-is event.Cancel number here due = absurd (cc)

-- what came to the node before a step, and what with the step's event
module _ {M G : Type 0} (kinds : Kinds M G) (path : List ℕ) (number : ℕ) (rule : Rule M G) (plans : Plans M G) (Came Comes : Event → List (ℕ × End) → Type 0)
    (keep : (x : Event) (done : List (ℕ × End)) → Came x done → Comes x done) where
  -- how a node stands after it went from one state to another
  abbrev Goes : List (ℕ × End) → State M G → State M G → Type 0
  Goes done before now = NodeStandsBy kinds path number rule Comes plans (newly 0 (children before) (children now) done) (Some now)

  keep-ends : (request : List ℕ) (done : List (ℕ × End)) (end : Option End) → EndsBy kinds path number rule Came request done end → EndsBy kinds path number rule Comes request done end
  keep-ends request done end (inl e) = inl e
  keep-ends request done end (inr (inl (before, e, came))) = inr (inl (before, e, keep (event.Deadline number) done came))
  keep-ends request done end (inr (inr (inl h))) = inr (inr (inl h))
  keep-ends request done end (inr (inr (inr (root, before, e, came)))) = inr (inr (inr (root, before, e, keep event.Cancel done came)))

  keep-stands : (done : List (ℕ × End)) (node : State M G) → NodeStandsBy kinds path number rule Came plans done (Some node) → NodeStandsBy kinds path number rule Comes plans done (Some node)
  keep-stands done (waits plan) h = h
  keep-stands done (leaf_state chan request leaf) h = h
  keep-stands done (par_state par states) h =
      record { request = h.request; same_limits = h.same_limits; same_merges = h.same_merges; by_index = h.by_index; ends = keep-ends h.request done par.end h.ends }
  keep-stands done (sel_state sel states) h = h

  goes-same : (done : List (ℕ × End)) (before now : State M G) → NodeStandsBy kinds path number rule Came plans done (Some before) → now ≡ before → Goes done before now
  goes-same done before now h same =
      subst (λ s. Goes done before s) (sym same)
      (subst (λ ds. NodeStandsBy kinds path number rule Comes plans ds (Some before)) (sym (newly-same kinds 0 (children before) done)) (keep-stands done before h))

  -- ---- an open node

  by-judged : (done : List (ℕ × End)) (request : List ℕ) (now : State M G) → AreDone kinds (limits rule (mapped kinds.map rule.maps request)) rule.merges done now
      → NodeStandsBy kinds path number rule Comes plans done (Some now)
  by-judged done request (waits plan) h = absurd h
  by-judged done request (leaf_state chan q leaf) h = absurd h
  by-judged done request (par_state par states) h = record { request = request; same_limits = h.same_limits; same_merges = h.same_merges; by_index = h.by_index; ends = inl h.judgement }
  by-judged done request (sel_state sel states) h = absurd h

  -- an open node is one that its completions brought no end
  open-judged : (done : List (ℕ × End)) (par : Par G) (states : States M G) (h : StandsBy kinds path number rule Came done par states) → par.end ≡ None
      → EndsBy kinds path number rule Came h.request done par.end → IsJudged kinds (limits rule (mapped kinds.map rule.maps h.request)) rule.merges done par states
  open-judged done par states h none (inl e) = record { same_limits = h.same_limits; same_merges = h.same_merges; by_index = h.by_index; judgement = e }
  open-judged done par states h none (inr (inl (before, e, came))) = absurd (cc)
  open-judged done par states h none (inr (inr (inl (empty, e)))) =
      record {
        same_limits = h.same_limits;
        same_merges = h.same_merges;
        by_index = h.by_index;
        judgement = none ∙ sym
            (ap (par_end kinds (limits rule (mapped kinds.map rule.maps h.request)) rule.merges) empty);
      }
  open-judged done par states h none (inr (inr (inr (root, before, e, came)))) = absurd (cc)

  goes-deadline : (done : List (ℕ × End)) (par : Par G) (states : States M G) (h : StandsBy kinds path number rule Came done par states) (end : Option End) → par.end ≡ None
      → IsJudged kinds (limits rule (mapped kinds.map rule.maps h.request)) rule.merges done par states → Comes (event.Deadline number) done
      → end ≡ Some (par_deadline kinds (limits rule (mapped kinds.map rule.maps h.request)) rule.merges (ends_from 0 (length rule.merges) done))
      → Goes done (par_state par states) (par_state (record par { end = end }) states)
  goes-deadline done par states h end none j came e =
      subst (λ ds. StandsBy kinds path number rule Comes ds (record par { end = end }) states) (sym (newly-same kinds 0 states done))
      (record { request = h.request; same_limits = h.same_limits; same_merges = h.same_merges; by_index = h.by_index; ends = inr (inl (sym j.judgement ∙ none, e, came)) })

  goes-open : (done : List (ℕ × End)) (par : Par G) (states : States M G) (call : ℕ) (e : Event) (m : ℕ) (h : StandsBy kinds path number rule Came done par states) → Comes e done
      → par.end ≡ None → Goes done (par_state par states) (step_at kinds number (par_state par states) call e m).state
  goes-open done par states call e m h came none = by (node_of e == number) (is_deadline e) refl refl
    where
      j : IsJudged kinds (limits rule (mapped kinds.map rule.maps h.request)) rule.merges done par states
      j = open-judged done par states h none h.ends

      now : State M G
      now = (step_at kinds number (par_state par states) call e m).state

      -- the same by the node's end, whether the event is at it, and whether it is a deadline
      stepped_by : Option End → Bool → Bool → State M G
      stepped_by o v w =
          (while_open o (par_state par states) (cond v (quiet (par_state (cond w (record par { end = Some (par_deadline kinds par.limits par.merges (ends_of states)) }) par) states))
          (par_stepped kinds par (step_subs kinds (number + 1) states call e m)))).state

      others : ((node_of e == number) ≡ true → is_deadline e ≡ false) → Goes done (par_state par states) now
      others h' = by-judged (newly 0 states (children now) done) h.request now (step-judged kinds
          (limits rule (mapped kinds.map rule.maps h.request)) rule.merges done number par states call e m j h')

      by : (v w : Bool) → (node_of e == number) ≡ v → is_deadline e ≡ w → Goes done (par_state par states) now
      by false w here due = others (λ yes. absurd (let both = sym here ∙ yes in cc))
      by true false here due = others (λ yes. due)
      by true true here due =
          let lim = limits rule (mapped kinds.map rule.maps h.request) in
          let late : Option End = Some (par_deadline kinds par.limits par.merges (ends_of states)) in
          let same : late ≡ Some (par_deadline kinds lim rule.merges (ends_from 0 (length rule.merges) done)) =
          ap (λ l. Some (par_deadline kinds l par.merges (ends_of states))) j.same_limits
          ∙ ap (λ ms. Some (par_deadline kinds lim ms (ends_of states))) j.same_merges
          ∙ ap (λ os. Some (par_deadline kinds lim rule.merges os)) j.by_index in
          let its : Comes (event.Deadline number) done = subst (λ x. Comes x done) (deadline-is e number here due) came in
          subst (λ o. Goes done (par_state par states) (stepped_by o (node_of e == number) (is_deadline e))) (sym none)
          (subst (λ v. Goes done (par_state par states) (stepped_by None v (is_deadline e))) (sym here)
          (subst (λ w. Goes done (par_state par states) (stepped_by None true w)) (sym due) (goes-deadline done par states h late none j its same)))

  -- ---- what moved

  -- the event of the step, where it came to the node while that was open
  abbrev ComesIfOpen : Event → State M G → List (ℕ × End) → Type 0
  ComesIfOpen e before done = IsOpen (Some before) → Comes e done

  goes-stepped : (done : List (ℕ × End)) (before : State M G) (call : ℕ) (e : Event) (m : ℕ) → ComesIfOpen e before done → NodeStandsBy kinds path number rule Came plans done (Some before)
      → Goes done before (step_at kinds number before call e m).state
  goes-stepped done (waits plan) call e m came h = goes-same done (waits plan) (waits plan) h refl
  goes-stepped done (leaf_state chan q leaf) call e m came h = absurd h
  goes-stepped done (par_state par states) call e m came h = by par.end refl
    where
      by : (o : Option End) → par.end ≡ o → Goes done (par_state par states) (step_at kinds number (par_state par states) call e m).state
      by None none = goes-open done par states call e m h (came none) none
      by (Some end) is = goes-same done (par_state par states) _ h (node-ended kinds number (par_state par states) call e m end is)
  goes-stepped done (sel_state sel states) call e m came h = absurd h

  goes-refused : (request : List ℕ) (call m : ℕ) (end : End) → count_of plans ≡ length rule.merges → refused (mapped kinds.map rule.maps request) ≡ Some end
      → NodeStandsBy kinds path number rule Comes plans (newly 0 (waiting_states plans) (children (start_at kinds number (par_plan rule plans) call request m).state) [])
      (Some (start_at kinds number (par_plan rule plans) call request m).state)
  goes-refused request call m end counts is =
      let asked = mapped kinds.map rule.maps request in
      let lim = limits rule asked in
      let below = start_subs kinds (number + 1) plans call asked lim rule.merges m [] in
      subst (λ o. let now = (par_run number rule.timeout m lim rule.merges (par_started plans below o)).state in NodeStandsBy kinds path number rule Comes plans
      (newly 0 (waiting_states plans) (children now) []) (Some now)) (sym is)
      (subst (λ ds. StandsBy kinds path number rule Comes ds (record { limits = lim; merges = rule.merges; end = Some end }) (waiting_states plans))
      (sym (newly-same kinds 0 (waiting_states plans) []))
      (record { request = request; same_limits = refl; same_merges = refl; by_index = sym (ends-waiting kinds 0 (length rule.merges) plans counts); ends = inr (inr (inl (refl, sym is))) }))

  goes-begun : (request : List ℕ) (call m : ℕ) → count_of plans ≡ length rule.merges
      → NodeStandsBy kinds path number rule Comes plans (newly 0 (waiting_states plans) (children (start_at kinds number (par_plan rule plans) call request m).state) [])
      (Some (start_at kinds number (par_plan rule plans) call request m).state)
  goes-begun request call m counts = by (refused (mapped kinds.map rule.maps request)) refl
    where
      now : State M G
      now = (start_at kinds number (par_plan rule plans) call request m).state

      by : (o : Option End) → refused (mapped kinds.map rule.maps request) ≡ o
          → NodeStandsBy kinds path number rule Comes plans (newly 0 (waiting_states plans) (children now) []) (Some now)
      by None none = by-judged (newly 0 (waiting_states plans) (children now) []) request now (start-judged kinds number rule plans call request m counts none)
      by (Some end) is = goes-refused request call m end counts is

  goes-started : (done : List (ℕ × End)) (plan : Plan M G) (before : State M G) (request : List ℕ) (call m : ℕ) → count_of plans ≡ length rule.merges
      → NodeStandsBy kinds path number rule Came plans done (Some before) → before ≡ waits plan
      → Goes done before (start_at kinds number plan call request m).state
  goes-started done plan (waits p) request call m counts h was =
      let same : p ≡ plan = cc in
      let is : plan ≡ par_plan rule plans = sym same ∙ h.0 in
      subst (λ q. Goes done (waits q) (start_at kinds number plan call request m).state) (sym same)
      (subst (λ q. Goes done (waits q) (start_at kinds number q call request m).state) (sym is)
      (subst (λ ds. Goes ds (waits (par_plan rule plans)) (start_at kinds number (par_plan rule plans) call request m).state) (sym h.1) (goes-begun request call m counts)))
  goes-started done plan (leaf_state chan q leaf) request call m counts h was = absurd h
  goes-started done plan (par_state par states) request call m counts h was = absurd (cc)
  goes-started done plan (sel_state sel states) request call m counts h was = absurd h

  goes-cancelled : (done : List (ℕ × End)) (before : State M G) → path ≡ [] → ComesIfOpen event.Cancel before done → NodeStandsBy kinds path number rule Came plans done (Some before)
      → Goes done before (cancelled before)
  goes-cancelled done (waits plan) root came h = goes-same done (waits plan) (waits plan) h refl
  goes-cancelled done (leaf_state chan q leaf) root came h = absurd h
  goes-cancelled done (par_state par states) root came h = by par.end refl
    where
      by : (o : Option End) → par.end ≡ o → Goes done (par_state par states) (cancelled (par_state par states))
      by None none =
          let j = open-judged done par states h none h.ends in
          let ends = inr (inr (inr (root, sym j.judgement ∙ none, refl, came none))) in
          rw none (subst (λ ds. StandsBy kinds path number rule Comes ds (record par { end = Some (Bad ECANCELED) }) states) (sym (newly-same kinds 0 states done))
          (record { request = h.request; same_limits = h.same_limits; same_merges = h.same_merges; by_index = h.by_index; ends = ends }))
      by (Some end) is = goes-same done (par_state par states) (cancelled (par_state par states)) h (rw is refl)
  goes-cancelled done (sel_state sel states) root came h = absurd h

  goes-moved : (done : List (ℕ × End)) (call : ℕ) (e : Event) (m : ℕ) (before now : State M G) → count_of plans ≡ length rule.merges → ComesIfOpen e before done
      → NodeStandsBy kinds path number rule Came plans done (Some before) → NodeMoved kinds call number path e m before now → Goes done before now
  goes-moved done call e m before now counts came h (inl (inl same)) = goes-same done before now h same
  goes-moved done call e m before now counts came h (inl (inr (inl is))) = subst (Goes done before) (sym is) (goes-stepped done before call e m came h)
  goes-moved done call e m before now counts came h (inl (inr (inr (plan, request, was, is)))) = subst (Goes done before) (sym is)
      (goes-started done plan before request call m counts h was)
  goes-moved done call e m before now counts came h (inr (root, cancel, is)) =
      subst (Goes done before) (sym is) (goes-cancelled done before root (subst (λ x. ComesIfOpen x before done) cancel came) h)

  pub at-goes : (done : List (ℕ × End)) (call : ℕ) (e : Event) (m : ℕ) (o p : Option (State M G)) → count_of plans ≡ length rule.merges → (IsOpen o → Comes e done)
      → NodeStandsBy kinds path number rule Came plans done o → AtMoved kinds call number path e m o p
      → NodeStandsBy kinds path number rule Comes plans (newly 0 (children_at o) (children_at p) done) p
  at-goes done call e m None p counts came h moved = absurd h
  at-goes done call e m (Some before) None counts came h moved = absurd moved
  at-goes done call e m (Some before) (Some now) counts came h moved = goes-moved done call e m before now counts came h moved

-- ---- a run

module _ {M G : Type 0} (kinds : Kinds M G) (path : List ℕ) (rule : Rule M G) (plans : Plans M G) (plan : Plan M G) (call : ℕ) (request : List ℕ) (begun : ℕ) where
  abbrev StandsAfter : List (Event × ℕ) → Type 0
  StandsAfter events =
      NodeStandsBy kinds path (number_at 0 path (waits plan)) rule (CameTo kinds path plan call request begun events) plans (completions kinds path plan call request begun events)
      (node_at path (machine kinds plan call request begun events).state)

  completed-more : (past : List (Event × ℕ)) (timed : Event × ℕ) (run : Run M G) (done : List (ℕ × End))
      → let there = (fold (λ (r : Run M G) t. and_then r (step kinds call r.state t.0 t.1)) run past).state in
      completions_from kinds path call run.state (past ++ timed ∷ []) done
      ≡ newly_at path there (step kinds call there timed.0 timed.1).state (completions_from kinds path call run.state past done)
  completed-more [] timed run done = refl
  completed-more (t ∷ past) timed run done =
      let next = step kinds call run.state t.0 t.1 in
      completed-more past timed (and_then run next) (newly_at path run.state next.state done)

  came-more : (past : List (Event × ℕ)) (timed : Event × ℕ) (x : Event) (done : List (ℕ × End)) → CameTo kinds path plan call request begun past x done
      → CameTo kinds path plan call request begun (past ++ timed ∷ []) x done
  came-more past timed x done c = record {
    before = c.before;
    moment = c.moment;
    rest = c.rest ++ timed ∷ [];
    place = ap (λ xs. xs ++ timed ∷ []) c.place ∙ append_assoc c.before ((x, c.moment) ∷ c.rest) (timed ∷ []);
    open_ = c.open_;
    had = c.had;
  }

  came-now : (past : List (Event × ℕ)) (timed : Event × ℕ) → IsOpen (node_at path (machine kinds plan call request begun past).state)
      → CameTo kinds path plan call request begun (past ++ timed ∷ []) timed.0 (completions kinds path plan call request begun past)
  came-now past timed h = record { before = past; moment = timed.1; rest = []; place = refl; open_ = h; had = refl }

  one-more : (past : List (Event × ℕ)) (timed : Event × ℕ) → count_of plans ≡ length rule.merges → StandsAfter past → StandsAfter (past ++ timed ∷ [])
  one-more past timed counts h =
      let there = (machine kinds plan call request begun past).state in
      let Came = CameTo kinds path plan call request begun past in
      let Comes = CameTo kinds path plan call request begun (past ++ timed ∷ []) in
      let n = number_at 0 path (waits plan) in
      let moved : AtMoved kinds call n path timed.0 timed.1 (node_at path there) (node_at path (step kinds call there timed.0 timed.1).state) =
      subst (λ (k : ℕ). AtMoved kinds call k path timed.0 timed.1 (node_at path there) (node_at path (step kinds call there timed.0 timed.1).state))
      (node-numbered kinds call path plan request begun past) (step-moved kinds call path timed.0 timed.1 there) in
      let goes = at-goes kinds path n rule plans Came Comes (came-more past timed) (completions kinds path plan call request begun past) call timed.0 timed.1 (node_at path there)
      (node_at path (step kinds call there timed.0 timed.1).state) counts (came-now past timed) h moved in
      let first = start kinds plan call request begun in
      let run : (machine kinds plan call request begun (past ++ timed ∷ [])).state ≡ (step kinds call there timed.0 timed.1).state =
      ap (λ (r : Run M G). r.state) (fold-append (λ (r : Run M G) t. and_then r (step kinds call r.state t.0 t.1)) first past (timed ∷ [])) in
      subst (λ ds. NodeStandsBy kinds path n rule Comes plans ds (node_at path (machine kinds plan call request begun (past ++ timed ∷ [])).state))
      (sym (completed-more past timed first (newly_at path (waits plan) first.state [])))
      (subst (λ s. NodeStandsBy kinds path n rule Comes plans (newly_at path there (step kinds call there timed.0 timed.1).state (completions kinds path plan call request begun past))
      (node_at path s))
      (sym run) goes)

  all-more : (past events : List (Event × ℕ)) → count_of plans ≡ length rule.merges → StandsAfter past → StandsAfter (past ++ events)
  all-more past [] counts h = subst StandsAfter (sym (append-nil past)) h
  all-more past (timed ∷ events) counts h =
      subst StandsAfter (append_assoc past (timed ∷ []) events) (all-more (past ++ timed ∷ []) events counts (one-more past timed counts h))

  at-first : node_at path (waits plan) ≡ Some (waits (par_plan rule plans)) → count_of plans ≡ length rule.merges → StandsAfter []
  at-first is counts =
      let n = number_at 0 path (waits plan) in
      let Never : Event → List (ℕ × End) → Type 0 = λ x done. ⊥ in
      at-goes kinds path n rule plans Never (CameTo kinds path plan call request begun []) (λ x done h. absurd h) [] call event.Cancel begun (node_at path (waits plan))
      (node_at path (start kinds plan call request begun).state) counts (λ h. absurd (subst IsOpen is h))
      (subst (NodeStandsBy kinds path n rule Never plans []) (sym is) (refl, refl)) (start-moved kinds call path plan request begun)

  pub node-stands : (events : List (Event × ℕ)) → node_at path (waits plan) ≡ Some (waits (par_plan rule plans)) → count_of plans ≡ length rule.merges → StandsAfter events
  node-stands events is counts = all-more [] events counts (at-first is counts)

module _ {M G : Type 0} (kinds : Kinds M G) where
  pub parallel-nodes : ParallelNodesStandByCompletions kinds
  parallel-nodes chans index call p path rule plans request begun events planned is =
      node-stands kinds path rule plans p call request begun events is (node-even path p rule plans (plan-even chans index call p planned) is)
