-- What the told ends of a script rest on.
use Rattle.std.proofs.Common.{◌≡◌, ℕ, ◌+◌, ◌≤◌, ◌⊎◌, inl, inr, Bool, true, false, cond, ◌==◌, max, List, [], ◌∷◌, ◌++◌, Some, arith, refl, ap, sym, ◌∙◌, subst, slice_get}
use Rattle.std.proofs.lemmas.Bool.Decides.{nat_tests}
use Rattle.rpc_model.specs.declared.chan.LeafChan.{LeafChan}
use Rattle.rpc_model.specs.declared.event.End.TheVariants.{Good}
use Rattle.rpc_model.specs.declared.event.Event.{Event}
use Rattle.rpc_model.specs.declared.event.Event.TheVariants as event
use Rattle.rpc_model.specs.declared.script.Act.{Act}
use Rattle.rpc_model.specs.declared.script.Act.TheVariants.{Call, Cancel, Reply, Lose, Tick, Join}
use Rattle.rpc_model.specs.Leaf.{Leaf}
use Rattle.rpc_model.specs.declared.kinds.MapKind.{MapKind}
use Rattle.rpc_model.specs.declared.kinds.MergeKind.{MergeKind}
use Rattle.rpc_model.specs.declared.chan.Chan.{Chan}
use Rattle.rpc_model.specs.declared.chan.Chan.TheVariants as chan
use Rattle.rpc_model.specs.declared.mapper.Mapped.{Mapped}
use Rattle.rpc_model.specs.declared.mapper.Mapped.TheVariants as answer
use Rattle.rpc_model.specs.Kinds.{Kinds, script_kinds}
use Rattle.rpc_model.specs.Plan.{Plan, leaf_plan, par_plan, sel_plan, Plans, last_plan, plan_then, plan, plan_within, chan_plan}
use Rattle.rpc_model.specs.Versions.{possible_attempts, possible_attempts_of}
use Rattle.rpc_model.specs.Parallel.{mapped}
use Rattle.rpc_model.specs.State.{State, waits, leaf_state, par_state, sel_state, States, last_state, state_then, attempts, attempts_of, size}
use Rattle.rpc_model.specs.Machine.{start, step, machine}
use Rattle.rpc_model.specs.declared.script.Script.{Script}
use Rattle.rpc_model.specs.Told.{Replay, unbegun, after}
use Rattle.model_laws.specs.Earned.{IsGood, AnswersLeaf, Answers, AnswersOneOf, HasLiveReply}
use Rattle.model_laws.specs.Requests.{IsOf, SubsAreOf, TriesAreOf}
use Rattle.model_laws.specs.Leaves.{EachLeaf, EachLeafOf}
use Rattle.model_laws.specs.Logs.{own_event, own_events, after_all, is_mark, outer, EndsBy}
use Rattle.model_laws.specs.Heard.{IsReplyTo, HasReplyTo, TextsNeedAReply, ToldAttemptsAreFew}
use Rattle.model_laws.proofs.Leaves.{IssuedFew, attempts-few}
use Rattle.model_laws.proofs.Requests.{machine-of}
use Rattle.model_laws.proofs.Logs.{ends-are-the-machines}
use Rattle.model_laws.proofs.Earned.{good-ends}

-- ---- a live reply comes from a line

abbrev IsGoodReply : Event → Type 0
IsGoodReply (event.Reply node attempt code text) = code ≡ 0
IsGoodReply (event.Lost node attempt code) = ⊥
IsGoodReply (event.Backup node) = ⊥
IsGoodReply (event.Deadline node) = ⊥
IsGoodReply event.Cancel = ⊥

abbrev HasGoodReply : List (Event × ℕ) → Type 0
HasGoodReply [] = ⊥
HasGoodReply (timed ∷ events) = IsGoodReply timed.0 ⊎ HasGoodReply events

leaf-good : (node : ℕ) (leaf : Leaf) (e : Event) → AnswersLeaf node leaf e → IsGoodReply e
leaf-good node leaf (event.Reply n attempt code text) h = h.1
leaf-good node leaf (event.Lost n attempt code) h = h
leaf-good node leaf (event.Backup n) h = h
leaf-good node leaf (event.Deadline n) h = h
leaf-good node leaf event.Cancel h = h

module _ {M G : Type 0} (kinds : Kinds M G) where
  mutual
    answers-good : (node : ℕ) (state : State M G) (e : Event) → Answers node state e → IsGoodReply e
    answers-good node (waits plan) e h = absurd h
    answers-good node (leaf_state chan request leaf) e h = leaf-good node leaf e h
    answers-good node (par_state par states) e h = one-good (node + 1) states e h.1
    answers-good node (sel_state sel states) e h = one-good (node + 1) states e h.1

    one-good : (node : ℕ) (states : States M G) (e : Event) → AnswersOneOf node states e → IsGoodReply e
    one-good node last_state e h = absurd h
    one-good node (state_then state states) e (inl h) = answers-good node state e h
    one-good node (state_then state states) e (inr h) = one-good (node + size state) states e h

  live-good : (call : ℕ) (state : State M G) (events : List (Event × ℕ)) → HasLiveReply kinds call state events → HasGoodReply events
  live-good call state [] h = h
  live-good call state (timed ∷ events) (inl h) = inl (answers-good 0 state timed.0 h)
  live-good call state (timed ∷ events) (inr h) = inr (live-good call (step kinds call state timed.0 timed.1).state events h)

no-mark : (e : Event) → IsGoodReply e → is_mark e ≡ false
no-mark (event.Reply node attempt code text) h = refl
no-mark (event.Lost node attempt code) h = refl
no-mark (event.Backup node) h = absurd h
no-mark (event.Deadline node) h = absurd h
no-mark event.Cancel h = refl

outer-good : (events : List (Event × ℕ)) → HasGoodReply events → HasGoodReply (outer events)
outer-good [] h = h
outer-good (timed ∷ events) (inl h) = subst (λ v. HasGoodReply (cond v (outer events) (timed ∷ outer events))) (sym (no-mark timed.0 h)) (inl h)
outer-good (timed ∷ events) (inr h) =
    elim (is_mark timed.0) as (λ v. HasGoodReply (cond v (outer events) (timed ∷ outer events))) [ true ↦ outer-good events h | false ↦ inr (outer-good events h) ]

good-append : (xs ys : List (Event × ℕ)) → HasGoodReply (xs ++ ys) → HasGoodReply xs ⊎ HasGoodReply ys
good-append [] ys h = inr h
good-append (x ∷ xs) ys (inl h) = inl (inl h)
good-append (x ∷ xs) ys (inr h) = by (good-append xs ys h)
  where
    by : HasGoodReply xs ⊎ HasGoodReply ys → HasGoodReply (x ∷ xs) ⊎ HasGoodReply ys
    by (inl g) = inl (inr g)
    by (inr g) = inr g

own-reply : (c reached : ℕ) (act : Act) → HasGoodReply (own_event c reached act) → IsReplyTo c act
own-reply c reached (Call at call chan text) h = h
own-reply c reached (Cancel at call) h = by (call == c) h
  where
    by : (v : Bool) → HasGoodReply (cond v ((event.Cancel, max reached at) ∷ []) []) → ⊥
    by true (inl g) = g
    by true (inr g) = g
    by false g = g
own-reply c reached (Reply at call node attempt code text) h = by (call == c) refl h
  where
    by : (v : Bool) → (call == c) ≡ v → HasGoodReply (cond v ((event.Reply node attempt code text, max reached at) ∷ []) []) → (call ≡ c) × (code ≡ 0)
    by true e (inl g) = (grind (arith, nat_tests), g)
    by true e (inr g) = absurd g
    by false e g = absurd g
own-reply c reached (Lose at call node attempt code) h = by (call == c) h
  where
    by : (v : Bool) → HasGoodReply (cond v ((event.Lost node attempt code, max reached at) ∷ []) []) → ⊥
    by true (inl g) = g
    by true (inr g) = g
    by false g = g
own-reply c reached (Tick at) h = h
own-reply c reached (Join call) h = h

own-replies : (c : ℕ) (script : Script) (replay : Replay) (acts : List Act) → HasGoodReply (own_events c script replay acts) → HasReplyTo c acts
own-replies c script replay [] h = h
own-replies c script replay (act ∷ acts) h =
    by (good-append (own_event c replay.reached act) (own_events c script (after script replay act) acts) h) (λ g. own-replies c script (after script replay act) acts g)
  where
    by : HasGoodReply (own_event c replay.reached act) ⊎ HasGoodReply (own_events c script (after script replay act) acts)
        → (HasGoodReply (own_events c script (after script replay act) acts) → HasReplyTo c acts) → HasReplyTo c (act ∷ acts)
    by (inl g) again = inl (own-reply c replay.reached act g)
    by (inr g) again = inr (again g)

reply-before : (c : ℕ) (xs ys : List Act) → HasReplyTo c xs → HasReplyTo c (xs ++ ys)
reply-before c [] ys h = absurd h
reply-before c (x ∷ xs) ys (inl h) = inl h
reply-before c (x ∷ xs) ys (inr h) = inr (reply-before c xs ys h)

reply-behind : (c : ℕ) (xs ys : List Act) → HasReplyTo c ys → HasReplyTo c (xs ++ ys)
reply-behind c [] ys h = h
reply-behind c (x ∷ xs) ys h = inr (reply-behind c xs ys h)

reply-line : (script : Script) (c count : ℕ) (text : List ℕ) (e : EndsBy script unbegun script.acts c (Good text) count)
    → HasLiveReply script_kinds c (start script_kinds e.tree c e.text e.begun).state e.events → HasReplyTo c script.acts
reply-line script c count text e live =
    let replies = outer-good e.events (live-good script_kinds c (start script_kinds e.tree c e.text e.begun).state e.events live) in
    let own = own-replies c script (after_all script unbegun (e.before ++ Call e.at c e.chan e.text ∷ [])) e.between (subst HasGoodReply e.own replies) in
    let line = Call e.at c e.chan e.text ∷ e.between in
    let found = reply-before c (e.before ++ line) (Join c ∷ e.rest) (reply-behind c e.before line (inr own)) in
    subst (HasReplyTo c) (sym e.lines) found

pub texts-need : TextsNeedAReply
texts-need script c count text h =
    let e = ends-are-the-machines script c (Good text) count h in
    let live = good-ends script_kinds e.tree c e.text e.begun e.events (subst IsGood (sym e.ends) tt) in
    (reply-line script c count text e live, (e, live))

-- ---- attempts

module _ {M G : Type 0} (kinds : Kinds M G) where
  mutual
    few-of : (request : List ℕ) (plan : Plan M G) (state : State M G) → IsOf kinds request plan state → EachLeaf IssuedFew state → attempts state ≤ possible_attempts plan
    few-of request plan (waits p) h few = omega arith
    few-of request (leaf_plan chan) (leaf_state c q leaf) h few = let same = ap (λ (l : LeafChan). l.retry) h.0 in omega (arith, same, few)
    few-of request (par_plan rule plans) (leaf_state c q leaf) h few = absurd h
    few-of request (sel_plan timeout plans) (leaf_state c q leaf) h few = absurd h
    few-of request (leaf_plan chan) (par_state par states) h few = absurd h
    few-of request (par_plan rule plans) (par_state par states) h few = subs-few-of (mapped kinds.map rule.maps request) plans states h.2 few
    few-of request (sel_plan timeout plans) (par_state par states) h few = absurd h
    few-of request (leaf_plan chan) (sel_state sel states) h few = absurd h
    few-of request (par_plan rule plans) (sel_state sel states) h few = absurd h
    few-of request (sel_plan timeout plans) (sel_state sel states) h few = tries-few-of request plans states h.1 few

    subs-few-of : (asked : List Mapped) (plans : Plans M G) (states : States M G) → SubsAreOf kinds asked plans states → EachLeafOf IssuedFew states → attempts_of states ≤ possible_attempts_of plans
    subs-few-of asked last_plan last_state h few = omega arith
    subs-few-of asked (plan_then plan plans) last_state h few = absurd h
    subs-few-of asked last_plan (state_then state states) h few = absurd h
    subs-few-of (answer.Send request ∷ asked) (plan_then plan plans) (state_then state states) h few =
        let one = few-of request plan state h.0 few.0 in let more = subs-few-of asked plans states h.1 few.1 in omega (arith, one, more)
    subs-few-of (answer.Skip ∷ asked) (plan_then plan plans) (state_then state states) h few = let one = ap attempts h.0 in let more = subs-few-of asked plans states h.1 few.1 in omega
        (arith, one, more)
    subs-few-of (answer.Bad ∷ asked) (plan_then plan plans) (state_then state states) h few = let one = ap attempts h.0 in let more = subs-few-of asked plans states h.1 few.1 in omega
        (arith, one, more)
    subs-few-of [] (plan_then plan plans) (state_then state states) h few = let one = ap attempts h.0 in let more = subs-few-of [] plans states h.1 few.1 in omega (arith, one, more)

    tries-few-of : (request : List ℕ) (plans : Plans M G) (states : States M G) → TriesAreOf kinds request plans states → EachLeafOf IssuedFew states
        → attempts_of states ≤ possible_attempts_of plans
    tries-few-of request last_plan last_state h few = omega arith
    tries-few-of request (plan_then plan plans) last_state h few = absurd h
    tries-few-of request last_plan (state_then state states) h few = absurd h
    tries-few-of request (plan_then plan plans) (state_then state states) h few =
        let one = few-of request plan state h.0 few.0 in let more = tries-few-of request plans states h.1 few.1 in omega (arith, one, more)

  -- A call issues no more attempts than the leaves of its plan may.
  pub machine-few : (plan : Plan M G) (call : ℕ) (request : List ℕ) (begun : ℕ) (events : List (Event × ℕ)) → attempts (machine kinds plan call request begun events).state ≤ possible_attempts plan
  machine-few plan call request begun events =
      few-of request plan (machine kinds plan call request begun events).state (machine-of kinds plan call request begun events) (attempts-few kinds plan call request begun events)

plain-plan : (chans : List (Chan MapKind MergeKind)) (number call : ℕ) (tree : Plan MapKind MergeKind) (leaf : LeafChan) → plan chans number call ≡ Some tree → slice_get chans number
    ≡ Some (chan.Leaf leaf) → tree ≡ leaf_plan leaf
plain-plan chans number call tree leaf planned is =
    let same : plan chans number call ≡ Some (leaf_plan leaf) = ap (chan_plan (plan_within number chans call) call) is in
    let both : Some tree ≡ Some (leaf_plan leaf) = sym planned ∙ same in
    cc

pub told-few : ToldAttemptsAreFew
told-few script c count end h =
    let e = ends-are-the-machines script c end count h in
    let few = machine-few script_kinds e.tree c e.text e.begun e.events in
    let issued = e.issued in
    let at_most : count ≤ possible_attempts e.tree = omega (arith, issued, few) in
    (e, at_most, λ leaf is. let plain = ap possible_attempts (plain-plan script.chans e.chan c e.tree leaf e.planned is) in omega (arith, at_most, plain))
