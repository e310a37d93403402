-- A plan's parallel nodes have as many mappers and mergers as subs.
use Rattle.std.proofs.Common.{◌≡◌, ℕ, zero, suc, ◌+◌, ◌≤◌, List, [], ◌∷◌, length, Option, Some, None, arith, refl, sym, ◌∙◌, subst, slice_get}
use Rattle.std.proofs.lemmas.List.{length-map}
use Rattle.rpc_model.specs.declared.chan.Chan.{Chan}
use Rattle.rpc_model.specs.declared.chan.Chan.TheVariants as chan
use Rattle.rpc_model.specs.declared.chan.PartChan.{PartChan}
use Rattle.rpc_model.specs.declared.chan.Sub.{Sub}
use Rattle.rpc_model.specs.Plan.{Rule, Plan, leaf_plan, par_plan, sel_plan, Plans, last_plan, plan_then, and_plan, plans_of, par_over, sel_over, rule_of, subs_of, tries, part_plans, copies}
use Rattle.rpc_model.specs.Plan.{chan_plan, plan_within, plan}
use Rattle.rpc_model.specs.Versions.{nodes, nodes_of}
use Rattle.rpc_model.specs.State.{State, waits, leaf_state, par_state, sel_state, size, waiting_states}
use Rattle.model_laws.specs.Paths.{plans_below, child, in_child, node_at}
use Rattle.model_laws.specs.Completions.{count_of}
use Rattle.model_laws.specs.Laws.{ParallelNodesAreEven}

length-copies : {X : Type 0} (count : ℕ) (x : X) → length (copies count x) ≡ count
length-copies zero x = refl
length-copies (suc count) x = let h = length-copies count x in omega (arith, h)

module _ {M G : Type 0} where
  abbrev mutual
    pub IsEven : Plan M G → Type 0
    IsEven (leaf_plan leaf) = Unit {0}
    IsEven (par_plan rule plans) = (count_of plans ≡ length rule.merges) × (count_of plans ≡ length rule.maps) × AreEven plans
    IsEven (sel_plan timeout plans) = AreEven plans

    pub AreEven : Plans M G → Type 0
    AreEven last_plan = Unit {0}
    AreEven (plan_then plan plans) = IsEven plan × AreEven plans

  -- what holds of a plan, or of plans, if there are any
  abbrev EvenIf : Option (Plan M G) → Type 0
  EvenIf None = Unit {0}
  EvenIf (Some plan) = IsEven plan

  abbrev EvenAll : ℕ → Option (Plans M G) → Type 0
  EvenAll n None = Unit {0}
  EvenAll n (Some plans) = (count_of plans ≡ n) × AreEven plans

  even-and : (n : ℕ) (one : Option (Plan M G)) (rest : Option (Plans M G)) → EvenIf one → EvenAll n rest → EvenAll (suc n) (and_plan one rest)
  even-and n None rest h hs = tt
  even-and n (Some plan) None h hs = tt
  even-and n (Some plan) (Some plans) h hs = let c = hs.0 in (omega (arith, c), (h, hs.1))

  even-plans : (plan_of : ℕ → Option (Plan M G)) (numbers : List ℕ) → ((number : ℕ) → EvenIf (plan_of number)) → EvenAll (length numbers) (plans_of plan_of numbers)
  even-plans plan_of [] h = (refl, tt)
  even-plans plan_of (number ∷ numbers) h = even-and (length numbers) (plan_of number) (plans_of plan_of numbers) (h number) (even-plans plan_of numbers h)

  even-parts : (part : PartChan M G) (first count : ℕ) → (count_of (part_plans part first count) ≡ count) × AreEven (part_plans part first count)
  even-parts part first zero = (refl, tt)
  even-parts part first (suc count) = let h = even-parts part (first + 1) count in let c = h.0 in (omega (arith, c), (tt, h.1))

  even-par : (rule : Rule M G) (n : ℕ) (plans : Option (Plans M G)) → n ≡ length rule.merges → n ≡ length rule.maps → EvenAll n plans → EvenIf (par_over rule plans)
  even-par rule n None e m h = tt
  even-par rule n (Some plans) e m h = (h.0 ∙ e, h.0 ∙ m, h.1)

  even-sel : (timeout : Option ℕ) (n : ℕ) (plans : Option (Plans M G)) → EvenAll n plans → EvenIf (sel_over timeout plans)
  even-sel timeout n None h = tt
  even-sel timeout n (Some plans) h = h.1

  even-chan : (plan_of : ℕ → Option (Plan M G)) (call : ℕ) (c : Option (Chan M G)) → ((number : ℕ) → EvenIf (plan_of number)) → EvenIf (chan_plan plan_of call c)
  even-chan plan_of call None h = tt
  even-chan plan_of call (Some (chan.Leaf leaf)) h = tt
  even-chan plan_of call (Some (chan.Par par)) h =
      let a = length-map par.subs (λ (s : Sub M G). s.chan) in
      let b = length-map par.subs (λ (s : Sub M G). s.merge) in
      let d = length-map par.subs (λ (s : Sub M G). s.map) in
      even-par (rule_of par) (length (subs_of par)) (plans_of plan_of (subs_of par)) (omega (arith, a, b)) (omega (arith, a, d)) (even-plans plan_of (subs_of par) h)
  even-chan plan_of call (Some (chan.Sel sel)) h = even-sel sel.timeout (length (tries sel call)) (plans_of plan_of (tries sel call)) (even-plans plan_of (tries sel call) h)
  even-chan plan_of call (Some (chan.Part part)) h =
      let e = even-parts part 0 part.parts in
      (e.0 ∙ sym (length-copies part.parts part.merge), e.0 ∙ sym (length-copies part.parts part.map), e.1)

  even-within : (depth : ℕ) (chans : List (Chan M G)) (call number : ℕ) → EvenIf (plan_within depth chans call number)
  even-within zero chans call number = tt
  even-within (suc depth) chans call number = even-chan (plan_within depth chans call) call (slice_get chans number) (even-within depth chans call)

  -- each parallel node of a plan has as many mappers and mergers as subs
  pub plan-even : (chans : List (Chan M G)) (number call : ℕ) (p : Plan M G) → plan chans number call ≡ Some p → IsEven p
  plan-even chans number call p e = subst EvenIf e (even-within (suc number) chans call number)

  -- ---- a node at the end of a path

  abbrev EvenState : Option (State M G) → Type 0
  EvenState None = Unit {0}
  EvenState (Some (waits plan)) = IsEven plan
  EvenState (Some (leaf_state chan request leaf)) = Unit {0}
  EvenState (Some (par_state par states)) = Unit {0}
  EvenState (Some (sel_state sel states)) = Unit {0}

  even-child : (plans : Plans M G) (k : ℕ) → AreEven plans → EvenState (child k (waiting_states plans))
  even-child last_plan k h = tt
  even-child (plan_then plan plans) zero h = h.0
  even-child (plan_then plan plans) (suc k) h = even-child plans k h.1

  even-below : (plan : Plan M G) → IsEven plan → AreEven (plans_below plan)
  even-below (leaf_plan leaf) h = tt
  even-below (par_plan rule plans) h = h.2
  even-below (sel_plan timeout plans) h = h

  -- what is at a path below nodes that wait waits too
  abbrev Waiting : Option (State M G) → Type 0
  Waiting None = Unit {0}
  Waiting (Some (waits plan)) = Unit {0}
  Waiting (Some (leaf_state chan request leaf)) = ⊥
  Waiting (Some (par_state par states)) = ⊥
  Waiting (Some (sel_state sel states)) = ⊥

  child-waits : (plans : Plans M G) (k : ℕ) → Waiting (child k (waiting_states plans))
  child-waits last_plan k = tt
  child-waits (plan_then plan plans) zero = tt
  child-waits (plan_then plan plans) (suc k) = child-waits plans k

  even-in : (path : List ℕ) (o : Option (State M G)) → EvenState o → Waiting o → ((plan : Plan M G) → IsEven plan → EvenState (node_at path (waits plan))) → EvenState (in_child (node_at path) o)
  even-in path None h w again = tt
  even-in path (Some (waits plan)) h w again = again plan h
  even-in path (Some (leaf_state chan request leaf)) h w again = absurd w
  even-in path (Some (par_state par states)) h w again = absurd w
  even-in path (Some (sel_state sel states)) h w again = absurd w

  even-at : (path : List ℕ) (plan : Plan M G) → IsEven plan → EvenState (node_at path (waits plan))
  even-at [] plan h = h
  even-at (k ∷ path) plan h =
      even-in path (child k (waiting_states (plans_below plan))) (even-child (plans_below plan) k (even-below plan h)) (child-waits (plans_below plan) k) (λ p hp. even-at path p hp)

  -- A parallel node of a plan, at the end of whatever path, has as many mergers as subs.
  pub node-even : (path : List ℕ) (p : Plan M G) (rule : Rule M G) (plans : Plans M G) → IsEven p → node_at path (waits p) ≡ Some (waits (par_plan rule plans)) → count_of plans ≡ length rule.merges
  node-even path p rule plans h is = (subst EvenState is (even-at path p h)).0

  -- ---- how many nodes there are at and below it

  some-nodes : (plan : Plan M G) → 1 ≤ nodes plan
  some-nodes (leaf_plan leaf) = omega arith
  some-nodes (par_plan rule plans) = omega arith
  some-nodes (sel_plan timeout plans) = omega arith

  count-few : (plans : Plans M G) → count_of plans ≤ nodes_of plans
  count-few last_plan = omega arith
  count-few (plan_then plan plans) = let one = some-nodes plan in let more = count-few plans in omega (arith, one, more)

  abbrev Within : ℕ → Option (State M G) → Type 0
  Within n None = Unit {0}
  Within n (Some state) = size state ≤ n

  within-more : (n m : ℕ) (o : Option (State M G)) → n ≤ m → Within n o → Within m o
  within-more n m None le h = tt
  within-more n m (Some state) le h = omega (arith, le, h)

  within-child : (plans : Plans M G) (k : ℕ) → Within (nodes_of plans) (child k (waiting_states plans))
  within-child last_plan k = tt
  within-child (plan_then plan plans) zero = omega arith
  within-child (plan_then plan plans) (suc k) = within-more (nodes_of plans) (nodes plan + nodes_of plans) (child k (waiting_states plans)) (omega arith) (within-child plans k)

  below-few : (plan : Plan M G) → nodes_of (plans_below plan) ≤ nodes plan
  below-few (leaf_plan leaf) = omega arith
  below-few (par_plan rule plans) = omega arith
  below-few (sel_plan timeout plans) = omega arith

  within-in : (path : List ℕ) (n : ℕ) (o : Option (State M G)) → Within n o → Waiting o → ((plan : Plan M G) → Within (nodes plan) (node_at path (waits plan))) → Within n (in_child (node_at path) o)
  within-in path n None h w again = tt
  within-in path n (Some (waits plan)) h w again = within-more (nodes plan) n (node_at path (waits plan)) h (again plan)
  within-in path n (Some (leaf_state chan request leaf)) h w again = absurd w
  within-in path n (Some (par_state par states)) h w again = absurd w
  within-in path n (Some (sel_state sel states)) h w again = absurd w

  within-at : (path : List ℕ) (plan : Plan M G) → Within (nodes plan) (node_at path (waits plan))
  within-at [] plan = omega arith
  within-at (k ∷ path) plan =
      within-more (nodes_of (plans_below plan)) (nodes plan) (node_at (k ∷ path) (waits plan)) (below-few plan)
      (within-in path (nodes_of (plans_below plan)) (child k (waiting_states (plans_below plan))) (within-child (plans_below plan) k) (child-waits (plans_below plan) k) (λ p. within-at path p))

module _ (M G : Type 0) where
  -- A parallel node of a channel's plan has as many mappers and mergers as subs, and fewer than the plan has nodes.
  pub parallel-even : ParallelNodesAreEven M G
  parallel-even chans index call p path rule plans planned is =
      let even = subst EvenState is (even-at path p (plan-even chans index call p planned)) in
      let few = subst (Within (nodes p)) is (within-at path p) in
      let count = count-few plans in
      (sym even.1, sym even.0, omega (arith, few, count))
