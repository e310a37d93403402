-- Each request that the plain machine sends is of an attempt that the plan has, and to a server that is known.
use Rattle.std.proofs.Common.{◌≡◌, ℕ, zero, suc, ◌+◌, ◌<◌, ◌≤◌, ◌&&◌, Bool, true, false, not, nat_lt, List, [], ◌∷◌, ◌++◌, slice_get, count_by, Some, is_some, refl, ap, sym, ◌∙◌, subst, arith}
use Rattle.std.proofs.lemmas.Bool.Decides.{nat_tests}
use Rattle.std.specs.List.{AllByRecursion}
use Rattle.rpc_model.specs.declared.chan.LeafChan.{LeafChan}
use Rattle.rpc_model.specs.declared.event.Event.{Event}
use Rattle.rpc_model.specs.declared.kinds.MapKind.{MapKind}
use Rattle.rpc_model.specs.declared.kinds.MergeKind.{MergeKind}
use Rattle.rpc_model.specs.declared.mapper.Mapped.{Mapped}
use Rattle.rpc_model.specs.declared.mapper.Mapped.TheVariants as answer
use Rattle.rpc_model.specs.declared.meaning.Meaning.{Meaning}
use Rattle.rpc_model.specs.declared.meaning.Meaning.TheVariants.{Attempt}
use Rattle.rpc_model.specs.Effects.{Send, server_of}
use Rattle.rpc_model.specs.Kinds.{script_kinds}
use Rattle.rpc_model.specs.Leaf.{Leaf}
use Rattle.model_laws.specs.Leaves.{EachLeaf, EachLeafOf}
use Rattle.rpc_model.specs.Machine.{machine}
use Rattle.rpc_model.specs.Parallel.{mapped}
use Rattle.rpc_model.specs.Plan.{Plan, leaf_plan, par_plan, sel_plan, Plans, last_plan, plan_then}
use Rattle.model_laws.specs.Requests.{IsOf, SubsAreOf, TriesAreOf}
use Rattle.model_laws.specs.Sends.{leaf_sends, sends_of, all_sends}
use Rattle.rpc_model.specs.Served.{AreServed, AreAllServed}
use Rattle.rpc_model.specs.State.{State, waits, leaf_state, par_state, sel_state, States, last_state, state_then, size, size_of}
use Rattle.rpc_model.specs.Versions.{nodes, nodes_of, node_versions, leaf_versions, attempt_versions, attempt_versions_of, versions, offset_of, meaning_of}
use Rattle.model_laws.proofs.Runs.{inverse, leaves-few, nodes-of as run-nodes, sends-of as run-sends}
use Rattle.sim_run.specs.Desk.{HasPlace}
use Rattle.sim_run.proofs.Entries.{one, count-cons}
use Rattle.sim_run.proofs.Leaves.{server-known}
use Rattle.sim_run.proofs.Attempts.{all-append}

-- ---- the numbers of a state's nodes are the plan's

mutual
  of-size : (request : List ℕ) (p : Plan MapKind MergeKind) (s : State MapKind MergeKind) → IsOf script_kinds request p s → size s ≡ nodes p
  of-size request p (waits q) h = ap nodes h
  of-size request (leaf_plan chan) (leaf_state c q leaf) h = refl
  of-size request (par_plan rule plans) (leaf_state c q leaf) h = absurd h
  of-size request (sel_plan timeout plans) (leaf_state c q leaf) h = absurd h
  of-size request (leaf_plan chan) (par_state par states) h = absurd h
  of-size request (par_plan rule plans) (par_state par states) h = ap (λ n. 1 + n) (subs-size (mapped script_kinds.map rule.maps request) plans states h.2)
  of-size request (sel_plan timeout plans) (par_state par states) h = absurd h
  of-size request (leaf_plan chan) (sel_state sel states) h = absurd h
  of-size request (par_plan rule plans) (sel_state sel states) h = absurd h
  of-size request (sel_plan timeout plans) (sel_state sel states) h = ap (λ n. 1 + n) (tries-size request plans states h.1)

  subs-size : (asked : List Mapped) (ps : Plans MapKind MergeKind) (ss : States MapKind MergeKind) → SubsAreOf script_kinds asked ps ss → size_of ss ≡ nodes_of ps
  subs-size asked last_plan last_state h = refl
  subs-size asked (plan_then p ps) last_state h = absurd h
  subs-size asked last_plan (state_then s ss) h = absurd h
  subs-size (answer.Send request ∷ asked) (plan_then p ps) (state_then s ss) h = let a = of-size request p s h.0 in let b = subs-size asked ps ss h.1 in omega (arith, a, b)
  subs-size (answer.Skip ∷ asked) (plan_then p ps) (state_then s ss) h = let a = ap size h.0 in let b = subs-size asked ps ss h.1 in omega (arith, a, b)
  subs-size (answer.Bad ∷ asked) (plan_then p ps) (state_then s ss) h = let a = ap size h.0 in let b = subs-size asked ps ss h.1 in omega (arith, a, b)
  subs-size [] (plan_then p ps) (state_then s ss) h = let a = ap size h.0 in let b = subs-size [] ps ss h.1 in omega (arith, a, b)

  tries-size : (request : List ℕ) (ps : Plans MapKind MergeKind) (ss : States MapKind MergeKind) → TriesAreOf script_kinds request ps ss → size_of ss ≡ nodes_of ps
  tries-size request last_plan last_state h = refl
  tries-size request (plan_then p ps) last_state h = absurd h
  tries-size request last_plan (state_then s ss) h = absurd h
  tries-size request (plan_then p ps) (state_then s ss) h = let a = of-size request p s h.0 in let b = tries-size request ps ss h.1 in omega (arith, a, b)

-- ---- what holds of each attempt of a leaf of the plan holds of each request of a state

-- each attempt that a leaf may issue, whatever its request is
abbrev Each : (Send → Type 0) → ℕ → ℕ → LeafChan → Type 0
Each P call node leaf = (k : ℕ) (request : List ℕ) → k < leaf.retry + 1 → P (record { node = node; attempt = k; server = server_of leaf call k; payload = request })

abbrev mutual
  EachOf : (Send → Type 0) → ℕ → ℕ → Plan MapKind MergeKind → Type 0
  EachOf P call node (leaf_plan leaf) = Each P call node leaf
  EachOf P call node (par_plan rule plans) = EachOfAll P call (node + 1) plans
  EachOf P call node (sel_plan timeout plans) = EachOfAll P call (node + 1) plans

  EachOfAll : (Send → Type 0) → ℕ → ℕ → Plans MapKind MergeKind → Type 0
  EachOfAll P call node last_plan = Unit {0}
  EachOfAll P call node (plan_then p ps) = EachOf P call node p × EachOfAll P call (node + nodes p) ps

-- few attempts of a leaf were issued
abbrev Few : LeafChan → Leaf → Type 0
Few chan leaf = (1 ≤ leaf.issued) × (leaf.issued ≤ 1 + chan.retry)

leaf-each : (P : Send → Type 0) (call node : ℕ) (chan : LeafChan) (request : List ℕ) (count : ℕ) → count ≤ 1 + chan.retry → Each P call node chan
    → AllByRecursion P (leaf_sends chan call node request count)
leaf-each P call node chan request zero few each = tt
leaf-each P call node chan request (suc count) few each =
    all-append P (leaf_sends chan call node request count) (record { node = node; attempt = count; server = server_of chan call count; payload = request } ∷ [])
    (leaf-each P call node chan request count (omega (arith, few)) each) (each count request (omega (arith, few)), tt)

none-sent : (P : Send → Type 0) (call node : ℕ) (p : Plan MapKind MergeKind) (s : State MapKind MergeKind) → s ≡ waits p → AllByRecursion P (sends_of call node s)
none-sent P call node p s e = rw e tt

next-each : (P : Send → Type 0) (call node : ℕ) (p : Plan MapKind MergeKind) (s : State MapKind MergeKind) (ss : States MapKind MergeKind) → size s ≡ nodes p
    → AllByRecursion P (sends_of call node s) → AllByRecursion P (all_sends call (node + nodes p) ss)
    → AllByRecursion P (all_sends call node (state_then s ss))
next-each P call node p s ss same first rest =
    all-append P (sends_of call node s) (all_sends call (node + size s) ss) first (subst (λ n. AllByRecursion P (all_sends call (node + n) ss)) (sym same) rest)

mutual
  state-each : (P : Send → Type 0) (call node : ℕ) (request : List ℕ) (p : Plan MapKind MergeKind) (s : State MapKind MergeKind) → EachOf P call node p → IsOf script_kinds request p s
      → EachLeaf Few s → AllByRecursion P (sends_of call node s)
  state-each P call node request p (waits q) each h few = tt
  state-each P call node request (leaf_plan chan) (leaf_state c q leaf) each h few =
      leaf-each P call node c q leaf.issued few.1 (subst (Each P call node) (sym h.0) each)
  state-each P call node request (par_plan rule plans) (leaf_state c q leaf) each h few = absurd h
  state-each P call node request (sel_plan timeout plans) (leaf_state c q leaf) each h few = absurd h
  state-each P call node request (leaf_plan chan) (par_state par states) each h few = absurd h
  state-each P call node request (par_plan rule plans) (par_state par states) each h few = subs-each P call (node + 1) (mapped script_kinds.map rule.maps request) plans states each h.2 few
  state-each P call node request (sel_plan timeout plans) (par_state par states) each h few = absurd h
  state-each P call node request (leaf_plan chan) (sel_state sel states) each h few = absurd h
  state-each P call node request (par_plan rule plans) (sel_state sel states) each h few = absurd h
  state-each P call node request (sel_plan timeout plans) (sel_state sel states) each h few = tries-each P call (node + 1) request plans states each h.1 few

  subs-each : (P : Send → Type 0) (call node : ℕ) (asked : List Mapped) (ps : Plans MapKind MergeKind) (ss : States MapKind MergeKind) → EachOfAll P call node ps
      → SubsAreOf script_kinds asked ps ss → EachLeafOf Few ss → AllByRecursion P (all_sends call node ss)
  subs-each P call node asked last_plan last_state each h few = tt
  subs-each P call node asked (plan_then p ps) last_state each h few = absurd h
  subs-each P call node asked last_plan (state_then s ss) each h few = absurd h
  subs-each P call node (answer.Send request ∷ asked) (plan_then p ps) (state_then s ss) each h few =
      next-each P call node p s ss (of-size request p s h.0) (state-each P call node request p s each.0 h.0 few.0) (subs-each P call (node + nodes p) asked ps ss each.1 h.1 few.1)
  subs-each P call node (answer.Skip ∷ asked) (plan_then p ps) (state_then s ss) each h few =
      next-each P call node p s ss (ap size h.0) (none-sent P call node p s h.0) (subs-each P call (node + nodes p) asked ps ss each.1 h.1 few.1)
  subs-each P call node (answer.Bad ∷ asked) (plan_then p ps) (state_then s ss) each h few =
      next-each P call node p s ss (ap size h.0) (none-sent P call node p s h.0) (subs-each P call (node + nodes p) asked ps ss each.1 h.1 few.1)
  subs-each P call node [] (plan_then p ps) (state_then s ss) each h few =
      next-each P call node p s ss (ap size h.0) (none-sent P call node p s h.0) (subs-each P call (node + nodes p) [] ps ss each.1 h.1 few.1)

  tries-each : (P : Send → Type 0) (call node : ℕ) (request : List ℕ) (ps : Plans MapKind MergeKind) (ss : States MapKind MergeKind) → EachOfAll P call node ps
      → TriesAreOf script_kinds request ps ss → EachLeafOf Few ss → AllByRecursion P (all_sends call node ss)
  tries-each P call node request last_plan last_state each h few = tt
  tries-each P call node request (plan_then p ps) last_state each h few = absurd h
  tries-each P call node request last_plan (state_then s ss) each h few = absurd h
  tries-each P call node request (plan_then p ps) (state_then s ss) each h few =
      next-each P call node p s ss (of-size request p s h.0) (state-each P call node request p s each.0 h.0 few.0) (tries-each P call (node + nodes p) request ps ss each.1 h.1 few.1)

-- ---- each attempt of a leaf of the plan has a place

-- it has a place among all versions of the plan
abbrev IsPlaced : Plan MapKind MergeKind → Meaning → Type 0
IsPlaced root m = is_some (offset_of root m) ≡ true

all-got : {X : Type 0} (P : X → Type 0) (xs : List X) → ((i : ℕ) (x : X) → slice_get xs i ≡ Some x → P x) → AllByRecursion P xs
all-got P [] h = tt
all-got P (x ∷ xs) h = (h 0 x refl, all-got P xs (λ i y e. h (suc i) y e))

all-first : {X : Type 0} (P : X → Type 0) (xs ys : List X) → AllByRecursion P (xs ++ ys) → AllByRecursion P xs
all-first P [] ys h = tt
all-first P (x ∷ xs) ys h = (h.0, all-first P xs ys h.1)

all-behind : {X : Type 0} (P : X → Type 0) (xs ys : List X) → AllByRecursion P (xs ++ ys) → AllByRecursion P ys
all-behind P [] ys h = h
all-behind P (x ∷ xs) ys h = all-behind P xs ys h.1

all-placed : (root : Plan MapKind MergeKind) → AllByRecursion (IsPlaced root) (attempt_versions 0 root)
unfolding versions meaning_of
all-placed root =
    all-behind (IsPlaced root) (node_versions 0 (nodes root)) (attempt_versions 0 root) (all-got (IsPlaced root) (versions root) (λ i m e. ap is_some ((inverse root).2 m i e)))

leaf-placed : (P : Meaning → Type 0) (node attempt count k : ℕ) → k < count → AllByRecursion P (leaf_versions node attempt count) → P (Attempt node (attempt + k))
leaf-placed P node attempt zero k less h = absurd (omega (arith, less))
leaf-placed P node attempt (suc count) zero less h = let same : attempt ≡ attempt + 0 = omega arith in subst (λ n. P (Attempt node n)) same h.0
leaf-placed P node attempt (suc count) (suc k) less h =
    let same : attempt + 1 + k ≡ attempt + suc k = omega arith in subst (λ n. P (Attempt node n)) same (leaf-placed P node (attempt + 1) count k (omega (arith, less)) h.1)

mutual
  plan-each : (servers call : ℕ) (root : Plan MapKind MergeKind) (node : ℕ) (p : Plan MapKind MergeKind) → AreServed servers p → AllByRecursion (IsPlaced root) (attempt_versions node p)
      → EachOf (HasPlace servers root) call node p
  plan-each servers call root node (leaf_plan leaf) served h = λ k request less.
      let zero_more : 0 + k ≡ k = omega arith in
      (subst (λ n. IsPlaced root (Attempt node n)) zero_more (leaf-placed (IsPlaced root) node 0 (leaf.retry + 1) k less h), server-known servers leaf call k served)
  plan-each servers call root node (par_plan rule plans) served h = plans-each servers call root (node + 1) plans served h
  plan-each servers call root node (sel_plan timeout plans) served h = plans-each servers call root (node + 1) plans served h

  plans-each : (servers call : ℕ) (root : Plan MapKind MergeKind) (node : ℕ) (ps : Plans MapKind MergeKind) → AreAllServed servers ps
      → AllByRecursion (IsPlaced root) (attempt_versions_of node ps) → EachOfAll (HasPlace servers root) call node ps
  plans-each servers call root node last_plan served h = tt
  plans-each servers call root node (plan_then p ps) served h =
      let front = attempt_versions node p in
      let rest = attempt_versions_of (node + nodes p) ps in
      (plan-each servers call root node p served.0 (all-first (IsPlaced root) front rest h), plans-each servers call root (node + nodes p) ps served.1 (all-behind (IsPlaced root) front rest h))

-- ---- each request of a run

-- whether it has a place
abbrev is_placed : ℕ → Plan MapKind MergeKind → Send → Bool
is_placed servers root send = is_some (offset_of root (Attempt send.node send.attempt)) && nat_lt send.server servers

to-test : (servers : ℕ) (root : Plan MapKind MergeKind) (send : Send) → HasPlace servers root send → is_placed servers root send ≡ true
to-test servers root send h = let less : nat_lt send.server servers ≡ true = (let l = h.1 in grind (arith, nat_tests)) in ap (λ b. b && nat_lt send.server servers) h.0 ∙ less

from-test : (servers : ℕ) (root : Plan MapKind MergeKind) (send : Send) (a b : Bool) → is_some (offset_of root (Attempt send.node send.attempt)) ≡ a → nat_lt send.server servers ≡ b
    → (a && b) ≡ true → HasPlace servers root send
from-test servers root send true true p q e = (p, grind (arith, nat_tests))
from-test servers root send true false p q e = absurd (cc)
from-test servers root send false b p q e = absurd (cc)

none-fails : (test : Send → Bool) (xs : List Send) → AllByRecursion (λ s. test s ≡ true) xs → count_by (λ s. not (test s)) xs ≡ 0
none-fails test [] h = refl
none-fails test (x ∷ xs) h =
    let c = count-cons (λ s. not (test s)) x xs in
    let e = ap (λ b. one (not b)) h.0 in
    let tail = none-fails test xs h.1 in
    omega (arith, c, e, tail)

all-pass : (test : Send → Bool) (xs : List Send) → count_by (λ s. not (test s)) xs ≡ 0 → AllByRecursion (λ s. test s ≡ true) xs
all-pass test [] none = tt
all-pass test (x ∷ xs) none =
    let c = count-cons (λ s. not (test s)) x xs in
    let head : one (not (test x)) ≡ 0 = omega (arith, c, none) in
    (by (test x) head, all-pass test xs (omega (arith, c, none)))
  where
    by : (b : Bool) → one (not b) ≡ 0 → b ≡ true
    by true e = refl
    by false e = absurd (cc)

all-map : {X : Type 0} (P Q : X → Type 0) (xs : List X) → ((x : X) → P x → Q x) → AllByRecursion P xs → AllByRecursion Q xs
all-map P Q [] f h = tt
all-map P Q (x ∷ xs) f h = (f x h.0, all-map P Q xs f h.1)

-- Each request of a run has an id in the plan's range, and goes to a known server.
pub run-placed : (servers : ℕ) (plan : Plan MapKind MergeKind) (call : ℕ) (request : List ℕ) (moment : ℕ) (events : List (Event × ℕ)) → AreServed servers plan
    → AllByRecursion (HasPlace servers plan) (machine script_kinds plan call request moment events).sends
run-placed servers plan call request moment events served =
    let run = machine script_kinds plan call request moment events in
    let test = is_placed servers plan in
    let each = plan-each servers call plan 0 plan served (all-placed plan) in
    let state =
    state-each (HasPlace servers plan) call 0 request plan run.state each (run-nodes script_kinds plan call request moment events) (leaves-few script_kinds plan call request moment events) in
    let none = none-fails test (sends_of call 0 run.state) (all-map (HasPlace servers plan) (λ s. test s ≡ true) (sends_of call 0 run.state) (to-test servers plan) state) in
    let sent = all-pass test run.sends (run-sends script_kinds (λ s. not (test s)) plan call request moment events ∙ none) in
    all-map (λ s. test s ≡ true) (HasPlace servers plan) run.sends (λ s e. from-test servers plan s _ _ refl refl e) sent
