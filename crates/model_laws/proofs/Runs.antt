-- The laws of every run, from the lemmas on each.
use Rattle.std.proofs.Common.{◌≡◌, ℕ, zero, suc, ◌+◌, ◌<◌, ◌≤◌, ◌⊎◌, inl, inr, Bool, true, false, cond, ◌==◌, ◌&&◌, nat_lt, List, [], ◌∷◌, ◌++◌, length, count_by, Option, Some, None, arith}
use Rattle.std.proofs.Common.{refl, ap, sym, ◌∙◌}
use Rattle.std.proofs.lemmas.Bool.Decides.{nat_tests}
use Rattle.std.proofs.lemmas.List.Recursion.{is_count_by}
use Rattle.rpc_model.specs.declared.chan.LeafChan.{LeafChan}
use Rattle.rpc_model.specs.Leaf.{Leaf, leaf_step}
use Rattle.rpc_model.specs.Effects.{Send, server_of}
use Rattle.model_laws.proofs.Issues.{IssuesFew, leaf_step-issues}
use Rattle.rpc_model.specs.Kinds.{Kinds}
use Rattle.rpc_model.specs.Plan.{Plan, sel_plan, Plans, last_plan, plan_then, and_plan, plans_of, sel_over, tries, tries_from}
use Rattle.rpc_model.specs.State.{State, waits, leaf_state, par_state, sel_state, States, last_state, state_then, attempts, attempts_of, size, size_of}
use Rattle.rpc_model.specs.Machine.{machine}
use Rattle.model_laws.specs.Completions.{count_of}
use Rattle.model_laws.specs.Sends.{leaf_sends, sends_of, all_sends, is_of}
use Rattle.model_laws.specs.Laws.{EndsStay, NodesStay, LeavesIssueFew, NodesAreOfThePlan, TriesAreFew, SendsAreOfTheState, SendsAreAttempts, NothingIsSentTwice, OffsetsAndMeaningsAreInverse}
use Rattle.model_laws.specs.Laws.{WeavesJoin}
use Rattle.model_laws.proofs.Weaves.{weave-twice}
use Rattle.model_laws.proofs.Leaves.{IsKept, machine-each}
use Rattle.model_laws.proofs.Paths.{node-stays}
use Rattle.model_laws.proofs.Requests.{machine-of}
use Rattle.model_laws.proofs.Sends.{counted, counted-append, machine-sends}
use Rattle.rpc_model.proofs.Versions.{versions-distinct, offset-meaning, meaning-offset}

-- ---- how often

counted-by : (t : Send → Bool) (xs : List Send) → counted t xs ≡ count_by t xs
counted-by t xs = is_count_by (counted t) t refl (λ x ys. by (t x) ys) xs
  where
    by : (v : Bool) (ys : List Send) → cond v 1 0 + counted t ys ≡ cond v (1 + counted t ys) (counted t ys)
    by true ys = refl
    by false ys = omega arith

counted-all : (xs : List Send) → counted (λ s. true) xs ≡ length xs
counted-all [] = refl
counted-all (x ∷ xs) = let h = counted-all xs in omega (arith, h)

length-sends : (chan : LeafChan) (call node : ℕ) (request : List ℕ) (count : ℕ) → counted (λ s. true) (leaf_sends chan call node request count) ≡ count
length-sends chan call node request zero = refl
length-sends chan call node request (suc count) =
    let h = length-sends chan call node request count in
    let l = counted-append (λ s. true) (leaf_sends chan call node request count) (record { node = node; attempt = count; server = server_of chan call count; payload = request } ∷ []) in
    omega (arith, h, l)

-- ---- each once

other-node : (node attempt n k : ℕ) → (n ≡ node → ⊥) → (n == node && k == attempt) ≡ false
other-node node attempt n k differ = let no_match : (n == node) ≡ false = grind (arith, nat_tests) in ap (λ v. v && k == attempt) no_match

other-attempt : (node attempt n k : ℕ) → (k ≡ attempt → ⊥) → (n == node && k == attempt) ≡ false
other-attempt node attempt n k differ = let no_match : (k == attempt) ≡ false = grind (arith, nat_tests) in ap (λ v. n == node && v) no_match ∙ by (n == node)
  where
    by : (v : Bool) → (v && false) ≡ false
    by true = refl
    by false = refl

one : (node attempt : ℕ) (chan : LeafChan) (call n : ℕ) (request : List ℕ) (k : ℕ) → List Send
one node attempt chan call n request k = record { node = n; attempt = k; server = server_of chan call k; payload = request } ∷ []

leaf-other : (node attempt : ℕ) (chan : LeafChan) (call n : ℕ) (request : List ℕ) (count : ℕ) → (n ≡ node → ⊥) → counted (is_of node attempt) (leaf_sends chan call n request count) ≡ 0
leaf-other node attempt chan call n request zero differ = refl
leaf-other node attempt chan call n request (suc count) differ =
    let h = leaf-other node attempt chan call n request count differ in
    let l = counted-append (is_of node attempt) (leaf_sends chan call n request count) (record { node = n; attempt = count; server = server_of chan call count; payload = request } ∷ []) in
    let none = ap (λ v. cond v 1 0 + 0) (other-node node attempt n count differ) in
    omega (arith, h, l, none)

leaf-later : (node attempt : ℕ) (chan : LeafChan) (call n : ℕ) (request : List ℕ) (count : ℕ) → count ≤ attempt → counted (is_of node attempt) (leaf_sends chan call n request count) ≡ 0
leaf-later node attempt chan call n request zero le = refl
leaf-later node attempt chan call n request (suc count) le =
    let h = leaf-later node attempt chan call n request count (omega (arith, le)) in
    let l = counted-append (is_of node attempt) (leaf_sends chan call n request count) (record { node = n; attempt = count; server = server_of chan call count; payload = request } ∷ []) in
    let none = ap (λ v. cond v 1 0 + 0) (other-attempt node attempt n count (λ e. absurd (omega (arith, e, le)))) in
    omega (arith, h, l, none)

at-most-one : (v : Bool) → cond v 1 0 + 0 ≤ 1
at-most-one true = omega arith
at-most-one false = omega arith

leaf-once : (node attempt : ℕ) (chan : LeafChan) (call n : ℕ) (request : List ℕ) (count : ℕ) → counted (is_of node attempt) (leaf_sends chan call n request count) ≤ 1
leaf-once node attempt chan call n request zero = omega arith
leaf-once node attempt chan call n request (suc count) = by (count == attempt) refl (leaf-once node attempt chan call n request count)
  where
    last : List Send
    last = record { node = n; attempt = count; server = server_of chan call count; payload = request } ∷ []

    l : counted (is_of node attempt) (leaf_sends chan call n request count ++ last) ≡ counted (is_of node attempt) (leaf_sends chan call n request count) + counted (is_of node attempt) last
    l = counted-append (is_of node attempt) (leaf_sends chan call n request count) last

    by : (v : Bool) → (count == attempt) ≡ v → counted (is_of node attempt) (leaf_sends chan call n request count) ≤ 1
        → counted (is_of node attempt) (leaf_sends chan call n request count ++ last) ≤ 1
    by true e h = let before = leaf-later node attempt chan call n request count (let same : count ≡ attempt = grind (arith, nat_tests) in omega (arith, same)) in let now = at-most-one
        (n == node && count == attempt) in omega (arith, l, before, now)
    by false e h = let none = ap (λ v. cond v 1 0 + 0) (other-attempt node attempt n count
        (λ same. let yes_ : (count == attempt) ≡ true = grind (arith, nat_tests) in let both = sym e ∙ yes_ in absurd (cc))) in omega (arith, l, h, none)

before_or_not : (a b : ℕ) → (a < b) ⊎ (b ≤ a)
before_or_not a b = by (nat_lt a b) refl
  where
    by : (v : Bool) → nat_lt a b ≡ v → (a < b) ⊎ (b ≤ a)
    by true e = inl (grind (arith, nat_tests))
    by false e = inr (grind (arith, nat_tests))

module _ {M G : Type 0} where
  mutual
    outside-none : (node attempt call n : ℕ) (state : State M G) → (node < n) ⊎ (n + size state ≤ node) → counted (is_of node attempt) (sends_of call n state) ≡ 0
    outside-none node attempt call n (waits plan) out = refl
    outside-none node attempt call n (leaf_state chan request leaf) out = leaf-other node attempt chan call n request leaf.issued (λ e. by e out)
      where
        by : n ≡ node → (node < n) ⊎ (n + 1 ≤ node) → ⊥
        by e (inl less) = absurd (omega (arith, e, less))
        by e (inr le) = absurd (omega (arith, e, le))
    outside-none node attempt call n (par_state par states) out = all-none node attempt call (n + 1) states (by out)
      where
        by : (node < n) ⊎ (n + (1 + size_of states) ≤ node) → (node < n + 1) ⊎ (n + 1 + size_of states ≤ node)
        by (inl less) = inl (omega (arith, less))
        by (inr le) = inr (omega (arith, le))
    outside-none node attempt call n (sel_state sel states) out = all-none node attempt call (n + 1) states (by out)
      where
        by : (node < n) ⊎ (n + (1 + size_of states) ≤ node) → (node < n + 1) ⊎ (n + 1 + size_of states ≤ node)
        by (inl less) = inl (omega (arith, less))
        by (inr le) = inr (omega (arith, le))

    all-none : (node attempt call n : ℕ) (states : States M G) → (node < n) ⊎ (n + size_of states ≤ node) → counted (is_of node attempt) (all_sends call n states) ≡ 0
    all-none node attempt call n last_state out = refl
    all-none node attempt call n (state_then state states) out =
        let l = counted-append (is_of node attempt) (sends_of call n state) (all_sends call (n + size state) states) in
        let a = outside-none node attempt call n state (first out) in
        let b = all-none node attempt call (n + size state) states (others out) in
        omega (arith, l, a, b)
      where
        first : (node < n) ⊎ (n + (size state + size_of states) ≤ node) → (node < n) ⊎ (n + size state ≤ node)
        first (inl less) = inl less
        first (inr le) = inr (omega (arith, le))

        others : (node < n) ⊎ (n + (size state + size_of states) ≤ node) → (node < n + size state) ⊎ (n + size state + size_of states ≤ node)
        others (inl less) = inl (omega (arith, less))
        others (inr le) = inr (omega (arith, le))

  mutual
    state-once : (node attempt call n : ℕ) (state : State M G) → counted (is_of node attempt) (sends_of call n state) ≤ 1
    state-once node attempt call n (waits plan) = omega arith
    state-once node attempt call n (leaf_state chan request leaf) = leaf-once node attempt chan call n request leaf.issued
    state-once node attempt call n (par_state par states) = all-once node attempt call (n + 1) states
    state-once node attempt call n (sel_state sel states) = all-once node attempt call (n + 1) states

    all-once : (node attempt call n : ℕ) (states : States M G) → counted (is_of node attempt) (all_sends call n states) ≤ 1
    all-once node attempt call n last_state = omega arith
    all-once node attempt call n (state_then state states) =
        let l = counted-append (is_of node attempt) (sends_of call n state) (all_sends call (n + size state) states) in
        by (before_or_not node (n + size state)) l (state-once node attempt call n state) (all-once node attempt call (n + size state) states)
      where
        sum : ℕ
        sum = counted (is_of node attempt) (sends_of call n state ++ all_sends call (n + size state) states)

        by : (node < n + size state) ⊎ (n + size state ≤ node) → sum ≡ counted (is_of node attempt) (sends_of call n state) + counted (is_of node attempt) (all_sends call (n + size state) states)
            → counted (is_of node attempt) (sends_of call n state) ≤ 1 → counted (is_of node attempt) (all_sends call (n + size state) states) ≤ 1 → sum ≤ 1
        by (inl less) l a b = let none = all-none node attempt call (n + size state) states (inl less) in omega (arith, l, a, none)
        by (inr le) l a b = let none = outside-none node attempt call n state (inr le) in omega (arith, l, b, none)

  mutual
    issued-is : (call n : ℕ) (state : State M G) → counted (λ s. true) (sends_of call n state) ≡ attempts state
    issued-is call n (waits plan) = refl
    issued-is call n (leaf_state chan request leaf) = length-sends chan call n request leaf.issued
    issued-is call n (par_state par states) = all-issued call (n + 1) states
    issued-is call n (sel_state sel states) = all-issued call (n + 1) states

    all-issued : (call n : ℕ) (states : States M G) → counted (λ s. true) (all_sends call n states) ≡ attempts_of states
    all-issued call n last_state = refl
    all-issued call n (state_then state states) =
        let l = counted-append (λ s. true) (sends_of call n state) (all_sends call (n + size state) states) in
        let a = issued-is call n state in
        let b = all-issued call (n + size state) states in
        omega (arith, l, a, b)

-- ---- tries

length-tries : (subs : List ℕ) (call j count : ℕ) → length (tries_from subs call j count) ≡ count
length-tries subs call j zero = refl
length-tries subs call j (suc count) = ap suc (length-tries subs call (j + 1) count)

module _ {M G : Type 0} where
  count-plans : (plan_of : ℕ → Option (Plan M G)) (numbers : List ℕ) (plans : Plans M G) → plans_of plan_of numbers ≡ Some plans → count_of plans ≡ length numbers
  count-plans plan_of [] plans h = let same : last_plan ≡ plans = cc in ap count_of (sym same)
  count-plans plan_of (number ∷ numbers) plans h = by (plan_of number) (plans_of plan_of numbers) refl refl h (λ more e. count-plans plan_of numbers more e)
    where
      by : (o : Option (Plan M G)) (p : Option (Plans M G)) → plan_of number ≡ o → plans_of plan_of numbers ≡ p → and_plan o p ≡ Some plans
          → ((more : Plans M G) → plans_of plan_of numbers ≡ Some more → count_of more ≡ length numbers)
          → count_of plans ≡ length (number ∷ numbers)
      by None p e f h again = absurd (cc)
      by (Some first) None e f h again = absurd (cc)
      by (Some first) (Some more) e f h again = let same : plan_then first more ≡ plans = cc in let n = again more f in let m = ap count_of (sym same) in omega (arith, n, m)

  pub tries-few : TriesAreFew M G
  tries-few plan_of call sel plan h = by (plans_of plan_of (tries sel call)) refl h
    where
      by : (o : Option (Plans M G)) → plans_of plan_of (tries sel call) ≡ o → sel_over sel.timeout o ≡ Some plan → (plans : Plans M G) × (plan ≡ sel_plan sel.timeout plans)
          × (count_of plans ≡ sel.retry + 1)
      by None e f = absurd (cc)
      by (Some plans) e f =
          let same : sel_plan sel.timeout plans ≡ plan = cc in
          (plans, sym same, count-plans plan_of (tries sel call) plans e ∙ length-tries sel.subs call 0 (sel.retry + 1))

  pub inverse : OffsetsAndMeaningsAreInverse M G
  inverse plan = (versions-distinct plan, (λ meaning offset h. meaning-offset plan meaning offset h), (λ meaning offset h. offset-meaning plan meaning offset h))

-- ---- the laws

few-issued : (chan : LeafChan) (before now : Leaf) → IssuesFew chan.retry before now → (1 ≤ before.issued) × (before.issued ≤ 1 + chan.retry) → (1 ≤ now.issued) × (now.issued ≤ 1 + chan.retry)
few-issued chan before now (inl same) h = let a = h.0 in let b = h.1 in (omega (arith, same, a), omega (arith, same, b))
few-issued chan before now (inr more) h = let a = h.0 in let m = more.0 in let n = more.1 in (omega (arith, m, a), omega (arith, m, n))

few-kept : IsKept (λ chan leaf. (1 ≤ leaf.issued) × (leaf.issued ≤ 1 + chan.retry))
few-kept = record {
  at_start = λ chan. (omega arith, omega arith);
  at_step = λ chan leaf e h. few-issued chan leaf (leaf_step chan.retry leaf e) (leaf_step-issues chan.retry leaf e) h;
  at_cancel = λ chan leaf h. h;
}

some-same : {X : Type 0} (x y : X) → Some x ≡ Some y → x ≡ y
some-same x y h = cc

module _ {M G : Type 0} (kinds : Kinds M G) where
  pub ends-stay : EndsStay kinds
  ends-stay plan call request begun events more end h = some-same _ _ (node-stays kinds call [] plan request begun events more (machine kinds plan call request begun events).state end h refl)

  pub nodes-stay : NodesStay kinds
  nodes-stay path plan call request begun events more node end h is = node-stays kinds call path plan request begun events more node end h is

  pub leaves-few : LeavesIssueFew kinds
  leaves-few plan call request begun events = machine-each kinds (λ chan leaf. (1 ≤ leaf.issued) × (leaf.issued ≤ 1 + chan.retry)) few-kept plan call request begun events

  pub nodes-of : NodesAreOfThePlan kinds
  nodes-of plan call request begun events = machine-of kinds plan call request begun events

  pub sends-of : SendsAreOfTheState kinds
  sends-of test plan call request begun events =
      let run = machine kinds plan call request begun events in
      sym (counted-by test run.sends) ∙ machine-sends kinds test call plan request begun events ∙ counted-by test (sends_of call 0 run.state)

  pub sends-attempts : SendsAreAttempts kinds
  sends-attempts plan call request begun events =
      let run = machine kinds plan call request begun events in
      sym (counted-all run.sends) ∙ machine-sends kinds (λ s. true) call plan request begun events ∙ issued-is call 0 run.state

  pub sent-once : NothingIsSentTwice kinds
  sent-once node attempt plan call request begun events =
      let run = machine kinds plan call request begun events in
      let same = machine-sends kinds (is_of node attempt) call plan request begun events in
      let once = state-once node attempt call 0 run.state in
      let by_count = counted-by (is_of node attempt) run.sends in
      omega (arith, same, once, by_count)

pub weaves-join : WeavesJoin
weaves-join r m b le = weave-twice r m b le
