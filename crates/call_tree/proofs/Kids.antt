-- The sub or try that a number is of.
use Rattle.std.proofs.Common.{◌≡◌, ℕ, zero, suc, ◌+◌, ◌-◌, ◌<◌, ◌≤◌, Bool, true, false, cond, nat_lt, List, [], ◌∷◌, ◌++◌, length, get_or, set, arith, refl, ap, sym, ◌∙◌, subst}
use Rattle.std.proofs.lemmas.Bool.Decides.{nat_tests}
use Rattle.rpc_model.specs.declared.event.Event.{Event}
use Rattle.rpc_model.specs.Kinds.{Kinds}
use Rattle.rpc_model.specs.State.{State, Run, Below, end_of, ends_of, size, size_of, beside}
use Rattle.rpc_model.specs.Machine.{node_of, new_end, step_at, step_subs}
use Rattle.chan_tree.specs.Table.{IsRising, IsLastUpTo}
use Rattle.call_tree.specs.Brought.{Brought, brought_at, brought_subs}
use Rattle.call_tree.specs.Places.{firsts, IsAt}
use Rattle.call_tree.specs.Shown.{states_of}
use Rattle.call_tree.proofs.Subs.{size-some}

module _ {M G : Type 0} where
  -- ---- places

  pub firsts-length : (at : ℕ) (ss : List (State M G)) → length (firsts at (states_of ss)) ≡ length ss
  firsts-length at [] = refl
  firsts-length at (s ∷ ss) = ap suc (firsts-length (at + size s) ss)

  pub firsts-late : (at : ℕ) (ss : List (State M G)) (k : ℕ) → k < length (firsts at (states_of ss)) → at ≤ get_or (firsts at (states_of ss)) k 0
  firsts-late at [] k h = absurd (omega (arith, h))
  firsts-late at (s ∷ ss) zero h = omega arith
  firsts-late at (s ∷ ss) (suc k) h = let later = firsts-late (at + size s) ss k (omega (arith, h)) in omega (arith, later)

  pub firsts-rise : (at : ℕ) (ss : List (State M G)) → IsRising (firsts at (states_of ss))
  firsts-rise at [] i j before h = absurd (omega (arith, h))
  firsts-rise at (s ∷ ss) i zero before h = absurd (omega (arith, before))
  firsts-rise at (s ∷ ss) zero (suc j) before h = let some = size-some s in let later = firsts-late (at + size s) ss j (omega (arith, h)) in omega (arith, later, some)
  firsts-rise at (s ∷ ss) (suc i) (suc j) before h = firsts-rise (at + size s) ss i j (omega (arith, before)) (omega (arith, h))

  -- places counted from elsewhere
  firsts-from : (node at : ℕ) (ss : List (State M G)) (k : ℕ) → k < length ss → get_or (firsts (node + at) (states_of ss)) k 0 ≡ node + get_or (firsts at (states_of ss)) k 0
  firsts-from node at [] k h = absurd (omega (arith, h))
  firsts-from node at (s ∷ ss) zero h = refl
  firsts-from node at (s ∷ ss) (suc k) h =
      let same : node + at + size s ≡ node + (at + size s) = omega arith in
      ap (λ n. get_or (firsts n (states_of ss)) k 0) same ∙ firsts-from node (at + size s) ss k (omega (arith, h))

  pub firsts-set : (at : ℕ) (ss : List (State M G)) (i : ℕ) (s now : State M G) → s ≡ get_or ss i s → size now ≡ size s → firsts at (states_of (set ss i now)) ≡ firsts at (states_of ss)
  firsts-set at [] i s now is same = refl
  firsts-set at (x ∷ ss) zero s now is same = ap (λ n. at ∷ firsts (at + n) (states_of ss)) (same ∙ ap size is)
  firsts-set at (x ∷ ss) (suc i) s now is same = ap (λ ns. at ∷ ns) (firsts-set (at + size x) ss i s now is same)

  pub ends-set : (ss : List (State M G)) (i : ℕ) (now : State M G) → ends_of (states_of (set ss i now)) ≡ set (ends_of (states_of ss)) i (end_of now)
  ends-set [] i now = refl
  ends-set (s ∷ ss) zero now = refl
  ends-set (s ∷ ss) (suc i) now = ap (λ es. end_of s ∷ es) (ends-set ss i now)

  -- there is one, and the first begins behind the node
  pub first-of : (ss : List (State M G)) → 1 ≤ size_of (states_of ss) → (0 < length (firsts 1 (states_of ss))) × (get_or (firsts 1 (states_of ss)) 0 0 ≡ 1)
  first-of [] h = absurd (omega (arith, h))
  first-of (s ∷ ss) h = (omega arith, refl)

  pub at-last : (fs : List ℕ) (ss : List (State M G)) (node to at first : ℕ) → fs ≡ firsts 1 (states_of ss) → node < to → IsLastUpTo fs (to - node) at → first ≡ node + get_or fs at 0
      → IsAt node to (states_of ss) at first
  at-last fs ss node to at first are less last is =
      let l : IsLastUpTo (firsts 1 (states_of ss)) (to - node) at = subst (λ xs. IsLastUpTo xs (to - node) at) are last in
      let one = firsts-length 1 ss in
      let here = firsts-length (node + 1) ss in
      let place : at < length ss = (let p = l.place in omega (arith, p, one)) in
      let from = firsts-from node 1 ss at place in
      let first_is : first ≡ get_or (firsts (node + 1) (states_of ss)) at 0 = is ∙ ap (λ xs. node + get_or xs at 0) are ∙ sym from in
      record {
        place = omega (arith, place, here);
        first_is = first_is;
        low = (let lo = l.low in omega (arith, lo, from, first_is, less));
        high = λ k before most. let f = firsts-from node 1 ss k (omega (arith, most, here)) in let h = l.high k before (omega (arith, most, one, here)) in omega (arith, f, h, less);
      }

  pub at-there : (node to : ℕ) (ss : List (State M G)) (at first : ℕ) → IsAt node to (states_of ss) at first → at < length ss
  at-there node to ss at first h = let p = h.place in let n = firsts-length (node + 1) ss in omega (arith, p, n)

module _ {M G : Type 0} (kinds : Kinds M G) where
  -- the subs after the one of this index took this run
  abbrev pub with_run : List (State M G) → ℕ → State M G → Run M G → Below M G
  with_run ss i before run = record { states = states_of (set ss i run.state); sends = run.sends; marks = run.marks; end = new_end (end_of before) (end_of run.state) }

  abbrev pub brought_by : State M G → Run M G → Brought M G
  brought_by before run = record { end = new_end (end_of before) (end_of run.state); started = [] }

  -- what is said of the sub that a number is of
  pub record IsSub (at to : ℕ) (ss : List (State M G)) (i first : ℕ) (s : State M G) : Type 0 where
    pub late : at ≤ first
    pub low : first ≤ to
    pub high : to < first + size s
    pub within : first + size s ≤ at + size_of (states_of ss)
    pub steps : (call : ℕ) (e : Event) (moment : ℕ) → node_of e ≡ to → step_subs kinds at (states_of ss) call e moment ≡ with_run ss i s (step_at kinds first s call e moment)
    pub brings : (call : ℕ) (e : Event) (moment : ℕ) → node_of e ≡ to
        → brought_subs kinds at (states_of ss) call e moment ≡ brought_at kinds first s call e moment ++ brought_by s (step_at kinds first s call e moment) ∷ []

  pub next-first : (at to : ℕ) (ss : List (State M G)) → (0 < length ss → to < get_or (firsts at (states_of ss)) 0 0) → to < at + size_of (states_of ss) → to < at
  next-first at to [] next high = omega (arith, high)
  next-first at to (s ∷ ss) next high = next (omega arith)

  step-here : (at : ℕ) (s : State M G) (ss : List (State M G)) (call : ℕ) (e : Event) (moment : ℕ) (b : Bool) → nat_lt (node_of e) (at + size s) ≡ b
      → step_subs kinds at (states_of (s ∷ ss)) call e moment ≡ cond b (with_run (s ∷ ss) 0 s (step_at kinds at s call e moment))
      (beside s (step_subs kinds (at + size s) (states_of ss) call e moment))
  step-here at s ss call e moment b is = ap (λ v. cond v (with_run (s ∷ ss) 0 s (step_at kinds at s call e moment)) (beside s (step_subs kinds (at + size s) (states_of ss) call e moment))) is

  brought-here : (at : ℕ) (s : State M G) (ss : List (State M G)) (call : ℕ) (e : Event) (moment : ℕ) (b : Bool) → nat_lt (node_of e) (at + size s) ≡ b
      → brought_subs kinds at (states_of (s ∷ ss)) call e moment ≡ cond b (brought_at kinds at s call e moment ++ brought_by s (step_at kinds at s call e moment) ∷ [])
      (brought_subs kinds (at + size s) (states_of ss) call e moment)
  brought-here at s ss call e moment b is =
      ap (λ v. cond v (brought_at kinds at s call e moment ++ brought_by s (step_at kinds at s call e moment) ∷ []) (brought_subs kinds (at + size s) (states_of ss) call e moment)) is

  sub-holds : (at to : ℕ) (ss : List (State M G)) (i : ℕ) (s : State M G) → s ≡ get_or ss i s → i < length ss → get_or (firsts at (states_of ss)) i 0 ≤ to
      → ((k : ℕ) → i < k → k < length ss → to < get_or (firsts at (states_of ss)) k 0) → to < at + size_of (states_of ss) → IsSub at to ss i (get_or (firsts at (states_of ss)) i 0) s
  sub-holds at to [] i s is h low next high = absurd (omega (arith, h))
  sub-holds at to (x ∷ ss) zero s is h low next high =
      let below = next-first (at + size x) to ss (λ some. next 1 (omega arith) (omega (arith, some))) (omega (arith, high)) in
      subst (λ y. IsSub at to (x ∷ ss) zero at y) (sym is)
      (record {
        late = omega arith;
        low = low;
        high = below;
        within = omega arith;
        steps = λ call e moment same. step-here at x ss call e moment true (let test : nat_lt (node_of e) (at + size x) ≡ true = grind (arith, nat_tests) in test);
        brings = λ call e moment same. brought-here at x ss call e moment true (let test : nat_lt (node_of e) (at + size x) ≡ true = grind (arith, nat_tests) in test);
      })
  sub-holds at to (x ∷ ss) (suc i) s is h low next high =
      let later = firsts-late (at + size x) ss i (let l = firsts-length (at + size x) ss in omega (arith, h, l)) in
      let rest = sub-holds (at + size x) to ss i s is (omega (arith, h)) low (λ k before most. next (suc k) (omega (arith, before)) (omega (arith, most))) (omega (arith, high)) in
      record {
        late = (let l = rest.late in omega (arith, l));
        low = rest.low;
        high = rest.high;
        within = (let w = rest.within in omega (arith, w));
        steps = λ call e moment same. step-here at x ss call e moment false (let test : nat_lt (node_of e) (at + size x) ≡ false = grind (arith, nat_tests) in test)
            ∙ ap (beside x) (rest.steps call e moment same);
        brings = λ call e moment same. brought-here at x ss call e moment false (let test : nat_lt (node_of e) (at + size x) ≡ false = grind (arith, nat_tests) in test)
            ∙ rest.brings call e moment same;
      }

  pub sub-of : (node to : ℕ) (ss : List (State M G)) (i first : ℕ) (s : State M G) → IsAt node to (states_of ss) i first → s ≡ get_or ss i s → to < node + (1 + size_of (states_of ss))
      → IsSub (node + 1) to ss i first s
  sub-of node to ss i first s h is high =
      let n = firsts-length (node + 1) ss in
      let low = h.low in
      let at = h.first_is in
      subst (λ f. IsSub (node + 1) to ss i f s) (sym at)
      (sub-holds (node + 1) to ss i s is (at-there node to ss i first h) (omega (arith, low, at)) (λ k before most. h.high k before (omega (arith, most, n))) (omega (arith, high)))
