-- What follows the end of a try of a selective node.
use Rattle.std.proofs.Common.{◌≡◌, ℕ, zero, suc, ◌+◌, ◌<◌, ◌≤◌, Bool, true, false, cond, nat_lt, List, [], ◌∷◌, ◌++◌, length, get_or, set, take, drop, Option, Some, None, arith, refl, ap}
use Rattle.std.proofs.Common.{sym, ◌∙◌, subst}
use Rattle.std.proofs.lemmas.Bool.Decides.{nat_tests}
use Rattle.std.proofs.lemmas.List.{append_assoc}
use Rattle.rpc_model.specs.declared.event.End.{End}
use Rattle.rpc_model.specs.declared.event.Event.{Event}
use Rattle.rpc_model.specs.Kinds.{Kinds}
use Rattle.rpc_model.specs.Plan.{Plan}
use Rattle.rpc_model.specs.Versions.{nodes}
use Rattle.rpc_model.specs.Selective.{next_try}
use Rattle.rpc_model.specs.State.{State, waits, leaf_state, par_state, sel_state, States, last_state, state_then, Run, Below, end_of, size, size_of, still, beside, run_then}
use Rattle.rpc_model.specs.Machine.{node_of, new_end, try_ended, try_run, is_left, start_at, start_waiting, step_at, step_tries}
use Rattle.call_tree.specs.Brought.{Brought, behind_end, behind_try, started_tries, brought_at, brought_tries, followed_end, followed, put_all, put_from, plan_waiting}
use Rattle.call_tree.specs.Places.{firsts, IsAt}
use Rattle.call_tree.specs.Shown.{states_of}
use Rattle.call_tree.specs.Starting.{after_end, after_try}
use Rattle.call_tree.proofs.Alike.{start-alike}
use Rattle.call_tree.proofs.Kids.{firsts-length, firsts-late, next-first, at-there}
use Rattle.call_tree.proofs.Parallels.{get-any}
use Rattle.call_tree.proofs.Subs.{ended-then}
use Rattle.call_tree.proofs.Weights.{size-start}

module _ {M G : Type 0} where
  waits-of : (s : State M G) (plan : Plan M G) → plan_waiting s ≡ Some plan → s ≡ waits plan
  waits-of (waits p) plan h = ap waits (let same : p ≡ plan = cc in same)
  waits-of (leaf_state chan request leaf) plan h = absurd (cc)
  waits-of (par_state par states) plan h = absurd (cc)
  waits-of (sel_state sel states) plan h = absurd (cc)

  -- ---- states written over others

  pub put-nothing : (at : ℕ) (ss : List (State M G)) → put_from at [] ss ≡ ss
  put-nothing zero ss = refl
  put-nothing (suc at) [] = refl
  put-nothing (suc at) (s ∷ ss) = ap (λ xs. s ∷ xs) (put-nothing at ss)

  pub put-next : (at : ℕ) (t : State M G) (ts ss : List (State M G)) → at < length ss → put_from at (t ∷ ts) ss ≡ put_from (suc at) ts (set ss at t)
  put-next at t ts [] h = absurd (omega (arith, h))
  put-next zero t ts (s ∷ ss) h = refl
  put-next (suc at) t ts (s ∷ ss) h = ap (λ xs. s ∷ xs) (put-next at t ts ss (omega (arith, h)))

  -- states before what is below
  abbrev pub behind : List (State M G) → Below M G → Below M G
  behind [] below = below
  behind (s ∷ ss) below = beside s (behind ss below)

  pub behind-end : (ss : List (State M G)) (b : Below M G) → ((behind ss b).end ≡ b.end) × ((behind ss b).sends ≡ b.sends) × ((behind ss b).marks ≡ b.marks)
  behind-end [] b = (refl, refl, refl)
  behind-end (s ∷ ss) b = behind-end ss b

  pub put-behind : (ss : List (State M G)) (i : ℕ) (run : Run M G) (b : Below M G) (ts : List (State M G)) → i < length ss → b.states ≡ states_of (put_all ts (drop (suc i) ss))
      → (behind (take i ss) (run_then run b)).states ≡ states_of (put_from (suc i) ts (set ss i run.state))
  put-behind [] i run b ts h is = absurd (omega (arith, h))
  put-behind (s ∷ ss) zero run b ts h is = ap (state_then run.state) is
  put-behind (s ∷ ss) (suc i) run b ts h is = ap (state_then s) (put-behind ss i run b ts (omega (arith, h)) is)

  pub behind-firsts : (at : ℕ) (ss : List (State M G)) (i : ℕ) (s : State M G) (run : Run M G) (b : Below M G) → i < length ss → s ≡ get_or ss i s → size run.state ≡ size s
      → ((k : ℕ) → firsts k b.states ≡ firsts k (states_of (drop (suc i) ss)))
      → firsts at (behind (take i ss) (run_then run b)).states ≡ firsts at (states_of ss)
  behind-firsts at [] i s run b h is same rest = absurd (omega (arith, h))
  behind-firsts at (x ∷ ss) zero s run b h is same rest = ap (λ ns. at ∷ ns) (ap (λ n. firsts (at + n) b.states) (same ∙ ap size is) ∙ rest (at + size x))
  behind-firsts at (x ∷ ss) (suc i) s run b h is same rest = ap (λ ns. at ∷ ns) (behind-firsts (at + size x) ss i s run b (omega (arith, h)) is same rest)

  -- where the nodes end
  place-rest : (at : ℕ) (ss : List (State M G)) (k : ℕ) → k < length ss → get_or (firsts at (states_of ss)) k 0 + size_of (states_of (drop k ss)) ≡ at + size_of (states_of ss)
  place-rest at [] k h = absurd (omega (arith, h))
  place-rest at (s ∷ ss) zero h = refl
  place-rest at (s ∷ ss) (suc k) h = let r = place-rest (at + size s) ss k (omega (arith, h)) in omega (arith, r)

  pub number-rest : (at : ℕ) (ss : List (State M G)) (k : ℕ) → k < length ss → get_or (firsts at (states_of ss)) k 0 + size_of (states_of (drop k ss)) ≡ at + size_of (states_of ss)
  number-rest = place-rest

  drop-past : (ss : List (State M G)) (k : ℕ) → length ss ≤ k → drop k ss ≡ []
  drop-past [] zero h = refl
  drop-past [] (suc k) h = refl
  drop-past (s ∷ ss) zero h = absurd (omega (arith, h))
  drop-past (s ∷ ss) (suc k) h = drop-past ss k (omega (arith, h))

  pub none-past : (ss : List (State M G)) (k : ℕ) → length ss ≤ k → drop k ss ≡ []
  none-past = drop-past

  pub drop-size : (ss : List (State M G)) (i : ℕ) (s : State M G) → i < length ss → s ≡ get_or ss i s → size_of (states_of (drop i ss)) ≡ size s + size_of (states_of (drop (suc i) ss))
  drop-size [] i s h is = absurd (omega (arith, h))
  drop-size (x ∷ ss) zero s h is = ap (λ n. n + size_of (states_of ss)) (sym (ap size is))
  drop-size (x ∷ ss) (suc i) s h is = drop-size ss i s (omega (arith, h)) is

module _ {M G : Type 0} (kinds : Kinds M G) where
  -- ---- the tries that come next

  pub started-alike : (n k : ℕ) (states : States M G) (call other : ℕ) (request : List ℕ) (m w : ℕ) → started_tries kinds n states call request m ≡ started_tries kinds k states other request w
  started-alike n k last_state call other request m w = refl
  started-alike n k (state_then (waits plan) states) call other request m w =
      let is = start-alike kinds n k plan call other request m w in
      ap (λ (s : State M G). s ∷ behind_try kinds states (end_of s) (started_tries kinds (n + nodes plan) states call request m)) is
      ∙ ap (λ (xs : List (State M G)). (start_at kinds k plan other request w).state ∷ behind_try kinds states (end_of (start_at kinds k plan other request w).state) xs)
      (started-alike (n + nodes plan) (k + nodes plan) states call other request m w)
  started-alike n k (state_then (leaf_state chan q leaf) states) call other request m w = refl
  started-alike n k (state_then (par_state par below) states) call other request m w = refl
  started-alike n k (state_then (sel_state sel below) states) call other request m w = refl

  -- what a try that starts here comes to, by what follows its end
  pub record IsTryTurn (goes : Bool) (over : Option End) (run : Run M G) (b next : Below M G) (now later : List (State M G)) : Type 0 where
    pub goes_on : goes ≡ true → (b.end ≡ next.end) × (b.sends ≡ run.sends ++ next.sends) × (b.marks ≡ run.marks ++ next.marks) × (now ≡ run.state ∷ later)
    pub stops : goes ≡ false → (b.end ≡ over) × (b.sends ≡ run.sends) × (b.marks ≡ run.marks) × (now ≡ run.state ∷ [])

  turn-by : (goes : Bool) (over : Option End) (run : Run M G) (rest : States M G) (next : Below M G) (later : List (State M G)) (o : Option End) → (goes, over) ≡ after_try (is_left rest) o
      → IsTryTurn goes over run (try_run run rest next o) next (run.state ∷ behind_try kinds rest o later) later
  turn-by goes over run rest next later None h =
      record {
        goes_on = λ on. absurd (let off = ap (λ (p : Bool × Option End). p.0) h in let both : true ≡ false = sym on ∙ off in cc);
        stops = λ off. (sym (ap (λ (p : Bool × Option End). p.1) h), refl, refl, refl);
      }
  turn-by goes over run rest next later (Some e) h = by (next_try (is_left rest) e) h
    where
      by : (o : Option End) → (goes, over) ≡ after_end o → IsTryTurn goes over run (try_ended run rest next o) next (run.state ∷ behind_end kinds o later) later
      by None h = record { goes_on = λ on. (refl, refl, refl, refl); stops = λ off. absurd (let on = ap (λ (p : Bool × Option End). p.0) h in let both : true ≡ false = sym on ∙ off in cc) }
      by (Some up) h =
          record {
            goes_on = λ on. absurd (let off = ap (λ (p : Bool × Option End). p.0) h in let both : true ≡ false = sym on ∙ off in cc);
            stops = λ off. (sym (ap (λ (p : Bool × Option End). p.1) h), refl, refl, refl);
          }

  pub try-turn : (s : State M G) (rest : States M G) (plan : Plan M G) (n : ℕ) (tree : State M G) (goes left : Bool) (over end : Option End) (call : ℕ) (request : List ℕ) (moment : ℕ)
      → plan_waiting s ≡ Some plan → tree ≡ (start_at kinds n plan call request moment).state
      → left ≡ is_left rest → end ≡ end_of tree → (goes, over) ≡ after_try left end
      → IsTryTurn goes over (start_at kinds n plan call request moment) (start_waiting kinds n (state_then s rest) call request moment) (start_waiting kinds (n + nodes plan) rest call request moment)
      (started_tries kinds n (state_then s rest) call request moment) (started_tries kinds (n + nodes plan) rest call request moment)
  try-turn s rest plan n tree goes left over end call request moment waiting is left_is end_is after =
      let run = start_at kinds n plan call request moment in
      let next = start_waiting kinds (n + nodes plan) rest call request moment in
      let later = started_tries kinds (n + nodes plan) rest call request moment in
      let h : (goes, over) ≡ after_try (is_left rest) (end_of run.state) = after ∙ ap (λ b. after_try b end) left_is ∙ ap (after_try (is_left rest)) (end_is ∙ ap end_of is) in
      subst (λ (x : State M G). IsTryTurn goes over run (start_waiting kinds n (state_then x rest) call request moment) next (started_tries kinds n (state_then x rest) call request moment)
      later) (sym (waits-of s plan waiting))
      (turn-by goes over run rest next later (end_of run.state) h)

  -- where none waits at the front, nothing starts
  pub none-waits : (n : ℕ) (s : State M G) (rest : States M G) (call : ℕ) (request : List ℕ) (moment : ℕ) → plan_waiting s ≡ None
      → (start_waiting kinds n (state_then s rest) call request moment ≡ still (state_then s rest)) × (started_tries kinds n (state_then s rest) call request moment ≡ [])
  none-waits n (waits p) rest call request moment h = absurd (cc)
  none-waits n (leaf_state chan q leaf) rest call request moment h = (refl, refl)
  none-waits n (par_state par below) rest call request moment h = (refl, refl)
  none-waits n (sel_state sel below) rest call request moment h = (refl, refl)

  -- ---- the states after it

  try-put : (run : Run M G) (ss : List (State M G)) (next : Below M G) (later : List (State M G)) (o : Option End) → next.states ≡ states_of (put_all later ss)
      → (try_run run (states_of ss) next o).states ≡ state_then run.state (states_of (put_all (behind_try kinds (states_of ss) o later) ss))
  try-put run ss next later None h = refl
  try-put run ss next later (Some e) h = by (next_try (is_left (states_of ss)) e)
    where
      by : (o : Option End) → (try_ended run (states_of ss) next o).states ≡ state_then run.state (states_of (put_all (behind_end kinds o later) ss))
      by None = ap (state_then run.state) h
      by (Some up) = refl

  waiting-put : (n : ℕ) (ss : List (State M G)) (call : ℕ) (request : List ℕ) (moment : ℕ)
      → (start_waiting kinds n (states_of ss) call request moment).states ≡ states_of (put_all (started_tries kinds n (states_of ss) call request moment) ss)
  waiting-put n [] call request moment = refl
  waiting-put n (waits plan ∷ ss) call request moment =
      let run = start_at kinds n plan call request moment in
      try-put run ss (start_waiting kinds (n + nodes plan) (states_of ss) call request moment) (started_tries kinds (n + nodes plan) (states_of ss) call request moment) (end_of run.state)
      (waiting-put (n + nodes plan) ss call request moment)
  waiting-put n (leaf_state chan q leaf ∷ ss) call request moment = refl
  waiting-put n (par_state par below ∷ ss) call request moment = refl
  waiting-put n (sel_state sel below ∷ ss) call request moment = refl

  pub followed-put : (n : ℕ) (ss : List (State M G)) (call : ℕ) (request : List ℕ) (moment : ℕ) (up : Option End)
      → (followed up (states_of ss) (start_waiting kinds n (states_of ss) call request moment)).states
      ≡ states_of (put_all (behind_try kinds (states_of ss) up (started_tries kinds n (states_of ss) call request moment)) ss)
  followed-put n ss call request moment None = refl
  followed-put n ss call request moment (Some e) = by (next_try (is_left (states_of ss)) e)
    where
      by : (o : Option End)
          → (followed_end o (states_of ss) (start_waiting kinds n (states_of ss) call request moment)).states ≡ states_of
          (put_all (behind_end kinds o (started_tries kinds n (states_of ss) call request moment)) ss)
      by None = waiting-put n ss call request moment
      by (Some up) = refl

  try-firsts : (at : ℕ) (run : Run M G) (plan : Plan M G) (ss : States M G) (next : Below M G) (o : Option End) → size run.state ≡ nodes plan → ((k : ℕ) → firsts k next.states ≡ firsts k ss)
      → firsts at (try_run run ss next o).states ≡ firsts at (state_then (waits plan) ss)
  try-firsts at run plan ss next None same rest = ap (λ n. at ∷ firsts (at + n) ss) same
  try-firsts at run plan ss next (Some e) same rest = by (next_try (is_left ss) e)
    where
      by : (o : Option End) → firsts at (try_ended run ss next o).states ≡ at ∷ firsts (at + nodes plan) ss
      by None = ap (λ n. at ∷ firsts (at + n) next.states) same ∙ ap (λ ns. at ∷ ns) (rest (at + nodes plan))
      by (Some up) = ap (λ n. at ∷ firsts (at + n) ss) same

  waiting-firsts : (at n : ℕ) (ss : States M G) (call : ℕ) (request : List ℕ) (moment : ℕ) → firsts at (start_waiting kinds n ss call request moment).states ≡ firsts at ss
  waiting-firsts at n last_state call request moment = refl
  waiting-firsts at n (state_then (waits plan) ss) call request moment =
      let run = start_at kinds n plan call request moment in
      try-firsts at run plan ss (start_waiting kinds (n + nodes plan) ss call request moment) (end_of run.state) (size-start kinds n plan call request moment)
      (λ k. waiting-firsts k (n + nodes plan) ss call request moment)
  waiting-firsts at n (state_then (leaf_state chan q leaf) ss) call request moment = refl
  waiting-firsts at n (state_then (par_state par below) ss) call request moment = refl
  waiting-firsts at n (state_then (sel_state sel below) ss) call request moment = refl

  pub followed-firsts : (at n : ℕ) (ss : States M G) (call : ℕ) (request : List ℕ) (moment : ℕ) (up : Option End)
      → firsts at (followed up ss (start_waiting kinds n ss call request moment)).states ≡ firsts at ss
  followed-firsts at n ss call request moment None = refl
  followed-firsts at n ss call request moment (Some e) = by (next_try (is_left ss) e)
    where
      by : (o : Option End) → firsts at (followed_end o ss (start_waiting kinds n ss call request moment)).states ≡ firsts at ss
      by None = waiting-firsts at n ss call request moment
      by (Some up) = refl

  -- ---- the try that a number is of

  followed-is : (run : Run M G) (rest : States M G) (next : Below M G) (up : Option End) → try_run run rest next up ≡ run_then run (followed up rest next)
  followed-is run rest next None = ended-then run rest None
  followed-is run rest next (Some e) = by (next_try (is_left rest) e)
    where
      by : (o : Option End) → try_ended run rest next o ≡ run_then run (followed_end o rest next)
      by None = refl
      by (Some up) = ended-then run rest (Some up)

  -- what comes behind the try of this index
  abbrev pub rest_from : List (State M G) → ℕ → States M G
  rest_from ss i = states_of (drop (suc i) ss)

  abbrev pub follows : List (State M G) → ℕ → ℕ → ℕ → List ℕ → ℕ → Option End → Below M G
  follows ss i number call request moment up = followed up (rest_from ss i) (start_waiting kinds number (rest_from ss i) call request moment)

  abbrev pub brings_try : List (State M G) → ℕ → ℕ → ℕ → List ℕ → ℕ → Option End → Brought M G
  brings_try ss i number call request moment up = record { end = up; started = behind_try kinds (rest_from ss i) up (started_tries kinds number (rest_from ss i) call request moment) }

  pub record IsTry (at to : ℕ) (ss : List (State M G)) (i first : ℕ) (s : State M G) : Type 0 where
    pub late : at ≤ first
    pub low : first ≤ to
    pub high : to < first + size s
    pub within : first + size s ≤ at + size_of (states_of ss)
    pub steps : (call : ℕ) (e : Event) (moment : ℕ) (request : List ℕ) → node_of e ≡ to → let run = step_at kinds first s call e moment in
        step_tries kinds at (states_of ss) call e moment request ≡ behind (take i ss) (run_then run (follows ss i (first + size s) call request moment (new_end (end_of s) (end_of run.state))))
    pub brings : (call : ℕ) (e : Event) (moment : ℕ) (request : List ℕ) → node_of e ≡ to
        → brought_tries kinds at (states_of ss) call e moment request ≡ brought_at kinds first s call e moment ++ brings_try ss i (first + size s) call request moment
        (new_end (end_of s) (end_of (step_at kinds first s call e moment).state)) ∷ []

  here-steps : (at : ℕ) (x : State M G) (ss : List (State M G)) (call : ℕ) (e : Event) (moment : ℕ) (request : List ℕ) (b : Bool) → nat_lt (node_of e) (at + size x) ≡ b
      → let run = step_at kinds at x call e moment in
      step_tries kinds at (states_of (x ∷ ss)) call e moment request
      ≡ cond b (try_run run (states_of ss) (start_waiting kinds (at + size x) (states_of ss) call request moment) (new_end (end_of x) (end_of run.state)))
      (beside x (step_tries kinds (at + size x) (states_of ss) call e moment request))
  here-steps at x ss call e moment request b is =
      let run = step_at kinds at x call e moment in
      ap (λ v. cond v (try_run run (states_of ss) (start_waiting kinds (at + size x) (states_of ss) call request moment) (new_end (end_of x) (end_of run.state)))
      (beside x (step_tries kinds (at + size x) (states_of ss) call e moment request))) is

  here-brings : (at : ℕ) (x : State M G) (ss : List (State M G)) (call : ℕ) (e : Event) (moment : ℕ) (request : List ℕ) (b : Bool) → nat_lt (node_of e) (at + size x) ≡ b
      → let up = new_end (end_of x) (end_of (step_at kinds at x call e moment).state) in
      brought_tries kinds at (states_of (x ∷ ss)) call e moment request
      ≡ cond b (brought_at kinds at x call e moment ++ brings_try (x ∷ ss) 0 (at + size x) call request moment up ∷ []) (brought_tries kinds (at + size x) (states_of ss) call e moment request)
  here-brings at x ss call e moment request b is =
      let up = new_end (end_of x) (end_of (step_at kinds at x call e moment).state) in
      ap (λ v. cond v (brought_at kinds at x call e moment ++ brings_try (x ∷ ss) 0 (at + size x) call request moment up ∷ [])
      (brought_tries kinds (at + size x) (states_of ss) call e moment request)) is

  try-holds : (at to : ℕ) (ss : List (State M G)) (i : ℕ) (s : State M G) → s ≡ get_or ss i s → i < length ss → get_or (firsts at (states_of ss)) i 0 ≤ to
      → ((k : ℕ) → i < k → k < length ss → to < get_or (firsts at (states_of ss)) k 0) → to < at + size_of (states_of ss) → IsTry at to ss i (get_or (firsts at (states_of ss)) i 0) s
  try-holds at to [] i s is h low next high = absurd (omega (arith, h))
  try-holds at to (x ∷ ss) zero s is h low next high =
      let below = next-first kinds (at + size x) to ss (λ some. next 1 (omega arith) (omega (arith, some))) (omega (arith, high)) in
      subst (λ y. IsTry at to (x ∷ ss) zero at y) (sym is)
      (record {
        late = omega arith;
        low = low;
        high = below;
        within = omega arith;
        steps = λ call e moment request same.
            here-steps at x ss call e moment request true (let test : nat_lt (node_of e) (at + size x) ≡ true = grind (arith, nat_tests) in test)
            ∙ followed-is (step_at kinds at x call e moment) (states_of ss) (start_waiting kinds (at + size x) (states_of ss) call request moment)
            (new_end (end_of x) (end_of (step_at kinds at x call e moment).state));
        brings = λ call e moment request same. here-brings at x ss call e moment request true (let test : nat_lt (node_of e) (at + size x) ≡ true = grind (arith, nat_tests) in test);
      })
  try-holds at to (x ∷ ss) (suc i) s is h low next high =
      let later = firsts-late (at + size x) ss i (let l = firsts-length (at + size x) ss in omega (arith, h, l)) in
      let rest = try-holds (at + size x) to ss i s is (omega (arith, h)) low (λ k before most. next (suc k) (omega (arith, before)) (omega (arith, most))) (omega (arith, high)) in
      record {
        late = (let l = rest.late in omega (arith, l));
        low = rest.low;
        high = rest.high;
        within = (let w = rest.within in omega (arith, w));
        steps = λ call e moment request same. here-steps at x ss call e moment request false (let test : nat_lt (node_of e) (at + size x) ≡ false = grind (arith, nat_tests) in test)
            ∙ ap (beside x) (rest.steps call e moment request same);
        brings = λ call e moment request same. here-brings at x ss call e moment request false (let test : nat_lt (node_of e) (at + size x) ≡ false = grind (arith, nat_tests) in test)
            ∙ rest.brings call e moment request same;
      }

  pub try-of : (number to : ℕ) (ss : List (State M G)) (i first : ℕ) (s : State M G) → IsAt number to (states_of ss) i first → s ≡ get_or ss i s → to < number + (1 + size_of (states_of ss))
      → IsTry (number + 1) to ss i first s
  try-of number to ss i first s h is high =
      let n = firsts-length (number + 1) ss in
      let low = h.low in
      let at = h.first_is in
      subst (λ f. IsTry (number + 1) to ss i f s) (sym at)
      (try-holds (number + 1) to ss i s is (at-there number to ss i first h) (omega (arith, low, at)) (λ k before most. h.high k before (omega (arith, most, n))) (omega (arith, high)))

  -- ---- the next try, by its place

  kids-left : (ss : List (State M G)) (i left : ℕ) → left + i ≡ length ss → nat_lt 0 left ≡ is_left (states_of (drop i ss))
  kids-left [] zero left count = let none : left ≡ 0 = omega (arith, count) in ap (nat_lt 0) none
  kids-left [] (suc i) left count = absurd (omega (arith, count))
  kids-left (t ∷ ts) zero left count = let some : nat_lt 0 left ≡ true = (let more : 0 < left = omega (arith, count) in grind (arith, nat_tests)) in some
  kids-left (t ∷ ts) (suc i) left count = kids-left ts i left (omega (arith, count))

  drop-first : (ss : List (State M G)) (i : ℕ) (s : State M G) → i < length ss → s ≡ get_or ss i s → states_of (drop i ss) ≡ state_then s (states_of (drop (suc i) ss))
  drop-first [] i s h is = absurd (omega (arith, h))
  drop-first (x ∷ ss) zero s h is = ap (λ y. state_then y (states_of ss)) (sym is)
  drop-first (x ∷ ss) (suc i) s h is = drop-first ss i s (omega (arith, h)) is

  pub next-turn : (ss : List (State M G)) (i : ℕ) (s : State M G) (plan : Plan M G) (n left : ℕ) (tree : State M G) (goes : Bool) (over end : Option End) (call : ℕ) (request : List ℕ) (moment : ℕ)
      → i < length ss → s ≡ get_or ss i s → plan_waiting s ≡ Some plan
      → tree ≡ (start_at kinds n plan call request moment).state → left + (i + 1) ≡ length ss → end ≡ end_of tree → (goes, over) ≡ after_try (nat_lt 0 left) end
      → IsTryTurn goes over (start_at kinds n plan call request moment) (start_waiting kinds n (states_of (drop i ss)) call request moment)
      (start_waiting kinds (n + nodes plan) (states_of (drop (i + 1) ss)) call request moment)
      (started_tries kinds n (states_of (drop i ss)) call request moment) (started_tries kinds (n + nodes plan) (states_of (drop (i + 1) ss)) call request moment)
  next-turn ss i s plan n left tree goes over end call request moment h is waiting tree_is count end_is after =
      let one : suc i ≡ i + 1 = omega arith in
      let rest = states_of (drop (i + 1) ss) in
      let split : states_of (drop i ss) ≡ state_then s rest = drop-first ss i s h is ∙ ap (λ k. state_then s (states_of (drop k ss))) one in
      let run = start_at kinds n plan call request moment in
      let next = start_waiting kinds (n + nodes plan) rest call request moment in
      let later = started_tries kinds (n + nodes plan) rest call request moment in
      subst (λ (x : States M G). IsTryTurn goes over run (start_waiting kinds n x call request moment) next (started_tries kinds n x call request moment) later) (sym split)
      (try-turn s rest plan n tree goes (nat_lt 0 left) over end call request moment waiting tree_is (kids-left ss (i + 1) left count) end_is after)

  pub waiting-size : (ss : List (State M G)) (i : ℕ) (s : State M G) (plan : Plan M G) → i < length ss → s ≡ get_or ss i s → plan_waiting s ≡ Some plan
      → size_of (states_of (drop i ss)) ≡ nodes plan + size_of (states_of (drop (i + 1) ss))
  waiting-size ss i s plan h is waiting =
      let one : suc i ≡ i + 1 = omega arith in
      drop-size ss i s h is ∙ ap (λ n. n + size_of (states_of (drop (suc i) ss))) (ap size (waits-of s plan waiting)) ∙ ap (λ k. nodes plan + size_of (states_of (drop k ss))) one

  pub next-items : (started now : List (State M G)) (tree state : State M G) (later all before : List (State M G)) → now ≡ started ++ tree ∷ [] → tree ≡ state → before ≡ state ∷ later
      → started ++ before ≡ all → now ++ later ≡ all
  next-items started now tree state later all before is same split h =
      ap (λ (xs : List (State M G)). xs ++ later) is ∙ append_assoc started (tree ∷ []) later ∙ ap (λ (x : State M G). started ++ x ∷ later) same
      ∙ sym (ap (λ (xs : List (State M G)). started ++ xs) split) ∙ h

pub next-sent : {X : Type 0} (out now sends sent later before all : List X) → now ≡ out ++ sends → sends ≡ sent → before ≡ sent ++ later → out ++ before ≡ all → now ++ later ≡ all
next-sent out now sends sent later before all is same split h =
    ap (λ xs. xs ++ later) (is ∙ ap (λ xs. out ++ xs) same) ∙ append_assoc out sent later ∙ sym (ap (λ xs. out ++ xs) split) ∙ h

pub last-sent : {X : Type 0} (out now sends sent before all : List X) → now ≡ out ++ sends → sends ≡ sent → before ≡ sent → out ++ before ≡ all → now ≡ all
last-sent out now sends sent before all is same split h = is ∙ ap (λ xs. out ++ xs) (same ∙ sym split) ∙ h

module _ {M G : Type 0} (kinds : Kinds M G) where
  -- where the end of a try doesn't end its node, the next ones come
  pub followed-next : (o : Option End) (end : End) (left : Bool) (rest : States M G) (next : Below M G) (later : List (State M G)) → o ≡ Some end → left ≡ is_left rest
      → next_try left end ≡ None → (followed o rest next ≡ next) × (behind_try kinds rest o later ≡ later)
  followed-next o end left rest next later is same none =
      let here : next_try (is_left rest) end ≡ None = sym (ap (λ b. next_try b end) same) ∙ none in
      (ap (λ x. followed x rest next) is ∙ ap (λ x. followed_end x rest next) here, ap (λ x. behind_try kinds rest x later) is ∙ ap (λ x. behind_end kinds x later) here)

pub get-place : {M G : Type 0} (fs : List ℕ) (ss : List (State M G)) (k d : ℕ) → fs ≡ firsts 1 (states_of ss) → k < length ss → get_or fs k d ≡ get_or (firsts 1 (states_of ss)) k 0
get-place fs ss k d are h = ap (λ xs. get_or xs k d) are ∙ get-any (firsts 1 (states_of ss)) k d 0 (let n = firsts-length 1 ss in omega (arith, n, h))
