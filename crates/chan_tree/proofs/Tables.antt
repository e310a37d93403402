-- The place of an attempt among all attempts of a plan, by the leaf of its number.
use Rattle.std.proofs.Common.{◌≡◌, ℕ, zero, suc, ◌+◌, ◌-◌, ◌<◌, ◌≤◌, ◌⊎◌, inl, inr, Bool, true, false, cond, ◌==◌}
use Rattle.std.proofs.Common.{◌&&◌, nat_lt, List, [], ◌∷◌, ◌++◌, length, position, slice_get, Option, Some}
use Rattle.std.proofs.Common.{None, arith, refl, ap, sym, ◌∙◌, length-append}
use Rattle.std.specs.Prelude.{if◌then◌else◌}
use Rattle.std.specs.Option.{option_map}
use Rattle.std.proofs.lemmas.Bool.Decides.{nat_tests}
use Rattle.rpc_model.specs.declared.meaning.Meaning.{Meaning}
use Rattle.rpc_model.specs.declared.meaning.Meaning.TheVariants.{Node, Attempt}
use Rattle.rpc_model.specs.Plan.{Plan, leaf_plan, par_plan, sel_plan, Plans, last_plan, plan_then}
use Rattle.rpc_model.specs.Versions.{nodes, nodes_of, possible_attempts, possible_attempts_of, leaf_versions}
use Rattle.rpc_model.specs.Versions.{attempt_versions, attempt_versions_of, is_same}
use Rattle.rpc_model.proofs.First.{position_some}
use Rattle.rpc_model.proofs.Versions.{length-leaf as count-versions, Apart, Within, apart-above, attempts-within}
use Rattle.rpc_model.proofs.Versions.{all-within, position-cons, position-none}
use Rattle.chan_tree.specs.declared.table.PlanLeaf.{PlanLeaf}
use Rattle.chan_tree.specs.Table.{Entry, entry_of, entries_of, entries, entries_below, entry_or_none, entry_at}
use Rattle.chan_tree.specs.Table.{place_in}

-- ---- the attempts of a leaf, one after another

one-more : (node j count : ℕ)
    → leaf_versions node j (suc count) ≡ leaf_versions node j count ++ Attempt node (j + count) ∷ []
one-more node j zero = ap (λ n. Attempt node n ∷ []) (let same : j ≡ j + 0 = omega arith in same)
one-more node j (suc count) =
    ap (λ xs. Attempt node j ∷ xs) (one-more node (j + 1) count)
    ∙ ap (λ n. Attempt node j ∷ leaf_versions node (j + 1) count ++ Attempt node n ∷ [])
    (let same : j + 1 + count ≡ j + suc count = omega arith in same)

pub one-more-attempt : (node count : ℕ)
    → leaf_versions node 0 (suc count) ≡ leaf_versions node 0 count ++ Attempt node count ∷ []
one-more-attempt node count = one-more node 0 count
    ∙ ap (λ n. leaf_versions node 0 count ++ Attempt node n ∷ []) (let same : 0 + count ≡ count = omega arith in same)

pub nodes-some : {M G : Type 0} (plan : Plan M G) → 1 ≤ nodes plan
nodes-some (leaf_plan leaf) = omega arith
nodes-some (par_plan rule plans) = omega arith
nodes-some (sel_plan timeout plans) = omega arith

one-later : (attempt count : ℕ)
    → option_map suc
    (if nat_lt attempt count then Some attempt else None) ≡ (if nat_lt (suc attempt) (suc count) then Some (suc attempt) else None)
one-later attempt count = by (nat_lt attempt count) refl
  where
    by : (b : Bool) → nat_lt attempt count ≡ b
        → option_map suc
        (if b then Some attempt else None) ≡ (if nat_lt (suc attempt) (suc count) then Some (suc attempt) else None)
    by true e =
        let less : nat_lt (suc attempt) (suc count) ≡ true = grind (arith, nat_tests) in sym
        (ap (λ c. if c then Some (suc attempt) else None) less)
    by false e =
        let past : nat_lt (suc attempt) (suc count) ≡ false = grind (arith, nat_tests) in sym
        (ap (λ c. if c then Some (suc attempt) else None) past)

-- Where an attempt stands among those of its leaf, from the attempt j on.
leaf-found : (node j count attempt : ℕ)
    → position (is_same (Attempt node (j + attempt)))
    (leaf_versions node j count) ≡ (if nat_lt attempt count then Some attempt else None)
leaf-found node j zero attempt =
    let past : nat_lt attempt 0 ≡ false = grind (arith, nat_tests) in sym
    (ap (λ c. if c then Some attempt else None) past)
leaf-found node j (suc count) zero =
    let m = Attempt node (j + 0) in
    let a : (node == node) ≡ true = grind (arith, nat_tests) in
    let b : (j + 0 == j) ≡ true = grind (arith, nat_tests) in
    let here : is_same m (Attempt node j) ≡ true = ap (λ v. v && j + 0 == j) a ∙ b in
    let less : nat_lt 0 (suc count) ≡ true = grind (arith, nat_tests) in
    position-cons (is_same m) (Attempt node j) (leaf_versions node (j + 1) count)
    ∙ ap (λ v. cond v (Some 0) (option_map suc (position (is_same m) (leaf_versions node (j + 1) count)))) here
    ∙ sym (ap (λ c. if c then Some 0 else None) less)
leaf-found node j (suc count) (suc attempt) =
    let m = Attempt node (j + suc attempt) in
    let a : (node == node) ≡ true = grind (arith, nat_tests) in
    let b : (j + suc attempt == j) ≡ false = grind (arith, nat_tests) in
    let other : is_same m (Attempt node j) ≡ false = ap (λ v. v && j + suc attempt == j) a ∙ b in
    let same : j + suc attempt ≡ j + 1 + attempt = omega arith in
    position-cons (is_same m) (Attempt node j) (leaf_versions node (j + 1) count)
    ∙ ap (λ v. cond v (Some 0) (option_map suc (position (is_same m) (leaf_versions node (j + 1) count)))) other
    ∙ ap (λ n. option_map suc (position (is_same (Attempt node n)) (leaf_versions node (j + 1) count))) same
    ∙ ap (option_map suc) (leaf-found node (j + 1) count attempt) ∙ one-later attempt count

place-if : (first attempt : ℕ) (b : Bool)
    → option_map (λ i. first + i) (if b then Some attempt else None) ≡ (if b then Some (first + attempt) else None)
place-if first attempt true = refl
place-if first attempt false = refl

-- ---- a list and then another one

pub get-left : {X : Type 0} (xs ys : List X) (k : ℕ) → k < length xs → slice_get (xs ++ ys) k ≡ slice_get xs k
get-left [] ys k less = absurd (omega (arith, less))
get-left (x ∷ xs) ys zero less = refl
get-left (x ∷ xs) ys (suc k) less = get-left xs ys k (omega (arith, less))

pub get-right : {X : Type 0} (xs ys : List X) (k j : ℕ) → k ≡ length xs + j → slice_get (xs ++ ys) k ≡ slice_get ys j
get-right [] ys k j e = ap (slice_get ys) (let same : k ≡ j = omega (arith, e) in same)
get-right (x ∷ xs) ys zero j e = absurd (omega (arith, e))
get-right (x ∷ xs) ys (suc k) j e = get-right xs ys k j (omega (arith, e))

pub one-past : (count : ℕ) (o : Option ℕ)
    → option_map suc (option_map (λ i. count + i) o) ≡ option_map (λ i. suc count + i) o
one-past count None = refl
one-past count (Some i) = ap Some (let same : suc (count + i) ≡ suc count + i = omega arith in same)

pub none-past : (o : Option ℕ) → o ≡ option_map (λ i. 0 + i) o
none-past None = refl
none-past (Some i) = ap Some (let same : i ≡ 0 + i = omega arith in same)

both-past : (a b end : ℕ) (o : Option ℕ) → a + b ≡ end
    → option_map (λ i. a + i) (option_map (λ i. b + i) o) ≡ option_map (λ i. end + i) o
both-past a b end None e = refl
both-past a b end (Some i) e = ap Some (let same : a + (b + i) ≡ end + i = omega (arith, e) in same)

behind-apart : (m : Meaning) (xs ys : List Meaning) → Apart m xs
    → position (is_same m) (xs ++ ys) ≡ option_map (λ i. length xs + i) (position (is_same m) ys)
behind-apart m [] ys h = none-past (position (is_same m) ys)
behind-apart m (x ∷ xs) ys h =
    position-cons (is_same m) x (xs ++ ys)
    ∙ ap (λ v. cond v (Some 0) (option_map suc (position (is_same m) (xs ++ ys)))) h.0
    ∙ ap (option_map suc) (behind-apart m xs ys h.1) ∙ one-past (length xs) (position (is_same m) ys)

before-apart : (m : Meaning) (xs ys : List Meaning) → Apart m ys
    → position (is_same m) (xs ++ ys) ≡ position (is_same m) xs
before-apart m [] ys h = position-none m ys h
before-apart m (x ∷ xs) ys h =
    position-cons (is_same m) x (xs ++ ys)
    ∙ ap (λ o. cond (is_same m x) (Some 0) (option_map suc o)) (before-apart m xs ys h)
    ∙ sym (position-cons (is_same m) x xs)

other-node : (n node : ℕ) (v : Bool) → (n ≡ node → ⊥) → (n == node && v) ≡ false
other-node n node v differ = let other : (n == node) ≡ false = grind (arith, nat_tests) in ap (λ w. w && v) other

apart-below : (n k low high : ℕ) (xs : List Meaning) → n < low → Within low high xs → Apart (Attempt n k) xs
apart-below n k low high [] less h = tt
apart-below n k low high (Node node ∷ xs) less h = absurd h
apart-below n k low high (Attempt node j ∷ xs) less h =
    let a = h.0 in (other-node n node (k == j) (λ e. absurd (omega (arith, e, less, a))), apart-below n k low high xs less h.2)

pub before_or_not : (a b : ℕ) → (a < b) ⊎ (b ≤ a)
before_or_not a b = by (nat_lt a b) refl
  where
    by : (v : Bool) → nat_lt a b ≡ v → (a < b) ⊎ (b ≤ a)
    by true e = inl (grind (arith, nat_tests))
    by false e = inr (grind (arith, nat_tests))

-- A node that isn't a leaf stands before those below it.
pub root-then : (old : List (Option PlanLeaf)) (rest : List (Option Entry))
    → entries_of (old ++ None ∷ []) ++ rest ≡ entries_of old ++ None ∷ rest
root-then [] rest = refl
root-then (leaf ∷ old) rest = ap (λ es. option_map entry_of leaf ∷ es) (root-then old rest)

-- ---- how many there are

module _ {M G : Type 0} where
  mutual
    pub count-entries : (first : ℕ) (plan : Plan M G) → length (entries first plan) ≡ nodes plan
    count-entries first (leaf_plan leaf) = refl
    count-entries first (par_plan rule plans) = let h = count-below first plans in omega (arith, h)
    count-entries first (sel_plan timeout plans) = let h = count-below first plans in omega (arith, h)

    count-below : (first : ℕ) (plans : Plans M G) → length (entries_below first plans) ≡ nodes_of plans
    count-below first last_plan = refl
    count-below first (plan_then plan plans) =
        let l = length-append (entries first plan) (entries_below (first + possible_attempts plan) plans) in
        let a = count-entries first plan in
        let b = count-below (first + possible_attempts plan) plans in
        omega (arith, l, a, b)

  mutual
    count-attempts : (node : ℕ) (plan : Plan M G) → length (attempt_versions node plan) ≡ possible_attempts plan
    count-attempts node (leaf_plan leaf) = count-versions node 0 (leaf.retry + 1)
    count-attempts node (par_plan rule plans) = count-all (node + 1) plans
    count-attempts node (sel_plan timeout plans) = count-all (node + 1) plans

    count-all : (node : ℕ) (plans : Plans M G) → length (attempt_versions_of node plans) ≡ possible_attempts_of plans
    count-all node last_plan = refl
    count-all node (plan_then plan plans) =
        let l = length-append (attempt_versions node plan) (attempt_versions_of (node + nodes plan) plans) in
        let a = count-attempts node plan in
        let b = count-all (node + nodes plan) plans in
        omega (arith, l, a, b)

  -- ---- where an attempt stands

  -- the attempt of the node k behind the root stands where the table says
  abbrev IsFound : ℕ → ℕ → Plan M G → ℕ → ℕ → Type 0
  IsFound first node plan k attempt =
      option_map (λ i. first + i)
      (position (is_same (Attempt (node + k) attempt)) (attempt_versions node plan)) ≡ place_in
      (entry_at (entries first plan) k) attempt

  abbrev IsFoundBelow : ℕ → ℕ → Plans M G → ℕ → ℕ → Type 0
  IsFoundBelow first node plans k attempt =
      option_map (λ i. first + i)
      (position (is_same (Attempt (node + k) attempt)) (attempt_versions_of node plans)) ≡ place_in
      (entry_at (entries_below first plans) k) attempt

  -- It is an attempt of the first plan, or of those behind it.
  found-joined : (first node : ℕ) (plan : Plan M G) (plans : Plans M G) (k attempt : ℕ)
      → IsFound first node plan k attempt
      → ((j : ℕ) → IsFoundBelow (first + possible_attempts plan) (node + nodes plan) plans j attempt)
      → IsFoundBelow first node (plan_then plan plans) k attempt
  found-joined first node plan plans k attempt here below = by (before_or_not k (nodes plan))
    where
      by : (k < nodes plan) ⊎ (nodes plan ≤ k) → IsFoundBelow first node (plan_then plan plans) k attempt
      by (inl less) =
          let ys = attempt_versions_of (node + nodes plan) plans in
          let apart = apart-below (node + k) attempt (node + nodes plan) (node + nodes plan + nodes_of plans) ys
          (omega (arith, less)) (all-within (node + nodes plan) plans) in
          let long = count-entries first plan in
          ap (option_map (λ i. first + i))
          (before-apart (Attempt (node + k) attempt) (attempt_versions node plan) ys apart)
          ∙ here
          ∙ ap (λ e. place_in (entry_or_none e) attempt)
          (sym (get-left (entries first plan) (entries_below (first + possible_attempts plan) plans) k (omega (arith, less, long))))
      by (inr le) =
          let xs = attempt_versions node plan in
          let ys = attempt_versions_of (node + nodes plan) plans in
          let end = first + possible_attempts plan in
          let apart = apart-above (node + k) attempt node (node + nodes plan) xs (omega (arith, le))
          (attempts-within node plan) in
          let many = count-attempts node plan in
          let long = count-entries first plan in
          let same : node + k ≡ node + nodes plan + (k - nodes plan) = omega (arith, le) in
          ap (option_map (λ i. first + i)) (behind-apart (Attempt (node + k) attempt) xs ys apart)
          ∙ both-past first (length xs) end (position (is_same (Attempt (node + k) attempt)) ys) (omega (arith, many))
          ∙ ap (λ n. option_map (λ i. end + i) (position (is_same (Attempt n attempt)) ys)) same
          ∙ below (k - nodes plan)
          ∙ ap (λ e. place_in (entry_or_none e) attempt)
          (sym (get-right (entries first plan) (entries_below end plans) k (k - nodes plan) (omega (arith, le, long))))

  -- The root has no attempt, and what is below it stands one number behind.
  found-root : (first node : ℕ) (plans : Plans M G) (attempt : ℕ)
      → option_map (λ i. first + i)
      (position (is_same (Attempt (node + 0) attempt)) (attempt_versions_of (node + 1) plans)) ≡ None
  found-root first node plans attempt =
      let xs = attempt_versions_of (node + 1) plans in
      let apart = apart-below (node + 0) attempt (node + 1) (node + 1 + nodes_of plans) xs (omega arith)
      (all-within (node + 1) plans) in
      ap (option_map (λ i. first + i)) (position-none (Attempt (node + 0) attempt) xs apart)

  found-later : (first node : ℕ) (plans : Plans M G) (k attempt : ℕ) → IsFoundBelow first (node + 1) plans k attempt
      → option_map (λ i. first + i)
      (position (is_same (Attempt (node + suc k) attempt)) (attempt_versions_of (node + 1) plans)) ≡ place_in
      (entry_at (entries_below first plans) k) attempt
  found-later first node plans k attempt below =
      let same : node + suc k ≡ node + 1 + k = omega arith in
      ap (λ n. option_map (λ i. first + i) (position (is_same (Attempt n attempt)) (attempt_versions_of (node + 1) plans))) same
      ∙ below

  mutual
    found : (first node : ℕ) (plan : Plan M G) (k attempt : ℕ) → IsFound first node plan k attempt
    found first node (leaf_plan leaf) zero attempt =
        let xs = leaf_versions node 0 (leaf.retry + 1) in
        let same : node + 0 ≡ node = omega arith in
        let from : attempt ≡ 0 + attempt = omega arith in
        ap (λ n. option_map (λ i. first + i) (position (is_same (Attempt n attempt)) xs)) same
        ∙ ap (λ a. option_map (λ i. first + i) (position (is_same (Attempt node a)) xs)) from
        ∙ ap (option_map (λ i. first + i)) (leaf-found node 0 (leaf.retry + 1) attempt)
        ∙ place-if first attempt (nat_lt attempt (leaf.retry + 1))
    found first node (leaf_plan leaf) (suc k) attempt =
        let xs = leaf_versions node 0 (leaf.retry + 1) in
        let apart = apart-above (node + suc k) attempt node (node + 1) xs (omega arith)
        (attempts-within {M = M} {G = G} node (leaf_plan leaf)) in
        ap (option_map (λ i. first + i)) (position-none (Attempt (node + suc k) attempt) xs apart)
    found first node (par_plan rule plans) zero attempt = found-root first node plans attempt
    found first node (par_plan rule plans) (suc k) attempt =
        found-later first node plans k attempt (found-below first (node + 1) plans k attempt)
    found first node (sel_plan timeout plans) zero attempt = found-root first node plans attempt
    found first node (sel_plan timeout plans) (suc k) attempt =
        found-later first node plans k attempt (found-below first (node + 1) plans k attempt)

    found-below : (first node : ℕ) (plans : Plans M G) (k attempt : ℕ) → IsFoundBelow first node plans k attempt
    found-below first node last_plan k attempt = refl
    found-below first node (plan_then plan plans) k attempt =
        found-joined first node plan plans k attempt (found first node plan k attempt)
        (λ j. found-below (first + possible_attempts plan) (node + nodes plan) plans j attempt)

  pub attempt_place : (p : Plan M G) (node attempt : ℕ)
      → position (is_same (Attempt node attempt)) (attempt_versions 0 p) ≡ place_in
      (entry_at (entries 0 p) node) attempt
  attempt_place p node attempt =
      let same : node ≡ 0 + node = omega arith in
      ap (λ n. position (is_same (Attempt n attempt)) (attempt_versions 0 p)) same
      ∙ none-past (position (is_same (Attempt (0 + node) attempt)) (attempt_versions 0 p))
      ∙ found 0 0 p node attempt

  -- The place is below the number of all attempts.
  pub place_short : (p : Plan M G) (node attempt : ℕ) (e : Entry) → entry_at (entries 0 p) node ≡ Some e
      → attempt < e.count → e.first + attempt < possible_attempts p
  place_short p node attempt e is few =
      let less : nat_lt attempt e.count ≡ true = grind (arith, nat_tests) in
      let found = attempt_place p node attempt ∙ ap (λ o. place_in o attempt) is
      ∙ ap (λ b. if b then Some (e.first + attempt) else None) less in
      let place = position_some (is_same (Attempt node attempt)) (attempt_versions 0 p) (e.first + attempt) found in
      let within = place.1 in
      let many = count-attempts 0 p in
      omega (arith, within, many)
