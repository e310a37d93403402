-- No version of a range stands for two things, and offsets and meanings are inverse.
use Rattle.std.proofs.Common.{◌≡◌, ℕ, zero, suc, ◌+◌, ◌<◌, ◌≤◌, Bool, true, false, cond, not, ◌==◌, ◌&&◌, nat_lt, Option, Some, None}
use Rattle.std.proofs.Common.{List, [], ◌∷◌, ◌++◌, length, position, slice_get, arith, refl, ap, sym, ◌∙◌, subst, length-append}
use Rattle.std.specs.List.{IsDistinct, AllByRecursion, position_or_len}
use Rattle.std.specs.Option.{option_map}
use Rattle.std.proofs.lemmas.Bool.Decides.{nat_tests}
use Rattle.std.proofs.lemmas.Map.Keys.{IsDistinct-cons, IsDistinct-head, IsDistinct-tail}
use Rattle.rpc_model.specs.declared.meaning.Meaning.{Meaning}
use Rattle.rpc_model.specs.declared.meaning.Meaning.TheVariants.{Node, Attempt}
use Rattle.rpc_model.specs.Plan.{Plan, leaf_plan, par_plan, sel_plan, Plans, last_plan, plan_then}
use Rattle.rpc_model.specs.Versions.{node_versions, leaf_versions, is_same, nodes, nodes_of, possible_attempts, possible_attempts_of}
use Rattle.rpc_model.specs.Versions.{attempt_versions, attempt_versions_of, versions, width, offset_of, meaning_of}

-- ---- lists without repeats

-- what stands for this isn't among them
abbrev pub Apart : Meaning → List Meaning → Type 0
Apart m xs = AllByRecursion (λ x. is_same m x ≡ false) xs

pub apart-append : (m : Meaning) (xs ys : List Meaning) → Apart m xs → Apart m ys → Apart m (xs ++ ys)
apart-append m [] ys h hs = hs
apart-append m (x ∷ xs) ys h hs = (h.0, apart-append m xs ys h.1 hs)

both-same : (a b c d : ℕ) → (a == c && b == d) ≡ true → (a ≡ c) × (b ≡ d)
both-same a b c d h = (by (a == c) refl (λ e. grind (arith, nat_tests)), by-second (a == c) (b == d) refl refl)
  where
    by : (v : Bool) → (a == c) ≡ v → (v ≡ true → a ≡ c) → a ≡ c
    by true e then = then refl
    by false e then = absurd (let no_match : (a == c && b == d) ≡ false = ap (λ v. v && b == d) e in let both = sym h ∙ no_match in cc)

    by-second : (v w : Bool) → (a == c) ≡ v → (b == d) ≡ w → b ≡ d
    by-second v true e f = grind (arith, nat_tests)
    by-second true false e f = absurd (let no_match : (a == c && b == d) ≡ false = ap (λ v. v && b == d) e ∙ f in let both = sym h ∙ no_match in cc)
    by-second false false e f = absurd (let no_match : (a == c && b == d) ≡ false = ap (λ v. v && b == d) e in let both = sym h ∙ no_match in cc)

pub same-is : (m x : Meaning) → is_same m x ≡ true → m ≡ x
same-is (Node n) (Node node) h = let e : n ≡ node = grind (arith, nat_tests) in ap Node e
same-is (Node n) (Attempt node k) h = absurd (cc)
same-is (Attempt n k) (Node node) h = absurd (cc)
same-is (Attempt n k) (Attempt node j) h = let e = both-same n k node j h in ap (λ a. Attempt a k) e.0 ∙ ap (Attempt node) e.1

pub is-same : (m : Meaning) → is_same m m ≡ true
is-same (Node n) = grind (arith, nat_tests)
is-same (Attempt n k) = let a : (n == n) ≡ true = grind (arith, nat_tests) in let b : (k == k) ≡ true = grind (arith, nat_tests) in ap (λ v. v && k == k) a ∙ b

-- ---- places

pub position-cons : (p : Meaning → Bool) (x : Meaning) (xs : List Meaning) → position p (x ∷ xs) ≡ cond (p x) (Some 0) (option_map suc (position p xs))
position-cons p x xs = by (p x) refl (nat_lt (position_or_len p xs) (length xs)) refl
  where
    by : (v : Bool) → p x ≡ v → (w : Bool) → nat_lt (position_or_len p xs) (length xs) ≡ w → position p (x ∷ xs) ≡ cond v (Some 0) (option_map suc (cond w (Some (position_or_len p xs)) None))
    by true e w f = let here : position_or_len p (x ∷ xs) ≡ 0 = ap (λ v. cond (not v) (1 + position_or_len p xs) 0) e in grind (arith, nat_tests)
    by false e true f = let here : position_or_len p (x ∷ xs) ≡ 1 + position_or_len p xs = ap (λ v. cond (not v) (1 + position_or_len p xs) 0) e in grind (arith, nat_tests)
    by false e false f = let here : position_or_len p (x ∷ xs) ≡ 1 + position_or_len p xs = ap (λ v. cond (not v) (1 + position_or_len p xs) 0) e in grind (arith, nat_tests)

pub position-none : (m : Meaning) (xs : List Meaning) → Apart m xs → position (is_same m) xs ≡ None
position-none m [] h = refl
position-none m (x ∷ xs) h = position-cons (is_same m) x xs ∙ ap (λ v. cond v (Some 0) (option_map suc (position (is_same m) xs))) h.0 ∙ ap (option_map suc) (position-none m xs h.1)

apart-at : (x m : Meaning) (xs : List Meaning) (i : ℕ) → Apart x xs → slice_get xs i ≡ Some m → is_same x m ≡ false
apart-at x m [] i h e = absurd (cc)
apart-at x m (y ∷ ys) zero h e = let same : y ≡ m = cc in ap (is_same x) (sym same) ∙ h.0
apart-at x m (y ∷ ys) (suc i) h e = apart-at x m ys i h.1 e

flipped : (x m : Meaning) → is_same x m ≡ false → is_same m x ≡ false
flipped x m h = by (is_same m x) refl
  where
    by : (v : Bool) → is_same m x ≡ v → v ≡ false
    by false e = refl
    by true e = absurd (let same = same-is m x e in let yes_ = ap (λ y. is_same y m) (sym same) ∙ is-same m in let both = sym yes_ ∙ h in cc)

-- What stands at a place is first found there.
pub position-of : (m : Meaning) (xs : List Meaning) (i : ℕ) → IsDistinct is_same xs → slice_get xs i ≡ Some m → position (is_same m) xs ≡ Some i
position-of m [] i h e = absurd (cc)
position-of m (x ∷ xs) zero h e =
    let same : x ≡ m = cc in
    position-cons (is_same m) x xs ∙ ap (λ v. cond v (Some 0) (option_map suc (position (is_same m) xs))) (ap (is_same m) same ∙ is-same m)
position-of m (x ∷ xs) (suc i) h e =
    let other = flipped x m (apart-at x m xs i (IsDistinct-head is_same x xs h) e) in
    position-cons (is_same m) x xs ∙ ap (λ v. cond v (Some 0) (option_map suc (position (is_same m) xs))) other ∙ ap (option_map suc) (position-of m xs i (IsDistinct-tail is_same x xs h) e)

-- What is found at a place stands there.
pub at-position : (m : Meaning) (xs : List Meaning) (i : ℕ) → position (is_same m) xs ≡ Some i → slice_get xs i ≡ Some m
at-position m [] i e = absurd (cc)
at-position m (x ∷ xs) i e = by (is_same m x) (position (is_same m) xs) refl refl (sym (position-cons (is_same m) x xs) ∙ e) (λ j h. at-position m xs j h)
  where
    by : (v : Bool) (o : Option ℕ) → is_same m x ≡ v → position (is_same m) xs ≡ o → cond v (Some 0) (option_map suc o) ≡ Some i
        → ((j : ℕ) → position (is_same m) xs ≡ Some j → slice_get xs j ≡ Some m) → slice_get (x ∷ xs) i ≡ Some m
    by true o here rest h again = let zero_is : 0 ≡ i = cc in subst (λ j. slice_get (x ∷ xs) j ≡ Some m) zero_is (ap Some (sym (same-is m x here)))
    by false None here rest h again = absurd (cc)
    by false (Some j) here rest h again = let suc_is : suc j ≡ i = cc in subst (λ k. slice_get (x ∷ xs) k ≡ Some m) suc_is (again j rest)

-- ---- the versions

-- attempts of leaves with numbers from the first to below the second
abbrev pub Within : ℕ → ℕ → List Meaning → Type 0
Within low high [] = Unit {0}
Within low high (Node n ∷ xs) = ⊥
Within low high (Attempt n k ∷ xs) = (low ≤ n) × (n < high) × Within low high xs

within-append : (low high : ℕ) (xs ys : List Meaning) → Within low high xs → Within low high ys → Within low high (xs ++ ys)
within-append low high [] ys h hs = hs
within-append low high (Node n ∷ xs) ys h hs = absurd h
within-append low high (Attempt n k ∷ xs) ys h hs = (h.0, h.1, within-append low high xs ys h.2 hs)

wider : (low high lower higher : ℕ) (xs : List Meaning) → lower ≤ low → high ≤ higher → Within low high xs → Within lower higher xs
wider low high lower higher [] le le' h = tt
wider low high lower higher (Node n ∷ xs) le le' h = h
wider low high lower higher (Attempt n k ∷ xs) le le' h = let a = h.0 in let b = h.1 in (omega (arith, a, le), omega (arith, b, le'), wider low high lower higher xs le le' h.2)

other-leaf : (n k j node : ℕ) → (n ≡ node → ⊥) → (n == node && k == j) ≡ false
other-leaf n k j node differ = let no_match : (n == node) ≡ false = grind (arith, nat_tests) in ap (λ v. v && k == j) no_match

apart-below : (n k low high : ℕ) (xs : List Meaning) → n < low → Within low high xs → Apart (Attempt n k) xs
apart-below n k low high [] less h = tt
apart-below n k low high (Node node ∷ xs) less h = absurd h
apart-below n k low high (Attempt node j ∷ xs) less h = let a = h.0 in (other-leaf n k j node (λ e. absurd (omega (arith, e, less, a))), apart-below n k low high xs less h.2)

pub apart-above : (n k low high : ℕ) (xs : List Meaning) → high ≤ n → Within low high xs → Apart (Attempt n k) xs
apart-above n k low high [] le h = tt
apart-above n k low high (Node node ∷ xs) le h = absurd h
apart-above n k low high (Attempt node j ∷ xs) le h = let b = h.1 in (other-leaf n k j node (λ e. absurd (omega (arith, e, le, b))), apart-above n k low high xs le h.2)

apart-node : (n low high : ℕ) (xs : List Meaning) → Within low high xs → Apart (Node n) xs
apart-node n low high [] h = tt
apart-node n low high (Node node ∷ xs) h = absurd h
apart-node n low high (Attempt node j ∷ xs) h = (refl, apart-node n low high xs h.2)

distinct-append : (low mid high : ℕ) (xs ys : List Meaning) → Within low mid xs → Within mid high ys → IsDistinct is_same xs → IsDistinct is_same ys → IsDistinct is_same (xs ++ ys)
distinct-append low mid high [] ys w ws d ds = ds
distinct-append low mid high (Node n ∷ xs) ys w ws d ds = absurd w
distinct-append low mid high (Attempt n k ∷ xs) ys w ws d ds =
    IsDistinct-cons is_same (Attempt n k) (xs ++ ys)
    (apart-append (Attempt n k) xs ys (IsDistinct-head is_same (Attempt n k) xs d) (apart-below n k mid high ys w.1 ws))
    (distinct-append low mid high xs ys w.2 ws (IsDistinct-tail is_same (Attempt n k) xs d) ds)

leaf-within : (node first count : ℕ) → Within node (node + 1) (leaf_versions node first count)
leaf-within node first zero = tt
leaf-within node first (suc count) = (omega arith, omega arith, leaf-within node (first + 1) count)

leaf-apart : (node k first count : ℕ) → k < first → Apart (Attempt node k) (leaf_versions node first count)
leaf-apart node k first zero less = tt
leaf-apart node k first (suc count) less =
    let same : (node == node) ≡ true = grind (arith, nat_tests) in
    let other : (k == first) ≡ false = grind (arith, nat_tests) in
    (ap (λ v. v && k == first) same ∙ other, leaf-apart node k (first + 1) count (omega (arith, less)))

pub leaf-apart-past : (node k first count : ℕ) → first + count ≤ k → Apart (Attempt node k) (leaf_versions node first count)
leaf-apart-past node k first zero past = tt
leaf-apart-past node k first (suc count) past =
    let same : (node == node) ≡ true = grind (arith, nat_tests) in
    let other : (k == first) ≡ false = (let less : first < k = omega (arith, past) in grind (arith, nat_tests)) in
    (ap (λ v. v && k == first) same ∙ other, leaf-apart-past node k (first + 1) count (omega (arith, past)))

nothing-distinct : IsDistinct is_same []
unfolding IsDistinct
nothing-distinct = tt

leaf-distinct : (node first count : ℕ) → IsDistinct is_same (leaf_versions node first count)
leaf-distinct node first zero = nothing-distinct
leaf-distinct node first (suc count) = IsDistinct-cons is_same (Attempt node first) (leaf_versions node (first + 1) count) (leaf-apart node first (first + 1) count (omega arith))
    (leaf-distinct node (first + 1) count)

node-apart : (n first count : ℕ) → n < first → Apart (Node n) (node_versions first count)
node-apart n first zero less = tt
node-apart n first (suc count) less = (let e : n < first = less in grind (arith, nat_tests), node-apart n (first + 1) count (omega (arith, less)))

attempt-apart : (n k first count : ℕ) → Apart (Attempt n k) (node_versions first count)
attempt-apart n k first zero = tt
attempt-apart n k first (suc count) = (refl, attempt-apart n k (first + 1) count)

nodes-and-attempts : (first count low high : ℕ) (xs : List Meaning) → Within low high xs → IsDistinct is_same xs → IsDistinct is_same (node_versions first count ++ xs)
nodes-and-attempts first zero low high xs w d = d
nodes-and-attempts first (suc count) low high xs w d =
    IsDistinct-cons is_same (Node first) (node_versions (first + 1) count ++ xs)
    (apart-append (Node first) (node_versions (first + 1) count) xs (node-apart first (first + 1) count (omega arith)) (apart-node first low high xs w))
    (nodes-and-attempts (first + 1) count low high xs w d)

-- ---- how many

pub length-nodes : (first count : ℕ) → length (node_versions first count) ≡ count
length-nodes first zero = refl
length-nodes first (suc count) = ap suc (length-nodes (first + 1) count)

pub length-leaf : (node first count : ℕ) → length (leaf_versions node first count) ≡ count
length-leaf node first zero = refl
length-leaf node first (suc count) = ap suc (length-leaf node (first + 1) count)

module _ {M G : Type 0} where
  mutual
    pub attempts-within : (node : ℕ) (plan : Plan M G) → Within node (node + nodes plan) (attempt_versions node plan)
    attempts-within node (leaf_plan leaf) = leaf-within node 0 (leaf.retry + 1)
    attempts-within node (par_plan rule plans) = wider (node + 1) (node + 1 + nodes_of plans) node (node + (1 + nodes_of plans)) (attempt_versions_of (node + 1) plans) (omega arith) (omega arith)
        (all-within (node + 1) plans)
    attempts-within node (sel_plan timeout plans) = wider (node + 1) (node + 1 + nodes_of plans) node (node + (1 + nodes_of plans)) (attempt_versions_of (node + 1) plans) (omega arith)
        (omega arith) (all-within (node + 1) plans)

    pub all-within : (node : ℕ) (plans : Plans M G) → Within node (node + nodes_of plans) (attempt_versions_of node plans)
    all-within node last_plan = tt
    all-within node (plan_then plan plans) =
        within-append node (node + (nodes plan + nodes_of plans)) (attempt_versions node plan) (attempt_versions_of (node + nodes plan) plans)
        (wider node (node + nodes plan) node (node + (nodes plan + nodes_of plans)) (attempt_versions node plan) (omega arith) (omega arith) (attempts-within node plan))
        (wider (node + nodes plan) (node + nodes plan + nodes_of plans) node (node + (nodes plan + nodes_of plans)) (attempt_versions_of (node + nodes plan) plans) (omega arith) (omega arith)
        (all-within (node + nodes plan) plans))

  mutual
    pub attempts-distinct : (node : ℕ) (plan : Plan M G) → IsDistinct is_same (attempt_versions node plan)
    attempts-distinct node (leaf_plan leaf) = leaf-distinct node 0 (leaf.retry + 1)
    attempts-distinct node (par_plan rule plans) = all-distinct (node + 1) plans
    attempts-distinct node (sel_plan timeout plans) = all-distinct (node + 1) plans

    all-distinct : (node : ℕ) (plans : Plans M G) → IsDistinct is_same (attempt_versions_of node plans)
    all-distinct node last_plan = nothing-distinct
    all-distinct node (plan_then plan plans) =
        distinct-append node (node + nodes plan) (node + nodes plan + nodes_of plans) (attempt_versions node plan) (attempt_versions_of (node + nodes plan) plans)
        (attempts-within node plan) (all-within (node + nodes plan) plans) (attempts-distinct node plan) (all-distinct (node + nodes plan) plans)

  -- No two versions are of the same.
  pub versions-distinct : (plan : Plan M G) → IsDistinct is_same (versions plan)
  unfolding versions
  versions-distinct plan = nodes-and-attempts 0 (nodes plan) 0 (0 + nodes plan) (attempt_versions 0 plan) (attempts-within 0 plan) (attempts-distinct 0 plan)

  pub offset-meaning : (plan : Plan M G) (meaning : Meaning) (offset : ℕ) → meaning_of plan offset ≡ Some meaning → offset_of plan meaning ≡ Some offset
  unfolding meaning_of offset_of
  offset-meaning plan meaning offset h = position-of meaning (versions plan) offset (versions-distinct plan) h

  pub meaning-offset : (plan : Plan M G) (meaning : Meaning) (offset : ℕ) → offset_of plan meaning ≡ Some offset → meaning_of plan offset ≡ Some meaning
  unfolding meaning_of offset_of
  meaning-offset plan meaning offset h = at-position meaning (versions plan) offset h

  -- ---- the width

  mutual
    length-attempts : (node : ℕ) (plan : Plan M G) → length (attempt_versions node plan) ≡ possible_attempts plan
    length-attempts node (leaf_plan leaf) = length-leaf node 0 (leaf.retry + 1)
    length-attempts node (par_plan rule plans) = length-all (node + 1) plans
    length-attempts node (sel_plan timeout plans) = length-all (node + 1) plans

    length-all : (node : ℕ) (plans : Plans M G) → length (attempt_versions_of node plans) ≡ possible_attempts_of plans
    length-all node last_plan = refl
    length-all node (plan_then plan plans) =
        let l = length-append (attempt_versions node plan) (attempt_versions_of (node + nodes plan) plans) in
        let a = length-attempts node plan in
        let b = length-all (node + nodes plan) plans in
        omega (arith, l, a, b)

  -- A range is as wide as there are nodes and possible attempts.
  pub width-is : (plan : Plan M G) → width plan ≡ nodes plan + possible_attempts plan
  unfolding width versions
  width-is plan =
      let l = length-append (node_versions 0 (nodes plan)) (attempt_versions 0 plan) in
      let a = length-nodes 0 (nodes plan) in
      let b = length-attempts 0 plan in
      omega (arith, l, a, b)
