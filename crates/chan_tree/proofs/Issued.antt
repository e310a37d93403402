-- The attempts that a plan has versions for are those that its leaves may issue.
use Rattle.std.proofs.Common.{◌≡◌, ℕ, zero, suc, ◌+◌, ◌<◌, ◌≤◌, ◌==◌, ◌&&◌, ◌||◌, not, Bool, true, false, cond, nat_le, nat_lt, List, [], ◌∷◌, ◌++◌, length, position, is_some, Option, Some}
use Rattle.std.proofs.Common.{None, arith, refl, ap, ◌∙◌}
use Rattle.std.specs.List.{list_any, prefix_len}
use Rattle.std.proofs.lemmas.Bool.Decides.{nat_tests}
use Rattle.rpc_model.specs.declared.chan.LeafChan.{LeafChan}
use Rattle.rpc_model.specs.declared.meaning.Meaning.TheVariants.{Attempt}
use Rattle.rpc_model.specs.Plan.{Plan, leaf_plan, par_plan, sel_plan, Plans, last_plan, plan_then}
use Rattle.rpc_model.specs.Versions.{node_versions, leaf_versions, is_same, nodes, nodes_of, attempt_versions, attempt_versions_of, versions, offset_of, leaf_at, leaf_at_of, or_leaf}
use Rattle.chan_tree.specs.Sizes.{retry_of}

-- Whether one is found.
some-position : {X : Type 0} (p : X → Bool) (xs : List X) → is_some (position p xs) ≡ list_any p xs
some-position p [] = refl
some-position p (x ∷ xs) = by (p x) (prefix_len (λ y. not (p y)) xs) (length xs) (some-position p xs)
  where
    by : (b : Bool) (n l : ℕ) → is_some (cond (nat_lt n l) (Some n) None) ≡ list_any p xs
        → is_some (cond (nat_lt (cond (not b) (1 + n) 0) (suc l)) (Some (cond (not b) (1 + n) 0)) None) ≡ (b || list_any p xs)
    by true n l h = let first : nat_lt 0 (suc l) ≡ true = grind (arith, nat_tests) in rw first refl
    by false n l h = at (nat_lt n l) refl h
      where
        at : (c : Bool) → nat_lt n l ≡ c → is_some (cond c (Some n) None) ≡ list_any p xs → is_some (cond (nat_lt (1 + n) (suc l)) (Some (1 + n)) None) ≡ list_any p xs
        at true e k = let more : nat_lt (1 + n) (suc l) ≡ true = grind (arith, nat_tests, e) in rw more k
        at false e k = let no_more : nat_lt (1 + n) (suc l) ≡ false = grind (arith, nat_tests, e) in rw no_more k

any-append : {X : Type 0} (p : X → Bool) (xs ys : List X) → list_any p (xs ++ ys) ≡ (list_any p xs || list_any p ys)
any-append p [] ys = refl
any-append p (x ∷ xs) ys = by (p x) (any-append p xs ys)
  where
    by : (b : Bool) → list_any p (xs ++ ys) ≡ (list_any p xs || list_any p ys) → (b || list_any p (xs ++ ys)) ≡ ((b || list_any p xs) || list_any p ys)
    by true h = refl
    by false h = h

-- The attempts of a leaf.
any-attempt : (wanted attempt node from count : ℕ)
    → list_any (is_same (Attempt wanted attempt)) (leaf_versions node from count) ≡ ((wanted == node) && (nat_le from attempt && nat_lt attempt (from + count)))
any-attempt wanted attempt node from zero = grind (arith, nat_tests)
any-attempt wanted attempt node from (suc count) =
    by (wanted == node) (list_any (is_same (Attempt wanted attempt)) (leaf_versions node (from + 1) count)) (any-attempt wanted attempt node (from + 1) count)
  where
    by : (b rest : Bool) → rest ≡ (b && (nat_le (from + 1) attempt && nat_lt attempt (from + 1 + count)))
        → ((b && (attempt == from)) || rest) ≡ (b && (nat_le from attempt && nat_lt attempt (from + suc count)))
    by true rest h = rw h (grind (arith, nat_tests))
    by false rest h = h

no-node : (wanted attempt node count : ℕ) → list_any (is_same (Attempt wanted attempt)) (node_versions node count) ≡ false
no-node wanted attempt node zero = refl
no-node wanted attempt node (suc count) = no-node wanted attempt (node + 1) count

-- A leaf may issue an attempt up to its retry limit.
abbrev pub may_issue : Option ℕ → ℕ → Bool
may_issue None attempt = false
may_issue (Some retry) attempt = nat_le attempt retry

abbrev IsWithin : Option LeafChan → ℕ → ℕ → Type 0
IsWithin None wanted end = Unit {0}
IsWithin (Some leaf) wanted end = wanted < end

later-end : (leaf : Option LeafChan) (wanted end more : ℕ) → end ≤ more → IsWithin leaf wanted end → IsWithin leaf wanted more
later-end None wanted end more le h = tt
later-end (Some leaf) wanted end more le h = omega (arith, le, h)

either-within : (a b : Option LeafChan) (wanted end : ℕ) → IsWithin a wanted end → IsWithin b wanted end → IsWithin (or_leaf a b) wanted end
either-within None b wanted end ha hb = hb
either-within (Some leaf) b wanted end ha hb = ha

-- Those of one plan, and then of others behind it.
one-then : (a b : Option LeafChan) (x y : Bool) (wanted attempt end : ℕ) → x ≡ may_issue (retry_of a) attempt → y ≡ may_issue (retry_of b) attempt → IsWithin a wanted end
    → (wanted < end → y ≡ false) → (x || y) ≡ may_issue (retry_of (or_leaf a b)) attempt
one-then None b x y wanted attempt end hx hy within none = rw hx hy
one-then (Some leaf) b x y wanted attempt end hx hy within none = rw (none within) (or-false x ∙ hx)
  where
    or-false : (z : Bool) → (z || false) ≡ z
    or-false true = refl
    or-false false = refl

module _ {M G : Type 0} where
  mutual
    early : (wanted attempt node : ℕ) (p : Plan M G) → wanted < node → list_any (is_same (Attempt wanted attempt)) (attempt_versions node p) ≡ false
    early wanted attempt node (leaf_plan leaf) less = any-attempt wanted attempt node 0 (leaf.retry + 1) ∙ (let no : (wanted == node) ≡ false = grind (arith, nat_tests, less) in rw no refl)
    early wanted attempt node (par_plan rule ps) less = earlier wanted attempt (node + 1) ps (omega (arith, less))
    early wanted attempt node (sel_plan timeout ps) less = earlier wanted attempt (node + 1) ps (omega (arith, less))

    earlier : (wanted attempt node : ℕ) (ps : Plans M G) → wanted < node → list_any (is_same (Attempt wanted attempt)) (attempt_versions_of node ps) ≡ false
    earlier wanted attempt node last_plan less = refl
    earlier wanted attempt node (plan_then p ps) less =
        any-append (is_same (Attempt wanted attempt)) (attempt_versions node p) (attempt_versions_of (node + nodes p) ps)
        ∙ ap (λ b. b || list_any (is_same (Attempt wanted attempt)) (attempt_versions_of (node + nodes p) ps)) (early wanted attempt node p less)
        ∙ earlier wanted attempt (node + nodes p) ps (omega (arith, less))

  mutual
    leaf-within : (wanted node : ℕ) (p : Plan M G) → IsWithin (leaf_at node p wanted) wanted (node + nodes p)
    leaf-within wanted node (leaf_plan leaf) = by (node == wanted) refl
      where
        by : (b : Bool) → (node == wanted) ≡ b → IsWithin (cond b (Some leaf) None) wanted (node + 1)
        by true e = grind (arith, nat_tests, e)
        by false e = tt
    leaf-within wanted node (par_plan rule ps) =
        later-end (leaf_at_of (node + 1) ps wanted) wanted (node + 1 + nodes_of ps) (node + (1 + nodes_of ps)) (omega arith) (leaves-within wanted (node + 1) ps)
    leaf-within wanted node (sel_plan timeout ps) =
        later-end (leaf_at_of (node + 1) ps wanted) wanted (node + 1 + nodes_of ps) (node + (1 + nodes_of ps)) (omega arith) (leaves-within wanted (node + 1) ps)

    leaves-within : (wanted node : ℕ) (ps : Plans M G) → IsWithin (leaf_at_of node ps wanted) wanted (node + nodes_of ps)
    leaves-within wanted node last_plan = tt
    leaves-within wanted node (plan_then p ps) =
        either-within (leaf_at node p wanted) (leaf_at_of (node + nodes p) ps wanted) wanted (node + (nodes p + nodes_of ps))
        (later-end (leaf_at node p wanted) wanted (node + nodes p) (node + (nodes p + nodes_of ps)) (omega arith) (leaf-within wanted node p))
        (later-end (leaf_at_of (node + nodes p) ps wanted) wanted (node + nodes p + nodes_of ps) (node + (nodes p + nodes_of ps)) (omega arith) (leaves-within wanted (node + nodes p) ps))

  mutual
    attempts-are : (wanted attempt node : ℕ) (p : Plan M G) → list_any (is_same (Attempt wanted attempt)) (attempt_versions node p) ≡ may_issue (retry_of (leaf_at node p wanted)) attempt
    attempts-are wanted attempt node (leaf_plan leaf) = any-attempt wanted attempt node 0 (leaf.retry + 1) ∙ by (node == wanted) refl
      where
        by : (b : Bool) → (node == wanted) ≡ b → ((wanted == node) && (nat_le 0 attempt && nat_lt attempt (0 + (leaf.retry + 1)))) ≡ may_issue (retry_of (cond b (Some leaf) None)) attempt
        by true e = let same : (wanted == node) ≡ true = grind (arith, nat_tests, e) in rw same (grind (arith, nat_tests))
        by false e = let other : (wanted == node) ≡ false = grind (arith, nat_tests, e) in rw other refl
    attempts-are wanted attempt node (par_plan rule ps) = all-attempts-are wanted attempt (node + 1) ps
    attempts-are wanted attempt node (sel_plan timeout ps) = all-attempts-are wanted attempt (node + 1) ps

    all-attempts-are : (wanted attempt node : ℕ) (ps : Plans M G) → list_any (is_same (Attempt wanted attempt)) (attempt_versions_of node ps) ≡ may_issue (retry_of (leaf_at_of node ps wanted)) attempt
    all-attempts-are wanted attempt node last_plan = refl
    all-attempts-are wanted attempt node (plan_then p ps) =
        any-append (is_same (Attempt wanted attempt)) (attempt_versions node p) (attempt_versions_of (node + nodes p) ps)
        ∙ one-then (leaf_at node p wanted) (leaf_at_of (node + nodes p) ps wanted) (list_any (is_same (Attempt wanted attempt)) (attempt_versions node p))
        (list_any (is_same (Attempt wanted attempt)) (attempt_versions_of (node + nodes p) ps)) wanted attempt
        (node + nodes p) (attempts-are wanted attempt node p) (all-attempts-are wanted attempt (node + nodes p) ps) (leaf-within wanted node p)
        (λ less. earlier wanted attempt (node + nodes p) ps less)

  pub issued : (p : Plan M G) (node attempt : ℕ) → is_some (offset_of p (Attempt node attempt)) ≡ may_issue (retry_of (leaf_at 0 p node)) attempt
  unfolding offset_of versions
  issued p node attempt =
      some-position (is_same (Attempt node attempt)) (versions p) ∙ any-append (is_same (Attempt node attempt)) (node_versions 0 (nodes p)) (attempt_versions 0 p)
      ∙ ap (λ b. b || list_any (is_same (Attempt node attempt)) (attempt_versions 0 p)) (no-node node attempt 0 (nodes p)) ∙ attempts-are node attempt 0 p
