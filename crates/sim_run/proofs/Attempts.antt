-- An attempt that a plan has is of a leaf of the plan.
use Rattle.std.proofs.Common.{◌≡◌, ℕ, zero, suc, ◌+◌, Bool, true, List, [], ◌∷◌, ◌++◌, slice_get, Option, Some, None, is_some, refl, ap, subst, if◌then◌else◌}
use Rattle.std.proofs.lemmas.Bool.{eq-eqb}
use Rattle.std.specs.List.{AllByRecursion}
use Rattle.rpc_model.specs.declared.chan.LeafChan.{LeafChan}
use Rattle.rpc_model.specs.declared.kinds.MapKind.{MapKind}
use Rattle.rpc_model.specs.declared.kinds.MergeKind.{MergeKind}
use Rattle.rpc_model.specs.declared.meaning.Meaning.{Meaning}
use Rattle.rpc_model.specs.declared.meaning.Meaning.TheVariants.{Node, Attempt}
use Rattle.rpc_model.specs.Plan.{Plan, leaf_plan, par_plan, sel_plan, Plans, last_plan, plan_then}
use Rattle.rpc_model.specs.Versions.{node_versions, leaf_versions, attempt_versions, attempt_versions_of, nodes, versions, meaning_of, or_leaf, leaf_at, leaf_at_of}

abbrev HasLeaf : (ℕ → Option LeafChan) → Meaning → Type 0
HasLeaf find (Node n) = Unit {0}
HasLeaf find (Attempt n k) = is_some (find n) ≡ true

pub all-append : {X : Type 0} (P : X → Type 0) (xs ys : List X) → AllByRecursion P xs → AllByRecursion P ys → AllByRecursion P (xs ++ ys)
all-append P [] ys h k = k
all-append P (x ∷ xs) ys h k = (h.0, all-append P xs ys h.1 k)

all-at : {X : Type 0} (P : X → Type 0) (xs : List X) (i : ℕ) (x : X) → AllByRecursion P xs → slice_get xs i ≡ Some x → P x
all-at P [] i x h e = absurd (cc)
all-at P (y ∷ ys) zero x h e = let same : y ≡ x = cc in subst P same h.0
all-at P (y ∷ ys) (suc i) x h e = all-at P ys i x h.1 e

nodes-leaf : (find : ℕ → Option LeafChan) (node count : ℕ) → AllByRecursion (HasLeaf find) (node_versions node count)
nodes-leaf find node zero = tt
nodes-leaf find node (suc count) = (tt, nodes-leaf find (node + 1) count)

leaf-leaf : (find : ℕ → Option LeafChan) (node attempt count : ℕ) → is_some (find node) ≡ true → AllByRecursion (HasLeaf find) (leaf_versions node attempt count)
leaf-leaf find node attempt zero h = tt
leaf-leaf find node attempt (suc count) h = (h, leaf-leaf find node (attempt + 1) count h)

weaker-one : (find more : ℕ → Option LeafChan) → ((n : ℕ) → is_some (find n) ≡ true → is_some (more n) ≡ true) → (m : Meaning) → HasLeaf find m → HasLeaf more m
weaker-one find more f (Node n) h = tt
weaker-one find more f (Attempt n k) h = f n h

weaker : (find more : ℕ → Option LeafChan) → ((n : ℕ) → is_some (find n) ≡ true → is_some (more n) ≡ true) → (ms : List Meaning) → AllByRecursion (HasLeaf find) ms → AllByRecursion (HasLeaf more) ms
weaker find more f [] h = tt
weaker find more f (m ∷ ms) h = (weaker-one find more f m h.0, weaker find more f ms h.1)

or-first : (o p : Option LeafChan) → is_some o ≡ true → is_some (or_leaf o p) ≡ true
or-first None p h = absurd (cc)
or-first (Some leaf) p h = refl

or-second : (o p : Option LeafChan) → is_some p ≡ true → is_some (or_leaf o p) ≡ true
or-second None p h = h
or-second (Some leaf) p h = refl

mutual
  attempts-leaf : (node : ℕ) (p : Plan MapKind MergeKind) → AllByRecursion (HasLeaf (leaf_at node p)) (attempt_versions node p)
  attempts-leaf node (leaf_plan leaf) =
      let find : ℕ → Option LeafChan = leaf_at {M = MapKind} {G = MergeKind} node (leaf_plan leaf) in
      let found : Bool → Option LeafChan = λ b. if b then Some leaf else None in
      leaf-leaf find node 0 (leaf.retry + 1) (ap (λ b. is_some (found b)) (eq-eqb node node refl))
  attempts-leaf node (par_plan rule plans) = all-attempts-leaf (node + 1) plans
  attempts-leaf node (sel_plan timeout plans) = all-attempts-leaf (node + 1) plans

  all-attempts-leaf : (node : ℕ) (ps : Plans MapKind MergeKind) → AllByRecursion (HasLeaf (leaf_at_of node ps)) (attempt_versions_of node ps)
  all-attempts-leaf node last_plan = tt
  all-attempts-leaf node (plan_then p ps) =
      all-append (HasLeaf (leaf_at_of node (plan_then p ps))) (attempt_versions node p) (attempt_versions_of (node + nodes p) ps)
      (weaker (leaf_at node p) (leaf_at_of node (plan_then p ps)) (λ n h. or-first (leaf_at node p n) (leaf_at_of (node + nodes p) ps n) h) (attempt_versions node p) (attempts-leaf node p))
      (weaker (leaf_at_of (node + nodes p) ps) (leaf_at_of node (plan_then p ps)) (λ n h. or-second (leaf_at node p n) (leaf_at_of (node + nodes p) ps n) h)
      (attempt_versions_of (node + nodes p) ps) (all-attempts-leaf (node + nodes p) ps))

pub means-leaf : (p : Plan MapKind MergeKind) (node attempt offset : ℕ) → meaning_of p offset ≡ Some (Attempt node attempt) → is_some (leaf_at 0 p node) ≡ true
unfolding versions meaning_of
means-leaf p node attempt offset e =
    all-at (HasLeaf (leaf_at 0 p)) (versions p) offset (Attempt node attempt)
    (all-append (HasLeaf (leaf_at 0 p)) (node_versions 0 (nodes p)) (attempt_versions 0 p) (nodes-leaf (leaf_at 0 p) 0 (nodes p)) (attempts-leaf 0 p)) e
