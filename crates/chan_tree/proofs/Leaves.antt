-- The leaf of a number, by the table of a plan.
use Rattle.std.proofs.Common.{◌≡◌, ℕ, zero, suc, ◌+◌, ◌-◌, ◌<◌, ◌≤◌, true, false, ◌==◌, ◌⊎◌, inl, inr, Option, None}
use Rattle.std.proofs.Common.{Some, arith, refl, ap, sym, ◌∙◌}
use Rattle.std.specs.Prelude.{if◌then◌else◌}
use Rattle.std.proofs.lemmas.Bool.Decides.{nat_tests}
use Rattle.rpc_model.specs.declared.chan.LeafChan.{LeafChan}
use Rattle.rpc_model.specs.Plan.{Plan, leaf_plan, par_plan, sel_plan, Plans, last_plan, plan_then}
use Rattle.rpc_model.specs.Versions.{nodes, nodes_of, possible_attempts, or_leaf, leaf_at, leaf_at_of}
use Rattle.chan_tree.specs.Table.{entries, entries_below, entry_or_none, entry_at, chan_in}
use Rattle.chan_tree.proofs.Tables.{get-left, get-right, count-entries, before_or_not}

pub or-none : (l : Option LeafChan) → l ≡ or_leaf l None
or-none None = refl
or-none (Some leaf) = refl

differ : (a b : ℕ) → (a ≡ b → ⊥) → (a == b) ≡ false
differ a b no_match = grind (arith, nat_tests)

module _ {M G : Type 0} where
  mutual
    leaf-outside : (node : ℕ) (plan : Plan M G) (wanted : ℕ) → (node ≤ wanted → wanted < node + nodes plan → ⊥)
        → leaf_at node plan wanted ≡ None
    leaf-outside node (leaf_plan leaf) wanted out =
        ap (λ b. if b then Some leaf else None) (differ node wanted (λ e. out (omega (arith, e)) (omega (arith, e))))
    leaf-outside node (par_plan rule plans) wanted out =
        all-outside (node + 1) plans wanted (λ a b. out (omega (arith, a)) (omega (arith, b)))
    leaf-outside node (sel_plan timeout plans) wanted out =
        all-outside (node + 1) plans wanted (λ a b. out (omega (arith, a)) (omega (arith, b)))

    all-outside : (node : ℕ) (plans : Plans M G) (wanted : ℕ) → (node ≤ wanted → wanted < node + nodes_of plans → ⊥)
        → leaf_at_of node plans wanted ≡ None
    all-outside node last_plan wanted out = refl
    all-outside node (plan_then plan plans) wanted out =
        ap (λ l. or_leaf l (leaf_at_of (node + nodes plan) plans wanted))
        (leaf-outside node plan wanted (λ a b. out a (omega (arith, b))))
        ∙ all-outside (node + nodes plan) plans wanted (λ a b. out (omega (arith, a)) (omega (arith, b)))

  -- It is a leaf of the first plan, or of those behind it.
  leaf-joined : (first node : ℕ) (plan : Plan M G) (plans : Plans M G) (k : ℕ)
      → leaf_at node plan (node + k) ≡ chan_in (entry_at (entries first plan) k)
      → (
      (j : ℕ)
      → leaf_at_of (node + nodes plan) plans (node + nodes plan + j)
      ≡ chan_in (entry_at (entries_below (first + possible_attempts plan) plans) j)
      )
      → leaf_at_of node (plan_then plan plans) (node + k) ≡ chan_in
      (entry_at (entries_below first (plan_then plan plans)) k)
  leaf-joined first node plan plans k here below = by (before_or_not k (nodes plan))
    where
      by : (k < nodes plan) ⊎ (nodes plan ≤ k)
          → leaf_at_of node (plan_then plan plans) (node + k) ≡ chan_in
          (entry_at (entries_below first (plan_then plan plans)) k)
      by (inl less) =
          let long = count-entries first plan in
          ap (or_leaf (leaf_at node plan (node + k)))
          (all-outside (node + nodes plan) plans (node + k) (λ a b. absurd (omega (arith, a, less))))
          ∙ sym (or-none (leaf_at node plan (node + k))) ∙ here
          ∙ ap (λ e. chan_in (entry_or_none e))
          (sym (get-left (entries first plan) (entries_below (first + possible_attempts plan) plans) k (omega (arith, less, long))))
      by (inr le) =
          let long = count-entries first plan in
          let same : node + k ≡ node + nodes plan + (k - nodes plan) = omega (arith, le) in
          ap (λ l. or_leaf l (leaf_at_of (node + nodes plan) plans (node + k)))
          (leaf-outside node plan (node + k) (λ a b. absurd (omega (arith, b, le))))
          ∙ ap (leaf_at_of (node + nodes plan) plans) same ∙ below (k - nodes plan)
          ∙ ap (λ e. chan_in (entry_or_none e))
          (sym (get-right (entries first plan) (entries_below (first + possible_attempts plan) plans) k (k - nodes plan) (omega (arith, le, long))))

  leaf-later : (first node : ℕ) (plans : Plans M G) (k : ℕ)
      → leaf_at_of (node + 1) plans (node + 1 + k) ≡ chan_in (entry_at (entries_below first plans) k)
      → leaf_at_of (node + 1) plans (node + suc k) ≡ chan_in (entry_at (entries_below first plans) k)
  leaf-later first node plans k below =
      ap (leaf_at_of (node + 1) plans) (let same : node + suc k ≡ node + 1 + k = omega arith in same) ∙ below

  mutual
    leaf-is : (first node : ℕ) (plan : Plan M G) (k : ℕ)
        → leaf_at node plan (node + k) ≡ chan_in (entry_at (entries first plan) k)
    leaf-is first node (leaf_plan leaf) zero =
        let here : (node == node + 0) ≡ true = grind (arith, nat_tests) in ap (λ b. if b then Some leaf else None) here
    leaf-is first node (leaf_plan leaf) (suc k) =
        let other : (node == node + suc k) ≡ false = grind (arith, nat_tests) in ap
        (λ b. if b then Some leaf else None) other
    leaf-is first node (par_plan rule plans) zero =
        all-outside (node + 1) plans (node + 0) (λ a b. absurd (omega (arith, a)))
    leaf-is first node (par_plan rule plans) (suc k) = leaf-later first node plans k (all-is first (node + 1) plans k)
    leaf-is first node (sel_plan timeout plans) zero =
        all-outside (node + 1) plans (node + 0) (λ a b. absurd (omega (arith, a)))
    leaf-is first node (sel_plan timeout plans) (suc k) =
        leaf-later first node plans k (all-is first (node + 1) plans k)

    all-is : (first node : ℕ) (plans : Plans M G) (k : ℕ)
        → leaf_at_of node plans (node + k) ≡ chan_in (entry_at (entries_below first plans) k)
    all-is first node last_plan k = refl
    all-is first node (plan_then plan plans) k =
        leaf-joined first node plan plans k (leaf-is first node plan k)
        (λ j. all-is (first + possible_attempts plan) (node + nodes plan) plans j)

  pub leaf_is : (p : Plan M G) (wanted : ℕ) → leaf_at 0 p wanted ≡ chan_in (entry_at (entries 0 p) wanted)
  leaf_is p wanted = ap (leaf_at 0 p) (let same : wanted ≡ 0 + wanted = omega arith in same) ∙ leaf-is 0 0 p wanted
