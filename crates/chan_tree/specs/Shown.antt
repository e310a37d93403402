-- The plan that the code's nodes stand for.
use Rattle.std.specs.Prelude.{◌≡◌, ℕ, List, [], ◌∷◌, Option, Some}
use Rattle.std.specs.Arc.{arc_value}
use Rattle.rpc_model.specs.declared.chan.Chan.{Chan}
use Rattle.rpc_model.specs.Plan as spec
use Rattle.chan_tree.specs.declared.tree.PlanNode.{PlanNode}
use Rattle.chan_tree.specs.declared.tree.PlanNode.TheVariants as node
use Rattle.chan_tree.specs.declared.tree.Rule.{Rule}

module _ {M G : Type 0} where
  abbrev pub plans_of : List (spec.Plan M G) → spec.Plans M G
  plans_of [] = spec.last_plan
  plans_of (p ∷ ps) = spec.plan_then p (plans_of ps)

  abbrev pub rule_of : Rule M G → spec.Rule M G
  rule_of r = record { maps = r.maps; merges = r.merges; fail = r.fail; ok = r.ok; timeout = r.timeout }

  abbrev pub plan_of : PlanNode M G → spec.Plan M G
  plan_of (node.Leaf leaf) = spec.leaf_plan (arc_value leaf)
  plan_of (node.Par rule plans) = spec.par_plan (rule_of rule) (plans_of plans.items)
  plan_of (node.Sel timeout plans) = spec.sel_plan timeout (plans_of plans.items)

  -- plans, and then these if there are any
  abbrev pub with_plans : List (spec.Plan M G) → Option (spec.Plans M G) → Option (spec.Plans M G)
  with_plans [] rest = rest
  with_plans (p ∷ ps) rest = spec.and_plan (Some p) (with_plans ps rest)

  -- plans, and then these
  abbrev pub append_plans : List (spec.Plan M G) → spec.Plans M G → spec.Plans M G
  append_plans [] rest = rest
  append_plans (p ∷ ps) rest = spec.plan_then p (append_plans ps rest)

  -- this is the plan of the channel of a number
  unfoldable pub IsPlanOf : List (Chan M G) → ℕ → ℕ → spec.Plan M G → Type 0
  IsPlanOf chans number call p = spec.plan chans number call ≡ Some p

  -- these are the plans of the channels of these numbers
  unfoldable pub ArePlansOf : List (Chan M G) → ℕ → List ℕ → spec.Plans M G → Type 0
  ArePlansOf chans call numbers ps = spec.plans_of (λ s. spec.plan chans s call) numbers ≡ Some ps

  -- with those that are built, the plans of the channels that are left are the plans of all
  unfoldable pub AreLeft : List (Chan M G) → ℕ → List ℕ → List (spec.Plan M G) → List ℕ → Type 0
  AreLeft chans call all built left = with_plans built (spec.plans_of (λ s. spec.plan chans s call) left) ≡ spec.plans_of (λ s. spec.plan chans s call) all
