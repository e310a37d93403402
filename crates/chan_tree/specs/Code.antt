-- Plans as lists, by which proofs tell them apart.
use Rattle.std.specs.Prelude.{◌≡◌, ℕ, List, [], ◌∷◌, Option, None, refl}
use Rattle.std.proofs.Common.{ap, ◌∙◌}
use Rattle.std.specs.Coded.{Coded, code_by, coded_list}
use Rattle.rpc_model.specs.declared.chan.LeafChan.{LeafChan}
use Rattle.rpc_model.specs.Plan.{Rule, Plan, leaf_plan, par_plan, sel_plan, Plans, last_plan, plan_then}

-- a plan as a list of tokens
pub data PlanToken (M G : Type 0) : Type 0 where
  leaf_token : LeafChan → PlanToken M G
  par_token : Rule M G → PlanToken M G
  sel_token : Option ℕ → PlanToken M G
  end_token : PlanToken M G

module _ {M G : Type 0} where
  abbrev mutual
    pub plan_tokens : Plan M G → List (PlanToken M G) → List (PlanToken M G)
    plan_tokens (leaf_plan leaf) after = leaf_token leaf ∷ after
    plan_tokens (par_plan rule plans) after = par_token rule ∷ plans_tokens plans (end_token ∷ after)
    plan_tokens (sel_plan timeout plans) after = sel_token timeout ∷ plans_tokens plans (end_token ∷ after)

    pub plans_tokens : Plans M G → List (PlanToken M G) → List (PlanToken M G)
    plans_tokens last_plan after = after
    plans_tokens (plan_then plan plans) after = plan_tokens plan (plans_tokens plans after)

  -- the lists that are begun, the innermost one first
  abbrev pub put_plan : Plan M G → List (Plans M G) → List (Plans M G)
  put_plan plan [] = []
  put_plan plan (level ∷ levels) = plan_then plan level ∷ levels

  abbrev pub close_plan : (Plans M G → Plan M G) → List (Plans M G) → List (Plans M G)
  close_plan node [] = []
  close_plan node (level ∷ levels) = put_plan (node level) levels

  abbrev pub read_plan : List (PlanToken M G) → List (Plans M G)
  read_plan [] = last_plan ∷ []
  read_plan (leaf_token leaf ∷ more) = put_plan (leaf_plan leaf) (read_plan more)
  read_plan (par_token rule ∷ more) = close_plan (par_plan rule) (read_plan more)
  read_plan (sel_token timeout ∷ more) = close_plan (sel_plan timeout) (read_plan more)
  read_plan (end_token ∷ more) = last_plan ∷ read_plan more

  abbrev pub put_plans : Plans M G → List (Plans M G) → List (Plans M G)
  put_plans last_plan levels = levels
  put_plans (plan_then plan plans) levels = put_plan plan (put_plans plans levels)

  abbrev pub first_plan : List (Plans M G) → Plan M G
  first_plan [] = sel_plan None last_plan
  first_plan (last_plan ∷ levels) = sel_plan None last_plan
  first_plan (plan_then plan plans ∷ levels) = plan

  abbrev pub put_plans-level : (plans : Plans M G) (levels : List (Plans M G)) → put_plans plans (last_plan ∷ levels) ≡ plans ∷ levels
  put_plans-level last_plan levels = refl
  put_plans-level (plan_then plan plans) levels = ap (put_plan plan) (put_plans-level plans levels)

  abbrev mutual
    pub read-plan : (plan : Plan M G) (after : List (PlanToken M G)) → read_plan (plan_tokens plan after) ≡ put_plan plan (read_plan after)
    read-plan (leaf_plan leaf) after = refl
    read-plan (par_plan rule plans) after = ap (close_plan (par_plan rule)) (read-plans plans (end_token ∷ after) ∙ put_plans-level plans (read_plan after))
    read-plan (sel_plan timeout plans) after = ap (close_plan (sel_plan timeout)) (read-plans plans (end_token ∷ after) ∙ put_plans-level plans (read_plan after))

    pub read-plans : (plans : Plans M G) (after : List (PlanToken M G)) → read_plan (plans_tokens plans after) ≡ put_plans plans (read_plan after)
    read-plans last_plan after = refl
    read-plans (plan_then plan plans) after = read-plan plan (plans_tokens plans after) ∙ ap (put_plan plan) (read-plans plans after)

  abbrev pub plan_code : Coded (PlanToken M G) → Coded (Plan M G)
  plan_code token = code_by (List (PlanToken M G)) (coded_list token) (λ plan. plan_tokens plan []) (λ tokens. first_plan (read_plan tokens)) (λ plan. ap first_plan (read-plan plan []))
