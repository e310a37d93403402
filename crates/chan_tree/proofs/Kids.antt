-- Plans that are built one after another.
use Rattle.std.proofs.Common.{◌≡◌, List, [], ◌∷◌, ◌++◌, Option, Some, refl, ap}
use Rattle.rpc_model.specs.Plan.{Plan, Plans, last_plan, plan_then, and_plan}
use Rattle.chan_tree.specs.Shown.{plans_of, with_plans, append_plans}

module _ {M G : Type 0} where
  pub with_push : (ps : List (Plan M G)) (p : Plan M G) (rest : Option (Plans M G)) → with_plans (ps ++ p ∷ []) rest ≡ with_plans ps (and_plan (Some p) rest)
  with_push [] p rest = refl
  with_push (q ∷ ps) p rest = ap (and_plan (Some q)) (with_push ps p rest)

  pub with_end : (ps : List (Plan M G)) → with_plans ps (Some last_plan) ≡ Some (plans_of ps)
  with_end [] = refl
  with_end (q ∷ ps) = ap (and_plan (Some q)) (with_end ps)

  pub append_push : (ps : List (Plan M G)) (p : Plan M G) (rest : Plans M G) → append_plans (ps ++ p ∷ []) rest ≡ append_plans ps (plan_then p rest)
  append_push [] p rest = refl
  append_push (q ∷ ps) p rest = ap (plan_then q) (append_push ps p rest)

  pub append_end : (ps : List (Plan M G)) → append_plans ps last_plan ≡ plans_of ps
  append_end [] = refl
  append_end (q ∷ ps) = ap (plan_then q) (append_end ps)
