-- Which plan and which request each node of a call has: those of a sub are what the mappers above it made of the call's request. This project's own choice.
use Rattle.std.specs.Prelude.{◌≡◌, ℕ, List, [], ◌∷◌}
use Rattle.rpc_model.specs.declared.mapper.Mapped.{Mapped}
use Rattle.rpc_model.specs.declared.mapper.Mapped.TheVariants as answer
use Rattle.rpc_model.specs.Kinds.{Kinds}
use Rattle.rpc_model.specs.Plan.{Plan, leaf_plan, par_plan, sel_plan, Plans, last_plan, plan_then}
use Rattle.rpc_model.specs.Parallel.{mapped, limits}
use Rattle.rpc_model.specs.State.{State, waits, leaf_state, par_state, sel_state, States, last_state, state_then}

module _ {M G : Type 0} (kinds : Kinds M G) where
  abbrev mutual
    -- a node of this plan that was asked with this request, or that wasn't started
    pub IsOf : List ℕ → Plan M G → State M G → Type 0
    IsOf request plan (waits p) = p ≡ plan
    IsOf request (leaf_plan chan) (leaf_state c q leaf) = (c ≡ chan) × (q ≡ request)
    IsOf request (par_plan rule plans) (leaf_state c q leaf) = ⊥
    IsOf request (sel_plan timeout plans) (leaf_state c q leaf) = ⊥
    IsOf request (leaf_plan chan) (par_state par states) = ⊥
    IsOf request (par_plan rule plans) (par_state par states) =
        (par.limits ≡ limits rule (mapped kinds.map rule.maps request)) × (par.merges ≡ rule.merges) × SubsAreOf (mapped kinds.map rule.maps request) plans states
    IsOf request (sel_plan timeout plans) (par_state par states) = ⊥
    IsOf request (leaf_plan chan) (sel_state sel states) = ⊥
    IsOf request (par_plan rule plans) (sel_state sel states) = ⊥
    IsOf request (sel_plan timeout plans) (sel_state sel states) = (sel.request ≡ request) × TriesAreOf request plans states

    -- the subs of a parallel node, by what the mappers answered: one that isn't asked waits
    pub SubsAreOf : List Mapped → Plans M G → States M G → Type 0
    SubsAreOf asked last_plan last_state = Unit {0}
    SubsAreOf asked (plan_then plan plans) last_state = ⊥
    SubsAreOf asked last_plan (state_then state states) = ⊥
    SubsAreOf (answer.Send request ∷ asked) (plan_then plan plans) (state_then state states) = IsOf request plan state × SubsAreOf asked plans states
    SubsAreOf (answer.Skip ∷ asked) (plan_then plan plans) (state_then state states) = (state ≡ waits plan) × SubsAreOf asked plans states
    SubsAreOf (answer.Bad ∷ asked) (plan_then plan plans) (state_then state states) = (state ≡ waits plan) × SubsAreOf asked plans states
    SubsAreOf [] (plan_then plan plans) (state_then state states) = (state ≡ waits plan) × SubsAreOf [] plans states

    -- the tries of a selective node, all with its own request
    pub TriesAreOf : List ℕ → Plans M G → States M G → Type 0
    TriesAreOf request last_plan last_state = Unit {0}
    TriesAreOf request (plan_then plan plans) last_state = ⊥
    TriesAreOf request last_plan (state_then state states) = ⊥
    TriesAreOf request (plan_then plan plans) (state_then state states) = IsOf request plan state × TriesAreOf request plans states
