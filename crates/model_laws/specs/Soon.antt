-- How late the marks of a call are: each is set at most the longest wait ahead. This project's own choice.
use Rattle.std.specs.Prelude.{ℕ, ◌+◌, ◌^◌, ◌≤◌}
use Rattle.std.specs.List.{AllByRecursion}
use Rattle.rpc_model.specs.Limits.{IsWait}
use Rattle.rpc_model.specs.Effects.{Mark}
use Rattle.rpc_model.specs.Plan.{Plan, leaf_plan, par_plan, sel_plan, Plans, last_plan, plan_then}
use Rattle.rpc_model.specs.State.{State, waits, leaf_state, par_state, sel_state, States, last_state, state_then, Run, Below}

abbrev pub IsSoon : ℕ → Mark → Type 0
IsSoon moment mark = mark.moment ≤ moment + 2 ^ 31

module _ {M G : Type 0} where
  -- the waits of a plan's nodes are short
  abbrev mutual
    pub IsShort : Plan M G → Type 0
    IsShort (leaf_plan leaf) = IsWait leaf.timeout × IsWait leaf.backup
    IsShort (par_plan rule plans) = IsWait rule.timeout × AreShort plans
    IsShort (sel_plan timeout plans) = IsWait timeout × AreShort plans

    pub AreShort : Plans M G → Type 0
    AreShort last_plan = Unit {0}
    AreShort (plan_then plan plans) = IsShort plan × AreShort plans

  -- the waits of the nodes that weren't started are
  abbrev mutual
    pub WaitsShortly : State M G → Type 0
    WaitsShortly (waits plan) = IsShort plan
    WaitsShortly (leaf_state chan request leaf) = Unit {0}
    WaitsShortly (par_state par states) = WaitShortly states
    WaitsShortly (sel_state sel states) = WaitShortly states

    pub WaitShortly : States M G → Type 0
    WaitShortly last_state = Unit {0}
    WaitShortly (state_then state states) = WaitsShortly state × WaitShortly states

  abbrev pub RunIsSoon : ℕ → Run M G → Type 0
  RunIsSoon moment run = AllByRecursion (IsSoon moment) run.marks × WaitsShortly run.state

  abbrev pub BelowIsSoon : ℕ → Below M G → Type 0
  BelowIsSoon moment below = AllByRecursion (IsSoon moment) below.marks × WaitShortly below.states
