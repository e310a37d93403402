-- Plans whose leaves have servers, each of which is one of so many. This project's own choice.
use Rattle.std.specs.Prelude.{ℕ, ◌<◌, ◌≤◌, All, length}
use Rattle.rpc_model.specs.declared.chan.LeafChan.{LeafChan}
use Rattle.rpc_model.specs.Plan.{Plan, leaf_plan, par_plan, sel_plan, Plans, last_plan, plan_then}

abbrev pub IsServed : ℕ → LeafChan → Type 0
IsServed servers leaf = (1 ≤ length leaf.servers) × All (λ server. server < servers) leaf.servers

module _ {M G : Type 0} where
  abbrev mutual
    pub AreServed : ℕ → Plan M G → Type 0
    AreServed servers (leaf_plan leaf) = IsServed servers leaf
    AreServed servers (par_plan rule plans) = AreAllServed servers plans
    AreServed servers (sel_plan timeout plans) = AreAllServed servers plans

    pub AreAllServed : ℕ → Plans M G → Type 0
    AreAllServed servers last_plan = Unit {0}
    AreAllServed servers (plan_then plan plans) = AreServed servers plan × AreAllServed servers plans
