-- What a plan keeps beside its tree: counts and the table of its leaves.
use Rattle.std.specs.Prelude.{◌≡◌, ◌≤◌}
use Rattle.rpc_model.specs.Versions.{nodes, width, attempt_versions}
use Rattle.chan_tree.specs.declared.plans.Plan.TheInside.{Inside}
use Rattle.chan_tree.specs.Table.{entries_of, entries}

module _ {M G : Type 0} where
  pub record IsTabled (a : Inside M G) : Type 0 where
    pub nodes_are : a.nodes ≡ nodes a.tree
    pub width_is : a.width ≡ width a.tree
    pub few : a.width ≤ 1024
    pub leaves_are : entries_of a.leaves.items ≡ entries 0 a.tree
    pub meanings_are : a.meanings.items ≡ attempt_versions 0 a.tree
