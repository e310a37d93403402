-- The leaves of a plan by the numbers of its nodes, and places that rise.
use Rattle.std.specs.Prelude.{ℕ, ◌+◌, ◌<◌, ◌≤◌, nat_lt, List, [], ◌∷◌, ◌++◌, length, map, get_or, slice_get, Option}
use Rattle.std.specs.Prelude.{None, Some, if◌then◌else◌}
use Rattle.std.specs.Arc.{arc_value}
use Rattle.std.specs.Option.{option_map}
use Rattle.rpc_model.specs.declared.chan.LeafChan.{LeafChan}
use Rattle.rpc_model.specs.Plan.{Plan, leaf_plan, par_plan, sel_plan, Plans, last_plan, plan_then}
use Rattle.rpc_model.specs.Versions.{possible_attempts}
use Rattle.chan_tree.specs.declared.table.PlanLeaf.{PlanLeaf}

-- a leaf: the place of its first attempt among all attempts, how many it may issue, and its channel
pub record Entry : Type 0 where
  pub first : ℕ
  pub count : ℕ
  pub chan : LeafChan

abbrev pub entry_of : PlanLeaf → Entry
entry_of leaf = record { first = leaf.first; count = leaf.count; chan = arc_value leaf.chan }

abbrev pub entries_of : List (Option PlanLeaf) → List (Option Entry)
entries_of leaves = map (option_map entry_of) leaves

module _ {M G : Type 0} where
  -- for each node in preorder the leaf that it is, where the first attempt of all has this place
  abbrev mutual
    pub entries : ℕ → Plan M G → List (Option Entry)
    entries first (leaf_plan leaf) = Some record { first = first; count = leaf.retry + 1; chan = leaf } ∷ []
    entries first (par_plan rule plans) = None ∷ entries_below first plans
    entries first (sel_plan timeout plans) = None ∷ entries_below first plans

    pub entries_below : ℕ → Plans M G → List (Option Entry)
    entries_below first last_plan = []
    entries_below first (plan_then plan plans) =
        entries first plan ++ entries_below (first + possible_attempts plan) plans

-- the leaf at a number, none where no node or another one is there
abbrev pub entry_or_none : Option (Option Entry) → Option Entry
entry_or_none None = None
entry_or_none (Some entry) = entry

abbrev pub entry_at : List (Option Entry) → ℕ → Option Entry
entry_at entries node = entry_or_none (slice_get entries node)

-- the place of an attempt among all attempts, where the leaf may issue it
abbrev pub place_in : Option Entry → ℕ → Option ℕ
place_in None attempt = None
place_in (Some entry) attempt = if nat_lt attempt entry.count then Some (entry.first + attempt) else None

abbrev pub chan_in : Option Entry → Option LeafChan
chan_in None = None
chan_in (Some entry) = Some entry.chan

-- numbers that rise
abbrev pub IsRising : List ℕ → Type 0
IsRising xs = (i j : ℕ) → i < j → j < length xs → get_or xs i 0 < get_or xs j 0

-- the last place at which a number isn't past this
pub record IsLastUpTo (xs : List ℕ) (to at : ℕ) : Type 0 where
  pub place : at < length xs
  pub low : get_or xs at 0 ≤ to
  pub high : (k : ℕ) → at < k → k < length xs → to < get_or xs k 0
