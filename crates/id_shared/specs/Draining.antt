-- A seat within a call, while it reads and frees the nodes that it took. This project's own choice.
use Rattle.std.specs.Prelude.{◌≡◌, ◌+◌, ◌*◌, ◌<◌, ◌≤◌, ◌++◌, ◌∷◌, ℕ, true, List, [], length, Option, Some}
use Rattle.atomic_table.specs.Seated.{TableId}
use Rattle.atomic_table.specs.Table.{Me}
use Rattle.id_rule.specs.declared.view.Queued.{Queued}
use Rattle.id_rule.specs.declared.view.Receipt.{Receipt}
use Rattle.id_rule.specs.declared.view.Turn.{Turn}
use Rattle.id_rule.specs.declared.view.View.{View}
use Rattle.id_rule.specs.Changes.{view_with_list, taking_view}
use Rattle.id_rule.specs.Nodes.{head_of, pass_of_node}
use Rattle.id_rule.specs.Parts.{AreAll, part_of}
use Rattle.id_rule.specs.Steps.{IsChainOf}
use Rattle.id_shared.specs.declared.answers.Posted.{Posted}
use Rattle.id_shared.specs.Standing.{Claim, IdTable}
use Rattle.id_shared.specs.Views.{error_of, errors_of}

-- the error is in a node of a table whose passes have so many nodes each, and so many together, and its numbers fit a node's word
abbrev pub IsError : ℕ → ℕ → Queued → Type 0
IsError nodes total q = (1 ≤ q.node)
    × (q.node ≤ total)
    × (q.receipt.pass ≡ pass_of_node nodes q.node)
    × (q.offset < 2048)
    × (q.code < 65536)

-- the seat is of the table, and its view knows how many nodes there are
pub record IsSeatOf {E : Type 0} (ids : IdTable) (table : TableId) (v : View E) : Type 0 where
  pub of_table : table ≡ ids.table
  pub width : v.width ≡ ids.sizes.nodes
  pub total : v.total ≡ ids.sizes.passes * ids.sizes.nodes

-- the seat is of the table, and has taken nodes from this one on, whose errors have room in a list that has so many now
pub record IsDraining {T E : Type 0} (ids : IdTable) (table : TableId) (me : Me (Option T) (View E)) (node long room : ℕ) : Type 0 where
  pub of_table : table ≡ ids.table
  pub errors : AreAll (IsError ids.sizes.nodes (ids.sizes.passes * ids.sizes.nodes)) me.0.taken
  pub head : node ≡ head_of me.0.taken
  pub few : ids.sizes.passes * ids.sizes.nodes ≤ 65535
  pub fits : long + length me.0.taken ≤ room

-- the first taken node is free again, its error is noted behind the others, and the next node is this one
abbrev pub HasDrained : {T E : Type 0} → Me (Option T) (View E) → List Posted → ℕ → Me (Option T) (View E) → List Posted → Type 0
HasDrained {T} {E} me list next me' list' = (q : Queued)
    × ((qs : List Queued)
    × (me.0.taken ≡ q ∷ qs)
    × (me' ≡ (view_with_list me.0 qs, me.1))
    × (list' ≡ list ++ error_of q ∷ [])
    × (next ≡ head_of qs))

-- the seat took the chain of the Hold's slot, and noted its errors; where it had seen that some wait, there is one at least
abbrev pub HasTakenErrors : {T E : Type 0} → (E → Option Receipt) → Claim → Me (Option T) (View E) → List Posted → Me (Option T) (View E) → List Posted → Type 0
HasTakenErrors {T} {E} rec c me list me' list' = (qs : List Queued)
    × (me' ≡ (view_with_list (taking_view me.0 c.slot qs) [], me.1))
    × IsChainOf rec me.0 c.slot c.size qs
    × ((t : Turn E) × ((part_of me.0 c.slot).turn ≡ Some t) × (t.waits ≡ true → 1 ≤ length qs))
    × (list' ≡ list ++ errors_of qs)
