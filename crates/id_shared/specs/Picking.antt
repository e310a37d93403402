-- A seat within a call, while it looks for a free node of its pass and pushes it. This project's own choice.
use Rattle.std.specs.Prelude.{◌≡◌, ◌≢◌, ◌*◌, ◌<◌, ◌≤◌, ◌++◌, ◌∷◌, ℕ, List, [], length, Option, Some, None}
use Rattle.atomic_table.specs.Seated.{TableId}
use Rattle.rpc_model.specs.Gone.{code_in, first_in, range_in}
use Rattle.id_rule.specs.Changes.{view_after_load, view_with_seen, view_with_hand, pushing_view}
use Rattle.id_rule.specs.declared.view.Notice.{Notice}
use Rattle.id_rule.specs.declared.view.View.{View}
use Rattle.id_rule.specs.Nodes.{pass_of_node}
use Rattle.id_rule.specs.Parts.{HasNumber, own_number, AreAll}
use Rattle.id_shared.specs.Standing.{IdTable}
use Rattle.id_shared.specs.Views.{first_node, view_after_picks}

-- the seat is of the table, and its pass has the node, which isn't in its hand
pub record IsPicking {E : Type 0} (ids : IdTable) (node : ℕ) (table : TableId) (v : View E) : Type 0 where
  pub of_table : table ≡ ids.table
  pub one : 1 ≤ node
  pub low : node ≤ ids.sizes.passes * ids.sizes.nodes
  pub few : ids.sizes.passes * ids.sizes.nodes ≤ 65535
  pub mine : HasNumber (pass_of_node ids.sizes.nodes node) v.numbers
  pub empty : v.hand ≡ None

-- the seat is of the table, its pass has this number, and its hand is empty
pub record IsLooking {E : Type 0} (ids : IdTable) (number : ℕ) (table : TableId) (v : View E) : Type 0 where
  pub of_table : table ≡ ids.table
  pub mine : HasNumber number v.numbers
  pub below : number < ids.sizes.passes
  pub empty : v.hand ≡ None

-- the node's word was loaded, and the node is in hand where it was free
abbrev pub HasPicked : {E : Type 0} → ℕ → ℕ → View E → ℕ → View E → Type 0
HasPicked place node v n w =
    (n ≡ 0 → (second : ℕ) × (w ≡ view_with_hand (view_with_seen v place n) (Some (node, 0, second))))
    × (n ≢ 0 → w ≡ view_with_seen v place n)

-- the pass's nodes were loaded from the first one on: each as not free, or up to the first free one, which is in hand
abbrev pub HasPickedFirst : {E : Type 0} → IdTable → ℕ → View E → List ℕ → Option ℕ → View E → Type 0
HasPickedFirst ids number v words None w = (length words ≡ ids.sizes.nodes)
    × AreAll (λ n. n ≢ 0) words
    × (w ≡ view_after_picks v ids.sizes.slots (first_node ids.sizes.nodes number) words)
HasPickedFirst ids number v words (Some node) w = ((before : List ℕ) × (words ≡ before ++ 0 ∷ []) × AreAll (λ n. n ≢ 0) before)
    × ((second : ℕ) × (w ≡ view_with_hand (view_after_picks v ids.sizes.slots (first_node ids.sizes.nodes number) words) (Some (node, 0, second))))
    × (1 ≤ node)
    × (node ≤ ids.sizes.passes * ids.sizes.nodes)
    × (pass_of_node ids.sizes.nodes node ≡ number)

-- the seat has a node in hand, and may push it onto a slot whose word was seen locked, for the id with this offset
pub record IsPushing {E : Type 0} (ids : IdTable) (table : TableId) (v : View E) (node slot word offset code number : ℕ) : Type 0 where
  pub of_table : table ≡ ids.table
  pub one : 1 ≤ node
  pub low : node ≤ ids.sizes.passes * ids.sizes.nodes
  pub few : ids.sizes.passes * ids.sizes.nodes ≤ 65535
  pub held : (second : ℕ) × (v.hand ≡ Some (node, 0, second))
  pub slot_low : slot < ids.sizes.slots
  pub locked : code_in word ≡ 3
  pub in_range : offset < range_in word
  pub small : code < 65536
  pub next : number ≡ v.sent
  pub home : own_number v.numbers ≡ pass_of_node ids.sizes.nodes node
  pub own : HasNumber (own_number v.numbers) v.numbers

-- the error with this offset and code, queued to the range in the slot's word by the pass with this number, under its next receipt
abbrev pub notice_at : ℕ → ℕ → ℕ → ℕ → ℕ → ℕ → Notice
notice_at slot word offset code pass number =
    record { slot = slot; first = first_in word; offset = offset; code = code; receipt = record { pass = pass; number = number } }

-- the exchange found the word, and the error waits, or another, and the node is free again
abbrev pub HasPushed : {E : Type 0} → ℕ → ℕ → Notice → View E → ℕ → View E → Type 0
HasPushed slot word e v found w =
    (found ≡ word → w ≡ pushing_view v e)
    × (found ≢ word → w ≡ view_with_hand (view_after_load v slot found) None)
