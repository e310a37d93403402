-- A table of ids, a pass and its tokens, as contracts see them. Tokens that must be spent are this project's own choice.
use Rattle.std.specs.Prelude.{◌≡◌, ◌⊎◌, ◌<◌, ◌≤◌, ◌+◌, ◌*◌, ℕ, List, [], Option, Some, None}
use Rattle.atomic_table.specs.Seated.{TableId}
use Rattle.id_pool.specs.Ids as ids
use Rattle.id_rule.specs.declared.rule.Sizes.{Sizes}
use Rattle.id_rule.specs.declared.view.View.{View}
use Rattle.id_rule.specs.Parts.{own_number, part_of}
use Rattle.id_shared.specs.declared.answers.Posted.{Posted}

-- a range that a token stands for: its slot, its first version and its size
pub record Claim : Type 0 where
  pub slot : ℕ
  pub first : ℕ
  pub size : ℕ

-- the numbers of a claim are in the bounds of its fields
abbrev pub IsClaim : Claim → Type 0
IsClaim c = (c.slot < 4096) × (c.first < 4294967296) × (c.size < 2048)

-- the first id of a claim's range
abbrev pub first_id_of : Claim → ℕ
first_id_of c = ids.make_id c.slot c.first

-- a table of ids: which one it is, and how many slots, passes and nodes it has
pub record IdTable : Type 0 where
  pub table : TableId
  pub sizes : Sizes

-- the table was made with these sizes, and has a word and a place for each slot, and two words for each node
abbrev pub IsIdTable : TableId → Sizes → Sizes → Type 0
IsIdTable table key sizes = (key ≡ sizes)
    × (table.slots ≡ sizes.slots)
    × (sizes.slots ≤ table.words)
    × (1 ≤ sizes.slots)
    × (sizes.slots ≤ 4096)
    × (sizes.passes * sizes.nodes ≤ 65535)
    × (table.words ≡ sizes.slots + 2 * (sizes.passes * sizes.nodes))
    × (1 ≤ sizes.nodes)

-- a pass: the table that it is of, what it knows and has, the words that its last call noted, and the errors that it has still to hand out, first queued
-- first. They are of the last Pending of the slot's Hold, if there is one, and else they were dropped
pub record Standing (E : Type 0) : Type 0 where
  pub table : TableId
  pub view : View E
  pub words : List ℕ
  pub scratch : List Posted
  pub holder : Option ℕ

module _ {E : Type 0} where
  -- the pass is of this table
  abbrev pub IsPassOf : IdTable → Standing E → Type 0
  IsPassOf ids p = (p.table ≡ ids.table)
      × (p.view.width ≡ ids.sizes.nodes)
      × (p.view.total ≡ ids.sizes.passes * ids.sizes.nodes)
      × (own_number p.view.numbers < ids.sizes.passes)

  -- the spot came from this pass, or from one that was joined into it
  abbrev pub HasSpot : Standing E → Claim → Type 0
  HasSpot p c = (part_of p.view c.slot).spot ≡ Some (c.first, c.size)

  -- the hold came from this pass, or from one that was joined into it
  abbrev pub HasHold : Standing E → Claim → Type 0
  HasHold p c = (part_of p.view c.slot).hold ≡ Some (c.first, c.size)

  -- the owner came from this pass, or from one that was joined into it
  abbrev pub HasOwner : Standing E → Claim → Type 0
  HasOwner p c = (part_of p.view c.slot).owner ≡ Some (c.first, c.size)

  -- the errors that the pass has still to hand out are of this Hold's last Pending
  abbrev pub HasErrorsOf : Standing E → Claim → Type 0
  HasErrorsOf p c = (p.scratch ≡ []) ⊎ (p.holder ≡ Some c.slot)

  -- the errors that the pass has still to hand out were dropped
  abbrev pub HasDropped : Standing E → Type 0
  HasDropped p = (p.scratch ≡ []) ⊎ (p.holder ≡ None)

  -- the pass is of this table, and has no error to hand out
  abbrev pub IsAtRest : IdTable → Standing E → Type 0
  IsAtRest ids p = IsPassOf ids p × (p.scratch ≡ [])
