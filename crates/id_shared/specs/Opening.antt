-- A new table and its passes. This project's own choice.
use Rattle.std.specs.Prelude.{◌≡◌, ℕ, ◌+◌, ◌*◌, List, [], ◌∷◌, ◌++◌, replicate, Option, Some, None}
use Rattle.atomic_table.specs.Seated.{TableId}
use Rattle.atomic_table.specs.Table.{Me}
use Rattle.id_rule.specs.declared.view.View.{View}
use Rattle.id_shared.specs.Standing.{IdTable, Standing, IsPassOf}

-- each slot is vacant with the next first version 1, and each node is free
abbrev pub IsRow : ℕ → ℕ → List ℕ → Type 0
IsRow slots nodes words = words ≡ replicate slots 1073741824 ++ replicate (2 * nodes) 0

module _ {E : Type 0} where
  -- the view of a new pass: its number, how many nodes it has and all passes together, and nothing else
  abbrev pub new_view : ℕ → ℕ → ℕ → View E
  new_view number nodes total =
      record { numbers = number ∷ []; width = nodes; total = total; sent = 0; next = None; seen = []; parts = []; hand = None; taken = []; notices = [] }

  -- the view of the first pass, from which the one with this number is split next
  abbrev pub root_view : ℕ → ℕ → ℕ → View E
  root_view number nodes total =
      record { numbers = 0 ∷ []; width = nodes; total = total; sent = 0; next = Some number; seen = []; parts = []; hand = None; taken = []; notices = [] }

  -- the pass has this number and knows and has nothing else
  abbrev pub IsNewPass : IdTable → ℕ → Standing E → Type 0
  IsNewPass ids number p = p ≡ record { table = ids.table; view = new_view number ids.sizes.nodes (ids.sizes.passes * ids.sizes.nodes); words = []; scratch = []; holder = None }

  -- the first pass, which hands out this number next
  abbrev pub IsRoot : IdTable → ℕ → Standing E → Type 0
  IsRoot ids number p = p ≡ record { table = ids.table; view = root_view number ids.sizes.nodes (ids.sizes.passes * ids.sizes.nodes); words = []; scratch = []; holder = None }

  -- the pass has this number, and has and knows nothing of any slot
  abbrev pub IsOpened : IdTable → ℕ → Standing E → Type 0
  IsOpened ids number p = IsPassOf ids p
      × (p.view.numbers ≡ number ∷ [])
      × (p.view.sent ≡ 0)
      × (p.view.seen ≡ [])
      × (p.view.parts ≡ [])
      × (p.words ≡ [])
      × (p.scratch ≡ [])

  -- the passes stand in the order of their numbers
  abbrev pub AreOpened : IdTable → ℕ → List (Standing E) → Type 0
  AreOpened ids number [] = Unit {0}
  AreOpened ids number (p ∷ ps) = IsOpened ids number p × AreOpened ids (number + 1) ps

-- the seat is new, with this number: its view has and knows nothing, and no slot is with it
abbrev pub IsNewSeat : {T E : Type 0} → IdTable → ℕ → TableId → Me (Option T) (View E) → Type 0
IsNewSeat ids number table me = (table ≡ ids.table)
    × (me.1 ≡ [])
    × (me.0.numbers ≡ number ∷ [])
    × (me.0.width ≡ ids.sizes.nodes)
    × (me.0.total ≡ ids.sizes.passes * ids.sizes.nodes)
    × (me.0.sent ≡ 0)
    × (me.0.parts ≡ [])
    × (me.0.hand ≡ None)
    × (me.0.taken ≡ [])
