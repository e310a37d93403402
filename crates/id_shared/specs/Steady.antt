-- What holds of a pass between two of its calls. This project's own choice.
use Rattle.std.specs.Prelude.{◌≡◌, ℕ, ◌≤◌, false, List, [], length, Option, Some, None}
use Rattle.atomic_table.specs.Table.{Me}
use Rattle.id_rule.specs.declared.view.Part.{Part}
use Rattle.id_rule.specs.declared.view.Turn.{Turn}
use Rattle.id_rule.specs.declared.view.View.{View}
use Rattle.id_rule.specs.Parts.{HasNumber, own_number, part_of}
use Rattle.id_shared.specs.declared.answers.Posted.{Posted}

-- the pass has no Spot, Hold or Owner of the slot
abbrev pub IsUnclaimed : {E : Type 0} → Part E → Type 0
IsUnclaimed p = (p.spot ≡ None) × (p.hold ≡ None) × (p.owner ≡ None)

-- the slot of a lock is at home, and no error that the pass has seen is left in its chain
abbrev pub IsLaid : {E : Type 0} → Option (Turn E) → Type 0
IsLaid None = Unit {0}
IsLaid (Some t) = (t.out ≡ false) × (t.waits ≡ false)

-- where errors are of a Hold, none was dropped
abbrev pub IsAlone : Option ℕ → List Posted → Type 0
IsAlone None dropped = Unit {0}
IsAlone (Some slot) dropped = dropped ≡ []

-- the errors still to hand out are few enough to count, and where they are of a Hold, none was dropped
abbrev pub IsScratch : Option ℕ → List Posted → List Posted → Type 0
IsScratch holder pending dropped = (length pending ≤ 65535) × (length dropped ≤ 65535) × IsAlone holder dropped

-- How much room the lists of a pass have: the noted words, the errors of a Pending, and those dropped
pub record Rooms : Type 0 where
  pub words : ℕ
  pub pending : ℕ
  pub dropped : ℕ

-- No node is in hand or taken, and no slot is with the pass; claims are of the table's slots; the pass keeps its own number and counts its receipts; there
-- is room to note a word of each slot and of each of its nodes, and for as many errors as there are nodes
pub record IsSteady {T E : Type 0} (slots : ℕ) (me : Me (Option T) (View E)) (number sent : ℕ) (room : Rooms) : Type 0 where
  pub hand : me.0.hand ≡ None
  pub taken : me.0.taken ≡ []
  pub carried : me.1 ≡ []
  pub laid : (slot : ℕ) → IsLaid (part_of me.0 slot).turn
  pub low : (slot : ℕ) → slots ≤ slot → IsUnclaimed (part_of me.0 slot)
  pub own : own_number me.0.numbers ≡ number
  pub has : HasNumber number me.0.numbers
  pub sent_is : me.0.sent ≡ sent
  pub roomy : slots ≤ room.words
  pub wide : me.0.width ≤ room.words
  pub deep : me.0.total ≤ room.pending
  pub deeper : me.0.total ≤ room.dropped
