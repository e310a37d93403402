-- Which slots of a pool are vacant, which the pool keeps as a set of numbers beside its slots. This project's own choice.
use Rattle.std.specs.Prelude.{◌≡◌, ◌≢◌, ℕ, zero, suc, ◌≤◌, ltb, Bool, true, false, List, [], ◌∷◌, length}
use Rattle.bit_set.specs.Bits.{is_in}
use Rattle.id_pool.specs.Ranges.{Slot, Vacant, Retired, Taken}

abbrev pub is_vacant : {T : Type 0} → Slot T → Bool
is_vacant (Vacant next) = true
is_vacant Retired = false
is_vacant (Taken r) = false

-- whether the slot of a number is there and vacant
abbrev pub vacant_at : {T : Type 0} → List (Slot T) → ℕ → Bool
vacant_at [] k = false
vacant_at (s ∷ ss) zero = is_vacant s
vacant_at (s ∷ ss) (suc k) = vacant_at ss k

-- the set has the vacant slots
pub record IsListed {T : Type 0} (slots : List (Slot T)) (vacant : List ℕ) : Type 0 where
  pub listed : (k : ℕ) → is_in vacant k ≡ vacant_at slots k
  pub few : length slots ≤ 4096

-- the set has the numbers below one
abbrev pub IsFilled : ℕ → List ℕ → Type 0
IsFilled count set = (k : ℕ) → is_in set k ≡ ltb k count

-- the set after a number was put in
pub record IsPutIn (k : ℕ) (old new : List ℕ) : Type 0 where
  pub in_it : is_in new k ≡ true
  pub others : (j : ℕ) → j ≢ k → is_in new j ≡ is_in old j

-- the set once a slot is vacant or not: its number was put in where the slot is vacant
abbrev pub IsRelisted : Bool → ℕ → List ℕ → List ℕ → Type 0
IsRelisted true k old new = IsPutIn k old new
IsRelisted false k old new = new ≡ old
