-- What a pool's calls do one after the other, and that an id that is gone stays gone.
use Rattle.std.specs.Prelude.{◌≡◌, ◌≢◌, ℕ, List, [], ◌∷◌}
use Rattle.id_pool.specs.Ids.{version_of}
use Rattle.id_pool.specs.Ranges.{Slot, Nothing, look, changed, created, locked, resized, posted, unlocked, destroyed, cancelled, collected, valued}

-- a call of a pool that may change it
pub data Step (T : Type 0) : Type 0 where
  Create : ℕ → T → Step T
  Lock : ℕ → Step T
  ResetRange : ℕ → ℕ → Step T
  Post : ℕ → ℕ → Step T
  Unlock : ℕ → Step T
  Destroy : ℕ → Step T
  Cancel : ℕ → Step T
  Collect : ℕ → Step T
  Write : ℕ → T → Step T

-- the slots after a call
abbrev pub stepped : {T : Type 0} → Step T → List (Slot T) → List (Slot T)
stepped (Create size value) slots = created size value slots
stepped (Lock id) slots = changed (locked (version_of id)) id slots
stepped (ResetRange id size) slots = changed (resized (version_of id) size) id slots
stepped (Post id code) slots = changed (posted (version_of id) code) id slots
stepped (Unlock id) slots = changed (unlocked (version_of id)) id slots
stepped (Destroy id) slots = changed (destroyed (version_of id)) id slots
stepped (Cancel id) slots = changed (cancelled (version_of id)) id slots
stepped (Collect id) slots = changed (collected (version_of id)) id slots
stepped (Write id value) slots = changed (valued value) id slots

-- and after several
abbrev pub run : {T : Type 0} → List (Step T) → List (Slot T) → List (Slot T)
run [] slots = slots
run (step ∷ steps) slots = run steps (stepped step slots)

-- An id that found its range once and doesn't any more never finds one again.
abbrev pub GoneStaysGone : (T : Type 0) → Type 0
GoneStaysGone T = (id : ℕ) (slots : List (Slot T)) (steps more : List (Step T)) → look id slots ≢ Nothing → look id (run steps slots) ≡ Nothing → look id (run more (run steps slots)) ≡ Nothing
