-- What a list of measures says of the channel of a number.
use Rattle.std.specs.Prelude.{◌≡◌, ℕ, zero, suc, ◌++◌, min, Bool, true, false, List, [], ◌∷◌, map, Option, None, Some, slice_get}
use Rattle.rpc_model.specs.declared.chan.Chan.{Chan}
use Rattle.rpc_model.specs.declared.chan.Sub.{Sub}
use Rattle.rpc_model.specs.Faults.{depth, missing_part}
use Rattle.chan_tree.specs.Counting.{width_of}
use Rattle.chan_tree.specs.declared.measuring.Measure.{Measure}

abbrev pub depth_or : Option Measure → ℕ
depth_or None = 0
depth_or (Some m) = m.depth

abbrev pub depth_in : List Measure → ℕ → ℕ
depth_in ms number = depth_or (slice_get ms number)

abbrev pub missing_or : Option Measure → Option ℕ
missing_or None = None
missing_or (Some m) = m.missing

abbrev pub missing_in : List Measure → ℕ → Option ℕ
missing_in ms number = missing_or (slice_get ms number)

abbrev pub width_or : Option Measure → ℕ
width_or None = 0
width_or (Some m) = m.width

abbrev pub width_in : List Measure → ℕ → ℕ
width_in ms number = width_or (slice_get ms number)

abbrev pub is_some_server : List ℕ → Bool
is_some_server [] = false
is_some_server (server ∷ servers) = true

-- the numbers of the channels of these subs
abbrev pub numbers_of : {M G : Type 0} → List (Sub M G) → List ℕ
numbers_of {M} {G} subs = map (λ (s : Sub M G). s.chan) subs

abbrev pub maps_of : {M G : Type 0} → List (Sub M G) → List M
maps_of {M} {G} subs = map (λ (s : Sub M G). s.map) subs

abbrev pub merges_of : {M G : Type 0} → List (Sub M G) → List G
merges_of {M} {G} subs = map (λ (s : Sub M G). s.merge) subs

module _ {M G : Type 0} where
  -- depth and width up to their ends, and the first part that no server has
  abbrev pub measure_at : List (Chan M G) → ℕ → ℕ → Measure
  measure_at chans call number = record { depth = min 9 (depth chans number); missing = missing_part chans number call; width = min 1025 (width_of chans call number) }

  abbrev pub IsMeasureOf : List (Chan M G) → ℕ → ℕ → Measure → Type 0
  IsMeasureOf chans call number m = m ≡ measure_at chans call number

  -- of the first so many channels
  abbrev pub measures : List (Chan M G) → ℕ → ℕ → List Measure
  measures chans call zero = []
  measures chans call (suc count) = measures chans call count ++ measure_at chans call count ∷ []
