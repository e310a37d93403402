-- How wide the plan of a channel is, counted from the widths of its subs.
use Rattle.std.specs.Prelude.{ℕ, zero, suc, ◌+◌, ◌*◌, List, [], ◌∷◌, Option, None, Some, slice_get}
use Rattle.rpc_model.specs.declared.chan.Chan.{Chan}
use Rattle.rpc_model.specs.declared.chan.Chan.TheVariants as chan
use Rattle.rpc_model.specs.Plan.{tries, subs_of}

-- the widths of the channels of these numbers together
abbrev pub total : (ℕ → ℕ) → List ℕ → ℕ
total width_of [] = 0
total width_of (number ∷ numbers) = width_of number + total width_of numbers

module _ {M G : Type 0} where
  -- a version for the node itself, and those of what is below it
  abbrev pub chan_width : (ℕ → ℕ) → ℕ → Option (Chan M G) → ℕ
  chan_width width_of call None = 0
  chan_width width_of call (Some (chan.Leaf leaf)) = leaf.retry + 2
  chan_width width_of call (Some (chan.Par par)) = 1 + total width_of (subs_of par)
  chan_width width_of call (Some (chan.Sel sel)) = 1 + total width_of (tries sel call)
  chan_width width_of call (Some (chan.Part part)) = 1 + part.parts * (part.retry + 2)

  abbrev pub width_within : ℕ → List (Chan M G) → ℕ → ℕ → ℕ
  width_within zero chans call number = 0
  width_within (suc n) chans call number = chan_width (width_within n chans call) call (slice_get chans number)

  abbrev pub width_of : List (Chan M G) → ℕ → ℕ → ℕ
  width_of chans call number = width_within (suc number) chans call number
