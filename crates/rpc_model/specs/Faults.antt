-- Why a channel has no plan that a call may run: its depth, and parts without a server. This project's own choice.
use Rattle.std.specs.Prelude.{ℕ, zero, suc, ◌+◌, max, List, [], ◌∷◌, Option, None, Some, slice_get}
use Rattle.rpc_model.specs.declared.chan.Chan.{Chan}
use Rattle.rpc_model.specs.declared.chan.Chan.TheVariants as chan
use Rattle.rpc_model.specs.declared.chan.PartChan.{PartChan}
use Rattle.rpc_model.specs.Plan.{servers_of, tries, subs_of}

-- the first of these parts from this one on that no server has
abbrev pub or_missing : ℕ → List ℕ → Option ℕ → Option ℕ
or_missing part [] later = Some part
or_missing part (server ∷ servers) later = later

-- the first answer
abbrev pub or_later : Option ℕ → Option ℕ → Option ℕ
or_later None later = later
or_later (Some part) later = Some part

-- the greatest of the depths of the channels of these numbers
abbrev pub deepest : (ℕ → ℕ) → List ℕ → ℕ
deepest depth_of [] = 0
deepest depth_of (number ∷ numbers) = max (depth_of number) (deepest depth_of numbers)

-- the first part without a server in the channels of these numbers
abbrev pub first_missing : (ℕ → Option ℕ) → List ℕ → Option ℕ
first_missing missing_of [] = None
first_missing missing_of (number ∷ numbers) = or_later (missing_of number) (first_missing missing_of numbers)

module _ {M G : Type 0} where
  -- a plain channel has depth 1, a partition channel 2, and another one is one deeper than its deepest sub
  abbrev pub chan_depth : (ℕ → ℕ) → Option (Chan M G) → ℕ
  chan_depth depth_of None = 0
  chan_depth depth_of (Some (chan.Leaf leaf)) = 1
  chan_depth depth_of (Some (chan.Par par)) = 1 + deepest depth_of (subs_of par)
  chan_depth depth_of (Some (chan.Sel sel)) = 1 + deepest depth_of sel.subs
  chan_depth depth_of (Some (chan.Part part)) = 2

  abbrev pub depth_within : ℕ → List (Chan M G) → ℕ → ℕ
  depth_within zero chans number = 0
  depth_within (suc n) chans number = chan_depth (depth_within n chans) (slice_get chans number)

  -- the depth of the channel of this number, over all its subs, tried or not
  abbrev pub depth : List (Chan M G) → ℕ → ℕ
  depth chans number = depth_within (suc number) chans number

  -- the first of so many parts from this one on that no server has
  abbrev pub missing_from : PartChan M G → ℕ → ℕ → Option ℕ
  missing_from chan part zero = None
  missing_from chan part (suc count) = or_missing part (servers_of chan.tags chan.parts part) (missing_from chan (part + 1) count)

  abbrev pub chan_missing : (ℕ → Option ℕ) → ℕ → Option (Chan M G) → Option ℕ
  chan_missing missing_of call None = None
  chan_missing missing_of call (Some (chan.Leaf leaf)) = None
  chan_missing missing_of call (Some (chan.Par par)) = first_missing missing_of (subs_of par)
  chan_missing missing_of call (Some (chan.Sel sel)) = first_missing missing_of (tries sel call)
  chan_missing missing_of call (Some (chan.Part part)) = missing_from part 0 part.parts

  abbrev pub missing_within : ℕ → List (Chan M G) → ℕ → ℕ → Option ℕ
  missing_within zero chans call number = None
  missing_within (suc n) chans call number = chan_missing (missing_within n chans call) call (slice_get chans number)

  -- the first part without a server, in preorder, in the plan of the channel of this number for a call of this number
  abbrev pub missing_part : List (Chan M G) → ℕ → ℕ → Option ℕ
  missing_part chans number call = missing_within (suc number) chans call number
