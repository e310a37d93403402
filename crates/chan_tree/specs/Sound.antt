-- The lists of channels that have plans: each channel names only channels before it. This project's own choice.
use Rattle.std.specs.Prelude.{ℕ, suc, ◌<◌, ◌≤◌, List, [], ◌∷◌, length}
use Rattle.std.specs.List.{AllByRecursion}
use Rattle.rpc_model.specs.declared.chan.Chan.{Chan}
use Rattle.rpc_model.specs.declared.chan.Chan.TheVariants as chan
use Rattle.rpc_model.specs.Plan.{subs_of}

-- these are numbers of earlier channels
abbrev pub AreBefore : ℕ → List ℕ → Type 0
AreBefore number subs = AllByRecursion (λ sub. sub < number) subs

module _ {M G : Type 0} where
  -- the channel of this number: a plain one has a server, a selective one a sub, and all subs come before it
  abbrev pub IsSound : ℕ → Chan M G → Type 0
  IsSound number (chan.Leaf leaf) = 1 ≤ length leaf.servers
  IsSound number (chan.Par par) = AreBefore number (subs_of par)
  IsSound number (chan.Sel sel) = (1 ≤ length sel.subs) × AreBefore number sel.subs
  IsSound number (chan.Part part) = Unit {0}

  -- the channels from this number on
  abbrev pub AreSound : ℕ → List (Chan M G) → Type 0
  AreSound number [] = Unit {0}
  AreSound number (c ∷ chans) = IsSound number c × AreSound (suc number) chans
