-- Why a channel is refused a plan. This project's own choice.
use Rattle.std.specs.Prelude.{◌≡◌, ℕ, ◌<◌, ◌≤◌, List, None, Some}
use Rattle.rpc_model.specs.declared.chan.Chan.{Chan}
use Rattle.rpc_model.specs.Plan.{Plan, plan}
use Rattle.rpc_model.specs.Versions.{width}
use Rattle.rpc_model.specs.Faults.{depth, missing_part}
use Rattle.chan_tree.specs.declared.planning.PlanFault.{PlanFault}
use Rattle.chan_tree.specs.declared.planning.PlanFault.TheVariants.{TooDeep, MissingPart, TooWide, Memory}

module _ {M G : Type 0} where
  -- It nests deeper than eight channels; or else a part in its plan has no server, of which the first in preorder is
  -- told; or else its plan is wider than 1,024 versions. Depth and width are told as the first number past the limit.
  abbrev pub IsRefused : List (Chan M G) → ℕ → ℕ → PlanFault → Type 0
  IsRefused chans number call (TooDeep deep) = (8 < depth chans number) × (deep ≡ 9)
  IsRefused chans number call (MissingPart part) = (depth chans number ≤ 8) × (missing_part chans number call ≡ Some part)
  IsRefused chans number call (TooWide wide) =
      (depth chans number ≤ 8) × (missing_part chans number call ≡ None) × (wide ≡ 1025) × ((p : Plan M G) × (plan chans number call ≡ Some p) × (1024 < width p))
  IsRefused chans number call Memory = Unit {0}

  -- it nests no deeper than eight channels, each part has a server, and this is its plan, no wider than 1,024 versions
  pub record IsGranted (chans : List (Chan M G)) (number call : ℕ) (p : Plan M G) : Type 0 where
    pub shallow : depth chans number ≤ 8
    pub no_part_missing : missing_part chans number call ≡ None
    pub planned : plan chans number call ≡ Some p
    pub narrow : width p ≤ 1024
