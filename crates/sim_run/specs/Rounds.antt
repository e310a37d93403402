-- After how many calls the plans of a channel come round again, as a selective channel turns over its subs by the call's number, and the plans that
-- are kept for that. This project's own choice.
use Rattle.std.specs.Prelude.{◌≡◌, ℕ, ◌+◌, ◌*◌, ◌%◌, ◌<◌, List, length, get_or, slice_get, Some}
use Rattle.std.specs.Arc.{arc_value}
use Rattle.std.specs.List.{AllByRecursion}
use Rattle.rpc_model.specs.declared.chan.Chan.{Chan}
use Rattle.rpc_model.specs.declared.chan.Chan.TheVariants as chan
use Rattle.rpc_model.specs.declared.kinds.MapKind.{MapKind}
use Rattle.rpc_model.specs.declared.kinds.MergeKind.{MergeKind}
use Rattle.rpc_model.specs.Plan.{plan, subs_of}
use Rattle.sim_run.specs.declared.planning.Plans.{Plans}
use Rattle.sim_run.specs.declared.planning.Shared.{Shared}

-- calls of the channel whose numbers leave the same rest by this number have the same plan; no two numbers leave the same rest by 0
abbrev pub ComesRound : List (Chan MapKind MergeKind) → ℕ → ℕ → Type 0
ComesRound chans number round = (a b : ℕ) → a % round ≡ b % round → plan chans number a ≡ plan chans number b

-- the number that stands for each channel is such a number
abbrev pub ComeRound : List (Chan MapKind MergeKind) → List ℕ → Type 0
ComeRound chans rounds = (number : ℕ) → ComesRound chans number (get_or rounds number 0)

-- a multiple of the number of each of these channels
abbrev pub IsOver : List ℕ → List ℕ → ℕ → Type 0
IsOver rounds subs round = AllByRecursion (λ sub. round % get_or rounds sub 0 ≡ 0) subs

-- a multiple of the numbers of the channel's subs, and of their count where it turns over them
abbrev pub IsRound : List ℕ → Chan MapKind MergeKind → ℕ → Type 0
IsRound rounds (chan.Leaf leaf) round = Unit {0}
IsRound rounds (chan.Par par) round = IsOver rounds (subs_of par) round
IsRound rounds (chan.Sel sel) round = (round % length sel.subs ≡ 0) × IsOver rounds sel.subs round
IsRound rounds (chan.Part part) round = Unit {0}

-- each plan that is kept is that of all calls of its channel whose numbers leave its rest
pub record IsPlanned (chans : List (Chan MapKind MergeKind)) (plans : Plans) : Type 0 where
  pub rounds : ComeRound chans plans.rounds.items
  pub kept : (place number rest call : ℕ) (shared : Shared) → slice_get plans.kept.items place ≡ Some (Some shared) → place ≡ 16 * number + rest → rest < 16
      → call % get_or plans.rounds.items number 0 ≡ rest → plan chans number call ≡ Some (arc_value shared.plan)
