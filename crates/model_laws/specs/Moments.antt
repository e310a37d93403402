-- How late the moments of a replay are: a bound that every line of an accepted script raises by little. This project's own choice.
use Rattle.std.specs.Prelude.{ℕ, ◌+◌, ◌*◌, ◌^◌, ◌<◌, ◌≤◌, List, ◌++◌, ◌≡◌}
use Rattle.std.specs.List.{AllByRecursion}
use Rattle.rpc_model.specs.declared.script.Act.{Act}
use Rattle.rpc_model.specs.Effects.{Mark}
use Rattle.model_laws.specs.Soon.{WaitsShortly}
use Rattle.rpc_model.specs.Marks.{Begun, unstarted}
use Rattle.rpc_model.specs.declared.script.Script.{Script}
use Rattle.rpc_model.specs.Told.{Standing, begun, full, told_of, Replay, unbegun}
use Rattle.rpc_model.specs.Fits.{Fits}
use Rattle.model_laws.specs.Logs.{after_all}

-- A mark that waits while so many nodes weren't started: each of these may be started by a mark, and sets marks at most the longest wait behind it.
abbrev pub MarkBy : ℕ → ℕ → Mark → Type 0
MarkBy bound unstarted mark = mark.moment + unstarted * 2 ^ 31 ≤ bound + 2 ^ 41

-- its marks are due soon, its nodes that weren't started set theirs soon, and these are few
pub record IsSoonBy (bound : ℕ) (b : Begun) : Type 0 where
  pub marks : AllByRecursion (MarkBy bound (unstarted b.state)) b.waiting
  pub short : WaitsShortly b.state
  pub few : unstarted b.state ≤ 1023

abbrev pub StandsBy : ℕ → Standing → Type 0
StandsBy bound (begun call) = IsSoonBy bound call
StandsBy bound (full call) = Unit {0}
StandsBy bound (told_of call) = Unit {0}

-- the moment reached is within the bound, and so are the calls
pub record IsBy (bound : ℕ) (replay : Replay) : Type 0 where
  pub moment : replay.reached ≤ bound
  pub calls : AllByRecursion (StandsBy bound) replay.calls

abbrev pub WaitsEarly : Standing → Type 0
WaitsEarly (begun call) = AllByRecursion (λ (mark : Mark). mark.moment < 2 ^ 60) call.waiting
WaitsEarly (full call) = Unit {0}
WaitsEarly (told_of call) = Unit {0}

-- Every moment that an accepted script reaches stays below 2^60, and so does every mark that waits then.
abbrev pub MomentsAreEarly : Type 0
MomentsAreEarly = (script : Script) (acts more : List Act) → Fits script → script.acts ≡ acts ++ more
    → let replay = after_all script unbegun acts in
    (replay.reached < 2 ^ 60) × AllByRecursion WaitsEarly replay.calls
