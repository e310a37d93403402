-- When an object of the outside may be said to have failed, and what a source and a sink say of their bytes: this project's own choice.
use Rattle.std.specs.Prelude.{◌≡◌, ℕ, ◌+◌, ◌-◌, ◌^◌, ◌<◌, ◌≤◌, min, List, length, IfOk, OnErr, is_some}
use Rattle.std.specs.declared.option.Option.{Option}
use Rattle.std.specs.declared.result.Result.{Result}

-- a count of faults rose by one or more, or stands at its type's greatest number
abbrev pub Rose : ℕ → ℕ → Type 0
Rose before now = min (before + 1) (2 ^ 64 - 1) ≤ now

-- the count of faults never falls, rose where the call answered a fault, and is as before where it didn't
pub record HasCause {T E : Type 0} (before now : ℕ) (result : Result T E) : Type 0 where
  pub later : before ≤ now
  pub failed : OnErr result (Rose before now)
  pub kept : IfOk result (λ _. now ≡ before)

-- the bytes are told after a call exactly where they were told before
abbrev pub IsToldAlike : Option (List ℕ) → Option (List ℕ) → Type 0
IsToldAlike old new = is_some old ≡ is_some new

-- a write took at most the piece, and some of a piece that isn't empty
abbrev pub TakesSome : {E : Type 0} → Result ℕ E → List ℕ → Type 0
TakesSome result piece = IfOk result (λ n. (n ≤ length piece) × (0 < length piece → 0 < n))
