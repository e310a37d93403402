-- The moments that a clock told, the greatest of them and of its twins, and the clock in memory: this project's own choice.
use Rattle.std.specs.Prelude.{◌≡◌, ℕ, zero, suc, ◌+◌, ◌-◌, ◌*◌, ◌^◌, min, max, List, [], ◌∷◌, ◌++◌, ⊤, Some, None, true, is_some, nat_lt, if◌then◌else◌}
use Rattle.std.specs.Option.{option_map}
use Rattle.std.specs.declared.option.Option.{Option}

-- one more moment was told; a clock may cease to tell its list
abbrev pub Tells : Option (List ℕ) → Option (List ℕ) → ℕ → Type 0
Tells old None moment = ⊤
Tells None (Some now) moment = ⊥
Tells (Some old) (Some now) moment = now ≡ old ++ moment ∷ []

-- the greatest of what was told before and of this moment
abbrev pub raised : Option ℕ → ℕ → Option ℕ
raised high moment = option_map (λ h. max h moment) high

-- a twin came back, and where both tell it, the greater of the two stands now
abbrev pub TakesBack : (old new twin : Option ℕ) → Type 0
TakesBack None new twin = new ≡ None
TakesBack (Some high) new None = is_some new ≡ true
TakesBack (Some high) new (Some twin) = new ≡ Some (max high twin)

-- a clock in memory: its first moment, the step, how many moments it told, and the greatest of the twins that came back
pub record Dial : Type 0 where
  pub first : ℕ
  pub step : ℕ
  pub told : ℕ
  pub twins : ℕ

-- the moment of so many before it
abbrev pub moment_of : ℕ → ℕ → ℕ → ℕ
moment_of first step n = min (first + n * step) (2 ^ 53 - 1)

-- the first n moments
abbrev pub moments : ℕ → ℕ → ℕ → List ℕ
moments first step zero = []
moments first step (suc n) = moments first step n ++ moment_of first step n ∷ []

-- the list, which isn't told any more once the count of moments is its type's greatest number
abbrev pub list_of : Dial → Option (List ℕ)
list_of d = if nat_lt d.told (2 ^ 64 - 1) then Some (moments d.first d.step d.told) else None

-- the moments never fall, so the last one told is the greatest
abbrev pub last_told : ℕ → ℕ → ℕ → ℕ
last_told first step zero = 0
last_told first step (suc n) = moment_of first step n

abbrev pub high_of : Dial → ℕ
high_of d = max d.twins (last_told d.first d.step d.told)
