-- What a read and a write add to the bytes that an end of a wire has moved, and the ends of a new connection: this project's own choice.
use Rattle.std.specs.Prelude.{◌≡◌, ℕ, Bool, false, ◌||◌, ◌&&◌, nat_lt, nat_eq, List, [], length, take, IfSome, MatchResult}
use Rattle.std.specs.Io.KnownBytes.{append_known}
use Rattle.std.specs.declared.option.Option.{Option}
use Rattle.std.specs.declared.result.Result.{Result}

-- what an end has moved grows by the front of the buffer, and by nothing where the call failed
abbrev pub Moves : {E : Type 0} → Option (List ℕ) → Option (List ℕ) → Result ℕ E → List ℕ → Type 0
Moves old new result buffer = MatchResult result (λ n. new ≡ append_known old (take n buffer)) (λ _. new ≡ old)

-- the end was met before, or this read of a buffer with room gave nothing
abbrev pub Meets : {E : Type 0} → Bool → Bool → Result ℕ E → List ℕ → Type 0
Meets old new result buffer = MatchResult result (λ n. new ≡ (old || (nat_eq n 0 && nat_lt 0 (length buffer)))) (λ _. new ≡ old)

-- an end that moved no bytes, hasn't met its end or been closed, and never failed
abbrev pub IsFresh : (moved : Option (List ℕ)) (over : Bool) (faults : ℕ) → Type 0
IsFresh moved over faults = IfSome moved (λ bytes. bytes ≡ []) × (over ≡ false) × (faults ≡ 0)
