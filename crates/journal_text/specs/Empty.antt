-- Whether a list has nothing: this project's own choice.
use Rattle.std.specs.Prelude.{Bool, true, false, List, [], ◌∷◌}

abbrev pub is_empty : {A : Type 0} → List A → Bool
is_empty [] = true
is_empty (x ∷ xs) = false
