-- What a list is after an appending that may fail halfway: this project's own choice.
use Rattle.std.specs.Prelude.{◌≡◌, ℕ, List, length, take}

-- the list begins with what stood there before
abbrev pub Begins : List ℕ → List ℕ → Type 0
Begins before now = take (length before) now ≡ before
