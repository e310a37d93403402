-- What stands beside a reader's lists: a tree that finds the place of a name, and the numbers of the calls. This project's own choice.
use Rattle.std.specs.Prelude.{◌≡◌, ℕ, List, map}
use Rattle.std.specs.Global.{Vec}
use Rattle.std.specs.Ordering.{nat_cmp}
use Rattle.std.specs.Cmp.Lexicographic.{slice_cmp}
use Rattle.std.specs.BTreeMap.{BTreeMap, get_by}
use Rattle.rpc_model.specs.Words.{index_of}

-- each name is found where it stands, and no other is found
abbrev pub FindsNames : BTreeMap (Vec ℕ) ℕ → List (List ℕ) → Type 0
FindsNames places names = (name : List ℕ) → get_by (λ key. slice_cmp nat_cmp name key.items) places ≡ index_of names name

-- these are the numbers of these calls
abbrev pub AreNumbers : List ℕ → List (ℕ × ℕ) → Type 0
AreNumbers numbers calls = numbers ≡ map (λ c. c.0) calls
