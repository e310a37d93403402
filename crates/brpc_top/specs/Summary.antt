-- The line that sums up what the joins of a script told. This project's own choice.
use Rattle.std.specs.Prelude.{ℕ, Bool, true, false, List, ◌++◌, codes, count_by, sum_by}
use Rattle.std.specs.Fmt.{decimal}
use Rattle.rpc_model.specs.declared.event.End.TheVariants.{Good, Bad}
use Rattle.rpc_model.specs.declared.told.Told.{Told}
use Rattle.rpc_model.specs.declared.told.Told.TheVariants.{Ended, Unended, Full, Gone}

abbrev pub is_good : Told → Bool
is_good (Ended call (Good text) attempts) = true
is_good (Ended call (Bad code) attempts) = false
is_good (Unended call) = false
is_good (Full call) = false
is_good (Gone call) = false

abbrev pub is_bad : Told → Bool
is_bad (Ended call (Good text) attempts) = false
is_bad (Ended call (Bad code) attempts) = true
is_bad (Unended call) = false
is_bad (Full call) = false
is_bad (Gone call) = false

abbrev pub is_unended : Told → Bool
is_unended (Ended call end attempts) = false
is_unended (Unended call) = true
is_unended (Full call) = false
is_unended (Gone call) = false

abbrev pub is_full : Told → Bool
is_full (Ended call end attempts) = false
is_full (Unended call) = false
is_full (Full call) = true
is_full (Gone call) = false

-- the attempts that a line tells
abbrev pub attempts_of : Told → ℕ
attempts_of (Ended call end attempts) = attempts
attempts_of (Unended call) = 0
attempts_of (Full call) = 0
attempts_of (Gone call) = 0

-- `calls N ok A fail B open D full E attempts T`: how many lines of each kind a script of so many calls told, and the sum of the attempts told
unfoldable pub summary : ℕ → List Told → List ℕ
summary calls told =
    codes "calls " ++ decimal calls
    ++ codes " ok " ++ decimal (count_by is_good told)
    ++ codes " fail " ++ decimal (count_by is_bad told)
    ++ codes " open " ++ decimal (count_by is_unended told)
    ++ codes " full " ++ decimal (count_by is_full told)
    ++ codes " attempts " ++ decimal (sum_by attempts_of told)
    ++ codes "\n"
