-- The words of the command line and the command that they name. This project's own choice.
use Rattle.std.specs.Prelude.{ℕ, Bool, false, ◌==◌, ◌&&◌, ◌||◌, nat_le, List, [], ◌∷◌, Option, None, Some, codes, bytes_eq, if◌then◌else◌}
use Rattle.rpc_model.specs.declared.limits.TheConstants.{SIM_CALL_LIMIT}
use Rattle.rpc_model.specs.Words.{is_numeral, digits_after}
use Rattle.brpc_top.specs.declared.command.Command.{Command}
use Rattle.brpc_top.specs.declared.command.Command.TheVariants.{Sim, Gen, Load}

-- ---- the table

abbrev pub count_where : Bool → ℕ → Option ℕ
count_where fits count = if fits then Some count else None

-- a number of calls: decimal without a needless zero, 1 to 100,000
abbrev pub count_of : List ℕ → Option ℕ
count_of word = count_where (is_numeral word && (nat_le 1 (digits_after 0 word) && nat_le (digits_after 0 word) SIM_CALL_LIMIT)) (digits_after 0 word)

abbrev pub counted : (ℕ → Command) → Option ℕ → Option Command
counted made None = None
counted made (Some count) = Some (made count)

-- `sim`, `gen N` and `load N`
abbrev pub judged : List ℕ → Option (List ℕ) → Option Command
judged word None = if bytes_eq word (codes "sim") then Some Sim else None
judged word (Some count) =
    if bytes_eq word (codes "gen") then counted Gen (count_of count) else if bytes_eq word (codes "load") then counted Load (count_of count) else None

-- the command that a list of words names; any other list names none
abbrev pub command_of : List (List ℕ) → Option Command
command_of [] = None
command_of (word ∷ []) = judged word None
command_of (word ∷ count ∷ []) = judged word (Some count)
command_of (word ∷ count ∷ next ∷ words) = None

-- ---- what the reader of words sees

-- the word begins with a hyphen
abbrev pub is_dashed : List ℕ → Bool
is_dashed [] = false
is_dashed (b ∷ bs) = b == 45

-- the one or two words, where none begins with a hyphen
abbrev pub pair_of : List (List ℕ) → Option (List ℕ × Option (List ℕ))
pair_of [] = None
pair_of (a ∷ []) = if is_dashed a then None else Some (a, None)
pair_of (a ∷ b ∷ []) = if is_dashed a || is_dashed b then None else Some (a, Some b)
pair_of (a ∷ b ∷ c ∷ more) = None

-- the word begins with a digit that is no zero
abbrev pub is_started : List ℕ → Bool
is_started [] = false
is_started (b ∷ bs) = nat_le 49 b && nat_le b 57
