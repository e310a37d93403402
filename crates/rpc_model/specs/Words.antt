-- The words of a script's lines, each with the cause for which it is refused. This project's own choice.
use Rattle.std.specs.Prelude.{ℕ, ◌+◌, ◌-◌, ◌*◌, Bool, true, false, ◌==◌, ◌&&◌, ◌||◌, not, nat_le, List, [], ◌∷◌, length, drop, take, is_none, Option, None}
use Rattle.std.specs.Prelude.{Some, Result, Ok, Err, codes, bytes_eq, position, if◌then◌else◌}
use Rattle.std.specs.List.{list_all, slice_split}
use Rattle.rpc_model.specs.declared.script.Cause.{Cause}
use Rattle.rpc_model.specs.declared.script.Cause.TheVariants.{BadNumber, BadOption, BadName, DupName, NoName, BadWord, BadAttempt, TextTooLong}
use Rattle.rpc_model.specs.declared.direction.Direction.{Direction}
use Rattle.rpc_model.specs.declared.direction.Direction.TheVariants as direction
use Rattle.rpc_model.specs.declared.limits.TheConstants.{WAIT_LIMIT, DELAY_LIMIT, CODE_LIMIT, NAME_LIMIT, SERVER_NAME_LIMIT, TEXT_LIMIT}

infixl 10 ◌>>=◌
abbrev pub ◌>>=◌ : {A B : Type 0} → Result A Cause → (A → Result B Cause) → Result B Cause
(Ok x) >>= f = f x
(Err cause) >>= f = Err cause

-- goes on where the test holds, and is refused for the cause where it doesn't
abbrev pub demand : Bool → Cause → Result Bool Cause
demand true cause = Ok true
demand false cause = Err cause

-- what is there, or the cause where there is nothing
abbrev pub found_or : {A : Type 0} → Cause → Option A → Result A Cause
found_or cause None = Err cause
found_or cause (Some x) = Ok x

-- each byte is one of low to high
abbrev pub all_within : ℕ → ℕ → List ℕ → Bool
all_within low high bytes = list_all (λ b. nat_le low b && nat_le b high) bytes

-- the number that digits spell after the digits of n
abbrev pub digits_after : ℕ → List ℕ → ℕ
digits_after n [] = n
digits_after n (b ∷ bs) = digits_after (10 * n + (b - 48)) bs

-- decimal digits without a needless leading zero
abbrev pub is_numeral : List ℕ → Bool
is_numeral [] = false
is_numeral (b ∷ bs) = all_within 48 57 (b ∷ bs) && (length bs == 0 || not (b == 48))

abbrev pub in_range : Cause → ℕ → ℕ → ℕ → Result ℕ Cause
in_range cause low high n = if nat_le low n && nat_le n high then Ok n else Err cause

-- a number of low to high, or the cause where the word isn't one
unfoldable pub number_or : Cause → ℕ → ℕ → List ℕ → Result ℕ Cause
number_or cause low high word = if is_numeral word then in_range cause low high (digits_after 0 word) else Err cause

abbrev pub number : ℕ → ℕ → List ℕ → Result ℕ Cause
number low high word = number_or BadNumber low high word

abbrev pub is_name_byte : ℕ → Bool
is_name_byte b = (nat_le 97 b && nat_le b 122) || (nat_le 48 b && nat_le b 57) || b == 95

-- a name of a channel or a server: 1 to 32 of a to z, 0 to 9 and _
unfoldable pub is_name : List ℕ → Bool
is_name word = (nat_le 1 (length word) && nat_le (length word) NAME_LIMIT) && list_all is_name_byte word

-- where a name stands first among names
abbrev pub index_of : List (List ℕ) → List ℕ → Option ℕ
index_of names name = position (λ n. bytes_eq n name) names

-- a name that none of these is
unfoldable pub new_name : List (List ℕ) → List ℕ → Result (List ℕ) Cause
new_name names word = do
  _ ← demand (is_name word) BadName
  _ ← demand (is_none (index_of names word)) DupName
  Ok word

-- the place of one of these names
unfoldable pub known_name : List (List ℕ) → List ℕ → Result ℕ Cause
known_name names word = do
  _ ← demand (is_name word) BadName
  found_or NoName (index_of names word)

-- 1 to 16 names with commas between them
unfoldable pub server_names : List ℕ → Result (List (List ℕ)) Cause
server_names word =
    let names = slice_split (λ b. b == 44) word in if nat_le (length names) SERVER_NAME_LIMIT && list_all is_name names then Ok names else Err BadName

-- the text that a word of at most 60,000 bytes stands for: a dash alone is the empty text
unfoldable pub text : List ℕ → Result (List ℕ) Cause
text word = if nat_le (length word) TEXT_LIMIT then Ok (if bytes_eq word (codes "-") then [] else word) else Err TextTooLong

-- what stands behind the key of a word key=value, where the key is given with its =
abbrev pub value_of : List ℕ → List ℕ → Result (List ℕ) Cause
value_of key word = if bytes_eq (take (length key) word) key then Ok (drop (length key) word) else Err BadOption

abbrev pub some_wait : Result ℕ Cause → Result (Option ℕ) Cause
some_wait (Ok n) = Ok (Some n)
some_wait (Err cause) = Err cause

-- milliseconds, or none where the word is -1
unfoldable pub wait : List ℕ → Result (Option ℕ) Cause
wait word = if bytes_eq word (codes "-1") then Ok None else some_wait (number 1 WAIT_LIMIT word)

-- the number of a word key=number
abbrev pub number_option : List ℕ → ℕ → ℕ → List ℕ → Result ℕ Cause
number_option key low high word = do
  value ← value_of key word
  number low high value

-- the milliseconds, or none, of a word key=wait
abbrev pub wait_option : List ℕ → List ℕ → Result (Option ℕ) Cause
wait_option key word = do
  value ← value_of key word
  wait value

-- the two numbers of a word NODE#ATTEMPT
unfoldable pub attempt_word : List ℕ → Result (ℕ × ℕ) Cause
attempt_word word = do
  at ← found_or BadAttempt (position (λ b. b == 35) word)
  node ← number_or BadAttempt 0 4294967295 (take at word)
  attempt ← number_or BadAttempt 0 4294967295 (drop 1 (drop at word))
  Ok (node, attempt)

-- the direction that a number makes, or the cause
abbrev pub numbered : (ℕ → Direction) → Result ℕ Cause → Result Direction Cause
numbered made (Ok n) = Ok (made n)
numbered made (Err cause) = Err cause

-- a direction of a server: `ok`, `err=N`, `drop`, `twice`, `delay=N` or `close`
unfoldable pub direction_word : List ℕ → Result Direction Cause
direction_word word =
    if bytes_eq word (codes "ok") then Ok direction.Plain
    else if bytes_eq word (codes "drop") then Ok direction.Drop
    else if bytes_eq word (codes "twice") then Ok direction.Twice
    else if bytes_eq word (codes "close") then Ok direction.Close
    else if bytes_eq (take 4 word) (codes "err=") then numbered (λ n. direction.Err n) (number_or BadWord 1 CODE_LIMIT (drop 4 word))
    else if bytes_eq (take 6 word) (codes "delay=") then numbered (λ n. direction.Delay n) (number_or BadWord 1 DELAY_LIMIT (drop 6 word))
    else Err BadWord

-- one more, in front of others
abbrev pub and_others : {A : Type 0} → Result (List A) Cause → A → Result (List A) Cause
and_others (Ok others) first = Ok (first ∷ others)
and_others (Err cause) first = Err cause

-- what each word stands for, or the cause of the first bad one
abbrev pub each : {A : Type 0} → (List ℕ → Result A Cause) → List (List ℕ) → Result (List A) Cause
each one [] = Ok []
each one (word ∷ words) = one word >>= and_others (each one words)

abbrev pub direction_words : List (List ℕ) → Result (List Direction) Cause
direction_words words = each direction_word words
