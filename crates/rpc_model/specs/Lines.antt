-- What each line of a script says behind all lines before, or the first cause for which it is refused. This project's
-- own choice.
use Rattle.std.specs.Prelude.{ℕ, ◌+◌, Bool, true, false, ◌==◌, ◌&&◌, not, nat_le, nat_lt, List, [], ◌∷◌, length, take, drop, Result, Ok, Err, codes, bytes_eq, if◌then◌else◌}
use Rattle.std.specs.List.{slice_split, list_all}
use Rattle.rpc_model.specs.declared.script.Cause.{Cause}
use Rattle.rpc_model.specs.declared.script.Cause.TheVariants.{LineTooLong, BadByte, BadLine}
use Rattle.rpc_model.specs.declared.limits.TheConstants.{LINE_LIMIT, SUB_LIMIT}
use Rattle.rpc_model.specs.Words.{◌>>=◌, demand, all_within}
use Rattle.rpc_model.specs.Before.{Before}
use Rattle.rpc_model.specs.SettingLines.{open_line, serve_line}
use Rattle.rpc_model.specs.ChannelLines.{leaf_line, par_line, sel_line, part_line}
use Rattle.rpc_model.specs.CallLines.{call_line, reply_line, lose_line, cancel_line, tick_line, join_line}

-- a line of two words, and so on
abbrev pub two_words : Before → List ℕ → List ℕ → Result Before Cause
two_words before kind word =
    if bytes_eq kind (codes "open") then open_line before word
    else if bytes_eq kind (codes "join") then join_line before word
    else Err BadLine

abbrev pub three_words : Before → List ℕ → List ℕ → List ℕ → Result Before Cause
three_words before kind at what = if bytes_eq kind (codes "at") && bytes_eq what (codes "tick") then tick_line before at else Err BadLine

abbrev pub four_words : Before → List ℕ → List ℕ → List ℕ → List ℕ → Result Before Cause
four_words before kind at what call = if bytes_eq kind (codes "at") && bytes_eq what (codes "cancel") then cancel_line before at call else Err BadLine

abbrev pub six_words : Before → List ℕ → List ℕ → List ℕ → List ℕ → List ℕ → List ℕ → Result Before Cause
six_words before kind a b c d e =
    if bytes_eq kind (codes "leaf") then leaf_line before a b c d e
    else if bytes_eq kind (codes "at") && bytes_eq b (codes "call") then call_line before a c d e
    else if bytes_eq kind (codes "at") && bytes_eq b (codes "lose") then lose_line before a c d e
    else Err BadLine

abbrev pub seven_words : Before → List ℕ → List ℕ → List ℕ → List ℕ → List ℕ → List ℕ → List ℕ → Result Before Cause
seven_words before kind at what call attempt code words =
    if bytes_eq kind (codes "at") && bytes_eq what (codes "reply") then reply_line before at call attempt code words else Err BadLine

abbrev pub is_word : List ℕ → Bool
is_word word = not (length word == 0)

-- a line of as many words as its kind has
unfoldable pub fixed_line : Before → List (List ℕ) → Result Before Cause
fixed_line before (kind ∷ word ∷ []) = two_words before kind word
fixed_line before (kind ∷ at ∷ what ∷ []) = three_words before kind at what
fixed_line before (kind ∷ at ∷ what ∷ call ∷ []) = four_words before kind at what call
fixed_line before (kind ∷ a ∷ b ∷ c ∷ d ∷ e ∷ []) = six_words before kind a b c d e
fixed_line before (kind ∷ at ∷ what ∷ call ∷ attempt ∷ code ∷ words ∷ []) = seven_words before kind at what call attempt code words
fixed_line before words = Err BadLine

-- a line that ends in a list, by the words ahead of the list
unfoldable pub serve_head : Before → List (List ℕ) → List (List ℕ) → Result Before Cause
serve_head before (kind ∷ server ∷ []) words = serve_line before server words
serve_head before head words = Err BadLine

unfoldable pub par_head : Before → List (List ℕ) → List (List ℕ) → Result Before Cause
par_head before (kind ∷ name ∷ fail ∷ ok ∷ timeout ∷ []) words = par_line before name fail ok timeout words
par_head before head words = Err BadLine

unfoldable pub sel_head : Before → List (List ℕ) → List (List ℕ) → Result Before Cause
sel_head before (kind ∷ name ∷ retry ∷ timeout ∷ []) words = sel_line before name retry timeout words
sel_head before head words = Err BadLine

unfoldable pub part_head : Before → List (List ℕ) → List (List ℕ) → Result Before Cause
part_head before (kind ∷ name ∷ parts ∷ retry ∷ backup ∷ fail ∷ ok ∷ timeout ∷ kinds ∷ []) words = part_line before name parts retry backup fail ok timeout kinds words
part_head before head words = Err BadLine

-- so many words: the first few, and then a list of at least one and at most 1,000
abbrev pub has_list : ℕ → ℕ → Bool
has_list few count = nat_lt few count && nat_le count (few + SUB_LIMIT)

-- the line is of this kind, with so few words ahead of its list
abbrev pub is_kind : List ℕ → ℕ → List (List ℕ) → Bool
is_kind kind few [] = false
is_kind kind few (first ∷ words) = bytes_eq first kind && has_list few (length words + 1)

abbrev pub other_kind_says : Before → List (List ℕ) → Result Before Cause
other_kind_says before words =
    if is_kind (codes "sel") 4 words then sel_head before (take 4 words) (drop 4 words)
    else if is_kind (codes "part") 9 words then part_head before (take 9 words) (drop 9 words)
    else fixed_line before words

abbrev pub kind_says : Before → List (List ℕ) → Result Before Cause
kind_says before words =
    if is_kind (codes "serve") 2 words then serve_head before (take 2 words) (drop 2 words)
    else if is_kind (codes "par") 5 words then par_head before (take 5 words) (drop 5 words)
    else other_kind_says before words

unfoldable pub words_say : Before → List (List ℕ) → Result Before Cause
words_say before words = do
  _ ← demand (list_all is_word words) BadLine
  kind_says before words

-- an empty line and a comment say nothing
abbrev pub says_nothing : List ℕ → Bool
says_nothing [] = true
says_nothing (b ∷ bs) = b == 35

-- what stands after a line
unfoldable pub line_says : Before → List ℕ → Result Before Cause
line_says before line = do
  _ ← demand (nat_le (length line) LINE_LIMIT) LineTooLong
  _ ← demand (all_within 32 126 line) BadByte
  if says_nothing line then Ok before else words_say before (slice_split (λ b. b == 32) line)
