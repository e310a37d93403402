-- The words of channels that stand over others, each with the cause for which it is refused. This project's own choice.
use Rattle.std.specs.Prelude.{ℕ, ◌==◌, nat_lt, List, [], ◌∷◌, drop, take, position, Result, Ok, Err, codes, bytes_eq, if◌then◌else◌}
use Rattle.std.specs.List.{slice_split}
use Rattle.rpc_model.specs.declared.chan.Sub.{Sub}
use Rattle.rpc_model.specs.declared.kinds.MapKind.{MapKind}
use Rattle.rpc_model.specs.declared.kinds.MapKind.TheVariants as map_kind
use Rattle.rpc_model.specs.declared.kinds.MergeKind.{MergeKind}
use Rattle.rpc_model.specs.declared.kinds.MergeKind.TheVariants as merge_kind
use Rattle.rpc_model.specs.declared.script.Cause.{Cause}
use Rattle.rpc_model.specs.declared.script.Cause.TheVariants.{BadName, BadSub, BadTag}
use Rattle.rpc_model.specs.declared.limits.TheConstants.{TAG_LIMIT}
use Rattle.rpc_model.specs.Words.{◌>>=◌, demand, found_or, number_or, is_name, known_name, each}

-- a mapper: `same`, `index`, `split`, `skip` or `bad`
unfoldable pub map_word : List ℕ → Result MapKind Cause
map_word word =
    if bytes_eq word (codes "same") then Ok map_kind.Same
    else if bytes_eq word (codes "index") then Ok map_kind.Index
    else if bytes_eq word (codes "split") then Ok map_kind.Split
    else if bytes_eq word (codes "skip") then Ok map_kind.Skip
    else if bytes_eq word (codes "bad") then Ok map_kind.Bad
    else Err BadSub

-- a merger: `cat`, `sum`, `same` or `drop`
unfoldable pub merge_word : List ℕ → Result MergeKind Cause
merge_word word =
    if bytes_eq word (codes "cat") then Ok merge_kind.Cat
    else if bytes_eq word (codes "sum") then Ok merge_kind.Sum
    else if bytes_eq word (codes "same") then Ok merge_kind.Same
    else if bytes_eq word (codes "drop") then Ok merge_kind.Drop
    else Err BadSub

-- the pieces of a word between its colons
abbrev pub colon_pieces : List ℕ → List (List ℕ)
colon_pieces word = slice_split (λ b. b == 58) word

abbrev pub kinds_of : List (List ℕ) → Result (MapKind × MergeKind) Cause
kinds_of (mapper ∷ merger ∷ []) = do
  m ← map_word mapper
  g ← merge_word merger
  Ok (m, g)
kinds_of pieces = Err BadSub

-- `MAP:MERGE`
unfoldable pub kinds_word : List ℕ → Result (MapKind × MergeKind) Cause
kinds_word word = kinds_of (colon_pieces word)

abbrev pub sub_of : List (List ℕ) → List (List ℕ) → Result (Sub MapKind MergeKind) Cause
sub_of names (name ∷ mapper ∷ merger ∷ []) = do
  m ← map_word mapper
  g ← merge_word merger
  chan ← known_name names name
  Ok (record { map = m; merge = g; chan = chan })
sub_of names pieces = Err BadSub

-- `SUB:MAP:MERGE`, where the sub is a channel of one of these names
unfoldable pub sub_word : List (List ℕ) → List ℕ → Result (Sub MapKind MergeKind) Cause
sub_word names word = sub_of names (colon_pieces word)

abbrev pub sub_words : List (List ℕ) → List (List ℕ) → Result (List (Sub MapKind MergeKind)) Cause
sub_words names words = each (sub_word names) words

-- names of channels, each one of these
abbrev pub known_names : List (List ℕ) → List (List ℕ) → Result (List ℕ) Cause
known_names names words = each (known_name names) words

-- a server's name with its tag
pub record NamedTag : Type 0 where
  pub name : List ℕ
  pub part : ℕ
  pub of : ℕ

abbrev pub tagged : List ℕ → List ℕ → Result NamedTag Cause
tagged name numbers = do
  at ← found_or BadTag (position (λ b. b == 47) numbers)
  part ← number_or BadTag 0 TAG_LIMIT (take at numbers)
  of ← number_or BadTag 1 TAG_LIMIT (drop 1 (drop at numbers))
  _ ← demand (nat_lt part of) BadTag
  _ ← demand (is_name name) BadName
  Ok (record { name = name; part = part; of = of })

abbrev pub tag_of : List (List ℕ) → Result NamedTag Cause
tag_of (name ∷ numbers ∷ []) = tagged name numbers
tag_of pieces = Err BadTag

-- `SERVER:N/COUNT`, where N is less than COUNT
unfoldable pub tag_word : List ℕ → Result NamedTag Cause
tag_word word = tag_of (colon_pieces word)

abbrev pub tag_words : List (List ℕ) → Result (List NamedTag) Cause
tag_words words = each tag_word words
