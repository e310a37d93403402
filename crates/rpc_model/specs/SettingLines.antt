-- The lines of settings: what each says behind all lines before, or the first cause for which it is refused. This
-- project's own choice.
use Rattle.std.specs.Prelude.{ℕ, Bool, ◌==◌, ◌&&◌, not, is_none, List, [], ◌∷◌, ◌++◌, length, Some, Result, Ok}
use Rattle.std.specs.List.{list_any}
use Rattle.rpc_model.specs.declared.script.Serve.{Serve}
use Rattle.rpc_model.specs.declared.script.Cause.{Cause}
use Rattle.rpc_model.specs.declared.script.Cause.TheVariants.{Late, LiveOnly, BadName, NoName, DupName}
use Rattle.rpc_model.specs.declared.limits.TheConstants.{SLOT_LIMIT}
use Rattle.rpc_model.specs.Words.{◌>>=◌, demand, found_or, number, is_name, index_of, direction_words}
use Rattle.rpc_model.specs.Before.{Before, is_sim, calls_of}

-- `open N`: before every call line, and once
unfoldable pub open_line : Before → List ℕ → Result Before Cause
open_line before slots = do
  n ← number 1 SLOT_LIMIT slots
  _ ← demand (is_none before.slots && length (calls_of before.acts) == 0) Late
  Ok (record before { slots = Some n })

-- a line says what this server does
abbrev pub is_served : List Serve → ℕ → Bool
is_served serves server = list_any (λ s. s.server == server) serves

-- the number of a server that a channel line mentions, and of which no line says what it does
unfoldable pub new_server : Before → List ℕ → Result ℕ Cause
new_server before name = do
  _ ← demand (is_name name) BadName
  server ← found_or NoName (index_of before.servers name)
  _ ← demand (not (is_served before.serves server)) DupName
  Ok server

-- `serve SERVER DIRECTION ..`: before every call line
unfoldable pub serve_line : Before → List ℕ → List (List ℕ) → Result Before Cause
serve_line before name words = do
  _ ← demand (not (is_sim before.mode)) LiveOnly
  server ← new_server before name
  directions ← direction_words words
  _ ← demand (length (calls_of before.acts) == 0) Late
  Ok (record before { serves = before.serves ++ (record { server = server; words = directions }) ∷ [] })
