-- The lines of channels: what each says behind all lines before, or the first cause for which it is refused. This
-- project's own choice.
use Rattle.std.specs.Prelude.{ℕ, nat_lt, nat_le, is_none, List, [], ◌∷◌, ◌++◌, length, map, unwrap_or, Option, None, Some, Result, Ok, codes}
use Rattle.rpc_model.specs.declared.chan.Chan.{Chan}
use Rattle.rpc_model.specs.declared.chan.Chan.TheVariants as chan
use Rattle.rpc_model.specs.declared.script.Cause.{Cause}
use Rattle.rpc_model.specs.declared.chan.PartChan.{PartChan}
use Rattle.rpc_model.specs.declared.chan.Tag.{Tag}
use Rattle.rpc_model.specs.declared.kinds.MapKind.{MapKind}
use Rattle.rpc_model.specs.declared.kinds.MergeKind.{MergeKind}
use Rattle.rpc_model.specs.declared.script.Cause.TheVariants.{MissingPart, TooDeep, TooMany}
use Rattle.rpc_model.specs.declared.limits.TheConstants.{CHANNEL_LIMIT, SERVER_LIMIT, RETRY_LIMIT, END_LIMIT, PART_LIMIT, DEPTH_LIMIT}
use Rattle.rpc_model.specs.Faults.{chan_depth, depth, missing_from}
use Rattle.rpc_model.specs.Words.{◌>>=◌, demand, index_of, new_name, server_names, number, number_option, wait_option}
use Rattle.rpc_model.specs.ChannelWords.{NamedTag, kinds_word, known_names, sub_words, tag_words}
use Rattle.rpc_model.specs.Before.{Before}

-- a server that no line has mentioned comes last
abbrev pub mention_at : List (List ℕ) → List ℕ → Option ℕ → List (List ℕ)
mention_at servers name None = servers ++ name ∷ []
mention_at servers name (Some at) = servers

abbrev pub mention : List (List ℕ) → List ℕ → List (List ℕ)
mention servers name = mention_at servers name (index_of servers name)

-- each of these servers, in their order
abbrev pub mention_all : List (List ℕ) → List (List ℕ) → List (List ℕ)
mention_all servers [] = servers
mention_all servers (name ∷ names) = mention_all (mention servers name) names

-- the numbers of these servers among those that were mentioned
abbrev pub numbers_of : List (List ℕ) → List (List ℕ) → List ℕ
numbers_of servers names = map (λ name. unwrap_or (index_of servers name) 0) names

-- one more plain channel, over these servers
abbrev pub with_leaf : Before → List ℕ → List (List ℕ) → ℕ → Option ℕ → Option ℕ → Before
with_leaf before name names retry backup timeout =
    record before {
      names = before.names ++ name ∷ [];
      servers = mention_all before.servers names;
      chans = before.chans ++ chan.Leaf (record { servers = numbers_of (mention_all before.servers names) names; retry = retry; backup = backup; timeout = timeout }) ∷ [];
    }

-- `leaf NAME SERVERS retry=R backup=B timeout=T`
unfoldable pub leaf_line : Before → List ℕ → List ℕ → List ℕ → List ℕ → List ℕ → Result Before Cause
leaf_line before name servers retry backup timeout = do
  new ← new_name before.names name
  names ← server_names servers
  retries ← number_option (codes "retry=") 0 RETRY_LIMIT retry
  backup_wait ← wait_option (codes "backup=") backup
  timeout_wait ← wait_option (codes "timeout=") timeout
  _ ← demand (nat_lt (length before.names) CHANNEL_LIMIT) TooMany
  _ ← demand (nat_le (length (mention_all before.servers names)) SERVER_LIMIT) TooMany
  Ok (with_leaf before new names retries backup_wait timeout_wait)

-- one more channel, which names no server that lines have not mentioned
abbrev pub with_chan : Before → List ℕ → Chan MapKind MergeKind → Before
with_chan before name c = record before { names = before.names ++ name ∷ []; chans = before.chans ++ c ∷ [] }

-- one more channel over others, where it isn't too deep and there is room
abbrev pub with_over : Before → List ℕ → Chan MapKind MergeKind → Result Before Cause
with_over before name c = do
  _ ← demand (nat_le (chan_depth (depth before.chans) (Some c)) DEPTH_LIMIT) TooDeep
  _ ← demand (nat_lt (length before.names) CHANNEL_LIMIT) TooMany
  Ok (with_chan before name c)

-- `par NAME fail=F ok=K timeout=T SUB:MAP:MERGE ..`
unfoldable pub par_line : Before → List ℕ → List ℕ → List ℕ → List ℕ → List (List ℕ) → Result Before Cause
par_line before name fail ok timeout words = do
  new ← new_name before.names name
  fails ← number_option (codes "fail=") 0 END_LIMIT fail
  oks ← number_option (codes "ok=") 0 END_LIMIT ok
  timeout_wait ← wait_option (codes "timeout=") timeout
  subs ← sub_words before.names words
  with_over before new (chan.Par (record { subs = subs; fail = fails; ok = oks; timeout = timeout_wait }))

-- `sel NAME retry=R timeout=T SUB ..`
unfoldable pub sel_line : Before → List ℕ → List ℕ → List ℕ → List (List ℕ) → Result Before Cause
sel_line before name retry timeout words = do
  new ← new_name before.names name
  retries ← number_option (codes "retry=") 0 RETRY_LIMIT retry
  timeout_wait ← wait_option (codes "timeout=") timeout
  subs ← known_names before.names words
  with_over before new (chan.Sel (record { subs = subs; retry = retries; timeout = timeout_wait }))

-- the names of tagged servers, and their tags with the numbers among servers that were mentioned
abbrev pub names_of : List NamedTag → List (List ℕ)
names_of named = map (λ (t : NamedTag). t.name) named

abbrev pub tags_of : List (List ℕ) → List NamedTag → List Tag
tags_of servers named = map (λ (t : NamedTag). record { server = unwrap_or (index_of servers t.name) 0; part = t.part; of = t.of }) named

-- one more partition channel, which mentions its servers, those with another count too, where each part has one and there is room
abbrev pub with_part : Before → List ℕ → List NamedTag → PartChan MapKind MergeKind → Result Before Cause
with_part before name named part = do
  _ ← demand (is_none (missing_from part 0 part.parts)) MissingPart
  _ ← demand (nat_lt (length before.names) CHANNEL_LIMIT) TooMany
  _ ← demand (nat_le (length (mention_all before.servers (names_of named))) SERVER_LIMIT) TooMany
  Ok (with_chan (record before { servers = mention_all before.servers (names_of named) }) name (chan.Part part))

-- a partition channel over these servers
abbrev pub part_chan : List (List ℕ) → ℕ → ℕ → Option ℕ → ℕ → ℕ → Option ℕ → MapKind × MergeKind → List NamedTag → PartChan MapKind MergeKind
part_chan servers parts retry backup fail ok timeout kinds named = record {
  parts = parts;
  tags = tags_of servers named;
  map = kinds.0;
  merge = kinds.1;
  retry = retry;
  backup = backup;
  fail = fail;
  ok = ok;
  timeout = timeout;
}

-- `part NAME M retry=R backup=B fail=F ok=K timeout=T MAP:MERGE SERVER:N/COUNT ..`
unfoldable pub part_line : Before → List ℕ → List ℕ → List ℕ → List ℕ → List ℕ → List ℕ → List ℕ → List ℕ → List (List ℕ) → Result Before Cause
part_line before name parts retry backup fail ok timeout kinds words = do
  new ← new_name before.names name
  count ← number 1 PART_LIMIT parts
  retries ← number_option (codes "retry=") 0 RETRY_LIMIT retry
  backup_wait ← wait_option (codes "backup=") backup
  fails ← number_option (codes "fail=") 0 END_LIMIT fail
  oks ← number_option (codes "ok=") 0 END_LIMIT ok
  timeout_wait ← wait_option (codes "timeout=") timeout
  both ← kinds_word kinds
  named ← tag_words words
  with_part before new named (part_chan (mention_all before.servers (names_of named)) count retries backup_wait fails oks timeout_wait both named)
