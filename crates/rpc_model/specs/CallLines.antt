-- The lines of calls and of what comes to them: what each says behind all lines before, or the first cause for which it
-- is refused. This project's own choice.
use Rattle.std.specs.Prelude.{ℕ, ◌+◌, Bool, false, nat_lt, nat_le, is_none, is_some, List, [], ◌∷◌, ◌++◌, length, Option, None, Some, Result, Ok}
use Rattle.rpc_model.specs.declared.script.Act.{Act}
use Rattle.rpc_model.specs.declared.script.Act.TheVariants.{Call, Cancel, Reply, Lose, Tick, Join}
use Rattle.rpc_model.specs.declared.script.Cause.{Cause}
use Rattle.rpc_model.specs.declared.script.Cause.TheVariants.{SimOnly, DupCall, NoCall, BadAttempt, TooWide, TooMany, TooMuch}
use Rattle.rpc_model.specs.declared.limits.TheConstants.{MOMENT_LIMIT, CALL_NUMBER_LIMIT, CODE_LIMIT, EVENT_LIMIT, WIDTH_LIMIT}
use Rattle.rpc_model.specs.declared.kinds.MapKind.{MapKind}
use Rattle.rpc_model.specs.declared.kinds.MergeKind.{MergeKind}
use Rattle.rpc_model.specs.declared.meaning.Meaning.TheVariants.{Attempt}
use Rattle.rpc_model.specs.Plan.{Plan, plan}
use Rattle.rpc_model.specs.Versions.{offset_of, width}
use Rattle.rpc_model.specs.Words.{◌>>=◌, demand, found_or, number, known_name, text, attempt_word}
use Rattle.rpc_model.specs.Before.{Before, is_sim, calls_of, chan_of, event_count, call_limit, call_weight, total_weight, weight_limit}

-- one more line that says what happens
abbrev pub with_act : Before → Act → Before
with_act before act = record before { acts = before.acts ++ act ∷ [] }

-- one more event or join, where there is room
abbrev pub with_event : Before → Act → Result Before Cause
with_event before act = do
  _ ← demand (nat_lt (event_count before.acts) EVENT_LIMIT) TooMany
  Ok (with_act before act)

abbrev pub moment : List ℕ → Result ℕ Cause
moment word = number 0 MOMENT_LIMIT word

abbrev pub call_number : List ℕ → Result ℕ Cause
call_number word = number 1 CALL_NUMBER_LIMIT word

-- the number of a call that no line before begins
abbrev pub new_call : Before → List ℕ → Result ℕ Cause
new_call before word = do
  c ← call_number word
  _ ← demand (is_none (chan_of before.acts c)) DupCall
  Ok c

-- the number of a call that a line before begins, and its channel
abbrev pub known_call : Before → List ℕ → Result (ℕ × ℕ) Cause
known_call before word = do
  c ← call_number word
  chan ← found_or NoCall (chan_of before.acts c)
  Ok (c, chan)

-- the plan has few enough versions for a range of ids
abbrev pub is_narrow : Option (Plan MapKind MergeKind) → Bool
is_narrow None = false
is_narrow (Some p) = nat_le (width p) WIDTH_LIMIT

-- one more call, where its plan isn't too wide and there is room
abbrev pub with_call : Before → ℕ → ℕ → ℕ → List ℕ → Result Before Cause
with_call before moment call chan payload = do
  _ ← demand (is_narrow (plan before.chans chan call)) TooWide
  _ ← demand (nat_lt (length (calls_of before.acts)) (call_limit before.mode)) TooMany
  _ ← demand (nat_le (total_weight before.chans before.acts + call_weight before.chans chan call payload) (weight_limit before.mode)) TooMuch
  Ok (with_act before (Call moment call chan payload))

-- `at T call C NAME TEXT`
unfoldable pub call_line : Before → List ℕ → List ℕ → List ℕ → List ℕ → Result Before Cause
call_line before at call name words = do
  m ← moment at
  c ← new_call before call
  chan ← known_name before.names name
  payload ← text words
  with_call before m c chan payload

-- the node is a leaf of the plan, and it may issue the attempt: it has a version
abbrev pub has_attempt : Option (Plan MapKind MergeKind) → ℕ → ℕ → Bool
has_attempt None node attempt = false
has_attempt (Some p) node attempt = is_some (offset_of p (Attempt node attempt))

-- the moment, the call and the attempt that a reply or a loss is for
pub record Aim : Type 0 where
  pub moment : ℕ
  pub call : ℕ
  pub node : ℕ
  pub attempt : ℕ

-- `at T reply C NODE#ATTEMPT` and `at T lose C NODE#ATTEMPT`
unfoldable pub aim : Before → List ℕ → List ℕ → List ℕ → Result Aim Cause
aim before at call attempt = do
  _ ← demand (is_sim before.mode) SimOnly
  m ← moment at
  c ← known_call before call
  named ← attempt_word attempt
  _ ← demand (has_attempt (plan before.chans c.1 c.0) named.0 named.1) BadAttempt
  Ok (record { moment = m; call = c.0; node = named.0; attempt = named.1 })

-- `at T reply C NODE#ATTEMPT CODE TEXT`
unfoldable pub reply_line : Before → List ℕ → List ℕ → List ℕ → List ℕ → List ℕ → Result Before Cause
reply_line before at call attempt code words = do
  to ← aim before at call attempt
  n ← number 0 CODE_LIMIT code
  payload ← text words
  with_event before (Reply to.moment to.call to.node to.attempt n payload)

-- `at T lose C NODE#ATTEMPT CODE`
unfoldable pub lose_line : Before → List ℕ → List ℕ → List ℕ → List ℕ → Result Before Cause
lose_line before at call attempt code = do
  to ← aim before at call attempt
  n ← number 1 CODE_LIMIT code
  with_event before (Lose to.moment to.call to.node to.attempt n)

-- `at T cancel C`
unfoldable pub cancel_line : Before → List ℕ → List ℕ → Result Before Cause
cancel_line before at call = do
  m ← moment at
  c ← known_call before call
  with_event before (Cancel m c.0)

-- `at T tick`
unfoldable pub tick_line : Before → List ℕ → Result Before Cause
tick_line before at = do
  _ ← demand (is_sim before.mode) SimOnly
  m ← moment at
  with_event before (Tick m)

-- `join C`
unfoldable pub join_line : Before → List ℕ → Result Before Cause
join_line before call = do
  c ← known_call before call
  with_event before (Join c.0)
