-- All lines before a line of a script: what they say, and what follows from it. This project's own choice.
use Rattle.std.specs.Prelude.{ℕ, ◌+◌, ◌*◌, Bool, true, false, ◌==◌, List, [], ◌∷◌, length, find, sum_by, count_by, flat_map, Option, None, Some}
use Rattle.std.specs.Option.{option_map}
use Rattle.rpc_model.specs.declared.chan.Chan.{Chan}
use Rattle.rpc_model.specs.declared.kinds.MapKind.{MapKind}
use Rattle.rpc_model.specs.declared.kinds.MergeKind.{MergeKind}
use Rattle.rpc_model.specs.declared.script.Mode.{Mode}
use Rattle.rpc_model.specs.declared.script.Mode.TheVariants.{Sim, Live}
use Rattle.rpc_model.specs.declared.script.Serve.{Serve}
use Rattle.rpc_model.specs.declared.script.Act.{Act}
use Rattle.rpc_model.specs.declared.script.Act.TheVariants.{Call, Cancel, Reply, Lose, Tick, Join}
use Rattle.rpc_model.specs.declared.limits.TheConstants.{SIM_CALL_LIMIT, LIVE_CALL_LIMIT, ATTEMPT_WEIGHT, SIM_WEIGHT_LIMIT, LIVE_WEIGHT_LIMIT}
use Rattle.rpc_model.specs.Plan.{Plan, plan}
use Rattle.rpc_model.specs.Versions.{possible_attempts}

-- how many calls may be open where a line says so, the channels with their names, the names of the servers in the order
-- of their first mention, what servers do, and what happens, each in the order of the lines
pub record Before : Type 0 where
  pub mode : Mode
  pub slots : Option ℕ
  pub names : List (List ℕ)
  pub servers : List (List ℕ)
  pub chans : List (Chan MapKind MergeKind)
  pub serves : List Serve
  pub acts : List Act

abbrev pub nothing : Mode → Before
nothing mode = record { mode = mode; slots = None; names = []; servers = []; chans = []; serves = []; acts = [] }

abbrev pub is_sim : Mode → Bool
is_sim Sim = true
is_sim Live = false

-- the number of a line's call and the channel's, where the line begins a call
abbrev pub call_of : Act → List (ℕ × ℕ)
call_of (Call at call chan text) = (call, chan) ∷ []
call_of (Cancel at call) = []
call_of (Reply at call node attempt code text) = []
call_of (Lose at call node attempt code) = []
call_of (Tick at) = []
call_of (Join call) = []

-- the calls that lines begin
abbrev pub calls_of : List Act → List (ℕ × ℕ)
calls_of acts = flat_map call_of acts

-- the channel of the call of this number, where a line begins it
abbrev pub chan_of : List Act → ℕ → Option ℕ
chan_of acts call = option_map (λ c. c.1) (find (λ c. c.0 == call) (calls_of acts))

abbrev pub is_event : Act → Bool
is_event (Call at call chan text) = false
is_event (Cancel at call) = true
is_event (Reply at call node attempt code text) = true
is_event (Lose at call node attempt code) = true
is_event (Tick at) = true
is_event (Join call) = true

-- how many lines are replies, losses, cancels, ticks and joins
abbrev pub event_count : List Act → ℕ
event_count acts = count_by is_event acts

abbrev pub call_limit : Mode → ℕ
call_limit Sim = SIM_CALL_LIMIT
call_limit Live = LIVE_CALL_LIMIT

abbrev pub attempts_of : Option (Plan MapKind MergeKind) → ℕ
attempts_of None = 0
attempts_of (Some p) = possible_attempts p

-- what a call on a channel weighs: (text length + 128) for each attempt that it may issue
abbrev pub call_weight : List (Chan MapKind MergeKind) → ℕ → ℕ → List ℕ → ℕ
call_weight chans chan call text = (length text + ATTEMPT_WEIGHT) * attempts_of (plan chans chan call)

abbrev pub weight_of : List (Chan MapKind MergeKind) → Act → ℕ
weight_of chans (Call at call chan text) = call_weight chans chan call text
weight_of chans (Cancel at call) = 0
weight_of chans (Reply at call node attempt code text) = 0
weight_of chans (Lose at call node attempt code) = 0
weight_of chans (Tick at) = 0
weight_of chans (Join call) = 0

-- what all calls weigh together
abbrev pub total_weight : List (Chan MapKind MergeKind) → List Act → ℕ
total_weight chans acts = sum_by (weight_of chans) acts

abbrev pub weight_limit : Mode → ℕ
weight_limit Sim = SIM_WEIGHT_LIMIT
weight_limit Live = LIVE_WEIGHT_LIMIT
