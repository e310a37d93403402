-- The bounds that hold of the lines of every accepted script. They follow from the limits of a line. This project's own choice.
use Rattle.std.specs.Prelude.{ℕ, ◌^◌, ◌<◌, ◌≤◌, List, [], ◌∷◌, All, length, Option, None, Some}
use Rattle.rpc_model.specs.declared.chan.LeafChan.{LeafChan}
use Rattle.rpc_model.specs.declared.direction.Direction.{Direction}
use Rattle.rpc_model.specs.declared.direction.Direction.TheVariants as direction
use Rattle.rpc_model.specs.declared.limits.TheConstants.{CODE_LIMIT, DELAY_LIMIT}
use Rattle.rpc_model.specs.declared.script.Serve.{Serve}
use Rattle.rpc_model.specs.declared.script.Act.{Act}
use Rattle.rpc_model.specs.declared.script.Act.TheVariants.{Call, Cancel, Reply, Lose, Tick, Join}

-- the moment that a line names
abbrev pub moment_of : Act → ℕ
moment_of (Call at call chan text) = at
moment_of (Cancel at call) = at
moment_of (Reply at call node attempt code text) = at
moment_of (Lose at call node attempt code) = at
moment_of (Tick at) = at
moment_of (Join call) = 0

abbrev pub IsMoment : Act → Type 0
IsMoment act = moment_of act < 2 ^ 53

-- a call is on one of so many channels, a text has at most 60,000 bytes, and a reply's code is at most 65,535
abbrev pub IsAct : ℕ → Act → Type 0
IsAct chans (Call at call chan text) = (chan < chans) × (length text ≤ 60000)
IsAct chans (Cancel at call) = Unit {0}
IsAct chans (Reply at call node attempt code text) = (code ≤ 65535) × (length text ≤ 60000)
IsAct chans (Lose at call node attempt code) = Unit {0}
IsAct chans (Tick at) = Unit {0}
IsAct chans (Join call) = Unit {0}

-- the number of a line's call, where the line begins one, in front of numbers
abbrev pub begins : Act → List ℕ → List ℕ
begins (Call at call chan text) calls = call ∷ calls
begins (Cancel at call) calls = calls
begins (Reply at call node attempt code text) calls = calls
begins (Lose at call node attempt code) calls = calls
begins (Tick at) calls = calls
begins (Join call) calls = calls

-- the numbers of the calls that the lines begin, in their order
abbrev pub called : List Act → List ℕ
called [] = []
called (act ∷ acts) = begins act (called acts)

abbrev pub IsWait : Option ℕ → Type 0
IsWait None = Unit {0}
IsWait (Some wait) = wait < 2 ^ 31

-- a leaf over some of so many servers, with few retries
pub record IsLeaf (servers : ℕ) (leaf : LeafChan) : Type 0 where
  pub few_retries : leaf.retry ≤ 100
  pub backup : IsWait leaf.backup
  pub timeout : IsWait leaf.timeout
  pub some_server : 1 ≤ length leaf.servers
  pub known_servers : All (λ server. server < servers) leaf.servers

-- a direction that a word can spell
abbrev pub IsSpelled : Direction → Type 0
IsSpelled direction.Plain = Unit {0}
IsSpelled (direction.Err code) = (1 ≤ code) × (code ≤ CODE_LIMIT)
IsSpelled direction.Drop = Unit {0}
IsSpelled direction.Twice = Unit {0}
IsSpelled (direction.Delay ms) = (1 ≤ ms) × (ms ≤ DELAY_LIMIT)
IsSpelled direction.Close = Unit {0}

-- what one of so many servers does
pub record IsServe (servers : ℕ) (serve : Serve) : Type 0 where
  pub known : serve.server < servers
  pub directions : All IsSpelled serve.words
