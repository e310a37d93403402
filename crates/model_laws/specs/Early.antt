-- Marks that are due may be taken at once: what the joins tell doesn't hang on whether a call takes its due marks when the moment is reached or only before its next event.
use Rattle.std.specs.Prelude.{◌≡◌, ℕ, List, map}
use Rattle.rpc_model.specs.declared.script.Act.{Act}
use Rattle.rpc_model.specs.Marks.{weave}
use Rattle.rpc_model.specs.declared.script.Script.{Script}
use Rattle.rpc_model.specs.Told.{Standing, begun, full, told_of, Replay, told_from}

-- a call takes its marks that are due
abbrev pub settle : ℕ → Standing → Standing
settle moment (begun b) = begun (weave moment b)
settle moment (full call) = full call
settle moment (told_of call) = told_of call

-- every call does, at the moment reached
abbrev pub settled : Replay → Replay
settled replay = record { reached = replay.reached; calls = map (settle replay.reached) replay.calls }

-- Where every call takes its due marks at once, the lines from here on tell the same.
abbrev pub DueMarksMayBeTakenAtOnce : Type 0
DueMarksMayBeTakenAtOnce = (script : Script) (acts : List Act) (replay : Replay) → told_from script (settled replay) acts ≡ told_from script replay acts
