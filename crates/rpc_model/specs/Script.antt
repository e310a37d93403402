-- A script as typed lines, or its first bad line and the cause. This project's own choice.
use Rattle.std.specs.Prelude.{ℕ, ◌+◌, ◌==◌, nat_lt, List, [], ◌∷◌, length, unwrap_or, Result, Ok, Err, if◌then◌else◌}
use Rattle.std.specs.List.{slice_split}
use Rattle.rpc_model.specs.declared.script.Mode.{Mode}
use Rattle.rpc_model.specs.declared.script.Script.{Script}
use Rattle.rpc_model.specs.declared.script.Cause.{Cause}
use Rattle.rpc_model.specs.declared.script.Cause.TheVariants.{TooLong}
use Rattle.rpc_model.specs.declared.limits.TheConstants.{SCRIPT_LIMIT, DEFAULT_SLOTS}
use Rattle.rpc_model.specs.Before.{Before, nothing}
use Rattle.rpc_model.specs.Lines.{line_says}

-- the line of this number is refused, or the next one is judged
abbrev pub line_judged : ℕ → (Before → Result Before (ℕ × Cause)) → Result Before Cause → Result Before (ℕ × Cause)
line_judged number next (Ok after) = next after
line_judged number next (Err cause) = Err (number, cause)

-- lines from this number on, judged each by all lines before it
abbrev pub lines_say : ℕ → Before → List (List ℕ) → Result Before (ℕ × Cause)
lines_say number before [] = Ok before
lines_say number before (line ∷ lines) = line_judged number (λ after. lines_say (number + 1) after lines) (line_says before line)

-- the typed lines; 1,024 calls may be open where no line says how many
abbrev pub script_of : Before → Script
script_of before = record { mode = before.mode; slots = unwrap_or before.slots DEFAULT_SLOTS; servers = length before.servers; chans = before.chans; serves = before.serves; acts = before.acts }

abbrev pub scripted : Result Before (ℕ × Cause) → Result Script (ℕ × Cause)
scripted (Ok before) = Ok (script_of before)
scripted (Err fault) = Err fault

-- a script has at most 16,777,216 bytes and is cut at newlines; its lines are counted from 1
unfoldable pub script : Mode → List ℕ → Result Script (ℕ × Cause)
script mode bytes = if nat_lt SCRIPT_LIMIT (length bytes) then Err (0, TooLong) else scripted (lines_say 1 (nothing mode) (slice_split (λ b. b == 10) bytes))
