-- What each status of the top call says of the bytes that were read and written. This project's own choice.
use Rattle.std.specs.Prelude.{◌≡◌, ◌≢◌, ℕ, ◌+◌, ◌≤◌, ◌⊎◌, List, ◌++◌, length, take, Option, None, Some, Result, Ok, Err}
use Rattle.std.specs.Io.KnownBytes.{Appends, Consumes, IsAtEnd}
use Rattle.rpc_base.specs.Causes.{Rose}
use Rattle.rpc_model.specs.declared.script.Mode.TheVariants.{Sim}
use Rattle.rpc_model.specs.declared.script.Script.{Script}
use Rattle.rpc_model.specs.declared.script.Cause.{Cause}
use Rattle.rpc_model.specs.declared.limits.TheConstants.{SCRIPT_LIMIT}
use Rattle.brpc_top.specs.declared.command.Command.{Command}
use Rattle.brpc_top.specs.declared.command.Command.TheVariants as asked
use Rattle.brpc_top.specs.declared.input.ReadStop.{ReadStop}
use Rattle.brpc_top.specs.declared.input.ReadStop.TheVariants.{Fault}
use Rattle.brpc_top.specs.declared.status.Status.{Status}
use Rattle.brpc_top.specs.declared.status.Status.TheVariants.{Done, BadWords, ReadFault, WriteFault, Refused, NoMemory}
use Rattle.rpc_model.specs.Script.{script}
use Rattle.rpc_model.specs.Told.{told}
use Rattle.rpc_model.specs.Text.{told_text, refused_text}
use Rattle.script_gen.specs.Generator.{generated}
use Rattle.brpc_top.specs.Summary.{summary}

-- These bytes were read: all that the source had, or one byte past the limit of a script.
pub record IsRead (left rest : Option (List ℕ)) (bytes : List ℕ) : Type 0 where
  pub consumed : Consumes left rest bytes
  pub to_the_end : length bytes ≤ SCRIPT_LIMIT → IsAtEnd rest
  pub no_further : length bytes ≤ SCRIPT_LIMIT + 1

-- The source's count of faults rose where reading stopped for a fault of it, and is as before where it didn't.
pub record HasReadCause {X : Type 0} (before now : ℕ) (result : Result X ReadStop) : Type 0 where
  pub fault : result ≡ Err Fault → Rose before now
  pub kept : result ≢ Err Fault → now ≡ before

-- One read gave n bytes, which stand behind those that were read before; none is the end.
pub record ReadsMore (left rest : Option (List ℕ)) (before after : List ℕ) (n : ℕ) : Type 0 where
  pub piece : List ℕ
  pub size : length piece ≡ n
  pub kept : after ≡ before ++ piece
  pub consumed : Consumes left rest piece
  pub end : n ≡ 0 → IsAtEnd rest

-- some front of the bytes was written
abbrev pub IsPartWritten : Option (List ℕ) → Option (List ℕ) → List ℕ → Type 0
IsPartWritten held written bytes = (n : ℕ) × (n ≤ length bytes) × Appends held written (take n bytes)

-- what a replay writes of a script, or of its refusal
abbrev pub output : Result Script (ℕ × Cause) → List ℕ
output (Ok accepted) = told_text (told accepted)
output (Err fault) = refused_text fault.0 fault.1

-- the status of a script whose output was written
abbrev pub status_of : Result Script (ℕ × Cause) → ℕ
status_of (Ok accepted) = 0
status_of (Err fault) = 5

-- The bytes read are a script that the script grammar accepts, and what was written is what its joins tell.
abbrev pub TellsAll : (left rest held written : Option (List ℕ)) → Type 0
TellsAll left rest held written =
    (bytes : List ℕ) × (accepted : Script) × IsRead left rest bytes × (script Sim bytes ≡ Ok accepted) × Appends held written (told_text (told accepted))

-- The script grammar refuses the bytes read at this line for this cause, and that is what was written.
abbrev pub Refuses : (left rest held written : Option (List ℕ)) → Type 0
Refuses left rest held written =
    (bytes : List ℕ) × (line : ℕ) × (cause : Cause) × IsRead left rest bytes × (script Sim bytes ≡ Err (line, cause))
    × Appends held written (refused_text line cause)

-- Of what would have been written of the bytes read, a front was.
abbrev pub BreaksOff : (left rest held written : Option (List ℕ)) → Type 0
BreaksOff left rest held written = (bytes : List ℕ) × IsRead left rest bytes × IsPartWritten held written (output (script Sim bytes))

-- the statuses of a replay
abbrev pub IsReplayStatus : ℕ → Type 0
IsReplayStatus status = (status ≡ 0) ⊎ (status ≡ 3) ⊎ (status ≡ 4) ⊎ (status ≡ 5) ⊎ (status ≡ 9)

-- a source that tells its bytes has a script that the grammar accepts, and no more
abbrev pub IsAccepted : Option (List ℕ) → Type 0
IsAccepted None = ⊥
IsAccepted (Some bytes) = (accepted : Script) × (script Sim bytes ≡ Ok accepted)

-- a source that tells its bytes has a script that the grammar refuses
abbrev pub IsRefused : Option (List ℕ) → Type 0
IsRefused None = ⊥
IsRefused (Some bytes) = (fault : ℕ × Cause) × (script Sim bytes ≡ Err fault)

-- What a replay of a script from a source to a sink owes, by its status.
pub record IsReplay {K : Type 0} (left rest : Option (List ℕ)) (reads_before reads_now : ℕ) (held written : Option (List ℕ))
    (writes_before writes_now : ℕ) (sink_before sink_now : K) (status : ℕ) : Type 0 where
  pub known : IsReplayStatus status
  -- the headline: what is written is what the plain machine tells of the script that was read
  pub tells_all : status ≡ 0 → TellsAll left rest held written
  -- the script grammar names the bad line and its cause, and nothing else is written
  pub refuses : status ≡ 5 → Refuses left rest held written
  -- a fault comes only from the outside, and each fault of the outside is told
  pub read_fault : status ≡ 3 → Rose reads_before reads_now
  pub no_read_fault : status ≢ 3 → reads_now ≡ reads_before
  pub nothing_written : status ≡ 3 → sink_now ≡ sink_before
  pub write_fault : status ≡ 4 → Rose writes_before writes_now
  pub no_write_fault : status ≢ 4 → writes_now ≡ writes_before
  pub part_written : status ≡ 4 → BreaksOff left rest held written
  -- want of memory comes before anything is written
  pub memory : status ≡ 9 → sink_now ≡ sink_before

-- Without a fault of the outside the script decides the status, unless memory runs out.
pub record IsDecided (left : Option (List ℕ)) (status : ℕ) : Type 0 where
  pub complete : IsAccepted left → status ≢ 3 → status ≢ 4 → (status ≡ 0) ⊎ (status ≡ 9)
  pub refuses_all : IsRefused left → status ≢ 3 → status ≢ 4 → (status ≡ 5) ⊎ (status ≡ 9)

-- What writing these bytes owes, by its status.
pub record IsWritten {K : Type 0} (bytes : List ℕ) (held written : Option (List ℕ)) (before now : ℕ) (sink_before sink_now : K) (status : ℕ) : Type 0 where
  -- without a fault of the sink the status is 0 or 9
  pub known : (status ≡ 0) ⊎ (status ≡ 4) ⊎ (status ≡ 9)
  pub all_written : status ≡ 0 → Appends held written bytes
  pub write_fault : status ≡ 4 → Rose before now
  pub no_write_fault : status ≢ 4 → now ≡ before
  pub part_written : status ≡ 4 → IsPartWritten held written bytes
  pub memory : status ≡ 9 → sink_now ≡ sink_before

-- The generated script of so many calls is one that the script grammar accepts, and this line sums up what its joins tell.
abbrev pub IsSummary : ℕ → List ℕ → Type 0
IsSummary count text = (accepted : Script) × (script Sim (generated count) ≡ Ok accepted) × (text ≡ summary count (told accepted))

-- The line that sums up what the joins of the generated script tell was written.
abbrev pub SumsUp : ℕ → (held written : Option (List ℕ)) → Type 0
SumsUp count held written = (text : List ℕ) × IsSummary count text × Appends held written text

-- A front of that line was written.
abbrev pub SumsUpInPart : ℕ → (held written : Option (List ℕ)) → Type 0
SumsUpInPart count held written = (text : List ℕ) × IsSummary count text × IsPartWritten held written text

-- What a load of the generated script of so many calls owes, by its status.
pub record IsLoad {K : Type 0} (count : ℕ) (held written : Option (List ℕ)) (before now : ℕ) (sink_before sink_now : K) (status : ℕ) : Type 0 where
  -- without a fault of the sink the status is 0 or 9
  pub known : (status ≡ 0) ⊎ (status ≡ 4) ⊎ (status ≡ 9)
  pub sums_up : status ≡ 0 → SumsUp count held written
  pub write_fault : status ≡ 4 → Rose before now
  pub no_write_fault : status ≢ 4 → now ≡ before
  pub part_written : status ≡ 4 → SumsUpInPart count held written
  pub memory : status ≡ 9 → sink_now ≡ sink_before

-- What the command that the words name owes, by its status.
pub record IsRun {S K : Type 0} (command : Option Command) (source_before source_now : S) (sink_before sink_now : K)
    (replays decides : ℕ → Type 0) (generates loads : ℕ → ℕ → Type 0) (status : ℕ) : Type 0 where
  -- status 2 comes exactly where the words name no command, but that memory may run out; nothing is read or written then
  pub bad_words : status ≡ 2 → command ≡ None
  pub no_command : command ≡ None → (status ≡ 2) ⊎ (status ≡ 9)
  pub nothing_done : command ≡ None → (source_now ≡ source_before) × (sink_now ≡ sink_before)
  pub sim_replays : command ≡ Some asked.Sim → replays status
  pub sim_decided : command ≡ Some asked.Sim → decides status
  -- the source isn't touched by the other commands
  pub gen_writes : (count : ℕ) → command ≡ Some (asked.Gen count) → generates count status × (source_now ≡ source_before)
  pub load_sums_up : (count : ℕ) → command ≡ Some (asked.Load count) → loads count status × (source_now ≡ source_before)

-- the number that the program ends with
abbrev pub number_of : Status → ℕ
number_of Done = 0
number_of BadWords = 2
number_of ReadFault = 3
number_of WriteFault = 4
number_of Refused = 5
number_of NoMemory = 9
