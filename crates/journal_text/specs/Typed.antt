-- The numbers of a journal are of their types, and payloads are bytes, as in every value of the code: this project's own choice.
use Rattle.std.specs.Prelude.{ℕ, ◌≤◌}
use Rattle.std.specs.List.{AllByRecursion}
use Rattle.hex.specs.Hex.{IsBytes}
use Rattle.rpc_model.specs.declared.event.Event.{Event}
use Rattle.rpc_model.specs.declared.event.Event.TheVariants.{Reply, Lost, Backup, Deadline, Cancel}
use Rattle.rpc_model.specs.declared.entry.Origin.{Origin}
use Rattle.rpc_model.specs.declared.entry.Origin.TheVariants as origin
use Rattle.rpc_model.specs.declared.entry.Fate.{Fate}
use Rattle.rpc_model.specs.declared.entry.Fate.TheVariants as fate
use Rattle.rpc_model.specs.declared.journal.Journal.{Journal}
use Rattle.rpc_model.specs.declared.line.Line.{Line}
use Rattle.rpc_model.specs.declared.line.Line.TheVariants as line
use Rattle.rpc_model.specs.Texts.{journal_lines}

abbrev pub Is32 : ℕ → Type 0
Is32 n = n ≤ 4294967295

abbrev pub Is64 : ℕ → Type 0
Is64 n = n ≤ 18446744073709551615

abbrev pub IsTypedEvent : Event → Type 0
IsTypedEvent (Reply node attempt code text) = Is32 node × Is32 attempt × Is32 code × IsBytes text
IsTypedEvent (Lost node attempt code) = Is32 node × Is32 attempt × Is32 code
IsTypedEvent (Backup node) = Is32 node
IsTypedEvent (Deadline node) = Is32 node
IsTypedEvent Cancel = Unit {0}

abbrev pub IsTypedOrigin : Origin → Type 0
IsTypedOrigin (origin.Frame wire place) = Is32 wire × Is64 place
IsTypedOrigin (origin.Loss wire place) = Is32 wire × Is64 place
IsTypedOrigin (origin.Mark place) = Is64 place
IsTypedOrigin (origin.Lane lane place) = Is32 lane × Is64 place
IsTypedOrigin (origin.Queued pass number) = Unit {0}

abbrev pub IsTypedFate : Fate → Type 0
IsTypedFate (fate.Entry call place) = Is32 call × Is32 place
IsTypedFate (fate.Gone word) = Is64 word
IsTypedFate fate.Stray = Unit {0}
IsTypedFate (fate.Dropped call) = Is32 call
IsTypedFate (fate.Queued pass number) = Unit {0}

abbrev pub IsTypedLine : Line → Type 0
IsTypedLine (line.Call call first width on moment) = Is32 call × Is64 first × Is32 width × Is32 on × Is64 moment
IsTypedLine (line.Entry e) = Is64 e.moment × IsTypedEvent e.event × IsTypedOrigin e.from
IsTypedLine (line.Wire server how) = Is64 server
IsTypedLine (line.Out s) = Is64 s.id × IsBytes s.payload
IsTypedLine (line.In c) = Is64 c.id × Is32 c.code × IsBytes c.payload × IsTypedFate c.fate
IsTypedLine (line.Loss l) = Is64 l.id × Is32 l.code × Is64 l.after × IsTypedFate l.fate
IsTypedLine line.Timer = Unit {0}
IsTypedLine (line.Mark m) = Is64 m.due × Is64 m.now × Is64 m.id × Is32 m.code × IsTypedFate m.fate
IsTypedLine (line.Lane n) = Is64 n
IsTypedLine (line.Cancel c) = Is64 c.id × IsTypedFate c.fate

abbrev pub IsTyped : Journal → Type 0
IsTyped j = AllByRecursion IsTypedLine (journal_lines j)
