-- The journal of a run on threads as text, a line for each thing that it has: this project's own choice.
use Rattle.std.specs.Prelude.{ℕ, ◌+◌, List, [], ◌∷◌, ◌++◌, map, flat_map, codes}
use Rattle.std.specs.Fmt.{decimal}
use Rattle.hex.specs.Hex.{encode_lower}
use Rattle.rpc_model.specs.declared.event.Event.{Event}
use Rattle.rpc_model.specs.declared.event.Event.TheVariants.{Reply, Lost, Backup, Deadline, Cancel}
use Rattle.rpc_model.specs.declared.entry.Origin.{Origin}
use Rattle.rpc_model.specs.declared.entry.Origin.TheVariants.{Frame, Loss, Mark, Lane}
use Rattle.rpc_model.specs.declared.entry.Origin.TheVariants as origin
use Rattle.rpc_model.specs.declared.entry.Fate.{Fate}
use Rattle.rpc_model.specs.declared.entry.Fate.TheVariants.{Gone, Stray, Dropped}
use Rattle.rpc_model.specs.declared.entry.Fate.TheVariants as fate
use Rattle.rpc_model.specs.declared.journal.Journal.{Journal}
use Rattle.rpc_model.specs.declared.journal.CallLog.{CallLog}
use Rattle.rpc_model.specs.declared.journal.How.{How}
use Rattle.rpc_model.specs.declared.journal.How.TheVariants.{End, Fault, Bad, Full}
use Rattle.rpc_model.specs.declared.journal.WireLog.{WireLog}
use Rattle.rpc_model.specs.declared.journal.LaneLog.{LaneLog}
use Rattle.rpc_model.specs.declared.line.Line.{Line}
use Rattle.rpc_model.specs.declared.line.Line.TheVariants as line

-- ---- words

-- words behind a text, each after a space
abbrev pub words_behind : List ℕ → List (List ℕ) → List ℕ
words_behind text [] = text
words_behind text (w ∷ ws) = words_behind (text ++ 32 ∷ w) ws

-- bytes as a word: two lower-case hexadecimal digits for each, and a dash for none
abbrev pub hex_word : List ℕ → List ℕ
hex_word [] = codes "-"
hex_word (b ∷ bs) = encode_lower (b ∷ bs)

-- an attempt of a leaf
abbrev pub attempt_word : ℕ → ℕ → List ℕ
attempt_word node attempt = decimal node ++ 35 ∷ decimal attempt

abbrev pub event_words : Event → List (List ℕ)
event_words (Reply node attempt code text) = codes "reply" ∷ attempt_word node attempt ∷ decimal code ∷ hex_word text ∷ []
event_words (Lost node attempt code) = codes "lost" ∷ attempt_word node attempt ∷ decimal code ∷ []
event_words (Backup node) = codes "backup" ∷ decimal node ∷ []
event_words (Deadline node) = codes "deadline" ∷ decimal node ∷ []
event_words Cancel = codes "cancel" ∷ []

-- the place of an entry's source; no journal has one that is queued
abbrev pub origin_words : Origin → List (List ℕ)
origin_words (Frame wire place) = decimal wire ∷ decimal place ∷ []
origin_words (Loss wire place) = decimal wire ∷ decimal place ∷ []
origin_words (Mark place) = decimal place ∷ []
origin_words (Lane lane place) = decimal lane ∷ decimal place ∷ []
origin_words (origin.Queued pass number) = []

-- what became of a source; no journal has one that is queued
abbrev pub fate_words : Fate → List (List ℕ)
fate_words (fate.Entry call place) = codes "entry" ∷ decimal call ∷ decimal place ∷ []
fate_words (Gone word) = codes "gone" ∷ decimal word ∷ []
fate_words Stray = codes "stray" ∷ []
fate_words (Dropped call) = codes "dropped" ∷ decimal call ∷ []
fate_words (fate.Queued pass number) = []

abbrev pub how_word : How → List ℕ
how_word End = codes "end"
how_word Fault = codes "fault"
how_word Bad = codes "bad"
how_word Full = codes "full"

-- ---- lines

-- the first word of a line
abbrev pub first_word : Line → List ℕ
first_word (line.Call number first width on moment) = codes "call"
first_word (line.Entry e) = codes "e"
first_word (line.Wire server how) = codes "wire"
first_word (line.Out s) = codes "out"
first_word (line.In c) = codes "in"
first_word (line.Loss l) = codes "loss"
first_word line.Timer = codes "timer"
first_word (line.Mark m) = codes "mark"
first_word (line.Lane n) = codes "lane"
first_word (line.Cancel c) = codes "cancel"

-- its other words
abbrev pub other_words : Line → List (List ℕ)
other_words (line.Call number first width on moment) = decimal number ∷ decimal first ∷ decimal width ∷ decimal on ∷ decimal moment ∷ []
other_words (line.Entry e) = decimal e.moment ∷ (event_words e.event ++ origin_words e.from)
other_words (line.Wire server how) = decimal server ∷ how_word how ∷ []
other_words (line.Out s) = decimal s.id ∷ hex_word s.payload ∷ []
other_words (line.In c) = decimal c.id ∷ decimal c.code ∷ hex_word c.payload ∷ fate_words c.fate
other_words (line.Loss l) = decimal l.id ∷ decimal l.code ∷ decimal l.after ∷ fate_words l.fate
other_words line.Timer = []
other_words (line.Mark m) = decimal m.due ∷ decimal m.now ∷ decimal m.id ∷ decimal m.code ∷ fate_words m.fate
other_words (line.Lane n) = decimal n ∷ []
other_words (line.Cancel c) = decimal c.id ∷ fate_words c.fate

-- a line without its newline
abbrev pub line_text : Line → List ℕ
line_text l = words_behind (first_word l) (other_words l)

-- lines, each with its newline
unfoldable pub text_of : List Line → List ℕ
text_of [] = []
text_of (l ∷ ls) = line_text l ++ codes "\n" ++ text_of ls

-- ---- the journal

abbrev pub call_lines : CallLog → List Line
call_lines c = line.Call c.call c.first c.width c.lane c.moment ∷ map line.Entry c.log

-- the wire of a server, with its lists
abbrev pub one_wire : ℕ → WireLog → List Line
one_wire server w = line.Wire server w.how ∷ (map line.Out w.out ++ map line.In w.came ++ map line.Loss w.losses)

-- the wires from this number on
abbrev pub wire_lines : ℕ → List WireLog → List Line
wire_lines server [] = []
wire_lines server (w ∷ ws) = one_wire server w ++ wire_lines (server + 1) ws

abbrev pub one_lane : ℕ → LaneLog → List Line
one_lane n l = line.Lane n ∷ map line.Cancel l.cancels

-- the lanes from this number on
abbrev pub lane_lines : ℕ → List LaneLog → List Line
lane_lines n [] = []
lane_lines n (l ∷ ls) = one_lane n l ++ lane_lines (n + 1) ls

-- the calls, the wires, the fired marks, the lanes
unfoldable pub journal_lines : Journal → List Line
journal_lines j = flat_map call_lines j.calls ++ wire_lines 0 j.wires ++ (line.Timer ∷ []) ++ map line.Mark j.marks ++ lane_lines 0 j.lanes

unfoldable pub journal_text : Journal → List ℕ
journal_text j = text_of (journal_lines j)
