-- What the text of a journal says, or its first line that no journal has: this project's own choice.
use Rattle.std.specs.Prelude.{ℕ, Bool, true, false, ◌==◌, ◌&&◌, nat_le, List, [], ◌∷◌, None, Some, Result, Ok, Err, bytes_eq, codes, if◌then◌else◌}
use Rattle.std.specs.List.{list_all, slice_split}
use Rattle.std.specs.declared.option.Option.{Option}
use Rattle.hex.specs.Hex.{decode_of}
use Rattle.hex.specs.declared.error.FromHexError.{FromHexError}
use Rattle.rpc_model.specs.declared.event.Event.TheVariants.{Reply, Lost, Backup, Deadline, Cancel}
use Rattle.rpc_model.specs.declared.entry.Origin.TheVariants as origin
use Rattle.rpc_model.specs.declared.entry.Fate.{Fate}
use Rattle.rpc_model.specs.declared.entry.Fate.TheVariants as fate
use Rattle.rpc_model.specs.declared.journal.How.{How}
use Rattle.rpc_model.specs.declared.journal.How.TheVariants as how
use Rattle.rpc_model.specs.declared.line.Line.{Line}
use Rattle.rpc_model.specs.declared.line.Line.TheVariants as line
use Rattle.rpc_model.specs.Texts.{line_text}
use Rattle.rpc_model.specs.Words.{digits_after}
use Rattle.journal_text.specs.Writing.{is_line}

infixl 10 ◌>>=◌
abbrev pub ◌>>=◌ : {A B : Type 0} → Option A → (A → Option B) → Option B
None >>= f = None
(Some x) >>= f = f x

-- nothing, where the test fails
abbrev pub guard : Bool → Option Bool
guard true = Some true
guard false = None

-- ---- words

abbrev pub is_digit : ℕ → Bool
is_digit b = nat_le 48 b && nat_le b 57

-- a number of at most so much
unfoldable pub number : ℕ → List ℕ → Option ℕ
number most word = if list_all is_digit word && nat_le (digits_after 0 word) most then Some (digits_after 0 word) else None

abbrev pub number32 : List ℕ → Option ℕ
number32 word = number 4294967295 word

abbrev pub number64 : List ℕ → Option ℕ
number64 word = number 18446744073709551615 word

abbrev pub ok_of : Result (List ℕ) FromHexError → Option (List ℕ)
ok_of (Ok bytes) = Some bytes
ok_of (Err e) = None

-- bytes in hexadecimal
abbrev pub bytes_said : List ℕ → Option (List ℕ)
bytes_said word = if bytes_eq word (codes "-") then Some [] else ok_of (decode_of word)

abbrev pub both_numbers : List (List ℕ) → Option (ℕ × ℕ)
both_numbers (a ∷ b ∷ []) = do
  node ← number32 a
  attempt ← number32 b
  Some (node, attempt)
both_numbers words = None

-- an attempt of a leaf
abbrev pub attempt_said : List ℕ → Option (ℕ × ℕ)
attempt_said word = both_numbers (slice_split (λ b. b == 35) word)

abbrev pub how_said : List ℕ → Option How
how_said word =
    if bytes_eq word (codes "end") then Some how.End
    else if bytes_eq word (codes "fault") then Some how.Fault
    else if bytes_eq word (codes "bad") then Some how.Bad
    else if bytes_eq word (codes "full") then Some how.Full
    else None

abbrev pub fate_of_two : List ℕ → List ℕ → Option Fate
fate_of_two kind a =
    if bytes_eq kind (codes "gone") then (number64 a >>= λ word. Some (fate.Gone word))
    else if bytes_eq kind (codes "dropped") then (number32 a >>= λ call. Some (fate.Dropped call))
    else None

abbrev pub fate_of_three : List ℕ → List ℕ → List ℕ → Option Fate
fate_of_three kind a b =
    if bytes_eq kind (codes "entry") then (number32 a >>= λ call. number32 b >>= λ place. Some (fate.Entry call place)) else None

-- what became of a source
abbrev pub fate_said : List (List ℕ) → Option Fate
fate_said (kind ∷ []) = if bytes_eq kind (codes "stray") then Some fate.Stray else None
fate_said (kind ∷ a ∷ []) = fate_of_two kind a
fate_said (kind ∷ a ∷ b ∷ []) = fate_of_three kind a b
fate_said words = None

-- ---- lines, by the words behind the first

abbrev pub call_said : List (List ℕ) → Option Line
call_said (a ∷ b ∷ c ∷ d ∷ e ∷ []) = do
  call ← number32 a
  first ← number64 b
  width ← number32 c
  lane ← number32 d
  at ← number64 e
  Some (line.Call call first width lane at)
call_said words = None

-- a reply, behind the moment
abbrev pub reply_said : (at kind a b c d e : List ℕ) → Option Line
reply_said at kind a b c d e = do
  _ ← guard (bytes_eq kind (codes "reply"))
  m ← number64 at
  attempt ← attempt_said a
  code ← number32 b
  text ← bytes_said c
  wire ← number32 d
  place ← number64 e
  Some (line.Entry (record { event = Reply attempt.0 attempt.1 code text; moment = m; from = origin.Frame wire place }))

-- a lost attempt, behind the moment
abbrev pub lost_said : (at kind a b c d : List ℕ) → Option Line
lost_said at kind a b c d = do
  _ ← guard (bytes_eq kind (codes "lost"))
  m ← number64 at
  attempt ← attempt_said a
  code ← number32 b
  wire ← number32 c
  place ← number64 d
  Some (line.Entry (record { event = Lost attempt.0 attempt.1 code; moment = m; from = origin.Loss wire place }))

abbrev pub short_event : (kind : List ℕ) (m a b : ℕ) → Option Line
short_event kind m a b =
    if bytes_eq kind (codes "backup") then Some (line.Entry (record { event = Backup a; moment = m; from = origin.Mark b }))
    else if bytes_eq kind (codes "deadline") then Some (line.Entry (record { event = Deadline a; moment = m; from = origin.Mark b }))
    else if bytes_eq kind (codes "cancel") then Some (line.Entry (record { event = Cancel; moment = m; from = origin.Lane a b }))
    else None

-- a backup request, a deadline or a cancel
abbrev pub short_said : (at kind a b : List ℕ) → Option Line
short_said at kind a b = do
  m ← number64 at
  n ← number32 a
  place ← number64 b
  short_event kind m n place

abbrev pub entry_said : List (List ℕ) → Option Line
entry_said (at ∷ kind ∷ a ∷ b ∷ []) = short_said at kind a b
entry_said (at ∷ kind ∷ a ∷ b ∷ c ∷ d ∷ []) = lost_said at kind a b c d
entry_said (at ∷ kind ∷ a ∷ b ∷ c ∷ d ∷ e ∷ []) = reply_said at kind a b c d e
entry_said words = None

abbrev pub wire_said : List (List ℕ) → Option Line
wire_said (a ∷ b ∷ []) = do
  server ← number64 a
  ended ← how_said b
  Some (line.Wire server ended)
wire_said words = None

abbrev pub out_said : List (List ℕ) → Option Line
out_said (a ∷ b ∷ []) = do
  id ← number64 a
  payload ← bytes_said b
  Some (line.Out (record { id = id; payload = payload }))
out_said words = None

abbrev pub in_said : List (List ℕ) → Option Line
in_said (a ∷ b ∷ c ∷ words) = do
  id ← number64 a
  code ← number32 b
  payload ← bytes_said c
  became ← fate_said words
  Some (line.In (record { id = id; code = code; payload = payload; fate = became }))
in_said words = None

abbrev pub loss_said : List (List ℕ) → Option Line
loss_said (a ∷ b ∷ c ∷ words) = do
  id ← number64 a
  code ← number32 b
  after ← number64 c
  became ← fate_said words
  Some (line.Loss (record { id = id; code = code; after = after; fate = became }))
loss_said words = None

abbrev pub timer_said : List (List ℕ) → Option Line
timer_said [] = Some line.Timer
timer_said words = None

abbrev pub mark_said : List (List ℕ) → Option Line
mark_said (a ∷ b ∷ c ∷ d ∷ words) = do
  due ← number64 a
  now ← number64 b
  id ← number64 c
  code ← number32 d
  became ← fate_said words
  Some (line.Mark (record { due = due; now = now; id = id; code = code; fate = became }))
mark_said words = None

abbrev pub lane_said : List (List ℕ) → Option Line
lane_said (a ∷ []) = number64 a >>= λ n. Some (line.Lane n)
lane_said words = None

abbrev pub cancel_said : List (List ℕ) → Option Line
cancel_said (a ∷ words) = do
  id ← number64 a
  became ← fate_said words
  Some (line.Cancel (record { id = id; fate = became }))
cancel_said words = None

-- what the words behind a first word say
unfoldable pub line_said : List ℕ → List (List ℕ) → Option Line
line_said kind words =
    if bytes_eq kind (codes "call") then call_said words
    else if bytes_eq kind (codes "e") then entry_said words
    else if bytes_eq kind (codes "wire") then wire_said words
    else if bytes_eq kind (codes "out") then out_said words
    else if bytes_eq kind (codes "in") then in_said words
    else if bytes_eq kind (codes "loss") then loss_said words
    else if bytes_eq kind (codes "timer") then timer_said words
    else if bytes_eq kind (codes "mark") then mark_said words
    else if bytes_eq kind (codes "lane") then lane_said words
    else if bytes_eq kind (codes "cancel") then cancel_said words
    else None

abbrev pub words_said : List (List ℕ) → Option Line
words_said [] = None
words_said (kind ∷ words) = line_said kind words

-- a line that a journal may have, and that is spelled so
abbrev pub spelled_so : List ℕ → Line → Option Line
spelled_so bytes l = if is_line l && bytes_eq (line_text l) bytes then Some l else None

-- the line that these bytes spell
unfoldable pub line_of : List ℕ → Option Line
line_of bytes = words_said (slice_split (λ b. b == 32) bytes) >>= spelled_so bytes
