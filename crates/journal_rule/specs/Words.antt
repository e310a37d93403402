-- The words by which the sources of a lawful journal were found gone: this project's own choice.
use Rattle.std.specs.Prelude.{◌≡◌, ℕ, ◌+◌, ◌^◌, Bool, true, ◌==◌, ◌&&◌, ◌||◌, nat_le, nat_lt, List, All, if◌then◌else◌}
use Rattle.std.specs.List.{list_all, list_any}
use Rattle.rpc_model.specs.declared.script.Script.{Script}
use Rattle.rpc_model.specs.declared.entry.Fate.{Fate}
use Rattle.rpc_model.specs.declared.entry.Fate.TheVariants as fate
use Rattle.rpc_model.specs.declared.journal.CallLog.{CallLog}
use Rattle.rpc_model.specs.declared.journal.Journal.{Journal}
use Rattle.rpc_model.specs.declared.limits.TheConstants.{WIDTH_LIMIT}
use Rattle.rpc_model.specs.Gone.{head_in, code_in, range_in, first_in, gone_by}
use Rattle.journal_rule.specs.Ranges.{slot_in, version_in, slots, NamesSlot, names_slot, has_id}
use Rattle.journal_rule.specs.Sources.{Said, frame, loss, mark, cancel, id_said, Source, sources}

-- ---- the form of a word

-- no range and no errors
abbrev pub is_vacant : ℕ → Bool
is_vacant word = code_in word == 0 && (range_in word == 0 && head_in word == 0)

-- a range that is to begin, and no errors
abbrev pub is_reserved : ℕ → Bool
is_reserved word = code_in word == 1 && (nat_le 1 (range_in word) && head_in word == 0)

-- a range; errors wait only while it is locked
abbrev pub is_taken : ℕ → Bool
is_taken word = (code_in word == 2 && head_in word == 0) || (code_in word == 3 || (code_in word == 4 && head_in word == 0))

-- The word has the form of one of the states but the last, that of a slot which is never used again. Its two highest bits are zero, and its range is no wider
-- than a plan may be.
abbrev pub has_form : ℕ → Bool
has_form word = nat_lt word (2 ^ 62) && (nat_le (range_in word) WIDTH_LIMIT && (is_vacant word || (is_reserved word || is_taken word)))

-- ---- the word and the calls of its slot

-- the word's first version is that behind the call's range
abbrev pub is_behind : ℕ → CallLog → Bool
is_behind word call = version_in call.first + call.width == first_in word

-- the word has the call's range
abbrev pub is_range_of : ℕ → CallLog → Bool
is_range_of word call = version_in call.first == first_in word && call.width == range_in word

-- a call of this slot passes the test
abbrev pub some_call : ℕ → (CallLog → Bool) → List CallLog → Bool
some_call slot test calls = list_any (λ (call : CallLog). slot_in call.first == slot && test call) calls

-- Without a range that began, the word's first version is 1 or that behind a call of the slot; otherwise its range is that of a call of the slot.
abbrev pub fits_calls : ℕ → List CallLog → ℕ → Bool
fits_calls slot calls word = if is_taken word then some_call slot (is_range_of word) calls else first_in word == 1 || some_call slot (is_behind word) calls

-- the word is the ended one of the call, or has a later first version
abbrev pub is_past : ℕ → CallLog → Bool
is_past word call = (code_in word == 4 && is_range_of word call) || nat_lt (version_in call.first) (first_in word)

-- It is that of the call whose range has the id, or later.
abbrev pub is_past_call : List CallLog → ℕ → ℕ → Bool
is_past_call calls id word = list_any (λ (call : CallLog). has_id call id && is_past word call) calls

-- a server may send an id before its call exists, so the word of a frame may also be earlier
abbrev pub is_late_enough : List CallLog → Said → ℕ → Bool
is_late_enough calls (frame id code payload) word = true
is_late_enough calls (loss id code) word = is_past_call calls id word
is_late_enough calls (mark id code) word = is_past_call calls id word
is_late_enough calls (cancel id) word = is_past_call calls id word

-- A word of the table, where it has so many slots and these calls, shows the id of a source gone.
pub record ShowsGone (count : ℕ) (calls : List CallLog) (said : Said) (word : ℕ) : Type 0 where
  pub slot : NamesSlot count (id_said said)
  pub gone : gone_by word (id_said said) ≡ true
  pub form : has_form word ≡ true
  pub fits : fits_calls (slot_in (id_said said)) calls word ≡ true
  pub late : is_late_enough calls said word ≡ true

abbrev pub WasGone : ℕ → List CallLog → Said → Fate → Type 0
WasGone count calls said (fate.Gone word) = ShowsGone count calls said word
WasGone count calls said (fate.Entry number place) = Unit {0}
WasGone count calls said fate.Stray = Unit {0}
WasGone count calls said (fate.Dropped number) = Unit {0}
WasGone count calls said (fate.Queued pass number) = Unit {0}

-- each source that is said to be gone was so, by its word
abbrev pub HasGoneWords : Script → ℕ → Journal → Type 0
HasGoneWords script lanes journal = All (λ (s : Source). WasGone (slots script lanes) journal.calls s.said s.fate) (sources journal)

-- ---- computed

abbrev pub shows_gone : ℕ → List CallLog → Said → ℕ → Bool
shows_gone count calls said word =
    names_slot count (id_said said)
    && (gone_by word (id_said said) && (has_form word && (fits_calls (slot_in (id_said said)) calls word && is_late_enough calls said word)))

abbrev pub was_gone : ℕ → List CallLog → Said → Fate → Bool
was_gone count calls said (fate.Gone word) = shows_gone count calls said word
was_gone count calls said (fate.Entry number place) = true
was_gone count calls said fate.Stray = true
was_gone count calls said (fate.Dropped number) = true
was_gone count calls said (fate.Queued pass number) = true

abbrev pub has_gone_words : Script → ℕ → Journal → Bool
has_gone_words script lanes journal = list_all (λ (s : Source). was_gone (slots script lanes) journal.calls s.said s.fate) (sources journal)
