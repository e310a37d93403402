-- Which sources of a lawful journal are strays, and which were dropped with a call: this project's own choice.
use Rattle.std.specs.Prelude.{◌≡◌, ℕ, Bool, true, false, not, ◌==◌, ◌&&◌, ◌||◌, All, Option, None, Some}
use Rattle.std.specs.List.{list_all, list_any}
use Rattle.rpc_model.specs.declared.meaning.Meaning.{Meaning}
use Rattle.rpc_model.specs.declared.meaning.Meaning.TheVariants.{Node, Attempt}
use Rattle.rpc_model.specs.declared.script.Script.{Script}
use Rattle.rpc_model.specs.declared.entry.Fate.{Fate}
use Rattle.rpc_model.specs.declared.entry.Fate.TheVariants as fate
use Rattle.rpc_model.specs.declared.journal.CallLog.{CallLog}
use Rattle.rpc_model.specs.declared.journal.Journal.{Journal}
use Rattle.journal_rule.specs.Calls.{plan_of}
use Rattle.journal_rule.specs.Runs.{meaning_in}
use Rattle.journal_rule.specs.Ranges.{slots, names_slot, has_id}
use Rattle.journal_rule.specs.Sources.{Said, frame, loss, mark, cancel, Source, sources}

abbrev pub is_node : Option Meaning → Bool
is_node None = false
is_node (Some (Node n)) = true
is_node (Some (Attempt n k)) = false

-- the id is that of a node of a call
abbrev pub is_node_id : Script → Journal → ℕ → Bool
is_node_id script journal id = list_any (λ (call : CallLog). is_node (meaning_in (plan_of script call.call) call.first id)) journal.calls

-- the id is 0, names no slot, or is that of a node
abbrev pub is_stray : Script → ℕ → Journal → ℕ → Bool
is_stray script lanes journal id = id == 0 || (not (names_slot (slots script lanes) id) || is_node_id script journal id)

-- the id is in the range of the call of this number
abbrev pub is_of_call : Journal → ℕ → ℕ → Bool
is_of_call journal number id = list_any (λ (call : CallLog). call.call == number && has_id call id) journal.calls

-- only frames are strays
abbrev pub may_stray : Script → ℕ → Journal → Said → Bool
may_stray script lanes journal (frame id code payload) = is_stray script lanes journal id
may_stray script lanes journal (loss id code) = false
may_stray script lanes journal (mark id code) = false
may_stray script lanes journal (cancel id) = false

-- all but frames may have been dropped
abbrev pub may_drop : Journal → ℕ → Said → Bool
may_drop journal number (frame id code payload) = false
may_drop journal number (loss id code) = is_of_call journal number id
may_drop journal number (mark id code) = is_of_call journal number id
may_drop journal number (cancel id) = is_of_call journal number id

-- A stray is a frame whose id is no attempt's, and what was dropped is no frame and has an id of the call. Nothing is still queued.
abbrev pub IsRightlyUntaken : Script → ℕ → Journal → Said → Fate → Type 0
IsRightlyUntaken script lanes journal said fate.Stray = may_stray script lanes journal said ≡ true
IsRightlyUntaken script lanes journal said (fate.Dropped number) = may_drop journal number said ≡ true
IsRightlyUntaken script lanes journal said (fate.Queued pass number) = ⊥
IsRightlyUntaken script lanes journal said (fate.Entry number place) = Unit {0}
IsRightlyUntaken script lanes journal said (fate.Gone word) = Unit {0}

abbrev pub HasStrays : Script → ℕ → Journal → Type 0
HasStrays script lanes journal = All (λ (s : Source). IsRightlyUntaken script lanes journal s.said s.fate) (sources journal)

-- ---- computed

abbrev pub is_rightly_untaken : Script → ℕ → Journal → Said → Fate → Bool
is_rightly_untaken script lanes journal said fate.Stray = may_stray script lanes journal said
is_rightly_untaken script lanes journal said (fate.Dropped number) = may_drop journal number said
is_rightly_untaken script lanes journal said (fate.Queued pass number) = false
is_rightly_untaken script lanes journal said (fate.Entry number place) = true
is_rightly_untaken script lanes journal said (fate.Gone word) = true

abbrev pub has_strays : Script → ℕ → Journal → Bool
has_strays script lanes journal = list_all (λ (s : Source). is_rightly_untaken script lanes journal s.said s.fate) (sources journal)
