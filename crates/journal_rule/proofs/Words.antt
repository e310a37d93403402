-- Whether words show what was gone is decided.
use Rattle.std.proofs.Common.{ℕ, ◌&&◌, List}
use Rattle.std.specs.Bool.{Decides}
use Rattle.std.proofs.lemmas.Bool.Decides.{Decides-and, Decides-like}
use Rattle.rpc_model.specs.declared.script.Script.{Script}
use Rattle.rpc_model.specs.declared.entry.Fate.{Fate}
use Rattle.rpc_model.specs.declared.entry.Fate.TheVariants as fate
use Rattle.rpc_model.specs.declared.journal.CallLog.{CallLog}
use Rattle.rpc_model.specs.declared.journal.Journal.{Journal}
use Rattle.rpc_model.specs.Gone.{gone_by}
use Rattle.journal_rule.specs.Ranges.{slot_in, slots, names_slot}
use Rattle.journal_rule.specs.Sources.{Said, id_said, Source, sources}
use Rattle.journal_rule.specs.Words.{has_form, fits_calls, is_late_enough, ShowsGone, WasGone, HasGoneWords, shows_gone, was_gone, has_gone_words}
use Rattle.journal_rule.proofs.Decided.{always, itself, each}
use Rattle.journal_rule.proofs.Ranges.{slot_decided}

word_decided : (count : ℕ) (calls : List CallLog) (said : Said) (word : ℕ) → Decides (shows_gone count calls said word) (ShowsGone count calls said word)
word_decided count calls said word =
    let id = id_said said in
    let n = names_slot count id in
    let g = gone_by word id in
    let f = has_form word in
    let c = fits_calls (slot_in id) calls word in
    let l = is_late_enough calls said word in
    Decides-like (shows_gone count calls said word)
    (λ h. record { slot = h.0; gone = h.1.0; form = h.1.1.0; fits = h.1.1.1.0; late = h.1.1.1.1 })
    (λ (h : ShowsGone count calls said word). (h.slot, (h.gone, (h.form, (h.fits, h.late)))))
    (Decides-and n (g && (f && (c && l))) (slot_decided count id)
    (Decides-and g (f && (c && l)) (itself g) (Decides-and f (c && l) (itself f) (Decides-and c l (itself c) (itself l)))))

fate_decided : (count : ℕ) (calls : List CallLog) (said : Said) (f : Fate) → Decides (was_gone count calls said f) (WasGone count calls said f)
fate_decided count calls said (fate.Gone word) = word_decided count calls said word
fate_decided count calls said (fate.Entry number place) = always
fate_decided count calls said fate.Stray = always
fate_decided count calls said (fate.Dropped number) = always
fate_decided count calls said (fate.Queued pass number) = always

pub gone_words_decided : (script : Script) (lanes : ℕ) (journal : Journal) → Decides (has_gone_words script lanes journal) (HasGoneWords script lanes journal)
gone_words_decided script lanes journal =
    let count = slots script lanes in
    each (λ (s : Source). was_gone count journal.calls s.said s.fate) (λ (s : Source). WasGone count journal.calls s.said s.fate)
    (λ s. fate_decided count journal.calls s.said s.fate) (sources journal)
