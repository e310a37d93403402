-- Which journals are lawful is decided.
use Rattle.std.proofs.Common.{◌≡◌, ℕ, Bool, true, false, List, [], ◌∷◌, refl, ap}
use Rattle.std.specs.Bool.{Decides}
use Rattle.std.proofs.lemmas.Bool.{false≢true}
use Rattle.std.proofs.lemmas.Bool.Decides.{Decides-like}
use Rattle.rpc_model.specs.declared.script.Script.{Script}
use Rattle.rpc_model.specs.declared.journal.Journal.{Journal}
use Rattle.journal_rule.specs.declared.part.Part.{Part}
use Rattle.journal_rule.specs.declared.part.Part.TheVariants.{Calls, Ranges, Ends, Requests, Sources, GoneWords, Strays, Marks, Losses, Cancels}
use Rattle.journal_rule.specs.Calls.{has_calls}
use Rattle.journal_rule.specs.Ranges.{has_ranges}
use Rattle.journal_rule.specs.Ends.{has_ends}
use Rattle.journal_rule.specs.Requests.{has_requests}
use Rattle.journal_rule.specs.Sources.{has_sources}
use Rattle.journal_rule.specs.Words.{has_gone_words}
use Rattle.journal_rule.specs.Strays.{has_strays}
use Rattle.journal_rule.specs.Fired.{has_marks}
use Rattle.journal_rule.specs.Losses.{has_losses}
use Rattle.journal_rule.specs.Cancels.{has_cancels}
use Rattle.journal_rule.specs.Lawful.{IsLawful, failed, broken_parts, are_none, is_lawful}
use Rattle.journal_rule.proofs.Decided.{always}
use Rattle.journal_rule.proofs.Calls.{calls_decided}
use Rattle.journal_rule.proofs.Ranges.{ranges_decided}
use Rattle.journal_rule.proofs.Ends.{ends_decided}
use Rattle.journal_rule.proofs.Requests.{requests_decided}
use Rattle.journal_rule.proofs.Sources.{sources_decided}
use Rattle.journal_rule.proofs.Words.{gone_words_decided}
use Rattle.journal_rule.proofs.Strays.{strays_decided}
use Rattle.journal_rule.proofs.Fired.{marks_decided}
use Rattle.journal_rule.proofs.Losses.{losses_decided}
use Rattle.journal_rule.proofs.Cancels.{cancels_decided}

-- one more test, before the others
tested : {P Q : Type 0} (part : Part) (b : Bool) (tests : List (Part × Bool)) → Decides b P → Decides (are_none (failed tests)) Q
    → Decides (are_none (failed ((part, b) ∷ tests))) (P × Q)
tested part true tests one rest = (λ h. (one.0 refl, rest.0 h), λ h. rest.1 h.1)
tested part false tests one rest = (λ h. absurd (false≢true h), λ h. absurd (false≢true (one.1 h.0)))

pub lawful_decided : (script : Script) (lanes : ℕ) (journal : Journal) → Decides (is_lawful script lanes journal) (IsLawful script lanes journal)
unfolding is_lawful broken_parts
lawful_decided script lanes journal =
    let after_losses : List (Part × Bool) = (Cancels, has_cancels script journal) ∷ [] in
    let after_marks = (Losses, has_losses journal) ∷ after_losses in
    let after_strays = (Marks, has_marks script journal) ∷ after_marks in
    let after_words = (Strays, has_strays script lanes journal) ∷ after_strays in
    let after_sources = (GoneWords, has_gone_words script lanes journal) ∷ after_words in
    let after_requests = (Sources, has_sources script journal) ∷ after_sources in
    let after_ends = (Requests, has_requests script journal) ∷ after_requests in
    let after_ranges = (Ends, has_ends script journal) ∷ after_ends in
    let after_calls = (Ranges, has_ranges script lanes journal) ∷ after_ranges in
    Decides-like (is_lawful script lanes journal)
    (λ h. record {
      calls = h.0;
      ranges = h.1.0;
      ends = h.1.1.0;
      requests = h.1.1.1.0;
      sources = h.1.1.1.1.0;
      gone_words = h.1.1.1.1.1.0;
      strays = h.1.1.1.1.1.1.0;
      marks = h.1.1.1.1.1.1.1.0;
      losses = h.1.1.1.1.1.1.1.1.0;
      cancels = h.1.1.1.1.1.1.1.1.1.0;
    })
    (λ (h : IsLawful script lanes journal). (h.calls, (h.ranges, (h.ends, (h.requests, (h.sources, (h.gone_words, (h.strays, (h.marks, (h.losses, (h.cancels, tt)))))))))))
    (tested Calls (has_calls script lanes journal) after_calls (calls_decided script lanes journal)
    (tested Ranges (has_ranges script lanes journal) after_ranges (ranges_decided script lanes journal)
    (tested Ends (has_ends script journal) after_ends (ends_decided script journal)
    (tested Requests (has_requests script journal) after_requests (requests_decided script journal)
    (tested Sources (has_sources script journal) after_sources (sources_decided script journal)
    (tested GoneWords (has_gone_words script lanes journal) after_words (gone_words_decided script lanes journal)
    (tested Strays (has_strays script lanes journal) after_strays (strays_decided script lanes journal)
    (tested Marks (has_marks script journal) after_marks (marks_decided script journal)
    (tested Losses (has_losses journal) after_losses (losses_decided journal)
    (tested Cancels (has_cancels script journal) [] (cancels_decided script journal) always))))))))))

-- a journal is lawful exactly where it breaks no part
pub none_broken : (script : Script) (lanes : ℕ) (journal : Journal)
    → (broken_parts script lanes journal ≡ [] → IsLawful script lanes journal) × (IsLawful script lanes journal → broken_parts script lanes journal ≡ [])
unfolding is_lawful
none_broken script lanes journal =
    let d = lawful_decided script lanes journal in
    (λ e. d.0 (ap are_none e), λ h. none (broken_parts script lanes journal) (d.1 h))
  where
    none : (parts : List Part) → are_none parts ≡ true → parts ≡ []
    none [] h = refl
    none (part ∷ parts) h = absurd (false≢true h)
