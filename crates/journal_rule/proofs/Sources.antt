-- Whether entries and sources name each other is decided.
use Rattle.std.proofs.Common.{◌≡◌, ℕ, ◌==◌, Bool, ◌&&◌, bytes_eq, refl}
use Rattle.std.specs.Bool.{Decides}
use Rattle.std.specs.List.{list_all, enumerate_from}
use Rattle.std.proofs.lemmas.Bool.{false≢true}
use Rattle.std.proofs.lemmas.Bool.Decides.{Decides-eqb, Decides-and, Decides-like}
use Rattle.std.proofs.lemmas.Slice.Eq.{bytes_eq-Decides}
use Rattle.rpc_model.specs.declared.event.Event.{Event}
use Rattle.rpc_model.specs.declared.event.Event.TheVariants.{Reply, Lost, Backup, Deadline, Cancel}
use Rattle.rpc_model.specs.declared.script.Script.{Script}
use Rattle.rpc_model.specs.declared.entry.Origin.{Origin}
use Rattle.rpc_model.specs.declared.entry.Origin.TheVariants.{Frame, Loss, Mark, Lane, Queued}
use Rattle.rpc_model.specs.declared.entry.Entry.{Entry}
use Rattle.rpc_model.specs.declared.entry.Fate.{Fate}
use Rattle.rpc_model.specs.declared.entry.Fate.TheVariants as fate
use Rattle.rpc_model.specs.declared.journal.CallLog.{CallLog}
use Rattle.rpc_model.specs.declared.journal.Journal.{Journal}
use Rattle.journal_rule.specs.Sources.{Source, sources, fate_at, event_at, NamesItsSource, origin_at, IsNamed, HasNamedSources, HasSources}
use Rattle.journal_rule.specs.Sources.{is_event, is_origin, is_entry, is_some_of, names_its_source, is_named, has_named_sources, has_sources}
use Rattle.journal_rule.proofs.Decided.{always, each, some_of}

same_event : (a b : Event) → Decides (is_event a b) (b ≡ a)
same_event (Reply n k code text) (Reply m j c t) =
    Decides-like (n == m && (k == j && (code == c && bytes_eq text t))) (λ h. cc (h.0, h.1.0, h.1.1.0, h.1.1.1)) (λ e. (cc, (cc, (cc, cc))))
    (Decides-and (n == m) (k == j && (code == c && bytes_eq text t)) (Decides-eqb n m)
    (Decides-and (k == j) (code == c && bytes_eq text t) (Decides-eqb k j) (Decides-and (code == c) (bytes_eq text t) (Decides-eqb code c) (bytes_eq-Decides text t))))
same_event (Lost n k code) (Lost m j c) =
    Decides-like (n == m && (k == j && code == c)) (λ h. cc (h.0, h.1.0, h.1.1)) (λ e. (cc, (cc, cc)))
    (Decides-and (n == m) (k == j && code == c) (Decides-eqb n m) (Decides-and (k == j) (code == c) (Decides-eqb k j) (Decides-eqb code c)))
same_event (Backup n) (Backup m) = Decides-like (n == m) (λ h. cc h) (λ e. cc) (Decides-eqb n m)
same_event (Deadline n) (Deadline m) = Decides-like (n == m) (λ h. cc h) (λ e. cc) (Decides-eqb n m)
same_event Cancel Cancel = (λ h. refl, λ h. refl)
same_event a b = (λ h. absurd (false≢true h), λ h. absurd cc)

same_origin : (a b : Origin) → Decides (is_origin a b) (b ≡ a)
same_origin (Frame w p) (Frame v q) = Decides-like (w == v && p == q) (λ h. cc (h.0, h.1)) (λ e. (cc, cc)) (Decides-and (w == v) (p == q) (Decides-eqb w v) (Decides-eqb p q))
same_origin (Loss w p) (Loss v q) = Decides-like (w == v && p == q) (λ h. cc (h.0, h.1)) (λ e. (cc, cc)) (Decides-and (w == v) (p == q) (Decides-eqb w v) (Decides-eqb p q))
same_origin (Mark p) (Mark q) = Decides-like (p == q) (λ h. cc h) (λ e. cc) (Decides-eqb p q)
same_origin (Lane l p) (Lane k q) = Decides-like (l == k && p == q) (λ h. cc (h.0, h.1)) (λ e. (cc, cc)) (Decides-and (l == k) (p == q) (Decides-eqb l k) (Decides-eqb p q))
same_origin (Queued p n) (Queued q m) = Decides-like (p == q && n == m) (λ h. cc (h.0, h.1)) (λ e. (cc, cc)) (Decides-and (p == q) (n == m) (Decides-eqb p q) (Decides-eqb n m))
same_origin a b = (λ h. absurd (false≢true h), λ h. absurd cc)

this_entry : (call place : ℕ) (f : Fate) → Decides (is_entry call place f) (f ≡ fate.Entry call place)
this_entry call place (fate.Entry number p) =
    Decides-like (number == call && p == place) (λ h. cc (h.0, h.1)) (λ e. (cc, cc)) (Decides-and (number == call) (p == place) (Decides-eqb number call) (Decides-eqb p place))
this_entry call place (fate.Gone word) = (λ h. absurd (false≢true h), λ h. absurd cc)
this_entry call place fate.Stray = (λ h. absurd (false≢true h), λ h. absurd cc)
this_entry call place (fate.Dropped number) = (λ h. absurd (false≢true h), λ h. absurd cc)
this_entry call place (fate.Queued pass number) = (λ h. absurd (false≢true h), λ h. absurd cc)

source_decided : (script : Script) (journal : Journal) (call : CallLog) (place : ℕ) (entry : Entry)
    → Decides (names_its_source script journal call place entry) (NamesItsSource script journal call place entry)
source_decided script journal call place entry =
    let became = fate_at journal entry.from in
    let event = event_at script journal call entry.from in
    Decides-like (names_its_source script journal call place entry)
    (λ h. record { became = h.0; event = h.1 })
    (λ (h : NamesItsSource script journal call place entry). (h.became, h.event))
    (Decides-and (is_some_of (is_entry call.call place) became) (is_some_of (is_event entry.event) event)
    (some_of (is_entry call.call place) (fate.Entry call.call place) (this_entry call.call place) became)
    (some_of (is_event entry.event) entry.event (same_event entry.event) event))

named_decided : (journal : Journal) (from : Origin) (f : Fate) → Decides (is_named journal from f) (IsNamed journal from f)
named_decided journal from (fate.Entry number place) = some_of (is_origin from) from (same_origin from) (origin_at journal number place)
named_decided journal from (fate.Gone word) = always
named_decided journal from fate.Stray = always
named_decided journal from (fate.Dropped number) = always
named_decided journal from (fate.Queued pass number) = always

entries_decided : (script : Script) (journal : Journal) (call : CallLog) → Decides (has_named_sources script journal call) (HasNamedSources script journal call)
entries_decided script journal call =
    each (λ (e : ℕ × Entry). names_its_source script journal call e.0 e.1) (λ (e : ℕ × Entry). NamesItsSource script journal call e.0 e.1)
    (λ e. source_decided script journal call e.0 e.1) (enumerate_from 0 call.log)

pub sources_decided : (script : Script) (journal : Journal) → Decides (has_sources script journal) (HasSources script journal)
sources_decided script journal =
    let named : Source → Bool = λ s. is_named journal s.from s.fate in
    Decides-like (has_sources script journal)
    (λ h. record { entries = h.0; sources = h.1 })
    (λ (h : HasSources script journal). (h.entries, h.sources))
    (Decides-and (list_all (has_named_sources script journal) journal.calls) (list_all named (sources journal))
    (each (has_named_sources script journal) (HasNamedSources script journal) (entries_decided script journal) journal.calls)
    (each named (λ (s : Source). IsNamed journal s.from s.fate) (λ s. named_decided journal s.from s.fate) (sources journal)))
