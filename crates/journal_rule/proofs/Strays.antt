-- Whether strays and what was dropped were rightly so is decided.
use Rattle.std.proofs.Common.{ℕ}
use Rattle.std.specs.Bool.{Decides}
use Rattle.rpc_model.specs.declared.script.Script.{Script}
use Rattle.rpc_model.specs.declared.entry.Fate.{Fate}
use Rattle.rpc_model.specs.declared.entry.Fate.TheVariants as fate
use Rattle.rpc_model.specs.declared.journal.Journal.{Journal}
use Rattle.journal_rule.specs.Sources.{Said, Source, sources}
use Rattle.journal_rule.specs.Strays.{may_stray, may_drop, IsRightlyUntaken, HasStrays, is_rightly_untaken, has_strays}
use Rattle.journal_rule.proofs.Decided.{always, never, itself, each}

untaken_decided : (script : Script) (lanes : ℕ) (journal : Journal) (said : Said) (f : Fate)
    → Decides (is_rightly_untaken script lanes journal said f) (IsRightlyUntaken script lanes journal said f)
untaken_decided script lanes journal said fate.Stray = itself (may_stray script lanes journal said)
untaken_decided script lanes journal said (fate.Dropped number) = itself (may_drop journal number said)
untaken_decided script lanes journal said (fate.Queued pass number) = never
untaken_decided script lanes journal said (fate.Entry number place) = always
untaken_decided script lanes journal said (fate.Gone word) = always

pub strays_decided : (script : Script) (lanes : ℕ) (journal : Journal) → Decides (has_strays script lanes journal) (HasStrays script lanes journal)
strays_decided script lanes journal =
    each (λ (s : Source). is_rightly_untaken script lanes journal s.said s.fate) (λ (s : Source). IsRightlyUntaken script lanes journal s.said s.fate)
    (λ s. untaken_decided script lanes journal s.said s.fate) (sources journal)
