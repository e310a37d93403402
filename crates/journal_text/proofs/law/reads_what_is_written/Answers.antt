-- The law is a lemma.
use Rattle.journal_text.proofs.Runs.{reads_again}
use Rattle.journal_text.proofs.law.reads_what_is_written.Goals as goal

pub returns : goal.returns
returns c = λ journal may typed. reads_again journal may typed
