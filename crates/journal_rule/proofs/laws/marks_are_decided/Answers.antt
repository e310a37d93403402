use Rattle.journal_rule.proofs.Fired.{marks_decided}
use Rattle.journal_rule.proofs.laws.marks_are_decided.Goals as goal

pub returns : goal.returns
returns c = marks_decided
