use Rattle.journal_rule.proofs.Losses.{losses_decided}
use Rattle.journal_rule.proofs.laws.losses_are_decided.Goals as goal

pub returns : goal.returns
returns c = losses_decided
