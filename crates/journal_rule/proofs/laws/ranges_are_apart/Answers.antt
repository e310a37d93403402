use Rattle.journal_rule.proofs.Apart.{ranges_are_apart}
use Rattle.journal_rule.proofs.laws.ranges_are_apart.Goals as goal

pub returns : goal.returns
returns c = ranges_are_apart
