use Rattle.journal_rule.proofs.JoinsTell.{first_joins_tell_ends}
use Rattle.journal_rule.proofs.laws.first_joins_tell_ends.Goals as goal

pub returns : goal.returns
returns c = first_joins_tell_ends
