use Rattle.journal_rule.proofs.Requests.{requests_decided}
use Rattle.journal_rule.proofs.laws.requests_are_decided.Goals as goal

pub returns : goal.returns
returns c = requests_decided
