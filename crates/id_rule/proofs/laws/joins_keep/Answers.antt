use Rattle.id_rule.proofs.Knowing.{joins_keep}
use Rattle.id_rule.proofs.laws.joins_keep.Goals as goal

pub returns : goal.returns
returns g c = record { joins_keep = joins_keep }
