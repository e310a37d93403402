use Rattle.id_rule.proofs.Knowing.{steps_are_noted}
use Rattle.id_rule.proofs.laws.steps_are_noted.Goals as goal

pub returns : goal.returns
returns g c = record { noted = steps_are_noted }
