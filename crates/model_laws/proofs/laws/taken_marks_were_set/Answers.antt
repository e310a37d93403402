use Rattle.model_laws.proofs.Taken.{taken-set}
use Rattle.model_laws.proofs.laws.taken_marks_were_set.Goals as goal

pub returns : goal.returns
returns c = taken-set
