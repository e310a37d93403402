use Rattle.model_laws.proofs.Late.{late-lines}
use Rattle.model_laws.proofs.laws.late_lines_tell_nothing.Goals as goal

pub returns : goal.returns
returns c = late-lines
