use Rattle.model_laws.proofs.Early.{settled-tells}
use Rattle.model_laws.proofs.laws.due_marks_may_be_taken_at_once.Goals as goal

pub returns : goal.returns
returns c = λ script acts replay. settled-tells script acts replay
