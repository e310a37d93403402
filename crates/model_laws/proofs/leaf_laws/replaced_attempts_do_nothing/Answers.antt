use Rattle.model_laws.proofs.Attempts.{replaced-does_nothing}
use Rattle.model_laws.proofs.leaf_laws.replaced_attempts_do_nothing.Goals as goal

pub returns : goal.returns
returns c = replaced-does_nothing
