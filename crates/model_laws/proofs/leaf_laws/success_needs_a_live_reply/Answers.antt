use Rattle.model_laws.proofs.Attempts.{success-needs}
use Rattle.model_laws.proofs.leaf_laws.success_needs_a_live_reply.Goals as goal

pub returns : goal.returns
returns c = success-needs
