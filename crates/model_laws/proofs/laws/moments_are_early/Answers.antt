use Rattle.model_laws.proofs.MomentsStay.{moments-early}
use Rattle.model_laws.proofs.laws.moments_are_early.Goals as goal

pub returns : goal.returns
returns c = moments-early
