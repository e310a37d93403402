use Rattle.model_laws.proofs.Heard.{texts-need}
use Rattle.model_laws.proofs.laws.told_texts_need_a_reply.Goals as goal

pub returns : goal.returns
returns c = texts-need
