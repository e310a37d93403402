use Rattle.prpc_frames.proofs.Spelled.{spelled_all}
use Rattle.prpc_frames.proofs.law.begins_with_spelled.Goals as goal

pub returns : goal.returns
returns c = spelled_all c.reads_its_spelling.ensures
