use Rattle.rpc_meta.proofs.RoundTrip.{meta_again}
use Rattle.rpc_meta.proofs.law.reads_its_spelling.Goals as goal

pub returns : goal.returns
returns c = meta_again
