use Rattle.rpc_meta.proofs.FiveFaults.{never_memory}
use Rattle.rpc_meta.proofs.law.names_no_memory.Goals as goal

pub returns : goal.returns
returns c = never_memory
