use Rattle.std.proofs.Common.{◌∙◌}
use Rattle.rpc_meta.proofs.FiveFaults.{never_memory}
use Rattle.rpc_meta.proofs.reading.read_meta.Goals as goal

-- A fault of the grammar isn't want of memory.
pub returns-in-Err-clause-memory : goal.returns-in-Err-clause-memory
returns-in-Err-clause-memory c = λ e. absurd (never_memory c.args.bytes.now (c.in-Err.ensures ∙ e))
