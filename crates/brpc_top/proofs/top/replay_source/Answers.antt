-- What was written is the output, and the status is the script's.
use Rattle.std.proofs.Common.{rules}
use Rattle.brpc_top.proofs.Complete.{all_written}
use Rattle.brpc_top.proofs.top.replay_source.Goals as goal

pub returns-in-Ok-write_all : goal.returns-in-Ok-write_all
returns-in-Ok-write_all g c =
    all_written _ _ _ _ _ _ _ _ _ _ c.in-Ok.bytes.items _ c.in-Ok.ensures.read (search rules) c.in-Ok-write_all.ensures.cause.kept (search rules) (search rules)
