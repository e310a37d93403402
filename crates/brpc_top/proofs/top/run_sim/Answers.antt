-- The script decides the status.
use Rattle.brpc_top.proofs.Complete.{decided}
use Rattle.brpc_top.proofs.top.run_sim.Goals as goal

pub returns-clause-decided : goal.returns-clause-decided
returns-clause-decided g c =
    let e = c.replay_source.ensures in
    rw c.number.ensures (decided _ _ _ _ _ e.known e.tells_all e.refuses)
