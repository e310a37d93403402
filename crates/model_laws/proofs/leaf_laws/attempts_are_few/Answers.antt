use Rattle.model_laws.proofs.LeafRuns.{machine-runs}
use Rattle.model_laws.proofs.leaf_laws.attempts_are_few.Goals as goal

pub returns : goal.returns
returns g c = λ kinds leaf call request begun events.
    let runs = machine-runs kinds leaf call request begun events in
    (rw runs.is runs.some, rw runs.is runs.few)
