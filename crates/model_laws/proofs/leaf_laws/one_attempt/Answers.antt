use Rattle.std.proofs.Common.{arith, ◌≡◌}
use Rattle.model_laws.proofs.LeafRuns.{machine-runs}
use Rattle.model_laws.proofs.leaf_laws.one_attempt.Goals as goal

pub returns : goal.returns
returns g c = λ kinds leaf call request begun events once.
    let runs = machine-runs kinds leaf call request begun events in
    let one : runs.now.issued ≡ 1 = omega (arith, runs.some, runs.few, once) in
    rw runs.is one
