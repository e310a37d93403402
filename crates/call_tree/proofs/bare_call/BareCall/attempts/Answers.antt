use Rattle.std.proofs.Common.{arith}
use Rattle.std.specs.Arc.{arc_value}
use Rattle.call_tree.proofs.Bounds.{few_nodes}
use Rattle.call_tree.proofs.bare_call.BareCall.attempts.Goals as goal

pub attempts-requires : goal.attempts-requires
attempts-requires g c =
    let few = few_nodes (arc_value c.self.inside.plan) c.self.invariant.narrow in
    let same = c.self.invariant.attempts_are in
    record { few = omega (arith, few, same) }
