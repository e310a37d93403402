use Rattle.std.proofs.Common.{arith, ap, sym, subst}
use Rattle.std.specs.Arc.{arc_value}
use Rattle.rpc_model.specs.State.{State}
use Rattle.rpc_model.specs.Versions.{nodes}
use Rattle.call_tree.specs.Bounds.{IsWithin}
use Rattle.call_tree.specs.Running.{kinds_of}
use Rattle.call_tree.proofs.Bounds.{few_nodes, step_within}
use Rattle.call_tree.proofs.bare_call.BareCall.apply.Goals as goal

pub step-requires-clause-few : goal.step-requires-clause-few
step-requires-clause-few g c =
    let few = few_nodes (arc_value c.self.inside.plan) c.self.invariant.narrow in
    let is = c.nodes.ensures in
    let same = ap nodes c.deref.ensures in
    omega (arith, few, is, same)

pub invariant_of-self-2 : goal.invariant_of-self-2
invariant_of-self-2 g c =
    let kinds = kinds_of g.M.Mapper.answer g.G.Merger.answer in
    subst (λ (s : State g.row.M.Denot g.row.G.Denot). IsWithin (arc_value c.self.inside.plan) s) (sym c.in_ok-step.ensures.after)
    (step_within kinds (arc_value c.self.inside.plan) c.self.inside.tree c.self.inside.call c.args.event c.args.moment c.self.invariant)
