use Rattle.std.proofs.Common.{arith, ap, sym, ◌∙◌, subst, ◌≤◌}
use Rattle.std.specs.Arc.{arc_value}
use Rattle.rpc_model.specs.Plan.{Plan}
use Rattle.rpc_model.specs.State.{State}
use Rattle.rpc_model.specs.Versions.{nodes, width}
use Rattle.rpc_model.specs.Machine.{start}
use Rattle.call_tree.specs.Bounds.{IsWithin}
use Rattle.call_tree.specs.Running.{kinds_of}
use Rattle.call_tree.proofs.Bounds.{few_nodes, begun_within}
use Rattle.call_tree.proofs.bare_call.BareCall.begin.Goals as goal

pub start-requires-clause-few : goal.start-requires-clause-few
start-requires-clause-few g c =
    let few = few_nodes c.deref.result.now c.tree.ensures.narrow in
    let same = ap nodes c.tree.ensures.value in
    omega (arith, few, same)

pub invariant_of-begun : goal.invariant_of-begun
invariant_of-begun g c =
    let kinds = kinds_of g.M.Mapper.answer g.G.Merger.answer in
    let same = c.tree.ensures.value ∙ c.deref.ensures in
    let narrow = subst (λ (p : Plan g.row.M.Denot g.row.G.Denot). width p ≤ 1024) c.deref.ensures c.tree.ensures.narrow in
    let is = c.in_ok-tree.ensures.tree 0 c.args.call c.args.moment ∙ ap (λ (p : Plan g.row.M.Denot g.row.G.Denot). (start kinds p c.args.call c.args.request c.args.moment).state) same in
    subst (λ (s : State g.row.M.Denot g.row.G.Denot). IsWithin (arc_value c.args.plan) s) (sym is) (begun_within kinds (arc_value c.args.plan) c.args.call c.args.request c.args.moment narrow)
