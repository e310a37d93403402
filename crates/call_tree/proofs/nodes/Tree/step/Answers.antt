use Rattle.std.proofs.Common.{arith, ap, sym}
use Rattle.rpc_model.specs.State.{Run}
use Rattle.call_tree.specs.Running.{kinds_of}
use Rattle.call_tree.proofs.Quiet.{quiet-grown, step-past}
use Rattle.call_tree.proofs.nodes.Tree.step.Goals as goal

pub returns-then-node_of-nodes : goal.returns-then-node_of-nodes
returns-then-node_of-nodes g c =
    let test = c.if-node_of-nodes.true in
    let at = c.node_of.ensures in
    let nodes = c.requires.nodes in
    let past = step-past (kinds_of g.M.Mapper.answer g.G.Merger.answer) c.args.self.now c.args.call c.args.event c.args.moment c.in_default.not-Cancel (omega (arith, test, at, nodes)) in
    record {
      after = sym (ap (λ (r : Run g.row.M.Denot g.row.G.Denot). r.state) past);
      grown = quiet-grown c.args.out.now _ c.args.self.now past;
      kept = tt;
    }
