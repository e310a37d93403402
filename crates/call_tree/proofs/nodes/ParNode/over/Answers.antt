use Rattle.std.proofs.Common.{arith, ap, sym, subst, List, set, Some}
use Rattle.std.specs.Option.{option_map, is_some}
use Rattle.rpc_model.specs.State.{State, ends_of}
use Rattle.call_tree.specs.Counts.{AreCounts}
use Rattle.call_tree.specs.Shown.{states_of}
use Rattle.call_tree.proofs.Counting.{counted}
use Rattle.call_tree.proofs.Folds.{ends-length}
use Rattle.call_tree.proofs.nodes.ParNode.over.Goals as goal

pub judge-requires-clause-counted : goal.judge-requires-clause-counted
judge-requires-clause-counted g c =
    let p = c.args.self.now in
    let ends = ends_of (states_of p.kids.items) in
    let there = c.requires.there in
    let n = ends-length p.kids.items in
    let fresh = c.requires.fresh (ap (λ o. is_some (option_map (λ e. e.now) o)) c.in-Some.is) in
    let a = counted ends c.args.at c.in-Some.end.now p.counts (omega (arith, n, there)) fresh (record { goods_are = c.requires.sound.goods; bads_are = c.requires.sound.bads }) in
    subst (λ (kids : List (State g.row.M.Denot g.row.G.Denot)). AreCounts c.with-counts.result (set (ends_of (states_of kids)) c.args.at (Some c.in-Some.end.now))) (sym c.as_slice-kids.ensures.value)
    (subst (λ x. AreCounts x (set ends c.args.at (Some c.in-Some.end.now))) (sym c.with-counts.ensures) a)
