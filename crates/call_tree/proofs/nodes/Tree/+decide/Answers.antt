use Rattle.std.proofs.Common.{rules, arith, ap, sym, ◌∙◌, ◌++◌, subst, ℕ, ◌+◌, Option}
use Rattle.std.specs.Option.{option_map}
use Rattle.rpc_model.specs.declared.event.End.{End}
use Rattle.rpc_model.specs.State.{Below, size}
use Rattle.rpc_model.specs.Machine.{node_of, step_at}
use Rattle.call_tree.specs.Brought.{followed, brought_at}
use Rattle.call_tree.specs.Places.{IsAt}
use Rattle.call_tree.specs.Running.{kinds_of}
use Rattle.call_tree.specs.Shown.{states_of}
use Rattle.call_tree.proofs.Parallels.{open-par, par-step, par-sub, fresh-sub, brought-with}
use Rattle.call_tree.proofs.Followed.{try-of, follows, brings_try, rest_from}
use Rattle.call_tree.proofs.Selects.{open-sel, sel-high, sel-step, next-same, brought-pair, both-sent}
use Rattle.call_tree.proofs.Subs.{few-subs}
use Rattle.call_tree.proofs.nodes.Tree.+decide.Goals as goal

pub expire-requires-clause-few : goal.expire-requires-clause-few
expire-requires-clause-few g t c =
    let f = open-par c.self.inside.node c.in-Par.par c.args.self.now c.self.view_is c.self.invariant c.in-Par.is c.if-is_some-2.ensures in
    let n = ap size f.is in
    let kids = few-subs c.in-Par.par.kids.items in
    let few = c.requires.few in
    omega (arith, n, kids, few)

pub over-requires-clause-few : goal.over-requires-clause-few
over-requires-clause-few g t c =
    let f = open-par c.self.inside.node c.in-Par.par c.args.self.now c.self.view_is c.self.invariant c.in-Par.is c.if-is_some-2.ensures in
    let n = ap size f.is in
    let kids = few-subs c.in-Par.par.kids.items in
    let few = c.requires.few in
    omega (arith, n, kids, few)

pub decide-requires-in-Par : goal.decide-requires-in-Par
decide-requires-in-Par g t c κs within =
    let kinds = kinds_of g.M.Mapper.answer g.G.Merger.answer in
    let par = c.in-Par.par in
    let f = open-par c.self.inside.node par c.args.self.now c.self.view_is c.self.invariant c.in-Par.is c.if-is_some-2.ensures in
    let at = subst (λ (to : ℕ). IsAt c.args.node to (states_of par.kids.items) c.sub_at-at.result.0 c.sub_at-at.result.1) c.node_of-in-Par-2.ensures c.sub_at-at.ensures.at in
    let s = par-sub kinds par c.args.self.now c.args.node c.args.event.now c.sub_at-at.result.0 c.sub_at-at.result.1 c.index.result.now f c.requires.high at c.index.ensures in
    let n = ap size f.is in
    let low = s.low in
    let high = s.high in
    let within_it = s.within in
    let late = s.late in
    let few = c.requires.few in
    (omega (arith, c.decreases, n, within_it, late), (search rules, (search rules, (low, (high, (omega (arith, within_it, few, n), (c.requires.early, c.requires.none)))))))

pub over-requires-clause-fresh : goal.over-requires-clause-fresh
over-requires-clause-fresh g t c some =
    fresh-sub c.in-Par.par c.sub_at-at.result.0 c.index.result.now _ (option_map (λ e. e.now) c.as_ref.result) c.sub_at-at.ensures.there c.index.ensures
    (c.as_ref.ensures.value ∙ c.in_ok-risen-in-Par.ensures.end 0 0) some

pub returns-in-Par-clause-end : goal.returns-in-Par-clause-end
returns-in-Par-clause-end g t c call moment =
    let kinds = kinds_of g.M.Mapper.answer g.G.Merger.answer in
    let par = c.in-Par.par in
    let f = open-par c.self.inside.node par c.args.self.now c.self.view_is c.self.invariant c.in-Par.is c.if-is_some-2.ensures in
    let at = subst (λ (to : ℕ). IsAt c.args.node to (states_of par.kids.items) c.sub_at-at.result.0 c.sub_at-at.result.1) c.node_of-in-Par-2.ensures c.sub_at-at.ensures.at in
    let step =
    par-step kinds par c.args.self.now c.args.node c.args.event.now c.sub_at-at.result.0 c.sub_at-at.result.1 c.index.result.now call moment f
    (λ same. c.if-node_of-node-2.false (c.node_of-in-Par.ensures ∙ same)) c.requires.high at c.index.ensures in
    c.in_ok-over-in-Par.ensures ∙ step.rises (option_map (λ e. e.now) c.as_ref.result) (c.as_ref.ensures.value ∙ c.in_ok-risen-in-Par.ensures.end call moment)

pub returns-in-Par-clause-brought : goal.returns-in-Par-clause-brought
returns-in-Par-clause-brought g t c call moment =
    let kinds = kinds_of g.M.Mapper.answer g.G.Merger.answer in
    let par = c.in-Par.par in
    let f = open-par c.self.inside.node par c.args.self.now c.self.view_is c.self.invariant c.in-Par.is c.if-is_some-2.ensures in
    let at = subst (λ (to : ℕ). IsAt c.args.node to (states_of par.kids.items) c.sub_at-at.result.0 c.sub_at-at.result.1) c.node_of-in-Par-2.ensures c.sub_at-at.ensures.at in
    let step =
    par-step kinds par c.args.self.now c.args.node c.args.event.now c.sub_at-at.result.0 c.sub_at-at.result.1 c.index.result.now call moment f
    (λ same. c.if-node_of-node-2.false (c.node_of-in-Par.ensures ∙ same)) c.requires.high at c.index.ensures in
    c.in_ok-push-in-Par.ensures.items
    ∙ brought-with _ (brought_at kinds c.sub_at-at.result.1 c.index.result.now call c.args.event.now moment) _ _ _ (c.in_ok-risen-in-Par.ensures.brought call moment)
    (c.in_ok-risen-in-Par.ensures.end call moment) c.new.ensures.items
    ∙ sym step.brought

pub returns-in-Par-clause-grown : goal.returns-in-Par-clause-grown
returns-in-Par-clause-grown g t c =
    let kinds = kinds_of g.M.Mapper.answer g.G.Merger.answer in
    let par = c.in-Par.par in
    let f = open-par c.self.inside.node par c.args.self.now c.self.view_is c.self.invariant c.in-Par.is c.if-is_some-2.ensures in
    let at = subst (λ (to : ℕ). IsAt c.args.node to (states_of par.kids.items) c.sub_at-at.result.0 c.sub_at-at.result.1) c.node_of-in-Par-2.ensures c.sub_at-at.ensures.at in
    let step =
    par-step kinds par c.args.self.now c.args.node c.args.event.now c.sub_at-at.result.0 c.sub_at-at.result.1 c.index.result.now c.args.call c.args.moment f
    (λ same. c.if-node_of-node-2.false (c.node_of-in-Par.ensures ∙ same)) c.requires.high at c.index.ensures in
    record {
      sent = c.in_ok-risen-in-Par.ensures.grown.sent ∙ ap (λ xs. c.args.out.now.sends.items ++ xs) step.sends;
      set = c.in_ok-risen-in-Par.ensures.grown.set ∙ ap (λ xs. c.args.out.now.marks.items ++ xs) step.marks;
    }

pub decide-requires-in-Sel : goal.decide-requires-in-Sel
decide-requires-in-Sel g t c κs within =
    let kinds = kinds_of g.M.Mapper.answer g.G.Merger.answer in
    let sel = c.in-Sel.sel in
    let f = open-sel c.self.inside.node sel c.args.self.now c.self.view_is c.self.invariant c.in-Sel.is c.if-is_some-3.ensures in
    let at = subst (λ (to : ℕ). IsAt c.args.node to (states_of sel.kids.items) c.try_at-place.result.0 c.try_at-place.result.1) c.node_of-in-Sel-2.ensures c.try_at-place.ensures.at in
    let s =
    try-of kinds c.args.node (node_of c.args.event.now) sel.kids.items c.try_at-place.result.0 c.try_at-place.result.1 c.index-in-Sel.result.now at c.index-in-Sel.ensures
    (sel-high sel c.args.self.now c.args.node (node_of c.args.event.now) f c.requires.high) in
    let n = ap size f.is in
    let low = s.low in
    let high = s.high in
    let within_it = s.within in
    let late = s.late in
    let few = c.requires.few in
    (omega (arith, c.decreases, n, within_it, late), (search rules, (search rules, (low, (high, (omega (arith, within_it, few, n), (c.requires.early, c.requires.none)))))))

pub returns-in-Sel-clause-end : goal.returns-in-Sel-clause-end
returns-in-Sel-clause-end g t c call moment =
    let kinds = kinds_of g.M.Mapper.answer g.G.Merger.answer in
    let sel = c.in-Sel.sel in
    let f = open-sel c.self.inside.node sel c.args.self.now c.self.view_is c.self.invariant c.in-Sel.is c.if-is_some-3.ensures in
    let at = subst (λ (to : ℕ). IsAt c.args.node to (states_of sel.kids.items) c.try_at-place.result.0 c.try_at-place.result.1) c.node_of-in-Sel-2.ensures c.try_at-place.ensures.at in
    let s = c.index-in-Sel.result.now in
    let first = c.try_at-place.result.1 in
    let step =
    sel-step kinds sel c.args.self.now c.args.node c.args.event.now c.try_at-place.result.0 first s call moment f (λ same. c.if-node_of-node-3.false (c.node_of-in-Sel.ensures ∙ same))
    c.requires.high at c.index-in-Sel.ensures in
    let rose = c.as_ref-in-Sel.ensures.value ∙ c.in_ok-brought-in-Sel.ensures.end call moment in
    c.in_ok-up-in-Sel.ensures.end (first + size s) call moment
    ∙ ap (λ (o : Option End). (follows kinds sel.kids.items c.try_at-place.result.0 (first + size s) call sel.request moment o).end) rose ∙ step.rises

pub returns-in-Sel-clause-brought : goal.returns-in-Sel-clause-brought
returns-in-Sel-clause-brought g t c call moment =
    let kinds = kinds_of g.M.Mapper.answer g.G.Merger.answer in
    let sel = c.in-Sel.sel in
    let f = open-sel c.self.inside.node sel c.args.self.now c.self.view_is c.self.invariant c.in-Sel.is c.if-is_some-3.ensures in
    let at = subst (λ (to : ℕ). IsAt c.args.node to (states_of sel.kids.items) c.try_at-place.result.0 c.try_at-place.result.1) c.node_of-in-Sel-2.ensures c.try_at-place.ensures.at in
    let s = c.index-in-Sel.result.now in
    let first = c.try_at-place.result.1 in
    let step =
    sel-step kinds sel c.args.self.now c.args.node c.args.event.now c.try_at-place.result.0 first s call moment f (λ same. c.if-node_of-node-3.false (c.node_of-in-Sel.ensures ∙ same))
    c.requires.high at c.index-in-Sel.ensures in
    let rose = c.as_ref-in-Sel.ensures.value ∙ c.in_ok-brought-in-Sel.ensures.end call moment in
    c.in_ok-push-in-Sel.ensures.items
    ∙ brought-pair _ (brought_at kinds first s call c.args.event.now moment) _ _ _ _ (c.in_ok-brought-in-Sel.ensures.brought call moment) (c.in_ok-brought-in-Sel.ensures.end call moment)
    (c.in_ok-up-in-Sel.ensures.started (first + size s) call moment
    ∙ ap (λ (o : Option End). (brings_try kinds sel.kids.items c.try_at-place.result.0 (first + size s) call sel.request moment o).started) rose)
    ∙ sym step.brought

pub returns-in-Sel-clause-grown : goal.returns-in-Sel-clause-grown
returns-in-Sel-clause-grown g t c =
    let kinds = kinds_of g.M.Mapper.answer g.G.Merger.answer in
    let sel = c.in-Sel.sel in
    let f = open-sel c.self.inside.node sel c.args.self.now c.self.view_is c.self.invariant c.in-Sel.is c.if-is_some-3.ensures in
    let at = subst (λ (to : ℕ). IsAt c.args.node to (states_of sel.kids.items) c.try_at-place.result.0 c.try_at-place.result.1) c.node_of-in-Sel-2.ensures c.try_at-place.ensures.at in
    let s = c.index-in-Sel.result.now in
    let first = c.try_at-place.result.1 in
    let step =
    sel-step kinds sel c.args.self.now c.args.node c.args.event.now c.try_at-place.result.0 first s c.args.call c.args.moment f
    (λ same. c.if-node_of-node-3.false (c.node_of-in-Sel.ensures ∙ same)) c.requires.high at c.index-in-Sel.ensures in
    let rose = c.as_ref-in-Sel.ensures.value ∙ c.in_ok-brought-in-Sel.ensures.end c.args.call c.args.moment in
    let i = c.try_at-place.result.0 in
    let rest = rest_from kinds sel.kids.items i in
    let run = step_at kinds first s c.args.call c.args.event.now c.args.moment in
    let next =
    next-same kinds sel c.args.node (node_of c.args.event.now) i first c.number_behind-next.result s c.args.call sel.request c.args.moment f.sound at c.index-in-Sel.ensures
    c.number_behind-next.ensures.0 in
    let followed_is =
    ap (λ (b : Below g.row.M.Denot g.row.G.Denot). followed (option_map (λ e. e.now) c.as_ref-in-Sel.result) rest b) next
    ∙ ap (λ (o : Option End). follows kinds sel.kids.items i (first + size s) c.args.call sel.request c.args.moment o) rose in
    record {
      sent = both-sent _ _ _ _ _ _ _ c.in_ok-up-in-Sel.ensures.grown.sent c.in_ok-brought-in-Sel.ensures.grown.sent (ap (λ (b : Below g.row.M.Denot g.row.G.Denot). b.sends) followed_is) step.sends;
      set = both-sent _ _ _ _ _ _ _ c.in_ok-up-in-Sel.ensures.grown.set c.in_ok-brought-in-Sel.ensures.grown.set (ap (λ (b : Below g.row.M.Denot g.row.G.Denot). b.marks) followed_is) step.marks;
    }
