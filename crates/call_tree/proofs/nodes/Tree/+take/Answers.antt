use Rattle.std.proofs.Common.{rules, arith, ap, sym, ◌∙◌, ◌+◌, suc, ◌≡◌, get_or, set, subst, refl, ℕ}
use Rattle.rpc_model.specs.State.{par_state, sel_state, size, end_of}
use Rattle.rpc_model.specs.Machine.{node_of, new_end, step_at}
use Rattle.call_tree.specs.Counts.{limits_of, with_some}
use Rattle.call_tree.specs.Brought.{put_from}
use Rattle.call_tree.specs.Places.{firsts, IsAt}
use Rattle.std.proofs.Math.ListN.{length-set}
use Rattle.call_tree.specs.Running.{kinds_of}
use Rattle.call_tree.specs.Shown.{states_of}
use Rattle.call_tree.proofs.Counting.{limits-some}
use Rattle.call_tree.proofs.Parallels.{open-par, par-step, par-sub, par-kept, some-last, below-is, get-any}
use Rattle.call_tree.proofs.Followed.{try-of}
use Rattle.call_tree.proofs.Selects.{open-sel, sel-high, sel-step}
use Rattle.call_tree.proofs.Leaves.{none-end, leaf-decided}
use Rattle.call_tree.proofs.nodes.Tree.+take.Goals as goal

pub take-requires-clause-decided : goal.take-requires-clause-decided
take-requires-clause-decided g t c =
    leaf-decided (kinds_of g.M.Mapper.answer g.G.Merger.answer) c.self.inside.node c.in-Leaf.leaf c.args.self.now c.args.node c.args.event.now c.args.end 0 0
    c.self.view_is c.in-Leaf.is (none-end c.in-Leaf.leaf.end c.if-is_some.ensures) (sym c.node_of.ensures ∙ c.if-node_of-node.false) (c.requires.decided 0 0)

pub pop_below-below-requires : goal.pop_below-below-requires
pop_below-below-requires g t c =
    let kinds = kinds_of g.M.Mapper.answer g.G.Merger.answer in
    let par = c.in-Par.par in
    let f = open-par c.self.inside.node par c.args.self.now c.self.view_is c.self.invariant c.in-Par.is c.if-is_some-2.ensures in
    let at = subst (λ (to : ℕ). IsAt c.args.node to (states_of par.kids.items) c.sub_at-at.result.0 c.sub_at-at.result.1) c.node_of-in-Par-2.ensures c.sub_at-at.ensures.at in
    let s = get_or par.kids.items c.sub_at-at.result.0 c.args.self.now in
    let step =
    par-step kinds par c.args.self.now c.args.node c.args.event.now c.sub_at-at.result.0 c.sub_at-at.result.1 s 0 0 f (λ same. c.if-node_of-node-2.false (c.node_of-in-Par.ensures ∙ same))
    c.requires.high at (get-any par.kids.items c.sub_at-at.result.0 c.args.self.now s c.sub_at-at.ensures.there) in
    record { some = some-last c.args.belows.now.items _ _ (c.requires.brought 0 0 ∙ step.brought) }

pub take-requires-in-Par : goal.take-requires-in-Par
take-requires-in-Par g t c κs within =
    let kinds = kinds_of g.M.Mapper.answer g.G.Merger.answer in
    let par = c.in-Par.par in
    let f = open-par c.self.inside.node par c.args.self.now c.self.view_is c.self.invariant c.in-Par.is c.if-is_some-2.ensures in
    let at = subst (λ (to : ℕ). IsAt c.args.node to (states_of par.kids.items) c.sub_at-at.result.0 c.sub_at-at.result.1) c.node_of-in-Par-2.ensures c.sub_at-at.ensures.at in
    let sub = par-sub kinds par c.args.self.now c.args.node c.args.event.now c.sub_at-at.result.0 c.sub_at-at.result.1 c.index_mut.result.now f c.requires.high at c.index_mut.ensures.value in
    let step =
    λ (call moment : ℕ). par-step kinds par c.args.self.now c.args.node c.args.event.now c.sub_at-at.result.0 c.sub_at-at.result.1 c.index_mut.result.now call moment f
    (λ same. c.if-node_of-node-2.false (c.node_of-in-Par.ensures ∙ same)) c.requires.high at c.index_mut.ensures.value in
    let below =
    λ (call moment : ℕ). below-is c.args.belows.now.items c.pop_below-below.new.belows.items _ c.pop_below-below.result _ (c.requires.brought call moment ∙ (step call moment).brought)
    c.pop_below-below.ensures in
    let n = ap size f.is in
    let late = sub.late in
    let within_it = sub.within in
    let few = c.requires.few in (
      omega (arith, c.decreases, n, within_it, late),
      (
        search rules,
        (search rules, (sub.low, (sub.high, (omega (arith, within_it, few, n), (λ call moment. ap (λ b. b.end) (c.below.view_is ∙ (below call moment).1), λ call moment. (below call moment).0))))),
      ),
    )

pub invariant_of-self-in-Par : goal.invariant_of-self-in-Par
invariant_of-self-in-Par g t c =
    let kinds = kinds_of g.M.Mapper.answer g.G.Merger.answer in
    let par = c.in-Par.par in
    let f = open-par c.self.inside.node par c.args.self.now c.self.view_is c.self.invariant c.in-Par.is c.if-is_some-2.ensures in
    let at = subst (λ (to : ℕ). IsAt c.args.node to (states_of par.kids.items) c.sub_at-at.result.0 c.sub_at-at.result.1) c.node_of-in-Par-2.ensures c.sub_at-at.ensures.at in
    let step =
    par-step kinds par c.args.self.now c.args.node c.args.event.now c.sub_at-at.result.0 c.sub_at-at.result.1 c.index_mut.result.now 0 0 f
    (λ same. c.if-node_of-node-2.false (c.node_of-in-Par.ensures ∙ same)) c.requires.high at c.index_mut.ensures.value in
    let below = below-is c.args.belows.now.items c.pop_below-below.new.belows.items _ c.pop_below-below.result _ (c.requires.brought 0 0 ∙ step.brought) c.pop_below-below.ensures in
    let up : c.below.inside.end ≡ new_end (end_of c.index_mut.result.now) (end_of (step_at kinds c.sub_at-at.result.1 c.index_mut.result.now 0 c.args.event.now 0).state) =
    ap (λ b. b.end) (c.below.view_is ∙ below.1) in
    par-kept kinds par _ c.sub_at-at.result.0 c.sub_at-at.result.1 c.index_mut.result.now c.take-in-Par.new.self 0 c.args.event.now 0 c.below.inside.end f.sound f.none
    c.sub_at-at.ensures.there c.index_mut.ensures.value (c.take-in-Par.ensures.after 0 0) up
    (c.with_some-par.ensures ∙ ap (with_some par.counts) c.as_ref.ensures.value) (c.requires.decided 0 0 ∙ sym (step.rises c.below.inside.end up)) refl refl

pub returns-in-Par : goal.returns-in-Par
returns-in-Par g t c = record {
  after = λ call moment.
      let kinds = kinds_of g.M.Mapper.answer g.G.Merger.answer in
      let par = c.in-Par.par in
      let f = open-par c.self.inside.node par c.args.self.now c.self.view_is c.self.invariant c.in-Par.is c.if-is_some-2.ensures in
      let at = subst (λ (to : ℕ). IsAt c.args.node to (states_of par.kids.items) c.sub_at-at.result.0 c.sub_at-at.result.1) c.node_of-in-Par-2.ensures c.sub_at-at.ensures.at in
      let step =
      par-step kinds par c.args.self.now c.args.node c.args.event.now c.sub_at-at.result.0 c.sub_at-at.result.1 c.index_mut.result.now call moment f
      (λ same. c.if-node_of-node-2.false (c.node_of-in-Par.ensures ∙ same)) c.requires.high at c.index_mut.ensures.value in
      let lim : limits_of c.with_some-par.result ≡ limits_of par.counts = ap limits_of c.with_some-par.ensures ∙ limits-some par.counts _ in
      ap (λ m. par_state (record { limits = m; merges = par.merges; end = c.args.end }) (states_of (set par.kids.items c.sub_at-at.result.0 c.take-in-Par.new.self))) lim
      ∙ step.after c.take-in-Par.new.self c.args.end (c.take-in-Par.ensures.after call moment) (c.requires.decided call moment);
}

pub pop_below-last-requires : goal.pop_below-last-requires
pop_below-last-requires g t c =
    let kinds = kinds_of g.M.Mapper.answer g.G.Merger.answer in
    let sel = c.in-Sel.sel in
    let f = open-sel c.self.inside.node sel c.args.self.now c.self.view_is c.self.invariant c.in-Sel.is c.if-is_some-3.ensures in
    let at = subst (λ (to : ℕ). IsAt c.args.node to (states_of sel.kids.items) c.try_at-place.result.0 c.try_at-place.result.1) c.node_of-in-Sel-2.ensures c.try_at-place.ensures.at in
    let i = c.try_at-place.result.0 in
    let first = c.try_at-place.result.1 in
    let differ = λ (same : node_of c.args.event.now ≡ c.args.node). c.if-node_of-node-3.false (c.node_of-in-Sel.ensures ∙ same) in
    let s = get_or sel.kids.items i c.args.self.now in
    let step = sel-step kinds sel c.args.self.now c.args.node c.args.event.now i first s 0 0 f differ c.requires.high at (get-any sel.kids.items i c.args.self.now s c.try_at-place.ensures.there) in
    record { some = some-last c.args.belows.now.items _ _ (c.requires.brought 0 0 ∙ step.brought) }

pub take-requires-in-Sel : goal.take-requires-in-Sel
take-requires-in-Sel g t c κs within =
    let kinds = kinds_of g.M.Mapper.answer g.G.Merger.answer in
    let sel = c.in-Sel.sel in
    let f = open-sel c.self.inside.node sel c.args.self.now c.self.view_is c.self.invariant c.in-Sel.is c.if-is_some-3.ensures in
    let at = subst (λ (to : ℕ). IsAt c.args.node to (states_of sel.kids.items) c.try_at-place.result.0 c.try_at-place.result.1) c.node_of-in-Sel-2.ensures c.try_at-place.ensures.at in
    let i = c.try_at-place.result.0 in
    let first = c.try_at-place.result.1 in
    let differ = λ (same : node_of c.args.event.now ≡ c.args.node). c.if-node_of-node-3.false (c.node_of-in-Sel.ensures ∙ same) in
    let s = c.index_mut-in-Sel.result.now in
    let steps = λ (call moment : ℕ). sel-step kinds sel c.args.self.now c.args.node c.args.event.now i first s call moment f differ c.requires.high at c.index_mut-in-Sel.ensures.value in
    let lasts =
    λ (call moment : ℕ). below-is c.args.belows.now.items c.pop_below-last.new.belows.items _ c.pop_below-last.result _ (c.requires.brought call moment ∙ (steps call moment).brought)
    c.pop_below-last.ensures in
    let sub =
    try-of kinds c.args.node (node_of c.args.event.now) sel.kids.items i first s at c.index_mut-in-Sel.ensures.value
    (sel-high sel c.args.self.now c.args.node (node_of c.args.event.now) f c.requires.high) in
    let n = ap size f.is in
    let late = sub.late in
    let within_it = sub.within in
    let few = c.requires.few in (
      omega (arith, c.decreases, n, within_it, late),
      (
        search rules,
        (search rules, (sub.low, (sub.high, (omega (arith, within_it, few, n), (λ call moment. ap (λ b. b.end) (c.last.view_is ∙ (lasts call moment).1), λ call moment. (lasts call moment).0))))),
      ),
    )

pub put-requires : goal.put-requires
put-requires g t c =
    let kinds = kinds_of g.M.Mapper.answer g.G.Merger.answer in
    let sel = c.in-Sel.sel in
    let f = open-sel c.self.inside.node sel c.args.self.now c.self.view_is c.self.invariant c.in-Sel.is c.if-is_some-3.ensures in
    let at = subst (λ (to : ℕ). IsAt c.args.node to (states_of sel.kids.items) c.try_at-place.result.0 c.try_at-place.result.1) c.node_of-in-Sel-2.ensures c.try_at-place.ensures.at in
    let i = c.try_at-place.result.0 in
    let first = c.try_at-place.result.1 in
    let differ = λ (same : node_of c.args.event.now ≡ c.args.node). c.if-node_of-node-3.false (c.node_of-in-Sel.ensures ∙ same) in
    let s = c.index_mut-in-Sel.result.now in
    let steps = λ (call moment : ℕ). sel-step kinds sel c.args.self.now c.args.node c.args.event.now i first s call moment f differ c.requires.high at c.index_mut-in-Sel.ensures.value in
    let lasts =
    λ (call moment : ℕ). below-is c.args.belows.now.items c.pop_below-last.new.belows.items _ c.pop_below-last.result _ (c.requires.brought call moment ∙ (steps call moment).brought)
    c.pop_below-last.ensures in
    let ts = ap (λ b. b.started) (c.last.view_is ∙ (lasts 0 0).1) in
    let fits = (steps 0 0).fits c.last.inside.started.items ts in
    let n = length-set sel.kids.items i c.take-in-Sel.new.self in
    record { there = omega (arith, fits, n) }

pub invariant_of-self-in-Sel : goal.invariant_of-self-in-Sel
invariant_of-self-in-Sel g t c =
    let kinds = kinds_of g.M.Mapper.answer g.G.Merger.answer in
    let sel = c.in-Sel.sel in
    let f = open-sel c.self.inside.node sel c.args.self.now c.self.view_is c.self.invariant c.in-Sel.is c.if-is_some-3.ensures in
    let at = subst (λ (to : ℕ). IsAt c.args.node to (states_of sel.kids.items) c.try_at-place.result.0 c.try_at-place.result.1) c.node_of-in-Sel-2.ensures c.try_at-place.ensures.at in
    let i = c.try_at-place.result.0 in
    let first = c.try_at-place.result.1 in
    let differ = λ (same : node_of c.args.event.now ≡ c.args.node). c.if-node_of-node-3.false (c.node_of-in-Sel.ensures ∙ same) in
    let s = c.index_mut-in-Sel.result.now in
    let steps = λ (call moment : ℕ). sel-step kinds sel c.args.self.now c.args.node c.args.event.now i first s call moment f differ c.requires.high at c.index_mut-in-Sel.ensures.value in
    let lasts =
    λ (call moment : ℕ). below-is c.args.belows.now.items c.pop_below-last.new.belows.items _ c.pop_below-last.result _ (c.requires.brought call moment ∙ (steps call moment).brought)
    c.pop_below-last.ensures in
    let one : i + 1 ≡ suc i = omega arith in
    let ts = λ (call moment : ℕ). ap (λ b. b.started) (c.last.view_is ∙ (lasts call moment).1) in
    let put_is = c.put.ensures ∙ ap (λ k. put_from k c.last.inside.started.items (set sel.kids.items i c.take-in-Sel.new.self)) one in
    record {
      places = f.sound.places
          ∙ sym (ap (λ ss. firsts 1 (states_of ss)) put_is ∙ (steps 0 0).kept c.take-in-Sel.new.self c.last.inside.started.items (c.take-in-Sel.ensures.after 0 0) (ts 0 0));
    }

pub returns-in-Sel : goal.returns-in-Sel
returns-in-Sel g t c =
    let kinds = kinds_of g.M.Mapper.answer g.G.Merger.answer in
    let sel = c.in-Sel.sel in
    let f = open-sel c.self.inside.node sel c.args.self.now c.self.view_is c.self.invariant c.in-Sel.is c.if-is_some-3.ensures in
    let at = subst (λ (to : ℕ). IsAt c.args.node to (states_of sel.kids.items) c.try_at-place.result.0 c.try_at-place.result.1) c.node_of-in-Sel-2.ensures c.try_at-place.ensures.at in
    let i = c.try_at-place.result.0 in
    let first = c.try_at-place.result.1 in
    let differ = λ (same : node_of c.args.event.now ≡ c.args.node). c.if-node_of-node-3.false (c.node_of-in-Sel.ensures ∙ same) in
    let s = c.index_mut-in-Sel.result.now in
    let steps = λ (call moment : ℕ). sel-step kinds sel c.args.self.now c.args.node c.args.event.now i first s call moment f differ c.requires.high at c.index_mut-in-Sel.ensures.value in
    let lasts =
    λ (call moment : ℕ). below-is c.args.belows.now.items c.pop_below-last.new.belows.items _ c.pop_below-last.result _ (c.requires.brought call moment ∙ (steps call moment).brought)
    c.pop_below-last.ensures in
    let one : i + 1 ≡ suc i = omega arith in
    let ts = λ (call moment : ℕ). ap (λ b. b.started) (c.last.view_is ∙ (lasts call moment).1) in
    let put_is = c.put.ensures ∙ ap (λ k. put_from k c.last.inside.started.items (set sel.kids.items i c.take-in-Sel.new.self)) one in
    record {
      after = λ call moment.
          ap (λ ss. sel_state (record { request = sel.request; end = c.args.end }) (states_of ss)) put_is
          ∙ (steps call moment).after c.take-in-Sel.new.self c.last.inside.started.items c.args.end (c.take-in-Sel.ensures.after call moment) (ts call moment) (c.requires.decided call moment);
    }
