use Rattle.std.proofs.Common.{ap, sym, ◌∙◌, refl}
use Rattle.std.specs.Option.{option_map}
use Rattle.rpc_model.specs.State.{end_of}
use Rattle.call_tree.specs.Running.{kinds_of}
use Rattle.call_tree.proofs.Leaves.{none-end}
use Rattle.call_tree.proofs.Adding.{added-open, added-ended, counts-now, end-now, pushed-is}
use Rattle.call_tree.proofs.nodes.ParNode.add.Goals as goal

pub returns-then-is_some-clause-sound : goal.returns-then-is_some-clause-sound
returns-then-is_some-clause-sound g c =
    added-open c.args.self.now _ c.args.tree c.args.place c.requires.sound refl refl c.in_ok-push.ensures.items c.in_ok-push-2.ensures.items c.requires.place
    (c.requires.waits (sym c.if-is_some.ensures))

pub returns-in_default-clause-sound : goal.returns-in_default-clause-sound
returns-in_default-clause-sound g c =
    let at = c.len-at.ensures ∙ c.args.self.now.kids.ok.0 in
    let tree = pushed-is c.push-2.new.self.items c.args.self.now.kids.items c.args.tree c.index.result.now c.len-at.result c.in_ok-push-2.ensures.items at c.index.ensures in
    let none = sym (ap end_of tree) ∙ sym c.end.ensures ∙ ap (option_map (λ e. e.now)) c.in_default.is in
    added-open c.args.self.now _ c.args.tree c.args.place c.requires.sound refl refl c.in_ok-push.ensures.items c.in_ok-push-2.ensures.items c.requires.place none

pub judge-requires-clause-counted : goal.judge-requires-clause-counted
judge-requires-clause-counted g c =
    let at = c.len-at.ensures ∙ c.args.self.now.kids.ok.0 in
    let tree = pushed-is c.push-2.new.self.items c.args.self.now.kids.items c.args.tree c.index.result.now c.len-at.result c.in_ok-push-2.ensures.items at c.index.ensures in
    let some = sym (ap end_of tree) ∙ sym c.end.ensures ∙ ap (option_map (λ e. e.now)) c.in-Some.is in
    counts-now c.args.self.now c.as_slice.result.now c.args.tree c.len-at.result c.in-Some.end.now c.with-counts.result c.requires.sound
    (c.as_slice.ensures.value ∙ c.in_ok-push-2.ensures.items) at some c.with-counts.ensures

pub returns-clause-sound : goal.returns-clause-sound
returns-clause-sound g c =
    let at = c.len-at.ensures ∙ c.args.self.now.kids.ok.0 in
    let tree = pushed-is c.push-2.new.self.items c.args.self.now.kids.items c.args.tree c.index.result.now c.len-at.result c.in_ok-push-2.ensures.items at c.index.ensures in
    let some = sym (ap end_of tree) ∙ sym c.end.ensures ∙ ap (option_map (λ e. e.now)) c.in-Some.is in
    added-ended c.args.self.now _ c.args.tree c.args.place c.in-Some.end.now c.requires.sound c.with-counts.ensures c.in_ok-over.ensures.open c.in_ok-push.ensures.items
    c.in_ok-push-2.ensures.items c.requires.place some

pub returns-clause-end : goal.returns-clause-end
returns-clause-end g c =
    let at = c.len-at.ensures ∙ c.args.self.now.kids.ok.0 in
    let tree = pushed-is c.push-2.new.self.items c.args.self.now.kids.items c.args.tree c.index.result.now c.len-at.result c.in_ok-push-2.ensures.items at c.index.ensures in
    let some = sym (ap end_of tree) ∙ sym c.end.ensures ∙ ap (option_map (λ e. e.now)) c.in-Some.is in
    end-now (kinds_of g.M.Mapper.answer g.G.Merger.answer) c.args.self.now c.as_slice.result.now c.args.tree c.len-at.result c.in-Some.end.now c.with-counts.result c.list.result.now c.in_ok-over.over
    (none-end c.args.self.now.end c.if-is_some.ensures) (c.as_slice.ensures.value ∙ c.in_ok-push-2.ensures.items) at some c.with-counts.ensures c.list.ensures c.in_ok-over.ensures.end
