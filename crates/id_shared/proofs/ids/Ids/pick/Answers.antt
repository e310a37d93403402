use Rattle.std.proofs.Common.{◌+◌, ◌*◌, ◌<◌, ◌≤◌, ℕ, List, sym, ap, subst, arith, ◌∙◌}
use Rattle.id_rule.specs.Nodes.{pass_of_node}
use Rattle.id_rule.specs.Parts.{HasNumber}
use Rattle.id_shared.proofs.Picks.{own_node, seeks_more, seeks_found, seeks_empty, seeks_numbers}
use Rattle.id_shared.proofs.Tables.{table_few}
use Rattle.id_shared.proofs.ids.Ids.pick.Goals as goal

pub pick_one-word-requires : goal.pick_one-word-requires
pick_one-word-requires g c =
    let ids = c.args.self.now in let l = c.loop-count in let was = l.invariant.0 in let look = c.requires.looking in
    let nodes = ap (λ z. z.sizes.nodes) c.self.view_is in let v = c.args.seat.now.me.0 in
    let less = subst (λ z. l.count < z) nodes c.loop-count-test.true in
    let is = ap (λ z. c.args.number * z + l.count + 1) nodes in
    let own = own_node ids.sizes.passes ids.sizes.nodes c.args.number l.count look.below less in record {
      picking = record {
        of_table = l.invariant.1 ∙ look.of_table;
        one = omega arith;
        low = subst (λ z. z ≤ ids.sizes.passes * ids.sizes.nodes) (sym is) own.0;
        few = table_few c.self.inside.table.shared.table_id c.self.inside.table.shared.key c.self.inside.sizes ids c.self.view_is c.self.invariant;
        mine = subst (λ (z : ℕ × List ℕ). HasNumber z.0 z.1)
            (λ y. (sym (ap (pass_of_node ids.sizes.nodes) is ∙ own.1) y, sym (seeks_numbers ids c.args.number l.count v l.seat.me.0 l.words.items was) y)) look.mine;
        empty = seeks_empty ids c.args.number l.count v l.seat.me.0 l.words.items was look.empty;
      };
    }

pub returns-then-word-eq0-clause-picked : goal.returns-then-word-eq0-clause-picked
returns-then-word-eq0-clause-picked g c =
    let ids = c.args.self.now in let l = c.loop-count in let was = l.invariant.0 in let look = c.requires.looking in
    let nodes = ap (λ z. z.sizes.nodes) c.self.view_is in let v = c.args.seat.now.me.0 in
    let less = subst (λ z. l.count < z) nodes c.loop-count-test.true in
    let is = ap (λ z. c.args.number * z + l.count + 1) nodes in
    seeks_found ids c.args.number l.count _ c.pick_one-word.result v l.seat.me.0 c.pick_one-word.new.seat.me.0 l.words.items c.push_reserved.new.self.items was less look.below is
    c.pick_one-word.ensures.picked c.if-word-eq0.true c.push_reserved.ensures.items

pub loop-count-preserved : goal.loop-count-preserved
loop-count-preserved g c =
    let ids = c.args.self.now in let l = c.loop-count in let was = l.invariant.0 in let look = c.requires.looking in
    let nodes = ap (λ z. z.sizes.nodes) c.self.view_is in let v = c.args.seat.now.me.0 in
    let less = subst (λ z. l.count < z) nodes c.loop-count-test.true in
    let is = ap (λ z. c.args.number * z + l.count + 1) nodes in
    let e = c.pick_one-word.ensures.same in (
      seeks_more ids c.args.number l.count _ c.pick_one-word.result v l.seat.me.0 c.pick_one-word.new.seat.me.0 l.words.items c.push_reserved.new.self.items was less is
          c.pick_one-word.ensures.picked c.if-word-eq0.false c.push_reserved.ensures.items,
      e.0 ∙ l.invariant.1,
      e.1 ∙ l.invariant.2,
      e.2 ∙ l.invariant.3,
      c.push_reserved.ensures.capacity ∙ l.invariant.4,
    )
