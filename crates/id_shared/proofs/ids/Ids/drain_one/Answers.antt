use Rattle.std.proofs.Common.{◌≡◌, ◌∷◌, ◌++◌, [], ◌+◌, ◌*◌, ◌≤◌, sym, ap, subst, arith, ◌∙◌}
use Rattle.id_rule.specs.Changes.{view_with_list}
use Rattle.id_rule.specs.Nodes.{word_at, pass_of_node}
use Rattle.id_rule.proofs.Owning.{read_keeps, free_keeps}
use Rattle.id_shared.specs.declared.answers.Posted.{Posted}
use Rattle.id_shared.proofs.Draining.{word_read, head_fits, first_taken, at_node}
use Rattle.id_shared.proofs.ids.Ids.drain_one.Goals as goal

pub place_of-place-requires : goal.place_of-place-requires
place_of-place-requires g c =
    let s = c.args.seat.now in let few = c.requires.draining.few in
    let f = first_taken c.args.self.now s.table_id s.me c.args.node _ _ c.requires.draining c.requires.node in
    let low = f.1.3.1 in let is = f.1.2 in
    record { node = (c.requires.node, omega (arith, few, low, is)) }

pub load-word-requires : goal.load-word-requires
load-word-requires g c =
    let t = c.self.inside.table.shared in let s = c.args.seat.now in
    let f = first_taken c.args.self.now s.table_id s.me c.args.node _ _ c.requires.draining c.requires.node in
    let at = at_node t.table_id s.table_id t.key c.self.inside.sizes c.args.self.now c.args.node c.self.view_is c.self.invariant c.requires.draining.of_table c.requires.node
    (subst (λ z. z ≤ c.args.self.now.sizes.passes * c.args.self.now.sizes.nodes) f.1.2 f.1.3.1) in
    let place = c.place_of-place.ensures.place in let low = at.1 in
    (at.0, omega (arith, place, low), read_keeps g.T.Tenant.log g.T.Tenant.first_id g.T.Tenant.receipt t.key _ s.id c.place_of-place.result s.me)

pub load-number-requires : goal.load-number-requires
load-number-requires g c =
    let t = c.self.inside.table.shared in let s = c.args.seat.now in
    let f = first_taken c.args.self.now s.table_id s.me c.args.node _ _ c.requires.draining c.requires.node in
    let at = at_node t.table_id s.table_id t.key c.self.inside.sizes c.args.self.now c.args.node c.self.view_is c.self.invariant c.requires.draining.of_table c.requires.node
    (subst (λ z. z ≤ c.args.self.now.sizes.passes * c.args.self.now.sizes.nodes) f.1.2 f.1.3.1) in
    let place = c.place_of-place.ensures.place in let low = at.1 in let w = c.load-word.new.seat in
    (c.load-word.ensures.0 ∙ at.0, omega (arith, place, low), read_keeps g.T.Tenant.log g.T.Tenant.first_id g.T.Tenant.receipt t.key _ w.id (c.place_of-place.result + 1) w.me)

pub store-requires : goal.store-requires
store-requires g c =
    let t = c.self.inside.table.shared in let s = c.args.seat.now in
    let f = first_taken c.args.self.now s.table_id s.me c.args.node _ _ c.requires.draining c.requires.node in
    let at = at_node t.table_id s.table_id t.key c.self.inside.sizes c.args.self.now c.args.node c.self.view_is c.self.invariant c.requires.draining.of_table c.requires.node
    (subst (λ z. z ≤ c.args.self.now.sizes.passes * c.args.self.now.sizes.nodes) f.1.2 f.1.3.1) in
    let place = c.place_of-place.ensures.place in let low = at.1 in let w = c.load-number.new.seat in
    let me = c.load-number.ensures.2.0 ∙ c.load-word.ensures.2.0 in (
      c.load-number.ensures.0 ∙ c.load-word.ensures.0 ∙ at.0,
      omega (arith, place, low),
      free_keeps g.T.Tenant.log g.T.Tenant.first_id g.T.Tenant.receipt t.key _ w.id c.place_of-place.result w.me f.0 f.1.0 (ap (λ m. m.0.taken) me ∙ f.1.1)
          (place ∙ ap (λ z. word_at z c.args.node) at.2 ∙ ap (word_at t.key.slots) (sym f.1.2)),
    )

pub returns-clause-drained : goal.returns-clause-drained
returns-clause-drained g c =
    let t = c.self.inside.table.shared in let s = c.args.seat.now in
    let f = first_taken c.args.self.now s.table_id s.me c.args.node _ _ c.requires.draining c.requires.node in
    let at = at_node t.table_id s.table_id t.key c.self.inside.sizes c.args.self.now c.args.node c.self.view_is c.self.invariant c.requires.draining.of_table c.requires.node
    (subst (λ z. z ≤ c.args.self.now.sizes.passes * c.args.self.now.sizes.nodes) f.1.2 f.1.3.1) in
    let q = f.0 in let qs = f.1.0 in
    let place : c.place_of-place.result ≡ word_at t.table_id.slots q.node = c.place_of-place.ensures.place ∙ ap (λ z. word_at z c.args.node) at.3 ∙ ap (word_at t.table_id.slots) (sym f.1.2) in
    let me = c.load-number.ensures.2.0 ∙ c.load-word.ensures.2.0 in
    let word = (c.load-word.ensures.2.1 q qs f.1.1).0 place in
    let number = (c.load-number.ensures.2.1 q qs (ap (λ m. m.0.taken) c.load-word.ensures.2.0 ∙ f.1.1)).1 (ap (λ z. z + 1) place) in
    let next = head_fits c.args.self.now.sizes.nodes (c.args.self.now.sizes.passes * c.args.self.now.sizes.nodes) qs f.1.4 at.5 in
    let r = word_read c.load-word.result _ q.offset q.code word next f.1.3.3 f.1.3.4 in
    let home = f.1.3.2 ∙ ap (pass_of_node c.args.self.now.sizes.nodes) f.1.2 ∙ ap (λ z. pass_of_node z.sizes.nodes c.args.node) (sym c.self.view_is) in (
      q,
      (
        qs,
        f.1.1,
        c.store.ensures.2 q qs (ap (λ m. m.0.taken) me ∙ f.1.1) ∙ ap (λ m. (view_with_list m.0 qs, m.1)) me,
        c.push_reserved.ensures.items ∙ ap (λ (e : Posted). c.args.list.now.items ++ e ∷ []) (λ y. record {
          offset = r.0 y;
          code = r.1 y;
          receipt = record { pass = sym home y; number = number y };
        }),
        r.2,
      ),
    )
