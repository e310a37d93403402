use Rattle.std.proofs.Common.{◌*◌, ◌+◌, ◌++◌, ◌∷◌, [], length, refl, sym, ap, ap₂, subst, ◌∙◌, arith, Some, None, List}
use Rattle.atomic_table.specs.Table.{rest}
use Rattle.rpc_model.specs.Gone.{first_in, range_in}
use Rattle.id_rule.specs.declared.view.View.{View}
use Rattle.id_rule.specs.Changes.{view_with_list, ending_view}
use Rattle.id_rule.specs.Nodes.{head_of}
use Rattle.id_rule.specs.Parts.{AreAll, part_of}
use Rattle.id_rule.proofs.Lists.{first_is, range_is}
use Rattle.id_rule.proofs.Endings.{end_keeps}
use Rattle.id_shared.specs.declared.answers.Posted.{Posted}
use Rattle.id_shared.specs.Draining.{IsError}
use Rattle.id_shared.specs.Lifted.{HasLifted, IsDestroyedFrom, IsLeftOutSince}
use Rattle.id_shared.specs.Standing.{Claim, first_id_of}
use Rattle.id_shared.specs.Views.{errors_of, view_ended}
use Rattle.id_shared.proofs.Tables.{at_seat, table_few, table_sizes}
use Rattle.id_shared.proofs.Taken.{chain_outside, taken_errors}
use Rattle.id_shared.proofs.ids.Ids.destroy_from.Goals as goal

pub put-requires : goal.put-requires
put-requires g c =
    let s = c.args.seat.now in let k = c.hold.inside in
    let l = subst (λ (z : Claim). HasLifted c.args.self.now z s.table_id s.me) (sym c.hold.view_is) c.requires.lifted in
    record { table = l.seat.of_table; empty = l.carried ∙ ap (λ z. (k.slot, None) ∷ z) (sym (ap rest l.carried)) }

pub swap-taken-requires : goal.swap-taken-requires
swap-taken-requires g c =
    let s = c.args.seat.now in let k = c.hold.inside in
    let l = subst (λ (z : Claim). HasLifted c.args.self.now z s.table_id s.me) (sym c.hold.view_is) c.requires.lifted in
    let t = c.self.inside.table.shared in
    let at = at_seat t.table_id s.table_id t.key c.self.inside.sizes c.args.self.now k.slot c.self.view_is c.self.invariant l.seat.of_table l.slot in
    let sizes = table_sizes t.table_id t.key c.self.inside.sizes c.args.self.now c.self.view_is c.self.invariant in
    let put = c.put.ensures.me in let out = ap (λ m. m.1) put in (
      c.put.ensures.same.0 ∙ at.0,
      at.2,
      end_keeps g.T.Tenant.log g.T.Tenant.first_id g.T.Tenant.receipt t.key _ c.put.new.seat.id k.slot c.put.new.seat.me c.pack-new.result k.first k.size c.args.value c.requires.log.0
          (out ∙ ap (λ z. (k.slot, Some c.args.value) ∷ z) (sym (ap rest out))) at.1 (ap (λ m. (part_of m.0 k.slot).hold) put ∙ l.hold)
          (ap (λ m. m.0.taken) put ∙ l.taken) (ap (λ m. m.0.width) put ∙ l.seat.width ∙ sizes.0) (ap (λ m. m.0.total) put ∙ l.seat.total ∙ sizes.1) c.pack-new.ensures.word
          (c.requires.value ∙ ap first_id_of (sym c.hold.view_is))
          (subst (λ (z : Claim × View g.row.T-Entry.Denot). IsLeftOutSince g.T.Tenant.receipt z.1 z.0 (g.T.Tenant.log c.args.value) c.requires.log.0) (λ y. (sym c.hold.view_is y, (sym put y).0))
          c.requires.log.1),
    )

pub drain-requires : goal.drain-requires
drain-requires g c =
    let s = c.args.seat.now in let k = c.hold.inside in
    let l = subst (λ (z : Claim). HasLifted c.args.self.now z s.table_id s.me) (sym c.hold.view_is) c.requires.lifted in
    let put = c.put.ensures.me in let out = ap (λ m. m.1) put in let M = c.put.new.seat.me in let n = c.pack-new.result in
    let told = c.swap-taken.ensures.2 c.args.value (out ∙ ap (λ z. (k.slot, Some c.args.value) ∷ z) (sym (ap rest out))) in let qs = told.0 in
    let size = ap range_in c.pack-new.ensures.word ∙ range_is k.first k.size 4 0 c.hold.invariant.2 (omega arith) (omega arith) in
    let chain = chain_outside g.T.Tenant.receipt s.me.0 M.0 k.slot k.size (range_in n) qs (ap (λ m. m.0.width) put) (ap (λ m. m.0.total) put) size
    (ap (λ m. (part_of m.0 k.slot).got) put) (λ t is. (t, ap (λ m. (part_of m.0 k.slot).turn) put ∙ is, refl)) told.3 in
    let total = l.seat.total in
    let most = table_few c.self.inside.table.shared.table_id c.self.inside.table.shared.key c.self.inside.sizes c.args.self.now c.self.view_is c.self.invariant in
    let left = ap (λ m. m.0.taken) told.5 in let few = chain.few in
    let none_left = ap length c.requires.list.0 in let long = c.args.dropped.now.ok.0 in let deep = c.requires.list.1 in let taken = ap length left in record {
      draining = record {
        of_table = c.swap-taken.ensures.0 ∙ c.put.ensures.same.0 ∙ l.seat.of_table;
        errors = subst (AreAll (IsError c.args.self.now.sizes.nodes (c.args.self.now.sizes.passes * c.args.self.now.sizes.nodes))) (sym left)
            (taken_errors g.T.Tenant.receipt c.args.self.now s.table_id s.me.0 k.slot k.size qs l.seat chain c.hold.invariant.2);
        head = told.2 ∙ ap head_of (sym left);
        few = most;
        fits = omega (arith, none_left, long, deep, taken, few, total);
      };
    }

pub returns-clause-answer : goal.returns-clause-answer
returns-clause-answer g c =
    let s = c.args.seat.now in let k = c.hold.inside in
    let l = subst (λ (z : Claim). HasLifted c.args.self.now z s.table_id s.me) (sym c.hold.view_is) c.requires.lifted in
    let put = c.put.ensures.me in let out = ap (λ m. m.1) put in let M = c.put.new.seat.me in let n = c.pack-new.result in
    let told = c.swap-taken.ensures.2 c.args.value (out ∙ ap (λ z. (k.slot, Some c.args.value) ∷ z) (sym (ap rest out))) in let qs = told.0 in
    let size = ap range_in c.pack-new.ensures.word ∙ range_is k.first k.size 4 0 c.hold.invariant.2 (omega arith) (omega arith) in
    let first = ap first_in c.pack-new.ensures.word ∙ first_is k.first k.size 4 0 c.hold.invariant.1 c.hold.invariant.2 (omega arith) (omega arith) in
    let chain = chain_outside g.T.Tenant.receipt s.me.0 M.0 k.slot k.size (range_in n) qs (ap (λ m. m.0.width) put) (ap (λ m. m.0.total) put) size
    (ap (λ m. (part_of m.0 k.slot).got) put) (λ t is. (t, ap (λ m. (part_of m.0 k.slot).turn) put ∙ is, refl)) told.3 in
    let own : Claim = record { slot = k.slot; first = k.first; size = k.size } in let log = g.T.Tenant.log c.args.value in
    let listed = c.drain.ensures.list ∙ ap₂ (λ (a : List Posted) b. a ++ errors_of b) c.requires.list.0 (ap (λ m. m.0.taken) told.5) in
    let last = c.drain.ensures.me ∙ ap (λ m. (view_with_list m.0 [], m.1)) told.5
    ∙ (λ i. (view_with_list (ending_view (put i).0 k.slot (first i) (first i + size i) log told.1 qs) [], rest (put i).1))
    ∙ ap (λ z. (view_ended s.me.0 own log told.1 qs, z)) (ap rest l.carried) in
    subst (λ (z : Claim). IsDestroyedFrom g.T.Tenant.log g.T.Tenant.receipt z c.args.value s.me c.drain.new.seat.me c.drain.new.list.items) c.hold.view_is (
      told.1,
      subst (λ (z : View g.row.T-Entry.Denot). IsLeftOutSince g.T.Tenant.receipt z own log told.1) (ap (λ m. m.0) put) told.4,
      (qs, chain, listed, last),
    )
