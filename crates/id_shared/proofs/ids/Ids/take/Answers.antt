use Rattle.std.proofs.Common.{◌≡◌, ◌*◌, ◌<◌, ◌++◌, [], length, sym, ap, subst, arith, ◌∙◌, Some}
use Rattle.std.specs.Int.Bits.{bit_and}
use Rattle.id_rule.specs.Changes.{view_with_list}
use Rattle.id_rule.specs.Nodes.{head_of}
use Rattle.id_rule.specs.Parts.{AreAll, part_of}
use Rattle.id_rule.proofs.Taking.{take_all_keeps}
use Rattle.id_shared.specs.Draining.{IsError, HasTakenErrors}
use Rattle.id_shared.specs.Standing.{Claim}
use Rattle.id_shared.specs.Views.{errors_of}
use Rattle.id_shared.proofs.Tables.{at_seat, table_few, table_sizes}
use Rattle.id_shared.proofs.Taken.{head_off, taken_errors, sized_chain}
use Rattle.id_shared.proofs.ids.Ids.take.Goals as goal

pub fetch_and-word-requires : goal.fetch_and-word-requires
fetch_and-word-requires g c =
    let t = c.self.inside.table.shared in let s = c.args.seat.now in let k = c.hold.inside in
    let slot : k.slot ≡ c.args.hold.now.slot = ap (λ (z : Claim). z.slot) c.hold.view_is in
    let has : (part_of s.me.0 k.slot).hold ≡ Some (k.first, k.size) = subst (λ (z : Claim). (part_of s.me.0 z.slot).hold ≡ Some (z.first, z.size)) (sym c.hold.view_is) c.requires.hold in
    let at = at_seat t.table_id s.table_id t.key c.self.inside.sizes c.args.self.now k.slot c.self.view_is c.self.invariant c.requires.seat.of_table
    (subst (λ (z : Claim). z.slot < s.table_id.slots) (sym c.hold.view_is) c.requires.slot) in
    let sizes = table_sizes t.table_id t.key c.self.inside.sizes c.args.self.now c.self.view_is c.self.invariant in (
      at.0,
      at.2,
      take_all_keeps g.T.Tenant.log g.T.Tenant.first_id g.T.Tenant.receipt t.key _ s.id k.slot s.me (λ n. bit_and n 18446744073709486080) 18446744073709486080 k.first k.size at.1 has
          c.requires.taken (c.requires.seat.width ∙ sizes.0) (c.requires.seat.total ∙ sizes.1) (λ h less. head_off k.first k.size h c.hold.invariant.1 c.hold.invariant.2 less),
    )

pub drain-requires : goal.drain-requires
drain-requires g c =
    let s = c.args.seat.now in let k = c.hold.inside in
    let take = c.fetch_and-word.ensures.2 in let qs = take.0 in
    let left = ap (λ m. m.0.taken) take.1 in
    let has : (part_of s.me.0 k.slot).hold ≡ Some (k.first, k.size) = subst (λ (z : Claim). (part_of s.me.0 z.slot).hold ≡ Some (z.first, z.size)) (sym c.hold.view_is) c.requires.hold in
    let chain = sized_chain g.T.Tenant.receipt s.me.0 k.slot k.first k.size qs has take.3 in
    let few = chain.few in let total = c.requires.seat.total in let room = c.requires.room in let long = ap length left in record {
      draining = record {
        of_table = c.fetch_and-word.ensures.0 ∙ c.requires.seat.of_table;
        errors = subst (AreAll (IsError c.args.self.now.sizes.nodes (c.args.self.now.sizes.passes * c.args.self.now.sizes.nodes))) (sym left)
            (taken_errors g.T.Tenant.receipt c.args.self.now s.table_id s.me.0 k.slot k.size qs c.requires.seat chain c.hold.invariant.2);
        head = take.2 ∙ ap head_of (sym left);
        few = table_few c.self.inside.table.shared.table_id c.self.inside.table.shared.key c.self.inside.sizes c.args.self.now c.self.view_is c.self.invariant;
        fits = omega (arith, few, total, room, long);
      };
    }

pub returns-clause-taken : goal.returns-clause-taken
returns-clause-taken g c =
    let s = c.args.seat.now in let k = c.hold.inside in
    let take = c.fetch_and-word.ensures.2 in let qs = take.0 in
    let left = ap (λ m. m.0.taken) take.1 in
    let has : (part_of s.me.0 k.slot).hold ≡ Some (k.first, k.size) = subst (λ (z : Claim). (part_of s.me.0 z.slot).hold ≡ Some (z.first, z.size)) (sym c.hold.view_is) c.requires.hold in
    let chain = sized_chain g.T.Tenant.receipt s.me.0 k.slot k.first k.size qs has take.3 in
    subst (λ (z : Claim). HasTakenErrors g.T.Tenant.receipt z s.me c.args.list.now.items c.drain.new.seat.me c.drain.new.list.items) c.hold.view_is (
      qs,
      c.drain.ensures.me ∙ ap (λ m. (view_with_list m.0 [], m.1)) take.1,
      chain,
      take.4,
      c.drain.ensures.list ∙ ap (λ z. c.args.list.now.items ++ errors_of z) left,
    )
