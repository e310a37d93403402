use Rattle.std.proofs.Common.{◌≡◌, ◌+◌, ◌%◌, ◌<◌, sym, subst, ◌∙◌, true≢false, eq-eqb, arith}
use Rattle.rpc_model.specs.Gone.{code_in}
use Rattle.id_rule.specs.Changes.{view_after_load}
use Rattle.id_shared.specs.Answers.{IsReservedFrom}
use Rattle.id_shared.specs.Standing.{IdTable}
use Rattle.id_shared.proofs.Looks.{IsLooking, looks_on, reserved_at, tested}
use Rattle.id_shared.proofs.ids.Ids.reserve_first.Goals as goal

pub returns-then-is_vacant-clause-answer : goal.returns-then-is_vacant-clause-answer
returns-then-is_vacant-clause-answer g c =
    let l = c.loop-count.pass in let k = c.look-word in let start = c.first_slot-start.result in let count = c.loop-count.count in
    reserved_at c.args.self.now start c.args.range count k.result c.args.pass.now l k.new.pass c.reserve_from.new.pass c.reserve_from.result
    c.first_slot-start.ensures.slot (omega (arith, c.if-range-lt1.false), omega (arith, c.if-range-gt1024.false))
    (subst (λ (z : IdTable). count < z.sizes.slots) c.self.view_is c.loop-count-test.true)
    (subst (λ p. IsLooking c.args.self.now start p.view count l) c.pass.view_is c.loop-count.invariant.0)
    (subst (λ (z : IdTable). k.new.pass.view ≡ view_after_load l.view ((start + count) % z.sizes.slots) k.result) c.self.view_is k.ensures.view)
    k.ensures.words (tested (code_in k.result) 0 (sym c.is_vacant.ensures.vacant ∙ c.if-is_vacant.true))
    (subst (λ (z : IdTable). IsReservedFrom ((start + count) % z.sizes.slots) k.result c.args.range k.new.pass c.reserve_from.result c.reserve_from.new.pass) c.self.view_is
    c.reserve_from.ensures.answer)

pub loop-count-preserved : goal.loop-count-preserved
loop-count-preserved g c =
    let l = c.loop-count.pass in let k = c.look-word in let start = c.first_slot-start.result in let count = c.loop-count.count in (
      looks_on c.args.self.now start c.pass.inside.seat.me.0 count k.result l k.new.pass c.loop-count.invariant.0 k.ensures.own
          (subst (λ (z : IdTable). k.new.pass.view ≡ view_after_load l.view ((start + count) % z.sizes.slots) k.result) c.self.view_is k.ensures.view)
          k.ensures.words (λ e. true≢false (sym (eq-eqb (code_in k.result) 0 e) ∙ sym c.is_vacant.ensures.vacant ∙ c.if-is_vacant.false))
          (subst (λ (z : IdTable). count < z.sizes.slots) c.self.view_is c.loop-count-test.true),
      (k.ensures.errors.0 ∙ c.loop-count.invariant.1.0, k.ensures.errors.1 ∙ c.loop-count.invariant.1.1),
    )
