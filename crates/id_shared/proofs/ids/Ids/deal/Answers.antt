use Rattle.std.proofs.Common.{rules, sym, subst, ap, ◌∙◌, ◌+◌, ◌∷◌, [], length, ◌<◌, ◌≡◌, arith, length-append}
use Rattle.id_shared.specs.Opening.{AreOpened}
use Rattle.id_shared.proofs.Openings.{opened_new, opened_push, opened_own}
use Rattle.id_shared.proofs.ids.Ids.deal.Goals as goal

pub loop-number-preserved : goal.loop-number-preserved
loop-number-preserved g c =
    let items = c.in-Ok-push.ensures.items in
    let inv = c.loop-number.invariant in
    let len : 1 + length c.loop-number.all.items ≡ c.loop-number.number = inv.2 in
    let below : c.loop-number.number < c.args.passes = c.loop-number-test.true in (
      c.in_ok-pass.ensures.root,
      subst (AreOpened c.args.self.now 1) (sym items) (opened_push c.args.self.now 1 c.loop-number.all.items c.in_ok-pass.pass c.loop-number.number len inv.1
          (opened_new c.args.self.now c.loop-number.number c.in_ok-pass.pass c.in_ok-pass.ensures.pass (subst (λ z. c.loop-number.number < z) c.requires.passes.1 below))),
      ap (λ xs. 1 + length xs) items ∙ omega (arith, length-append c.loop-number.all.items (c.in_ok-pass.pass ∷ []), len),
      omega arith,
    )

pub returns-clause-passes : goal.returns-clause-passes
returns-clause-passes g c = search rules

pub returns-clause-own : goal.returns-clause-own
returns-clause-own g c = opened_own c.args.self.now 0 c.insert.new.self.items (returns-clause-passes g c).1
