use Rattle.std.proofs.Common.{sym, ap, ◌∙◌, ◌≡◌, true, ◌<◌, subst}
use Rattle.std.specs.Prelude.{not}
use Rattle.rpc_model.specs.Gone.{gone_by, is_live_in}
use Rattle.id_shared.specs.Answers.{IsSlotOf}
use Rattle.id_shared.specs.Standing.{IdTable}
use Rattle.std.specs.Prelude.{Some}
use Rattle.id_shared.proofs.Keeping.{seen_claims, seen_errors}
use Rattle.id_shared.proofs.Waits.{waits_more, seen_end}
use Rattle.id_shared.proofs.ids.Ids.join_seen.Goals as goal

pub returns-then-not-is_live-clause-answer : goal.returns-then-not-is_live-clause-answer
returns-then-not-is_live-clause-answer g c =
    let is : IsSlotOf c.args.self.now.sizes.slots c.args.id c.in-Some.slot = (
      sym c.slot_of.ensures
          ∙ c.in-Some.is,
      subst (λ (z : IdTable). c.in-Some.slot < z.sizes.slots) c.self.view_is c.if-slot-self.false,
    ) in
    let n = c.args.self.now.sizes.slots in let p = c.args.pass.now in
    let gone : gone_by c.load-word.result c.args.id ≡ true = ap not (ap (is_live_in c.load-word.result) (sym c.version_of.ensures) ∙ sym c.is_live.ensures.live ∙ c.if-not-is_live.true) in
    seen_end n c.args.id p c.loop.pass c.load-word.new.pass c.in-Some.slot c.load-word.result c.loop.invariant.1 is gone c.load-word.ensures.view

pub returns-then-not-is_live-clause-claims : goal.returns-then-not-is_live-clause-claims
returns-then-not-is_live-clause-claims g c =
    seen_claims c.args.self.now.sizes.slots c.args.id c.args.pass.now c.load-word.new.pass (Some c.load-word.result) (returns-then-not-is_live-clause-answer g c)

pub loop-preserved : goal.loop-preserved
loop-preserved g c =
    let is : IsSlotOf c.args.self.now.sizes.slots c.args.id c.in-Some.slot = (
      sym c.slot_of.ensures
          ∙ c.in-Some.is,
      subst (λ (z : IdTable). c.in-Some.slot < z.sizes.slots) c.self.view_is c.if-slot-self.false,
    ) in
    let n = c.args.self.now.sizes.slots in let p = c.args.pass.now in
    (c.load-word.ensures.own, waits_more n c.args.id c.in-Some.slot c.load-word.result p c.loop.pass c.load-word.new.pass c.loop.invariant.1 is c.load-word.ensures.view)

pub returns-then-not-is_live-clause-errors : goal.returns-then-not-is_live-clause-errors
returns-then-not-is_live-clause-errors g c =
    seen_errors c.args.self.now.sizes.slots c.args.id c.args.pass.now c.load-word.new.pass (Some c.load-word.result) (returns-then-not-is_live-clause-answer g c)
