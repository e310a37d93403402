use Rattle.std.proofs.Common.{sym, subst, ap, ◌∙◌}
use Rattle.id_rule.specs.Changes.{view_after_load}
use Rattle.id_shared.specs.Answers.{IsCollected}
use Rattle.id_shared.specs.declared.answers.CollectEnd.TheVariants as collect
use Rattle.id_shared.specs.Standing.{Claim, HasOwner}
use Rattle.id_shared.specs.Views.{with_view}
use Rattle.id_shared.proofs.Waits.{still_owner, joins_more, joined_end}
use Rattle.id_shared.proofs.Keeping.{joined_others}
use Rattle.id_shared.proofs.ids.Ids.join.Goals as goal

pub collect-requires-clause-owner : goal.collect-requires-clause-owner
collect-requires-clause-owner g c =
    subst (HasOwner c.loop.pass) (sym c.loop.invariant.1) (still_owner c.args.pass.now c.loop.pass c.args.owner c.loop.invariant.2 c.requires.owner)

pub returns-in-Value-clause-answer : goal.returns-in-Value-clause-answer
returns-in-Value-clause-answer g c =
    let q = c.loop.pass in let r = c.collect.new.pass in
    joined_end g.T.Tenant.log g.T.Tenant.first_id c.args.pass.now q r c.args.owner c.in-Value.value c.loop.invariant.2
    (subst (λ (z : Claim). IsCollected g.T.Tenant.log g.T.Tenant.first_id z q (collect.Value c.in-Value.value) r) c.loop.invariant.1 c.in-Value.ensures.answer)

pub loop-preserved : goal.loop-preserved
loop-preserved g c =
    let a = c.in-NotYet.ensures.answer in let q = c.loop.pass in (
      c.collect.ensures.own,
      a.0 ∙ c.loop.invariant.1,
      joins_more c.args.pass.now q c.collect.new.pass c.args.owner c.in-NotYet.field-1 c.loop.invariant.2
          (a.2 ∙ ap (λ (z : Claim). with_view q (view_after_load q.view z.slot c.in-NotYet.field-1)) c.loop.invariant.1),
    )

pub returns-in-Value-clause-others : goal.returns-in-Value-clause-others
returns-in-Value-clause-others g c =
    joined_others g.T.Tenant.log g.T.Tenant.first_id c.args.owner c.args.pass.now c.collect.new.pass c.in-Value.value (returns-in-Value-clause-answer g c)
