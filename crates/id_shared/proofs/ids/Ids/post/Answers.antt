use Rattle.std.proofs.Common.{◌∙◌}
use Rattle.id_shared.proofs.Keeping.{kept_on}
use Rattle.id_shared.proofs.Retries.{retries_more}
use Rattle.id_shared.specs.Claims.{KeepsClaims, KeepsErrors}
use Rattle.id_shared.proofs.ids.Ids.post.Given.{Over}
use Rattle.id_shared.proofs.ids.Ids.post.Goals.{After-try_post}
use Rattle.id_shared.proofs.ids.Ids.post.Goals as goal

-- a try changes no claim, and none before it did
claims : (g : Over) (c : After-try_post g) → KeepsClaims c.args.pass.now c.try_post.new.pass
claims g c = λ slot. kept_on c.args.pass.now.view c.loop.pass.view c.try_post.new.pass.view slot (c.loop.invariant.1.claims slot) (c.try_post.ensures.claims slot)

-- nor any error
errors : (g : Over) (c : After-try_post g) → KeepsErrors c.args.pass.now c.try_post.new.pass
errors g c = let was = c.loop.invariant.1.errors in let now = c.try_post.ensures.errors in (now.0 ∙ was.0, now.1 ∙ was.1)

pub returns-in-Locked-clause-answer : goal.returns-in-Locked-clause-answer
returns-in-Locked-clause-answer g c = (c.loop.invariant.1.tries.0, (c.loop.pass, c.loop.invariant.1.tries.1, c.in-Locked.ensures.answer))

pub returns-in-Locked-clause-claims : goal.returns-in-Locked-clause-claims
returns-in-Locked-clause-claims g c = claims g (goal.at.returns-in-Locked-clause-claims g c).After-try_post

pub returns-in-Locked-clause-stays_gone : goal.returns-in-Locked-clause-stays_gone
returns-in-Locked-clause-stays_gone g c = λ h. c.in-Locked.ensures.stays_gone (c.loop.invariant.1.gone h)

pub returns-in-Locked-clause-errors : goal.returns-in-Locked-clause-errors
returns-in-Locked-clause-errors g c = errors g (goal.at.returns-in-Locked-clause-errors g c).After-try_post

pub returns-in-Queued-clause-answer : goal.returns-in-Queued-clause-answer
returns-in-Queued-clause-answer g c = (c.loop.invariant.1.tries.0, (c.loop.pass, c.loop.invariant.1.tries.1, c.in-Queued.ensures.answer))

pub returns-in-Queued-clause-claims : goal.returns-in-Queued-clause-claims
returns-in-Queued-clause-claims g c = claims g (goal.at.returns-in-Queued-clause-claims g c).After-try_post

pub returns-in-Queued-clause-stays_gone : goal.returns-in-Queued-clause-stays_gone
returns-in-Queued-clause-stays_gone g c = λ h. c.in-Queued.ensures.stays_gone (c.loop.invariant.1.gone h)

pub returns-in-Queued-clause-errors : goal.returns-in-Queued-clause-errors
returns-in-Queued-clause-errors g c = errors g (goal.at.returns-in-Queued-clause-errors g c).After-try_post

pub returns-in-Gone-clause-answer : goal.returns-in-Gone-clause-answer
returns-in-Gone-clause-answer g c = (c.loop.invariant.1.tries.0, (c.loop.pass, c.loop.invariant.1.tries.1, c.in-Gone.ensures.answer))

pub returns-in-Gone-clause-claims : goal.returns-in-Gone-clause-claims
returns-in-Gone-clause-claims g c = claims g (goal.at.returns-in-Gone-clause-claims g c).After-try_post

pub returns-in-Gone-clause-stays_gone : goal.returns-in-Gone-clause-stays_gone
returns-in-Gone-clause-stays_gone g c = λ h. c.in-Gone.ensures.stays_gone (c.loop.invariant.1.gone h)

pub returns-in-Gone-clause-errors : goal.returns-in-Gone-clause-errors
returns-in-Gone-clause-errors g c = errors g (goal.at.returns-in-Gone-clause-errors g c).After-try_post

pub returns-in-NoSlot-clause-answer : goal.returns-in-NoSlot-clause-answer
returns-in-NoSlot-clause-answer g c = (c.loop.invariant.1.tries.0, (c.loop.pass, c.loop.invariant.1.tries.1, c.in-NoSlot.ensures.answer))

pub returns-in-NoSlot-clause-claims : goal.returns-in-NoSlot-clause-claims
returns-in-NoSlot-clause-claims g c = claims g (goal.at.returns-in-NoSlot-clause-claims g c).After-try_post

pub returns-in-NoSlot-clause-stays_gone : goal.returns-in-NoSlot-clause-stays_gone
returns-in-NoSlot-clause-stays_gone g c = λ h. c.in-NoSlot.ensures.stays_gone (c.loop.invariant.1.gone h)

pub returns-in-NoSlot-clause-errors : goal.returns-in-NoSlot-clause-errors
returns-in-NoSlot-clause-errors g c = errors g (goal.at.returns-in-NoSlot-clause-errors g c).After-try_post

pub returns-in-NoNode-clause-answer : goal.returns-in-NoNode-clause-answer
returns-in-NoNode-clause-answer g c = (c.loop.invariant.1.tries.0, (c.loop.pass, c.loop.invariant.1.tries.1, c.in-NoNode.ensures.answer))

pub returns-in-NoNode-clause-claims : goal.returns-in-NoNode-clause-claims
returns-in-NoNode-clause-claims g c = claims g (goal.at.returns-in-NoNode-clause-claims g c).After-try_post

pub returns-in-NoNode-clause-stays_gone : goal.returns-in-NoNode-clause-stays_gone
returns-in-NoNode-clause-stays_gone g c = λ h. c.in-NoNode.ensures.stays_gone (c.loop.invariant.1.gone h)

pub returns-in-NoNode-clause-errors : goal.returns-in-NoNode-clause-errors
returns-in-NoNode-clause-errors g c = errors g (goal.at.returns-in-NoNode-clause-errors g c).After-try_post

pub loop-preserved : goal.loop-preserved
loop-preserved g c = let a = c.in-Again.ensures in (
  a.own,
  retries_more g.T.Tenant.log g.T.Tenant.first_id g.T.Tenant.receipt c.args.self.now.sizes.slots c.args.id c.args.code c.args.pass.now c.loop.pass c.try_post.new.pass c.in-Again.field-0
      c.in-Again.field-1 c.loop.invariant.1 a.answer a.stays_gone a.claims a.errors,
)
