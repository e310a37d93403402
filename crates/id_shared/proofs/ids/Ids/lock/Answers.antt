use Rattle.std.proofs.Common.{refl}
use Rattle.id_shared.proofs.Waits.{waits_more, still_ended, locked_end, gone_end}
use Rattle.id_shared.proofs.ids.Ids.lock.Goals.{in-Held, in-Again}
use Rattle.id_shared.specs.declared.answers.LockEnd.TheVariants as lock
use Rattle.id_shared.proofs.Keeping.{lock_claims, lock_errors, lock_holding}
use Rattle.id_shared.proofs.ids.Ids.lock.Goals as goal

pub returns-in-Locked-clause-answer : goal.returns-in-Locked-clause-answer
returns-in-Locked-clause-answer g c =
    locked_end g.T.Tenant.log g.T.Tenant.first_id g.T.Tenant.receipt c.args.self.now.sizes.slots c.args.id c.args.pass.now c.loop.pass c.try_lock.new.pass
    c.in-Locked.hold c.in-Locked.value c.loop.invariant.1 c.in-Locked.ensures.answer

pub returns-in-Locked-clause-stays_gone : goal.returns-in-Locked-clause-stays_gone
returns-in-Locked-clause-stays_gone g c =
    λ h. c.in-Locked.ensures.stays_gone (still_ended c.args.self.now.sizes.slots c.args.id c.args.pass.now c.loop.pass c.loop.invariant.1 h)

pub returns-in-Gone-clause-answer : goal.returns-in-Gone-clause-answer
returns-in-Gone-clause-answer g c =
    gone_end g.T.Tenant.log g.T.Tenant.first_id g.T.Tenant.receipt c.args.self.now.sizes.slots c.args.id c.args.pass.now c.loop.pass c.try_lock.new.pass
    c.in-Gone.word c.loop.invariant.1 c.in-Gone.ensures.answer

pub loop-preserved : goal.loop-preserved
loop-preserved g c =
    let n = c.args.self.now.sizes.slots in let id = c.args.id in let p = c.args.pass.now in let q = c.loop.pass in let r = c.try_lock.new.pass in (
      c.try_lock.ensures.own,
      elim c.match-try_lock.branch [
        | in-Held w ↦ (let a = w.in-Held.ensures.answer in waits_more n id a.0 _ p q r c.loop.invariant.1 a.1 a.3)
        | in-Again w ↦ (let a = w.in-Again.ensures.answer in
            waits_more n id a.0 _ p _ r (waits_more n id a.0 _ p q _ c.loop.invariant.1 a.1 refl) a.1 a.4)
      ],
    )

pub returns-in-Locked-clause-claims : goal.returns-in-Locked-clause-claims
returns-in-Locked-clause-claims g c =
    lock_claims g.T.Tenant.log g.T.Tenant.first_id g.T.Tenant.receipt c.args.self.now.sizes.slots c.args.id c.args.pass.now c.try_lock.new.pass
    (lock.Locked c.in-Locked.hold c.in-Locked.value) (returns-in-Locked-clause-answer g c)

pub returns-in-Locked-clause-holding : goal.returns-in-Locked-clause-holding
returns-in-Locked-clause-holding g c =
    lock_holding g.T.Tenant.log g.T.Tenant.first_id g.T.Tenant.receipt c.args.self.now.sizes.slots c.args.id c.args.pass.now c.try_lock.new.pass
    (lock.Locked c.in-Locked.hold c.in-Locked.value) (returns-in-Locked-clause-answer g c)

pub returns-in-Gone-clause-claims : goal.returns-in-Gone-clause-claims
returns-in-Gone-clause-claims g c =
    lock_claims g.T.Tenant.log g.T.Tenant.first_id g.T.Tenant.receipt c.args.self.now.sizes.slots c.args.id c.args.pass.now c.try_lock.new.pass
    (lock.Gone c.in-Gone.word) (returns-in-Gone-clause-answer g c)

pub returns-in-Locked-clause-errors : goal.returns-in-Locked-clause-errors
returns-in-Locked-clause-errors g c =
    lock_errors g.T.Tenant.log g.T.Tenant.first_id g.T.Tenant.receipt c.args.self.now.sizes.slots c.args.id c.args.pass.now c.try_lock.new.pass
    (lock.Locked c.in-Locked.hold c.in-Locked.value) (returns-in-Locked-clause-answer g c)

pub returns-in-Gone-clause-errors : goal.returns-in-Gone-clause-errors
returns-in-Gone-clause-errors g c =
    lock_errors g.T.Tenant.log g.T.Tenant.first_id g.T.Tenant.receipt c.args.self.now.sizes.slots c.args.id c.args.pass.now c.try_lock.new.pass
    (lock.Gone c.in-Gone.word) (returns-in-Gone-clause-answer g c)
