-- One mark after the other is taken.
use Rattle.std.proofs.Common.{refl, [], arith}
use Rattle.sim_run.proofs.Marked.{marked-settled}
use Rattle.sim_run.proofs.Reaching.{reaching-turn}
use Rattle.sim_run.proofs.state.Replay.reach.Goals as goal

pub bring-requires-clause-few : goal.bring-requires-clause-few
bring-requires-clause-few c = omega (arith, c.taken.invariant.ready.pool, c.requires.fits.few_slots)

pub taken-preserved : goal.taken-preserved
taken-preserved c =
    let r = c.taken.invariant in
    (reaching-turn c.args.script.now c.args.self.now c.taken.self
    (record { reached = c.taken.self.reached; calls = c.taken.self.calls; pool = c.bring.new.pool; wires = c.bring.new.wires; marks = c.bring.new.marks }) c.args.moment c.in-Some.mark r
    (rw r.calls c.requires.few) c.in-Some.ensures.answer refl refl c.in_ok-bring.ensures.after (rw c.in-Some.ensures.after at c.in_ok-bring.ensures.acts)).reaching

pub taken-smaller : goal.taken-smaller
taken-smaller c =
    let r = c.taken.invariant in
    (reaching-turn c.args.script.now c.args.self.now c.taken.self
    (record { reached = c.taken.self.reached; calls = c.taken.self.calls; pool = c.bring.new.pool; wires = c.bring.new.wires; marks = c.bring.new.marks }) c.args.moment c.in-Some.mark r
    (rw r.calls c.requires.few) c.in-Some.ensures.answer refl refl c.in_ok-bring.ensures.after (rw c.in-Some.ensures.after at c.in_ok-bring.ensures.acts)).fewer

pub returns-clause-settled : goal.returns-clause-settled
returns-clause-settled c =
    let r = c.taken.invariant in
    marked-settled c.args.moment c.taken.self.marks c.taken.self.pool r.ready.marked (c.in_default.ensures.none.0 refl)

pub taken-init : goal.taken-init
taken-init c =
    let r = c.requires.ready in
    record {
      ready = record { sound = r.sound; pool = r.pool; wired = r.wired; marked = r.marked; owned = r.owned; served = r.served };
      reached = refl;
      calls = refl;
      alike = refl;
      passed = ([], refl);
    }
