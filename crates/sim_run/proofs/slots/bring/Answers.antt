-- The range is locked, its value is changed, and it is let go.
use Rattle.std.proofs.Common.{sym, arith, ◌∙◌}
use Rattle.id_pool.specs.Ranges.{look}
use Rattle.sim_run.specs.Slots.{turned}
use Rattle.sim_run.proofs.Changes.{visit-changed, visit-nothing}
use Rattle.sim_run.specs.Acting.{turned_by}
use Rattle.sim_run.proofs.Joins.{locked-low, locked-acts, acts-none}
use Rattle.sim_run.proofs.slots.bring.Goals as goal

pub returns-in_default : goal.returns-in_default
returns-in_default c = record {
  after = c.lock.ensures.after ∙ visit-nothing (turned c.args.turn) c.args.id c.args.pool.now (λ k e. c.in_default.not-Yes k (c.lock.ensures.answer ∙ e));
  acts = acts-none c.args.id (turned_by c.args.turn) (look c.args.id c.args.pool.now) c.args.wires.now.items c.args.marks.now (λ k e. c.in_default.not-Yes k (c.lock.ensures.answer ∙ e));
}

pub take-requires-clause-low : goal.take-requires-clause-low
take-requires-clause-low c = let low = locked-low c.args.id c.in-Yes.offset c.args.pool.now c.requires.few (sym c.in-Yes.ensures.answer) in omega (arith, c.saturating_sub-first.ensures, low)

pub returns-clause-after : goal.returns-clause-after
returns-clause-after c =
    let f = turned c.args.turn in
    rw (c.unlock.ensures.after, c.in_ok-take.ensures.after, c.lock.ensures.after) (visit-changed f c.args.id c.in-Yes.offset c.args.pool.now (sym c.in-Yes.ensures.answer))

pub returns-clause-acts : goal.returns-clause-acts
returns-clause-acts c =
    (rw (c.saturating_sub-first.ensures, c.from.ensures) at c.in_ok-take.ensures.acts)
    ∙ locked-acts (turned_by c.args.turn) c.args.id c.in-Yes.offset c.args.pool.now c.lock.new.self c.args.wires.now.items c.args.marks.now (sym c.in-Yes.ensures.answer) c.lock.ensures.after
