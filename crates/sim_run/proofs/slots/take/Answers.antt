-- The value that the id finds is changed, where it finds one.
use Rattle.std.proofs.Common.{sym, ap, ◌∙◌}
use Rattle.sim_run.specs.Acting.{Acting, acting, turned_by}
use Rattle.sim_run.specs.Slots.{turned, acts_found}
use Rattle.sim_run.proofs.Acts.{turned-call}
use Rattle.sim_run.proofs.Changes.{touch-value, touch-nothing}
use Rattle.sim_run.proofs.slots.take.Goals as goal

pub returns-in_default : goal.returns-in_default
returns-in_default c = record {
  after = touch-nothing (turned c.args.turn) c.args.id c.args.pool.now (sym c.in_default.ensures.value);
  acts = sym (ap (λ o. acts_found c.args.first (turned_by c.args.turn) o c.args.wires.now.items c.args.marks.now) (sym c.in_default.ensures.value));
}

pub returns-clause-after : goal.returns-clause-after
returns-clause-after c =
    let a = acting c.in-Some.call.now c.args.wires.now.items c.args.marks.now in
    let is = ap (λ (x : Acting). x.call) c.in_ok-turn_call.ensures ∙ turned-call c.args.turn c.args.first a in
    rw is (touch-value (turned c.args.turn) c.args.id c.in-Some.call.now c.args.pool.now (sym c.in-Some.ensures.value))

pub returns-clause-acts : goal.returns-clause-acts
returns-clause-acts c =
    ap (λ (x : Acting). (x.wires, x.marks)) c.in_ok-turn_call.ensures ∙ ap (λ o. acts_found c.args.first (turned_by c.args.turn) o c.args.wires.now.items c.args.marks.now) c.in-Some.ensures.value
