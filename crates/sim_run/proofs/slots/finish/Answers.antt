-- The value that the id finds is changed, where it finds one.
use Rattle.std.proofs.Common.{sym, ap, subst, refl, ◌∙◌}
use Rattle.sim_run.specs.Acting.{Acting, acting, joined_by}
use Rattle.sim_run.specs.Slots.{finished, acts_found, IsJoinedEarly}
use Rattle.sim_run.proofs.Acts.{joined-call, joined-moment}
use Rattle.sim_run.proofs.Changes.{touch-value, touch-nothing}
use Rattle.sim_run.proofs.slots.finish.Goals as goal

pub returns-in_default-clause-after : goal.returns-in_default-clause-after
returns-in_default-clause-after c = touch-nothing (finished c.args.reached) c.args.id c.args.pool.now (sym c.in_default.ensures.value)

pub returns-in_default-clause-acts : goal.returns-in_default-clause-acts
returns-in_default-clause-acts c = sym (ap (λ o. acts_found c.args.first (joined_by c.args.reached) o c.args.wires.now.items c.args.marks.now) (sym c.in_default.ensures.value))

pub finish_call-requires-clause-early : goal.finish_call-requires-clause-early
finish_call-requires-clause-early c = subst (IsJoinedEarly c.args.reached) (sym c.in-Some.ensures.value) c.requires.early

pub returns-clause-after : goal.returns-clause-after
returns-clause-after c =
    let a = acting c.in-Some.call.now c.args.wires.now.items c.args.marks.now in
    let is = ap (λ (x : Acting). x.call) c.in_ok-reached.ensures.call ∙ joined-call c.args.reached c.args.first a in
    rw is (touch-value (finished c.args.reached) c.args.id c.in-Some.call.now c.args.pool.now (sym c.in-Some.ensures.value))

pub returns-clause-acts : goal.returns-clause-acts
returns-clause-acts c =
    ap (λ (x : Acting). (x.wires, x.marks)) c.in_ok-reached.ensures.call
    ∙ ap (λ o. acts_found c.args.first (joined_by c.args.reached) o c.args.wires.now.items c.args.marks.now) c.in-Some.ensures.value

pub returns-clause-says : goal.returns-clause-says
returns-clause-says c =
    let a = acting c.in-Some.call.now c.args.wires.now.items c.args.marks.now in
    let is = ap (λ (x : Acting). x.call) c.in_ok-reached.ensures.call ∙ joined-call c.args.reached c.args.first a in
    let moment = c.in_ok-reached.ensures.moment ∙ joined-moment c.args.reached c.args.first a in
    rw (← c.in-Some.ensures.value, c.number.ensures, c.is_over.ensures, is, moment) refl
