-- One mark more is taken, or the call has an end or none is left.
use Rattle.std.proofs.Common.{ℕ, max, ap, sym, ◌∙◌, arith}
use Rattle.rpc_model.specs.Marks.{marks_left}
use Rattle.sim_run.specs.Acting.{Acting, acting, acted, finished_by}
use Rattle.sim_run.proofs.Acts.{joined-moment}
use Rattle.sim_run.proofs.Taking.{finish-turn, finish-end}
use Rattle.sim_run.proofs.acting.finish_call.Goals as goal

pub act-requires-clause-early : goal.act-requires-clause-early
act-requires-clause-early c =
    let a = acting c.taken.call c.taken.wires.items c.taken.marks in
    let t = finish-turn c.args.first c.taken.reached a c.take_open.new.self c.take_open.result c.in-Some.mark c.take_open.ensures c.in-Some.is in
    let same = ap (λ (p : ℕ × Acting). p.0) c.taken.invariant in
    let m = joined-moment c.args.reached c.args.first (acting c.args.call.now c.args.wires.now.items c.args.marks.now) in
    omega (arith, t.within, same, m, c.requires.early)

pub taken-smaller : goal.taken-smaller
taken-smaller c =
    let a = acting c.taken.call c.taken.wires.items c.taken.marks in
    let t = finish-turn c.args.first c.taken.reached a c.take_open.new.self c.take_open.result c.in-Some.mark c.take_open.ensures c.in-Some.is in
    let is = ap (λ (x : Acting). marks_left x.call) c.in_ok-act.ensures in
    let e = ap (λ event. marks_left (acted c.args.first event c.in-Some.mark.moment (record a { call = c.take_open.new.self })).call) c.mark_event.ensures in
    omega (arith, is, e, t.less)

pub taken-preserved : goal.taken-preserved
taken-preserved c =
    let a = acting c.taken.call c.taken.wires.items c.taken.marks in
    let t = finish-turn c.args.first c.taken.reached a c.take_open.new.self c.take_open.result c.in-Some.mark c.take_open.ensures c.in-Some.is in
    ap (λ r. finished_by c.args.first r (acting c.act.new.call c.act.new.wires.items c.act.new.marks)) c.max-reached.ensures
    ∙ ap (finished_by c.args.first (max c.taken.reached c.in-Some.mark.moment))
    (c.in_ok-act.ensures ∙ ap (λ event. acted c.args.first event c.in-Some.mark.moment (record a { call = c.take_open.new.self })) c.mark_event.ensures)
    ∙ t.same ∙ c.taken.invariant

pub returns-clause-moment : goal.returns-clause-moment
returns-clause-moment c =
    let a = acting c.taken.call c.taken.wires.items c.taken.marks in
    let t = finish-end c.args.first c.taken.reached a c.take_open.new.self c.take_open.result c.take_open.ensures c.in_default.is in
    ap (λ (p : ℕ × Acting). p.0) (sym t.1 ∙ c.taken.invariant)

pub returns-clause-call : goal.returns-clause-call
returns-clause-call c =
    let a = acting c.taken.call c.taken.wires.items c.taken.marks in
    let t = finish-end c.args.first c.taken.reached a c.take_open.new.self c.take_open.result c.take_open.ensures c.in_default.is in
    ap (λ b. acting b c.taken.wires.items c.taken.marks) t.0 ∙ ap (λ (p : ℕ × Acting). p.1) (sym t.1 ∙ c.taken.invariant)
