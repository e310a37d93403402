-- One mark more is taken, or none is due.
use Rattle.std.proofs.Common.{ap, sym, ◌∙◌, arith}
use Rattle.rpc_model.specs.Marks.{marks_left}
use Rattle.sim_run.specs.Acting.{Acting, acting, acted, woven}
use Rattle.sim_run.proofs.Taking.{weave-turn, weave-end}
use Rattle.sim_run.proofs.acting.weave.Goals as goal

pub act-requires-clause-early : goal.act-requires-clause-early
act-requires-clause-early c =
    let t = weave-turn c.args.first c.args.moment (acting c.taken.call c.taken.wires.items c.taken.marks) c.take_due.new.self c.take_due.result c.in-Some.mark c.take_due.ensures c.in-Some.is in
    omega (arith, t.due, c.requires.early)

pub taken-smaller : goal.taken-smaller
taken-smaller c =
    let a = acting c.taken.call c.taken.wires.items c.taken.marks in
    let t = weave-turn c.args.first c.args.moment a c.take_due.new.self c.take_due.result c.in-Some.mark c.take_due.ensures c.in-Some.is in
    let is = ap (λ (x : Acting). marks_left x.call) c.in_ok-act.ensures in
    let e = ap (λ event. marks_left (acted c.args.first event c.in-Some.mark.moment (record a { call = c.take_due.new.self })).call) c.mark_event.ensures in
    omega (arith, is, e, t.less)

pub taken-preserved : goal.taken-preserved
taken-preserved c =
    let a = acting c.taken.call c.taken.wires.items c.taken.marks in
    let t = weave-turn c.args.first c.args.moment a c.take_due.new.self c.take_due.result c.in-Some.mark c.take_due.ensures c.in-Some.is in
    ap (woven c.args.first c.args.moment) (c.in_ok-act.ensures ∙ ap (λ event. acted c.args.first event c.in-Some.mark.moment (record a { call = c.take_due.new.self })) c.mark_event.ensures)
    ∙ t.same ∙ c.taken.invariant

pub returns : goal.returns
returns c =
    let a = acting c.taken.call c.taken.wires.items c.taken.marks in
    let t = weave-end c.args.first c.args.moment a c.take_due.new.self c.take_due.result c.take_due.ensures c.in_default.is in
    ap (λ b. acting b c.taken.wires.items c.taken.marks) t.0 ∙ sym t.1 ∙ c.taken.invariant
