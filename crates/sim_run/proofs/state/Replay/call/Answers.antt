-- The call takes the lowest vacant slot, or finds none.
use Rattle.std.proofs.Common.{◌≡◌, sym, ap, subst, refl, ◌∙◌}
use Rattle.std.specs.Arc.{arc_value}
use Rattle.std.proofs.lemmas.List.{append-nil}
use Rattle.rpc_model.specs.Kinds.{script_kinds}
use Rattle.rpc_model.specs.Machine.{start}
use Rattle.rpc_model.specs.Marks.{begin}
use Rattle.rpc_model.specs.Versions.{width}
use Rattle.id_pool.specs.Ranges.{created, lowest}
use Rattle.call_tree.specs.Running.{IsEffects}
use Rattle.sim_run.specs.declared.ticket.Ticket.{Ticket}
use Rattle.sim_run.specs.Sends.{posted}
use Rattle.sim_run.specs.Desk.{first_wires}
use Rattle.sim_run.specs.Marked.{marked}
use Rattle.sim_run.proofs.Steps.{plan-wide}
use Rattle.sim_run.proofs.NewCalls.{place, no-place, call-ready, call-after, call-tells, full-ready, full-after, full-tells, first-low, first-wires}
use Rattle.sim_run.proofs.state.Replay.call.Goals as goal

pub take_slot-requires-clause-some : goal.take_slot-requires-clause-some
take_slot-requires-clause-some c =
    let p = arc_value c.in_ok-plan.plan in
    let wide : c.width-width.result ≡ width p = c.width-width.ensures ∙ ap width c.deref.ensures in
    rw wide (plan-wide p)

pub take_slot-requires-clause-most : goal.take_slot-requires-clause-most
take_slot-requires-clause-most c =
    let p = arc_value c.in_ok-plan.plan in
    let wide : c.width-width.result ≡ width p = c.width-width.ensures ∙ ap width c.deref.ensures in
    rw wide c.in_ok-plan.ensures.narrow

pub returns-in_default-clause-ready : goal.returns-in_default-clause-ready
returns-in_default-clause-ready c =
    let p = arc_value c.in_ok-plan.plan in
    let wide : c.width-width.result ≡ width p = c.width-width.ensures ∙ ap width c.deref.ensures in
    let n = no-place c.args.self.now.pool c.width-width.result c.in_ok-open.open (rw wide (plan-wide p)) (rw wide c.in_ok-plan.ensures.narrow) c.in_default.ensures.first in
    let same = c.in_ok-refuse.ensures.same in
    full-ready c.args.self.now c.refuse.new.self c.args.script.now c.args.call
    c.requires.ready c.requires.new (same.0 ∙ c.in_default.ensures.after ∙ n.1) same.2 (same.3 ∙ c.take_spare-spare.ensures.same)
    c.in_ok-refuse.ensures.calls c.in_ok-refuse.ensures.once

pub returns-in_default-clause-after : goal.returns-in_default-clause-after
returns-in_default-clause-after c =
    let p = arc_value c.in_ok-plan.plan in
    let wide : c.width-width.result ≡ width p = c.width-width.ensures ∙ ap width c.deref.ensures in
    let n = no-place c.args.self.now.pool c.width-width.result c.in_ok-open.open (rw wide (plan-wide p)) (rw wide c.in_ok-plan.ensures.narrow) c.in_default.ensures.first in
    let same = c.in_ok-refuse.ensures.same in
    full-after c.args.self.now c.refuse.new.self c.args.script.now c.args.self.now.reached c.args.call c.args.text p _ c.in_ok-plan.ensures.plan c.requires.ready n.0
    (same.0 ∙ c.in_default.ensures.after ∙ n.1) same.1 c.in_ok-refuse.ensures.calls c.in_ok-refuse.ensures.once

pub returns-in_default-clause-tells : goal.returns-in_default-clause-tells
returns-in_default-clause-tells c =
    let p = arc_value c.in_ok-plan.plan in
    let wide : c.width-width.result ≡ width p = c.width-width.ensures ∙ ap width c.deref.ensures in
    let n = no-place c.args.self.now.pool c.width-width.result c.in_ok-open.open (rw wide (plan-wide p)) (rw wide c.in_ok-plan.ensures.narrow) c.in_default.ensures.first in
    let same = c.in_ok-refuse.ensures.same in
    rw (full-tells c.args.self.now c.args.script.now c.args.call _ p c.in_ok-plan.ensures.plan c.requires.ready n.0) c.in_ok-refuse.ensures.tells

pub begin-requires-2-clause-id : goal.begin-requires-2-clause-id
begin-requires-2-clause-id c =
    let p = arc_value c.in_ok-plan.plan in
    let wide : c.width-width.result ≡ width p = c.width-width.ensures ∙ ap width c.deref.ensures in
    let at = place c.args.self.now.pool c.width-width.result c.in-Some.first c.in_ok-open.open (rw wide (plan-wide p)) (rw wide c.in_ok-plan.ensures.narrow) c.in-Some.ensures.first in
    first-low c.args.self.now c.args.script.now c.width-width.result c.in-Some.first c.in_ok-open.open c.requires.ready c.requires.few c.requires.fits.few_slots at

pub returns-clause-ready : goal.returns-clause-ready
returns-clause-ready c =
    let p = arc_value c.in_ok-plan.plan in
    let wide : c.width-width.result ≡ width p = c.width-width.ensures ∙ ap width c.deref.ensures in
    let shared : arc_value c.in_ok-shared.shared ≡ p = c.in_ok-shared.ensures.cases in
    let is : c.in_ok-open.open ≡ begin c.args.call p c.args.text c.args.self.now.reached =
    c.in_ok-open.ensures.begun ∙ ap (λ q. begin c.args.call q c.args.text c.args.self.now.reached) shared in
    let same = c.in_ok-begin.ensures.same in
    let b = begin c.args.call p c.args.text c.args.self.now.reached in
    let at = place c.args.self.now.pool (width p) c.in-Some.first b (plan-wide p) c.in_ok-plan.ensures.narrow c.in-Some.ensures.first in
    let made = same.0 ∙ c.in-Some.ensures.after ∙ ap (λ w. created w c.in_ok-open.open c.args.self.now.pool) wide ∙ ap (λ o. created (width p) o c.args.self.now.pool) is in
    let ticket : Ticket = record { first = c.in-Some.first; plan = c.in_ok-plan.plan } in
    let run : IsEffects (start script_kinds p c.args.call c.args.text c.args.self.now.reached) c.in_ok-open.effects =
    subst (λ q. IsEffects (start script_kinds q c.args.call c.args.text c.args.self.now.reached) c.in_ok-open.effects) shared c.in_ok-open.ensures.effects in
    let marks = c.in_ok-begin.ensures.marks ∙ ap (marked c.in-Some.first c.in_ok-open.effects.marks) c.take_spare-spare.ensures.same
    ∙ ap (λ ms. marked c.in-Some.first ms c.args.self.now.marks) run.marks in
    let wires = c.in_ok-begin.ensures.sent ∙ ap (λ ss. posted c.in-Some.first p c.args.call ss c.args.self.now.wires.items) run.sends in
    call-ready c.args.self.now c.begin-2.new.self c.args.script.now c.args.call c.args.self.now.reached ticket c.args.text c.requires.ready c.requires.few c.in_ok-plan.ensures.narrow
    c.in_ok-plan.ensures.served c.requires.new at made c.in_ok-begin.ensures.calls c.in_ok-begin.ensures.once marks wires

pub returns-clause-after : goal.returns-clause-after
returns-clause-after c =
    let p = arc_value c.in_ok-plan.plan in
    let wide : c.width-width.result ≡ width p = c.width-width.ensures ∙ ap width c.deref.ensures in
    let shared : arc_value c.in_ok-shared.shared ≡ p = c.in_ok-shared.ensures.cases in
    let is : c.in_ok-open.open ≡ begin c.args.call p c.args.text c.args.self.now.reached =
    c.in_ok-open.ensures.begun ∙ ap (λ q. begin c.args.call q c.args.text c.args.self.now.reached) shared in
    let same = c.in_ok-begin.ensures.same in
    let b = begin c.args.call p c.args.text c.args.self.now.reached in
    let at = place c.args.self.now.pool (width p) c.in-Some.first b (plan-wide p) c.in_ok-plan.ensures.narrow c.in-Some.ensures.first in
    let made = same.0 ∙ c.in-Some.ensures.after ∙ ap (λ w. created w c.in_ok-open.open c.args.self.now.pool) wide ∙ ap (λ o. created (width p) o c.args.self.now.pool) is in
    let ticket : Ticket = record { first = c.in-Some.first; plan = c.in_ok-plan.plan } in
    call-after c.args.self.now c.begin-2.new.self c.args.script.now c.args.self.now.reached c.args.call ticket c.args.text _ c.in_ok-plan.ensures.plan c.requires.ready c.requires.few
    c.in_ok-plan.ensures.narrow at made c.in_ok-begin.ensures.calls c.in_ok-begin.ensures.once same.1

pub returns-clause-tells : goal.returns-clause-tells
returns-clause-tells c =
    let p = arc_value c.in_ok-plan.plan in
    let wide : c.width-width.result ≡ width p = c.width-width.ensures ∙ ap width c.deref.ensures in
    let at = place c.args.self.now.pool c.width-width.result c.in-Some.first c.in_ok-open.open (rw wide (plan-wide p)) (rw wide c.in_ok-plan.ensures.narrow) c.in-Some.ensures.first in
    rw (call-tells c.args.self.now c.args.script.now c.args.call c.width-width.result c.in-Some.first c.in_ok-open.open _ p c.in_ok-plan.ensures.plan c.requires.ready at)
    (sym (append-nil c.args.told.now.items))

pub returns-in_default-clause-wires : goal.returns-in_default-clause-wires
returns-in_default-clause-wires c =
    let p = arc_value c.in_ok-plan.plan in
    let wide : c.width-width.result ≡ width p = c.width-width.ensures ∙ ap width c.deref.ensures in
    let n = no-place c.args.self.now.pool c.width-width.result c.in_ok-open.open (rw wide (plan-wide p)) (rw wide c.in_ok-plan.ensures.narrow) c.in_default.ensures.first in
    rw (c.in_ok-refuse.ensures.same.2, n.0) refl

pub returns-clause-wires : goal.returns-clause-wires
returns-clause-wires c =
    let p = arc_value c.in_ok-plan.plan in
    let shared : arc_value c.in_ok-shared.shared ≡ p = c.in_ok-shared.ensures.cases in
    let run : IsEffects (start script_kinds p c.args.call c.args.text c.args.self.now.reached) c.in_ok-open.effects =
    subst (λ q. IsEffects (start script_kinds q c.args.call c.args.text c.args.self.now.reached) c.in_ok-open.effects) shared c.in_ok-open.ensures.effects in
    let wires = c.in_ok-begin.ensures.sent ∙ ap (λ ss. posted c.in-Some.first p c.args.call ss c.args.self.now.wires.items) run.sends in
    wires ∙ first-wires c.args.self.now c.args.call c.in-Some.first c.args.text p _ c.in-Some.ensures.first
    ∙ ap (λ o. first_wires (lowest c.args.self.now.pool) o c.args.call c.args.text c.args.self.now) (sym c.in_ok-plan.ensures.plan)
