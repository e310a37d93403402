-- What is kept is the call's plan, and what is made anew is kept for the others that have it.
use Rattle.std.proofs.Common.{◌≡◌, get_or, Some, refl, ap, sym, ◌∙◌, arith}
use Rattle.std.specs.Arc.{arc_value}
use Rattle.rpc_model.specs.Plan.{plan}
use Rattle.sim_run.specs.declared.planning.Plans.{Plans}
use Rattle.sim_run.specs.declared.planning.Shared.{Shared}
use Rattle.sim_run.proofs.Chans.{plan-served}
use Rattle.sim_run.proofs.Coming.{found-kept, put-kept}
use Rattle.sim_run.proofs.planning.Plans.of_call.Goals as goal

pub returns-in-Some-clause-served : goal.returns-in-Some-clause-served
returns-in-Some-clause-served c =
    let chans = c.args.script.now.chans in
    let round = c.round_at-round.result in
    let same : round ≡ get_or c.args.self.now.rounds.items c.args.chan 0 = c.round_at-round.ensures ∙ ap (λ rs. get_or rs c.args.chan 0) c.as_slice.ensures.value in
    let found =
    found-kept chans c.args.self.now c.place_of-place.result c.args.chan c.args.call round c.in-Some.shared.now c.requires.planned same (omega arith) (omega arith) c.place_of-place.ensures
    (rw c.as_slice-2.ensures.value at c.in-Some.ensures) in
    let is : plan chans c.args.chan c.args.call ≡ Some (arc_value c.in_ok-plan-2.plan) = found ∙ ap (λ p. Some p) (sym c.in_ok-plan-2.ensures.cases) in
    plan-served c.args.script.now.servers chans c.args.chan c.args.call (arc_value c.in_ok-plan-2.plan) c.requires.fits.channels is

pub returns-clause-planned : goal.returns-clause-planned
returns-clause-planned c =
    let chans = c.args.script.now.chans in
    let round = c.round_at-round.result in
    let same : round ≡ get_or c.args.self.now.rounds.items c.args.chan 0 = c.round_at-round.ensures ∙ ap (λ rs. get_or rs c.args.chan 0) c.as_slice.ensures.value in
    let new : Plans = record { rounds = c.args.self.now.rounds; kept = c.keep.new.kept } in
    let shared : Shared = record { plan = c.in_ok-clone.field-0 } in
    let is : plan chans c.args.chan c.args.call ≡ Some (arc_value c.in_ok-clone.field-0) = c.in_ok-plan-3.ensures.plan ∙ ap (λ p. Some p) (sym c.in_ok-clone.ensures.cases) in
    put-kept chans c.args.self.now new c.place_of-place.result c.args.chan c.args.call round shared c.requires.planned same (omega arith) (omega arith) c.place_of-place.ensures refl c.keep.ensures is
