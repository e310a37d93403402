-- One more line.
use Rattle.std.proofs.Common.{◌∷◌, [], ◌++◌, ◌^◌, ◌<◌, ap, subst, sym, ◌∙◌, append_assoc}
use Rattle.std.specs.List.{IsDistinct}
use Rattle.std.specs.Map.{keys_of}
use Rattle.std.specs.Vec.Iter.{into_iter_items}
use Rattle.std.proofs.Common.{nat_eq}
use Rattle.rpc_model.specs.Fits.{Fits}
use Rattle.rpc_model.specs.Limits.{called}
use Rattle.rpc_model.specs.Told.{told_from}
use Rattle.sim_run.specs.Desk.{replay_of}
use Rattle.sim_run.specs.Replaying.{whole}
use Rattle.sim_run.proofs.Turns.{turn-early, turn-act, turn-narrow, turn-new, turn-led, turn-left, turn-distinct, turn-few}
use Rattle.sim_run.proofs.replaying.Replaying.replay_line.Goals as goal

pub step-requires-clause-early : goal.step-requires-clause-early
step-requires-clause-early c =
    let way = c.requires.under_way in
    let fits = rw c.in-Some.ensures.next at way.fits in
    turn-early c.args.self.now.script way.before (into_iter_items c.next_of.new.acts) c.in-Some.act (replay_of c.args.self.now.replay) fits way.led

pub step-requires-clause-act : goal.step-requires-clause-act
step-requires-clause-act c =
    let way = c.requires.under_way in
    turn-act c.args.self.now.script way.before (into_iter_items c.next_of.new.acts) c.in-Some.act (rw c.in-Some.ensures.next at way.fits)

pub step-requires-clause-narrow : goal.step-requires-clause-narrow
step-requires-clause-narrow c =
    let way = c.requires.under_way in
    turn-narrow c.args.self.now.script way.before (into_iter_items c.next_of.new.acts) c.in-Some.act (rw c.in-Some.ensures.next at way.fits)

pub step-requires-clause-new : goal.step-requires-clause-new
step-requires-clause-new c =
    turn-new c.args.self.now.replay.calls.entries c.in-Some.act (into_iter_items c.next_of.new.acts) (rw c.in-Some.ensures.next at c.requires.under_way.numbers)

pub returns-clause-under_way : goal.returns-clause-under_way
returns-clause-under_way c =
    let way = c.requires.under_way in
    let rest = into_iter_items c.next_of.new.acts in
    let act = c.in-Some.act in
    let keys = keys_of c.args.self.now.replay.calls.entries in
    record {
      before = way.before ++ act ∷ [];
      rest = way.rest;
      fits = subst (λ acts. Fits (whole c.args.self.now.script acts)) (sym (append_assoc way.before (act ∷ []) rest)) (rw c.in-Some.ensures.next at way.fits);
      ready = c.in_ok-step.ensures.ready;
      led = turn-led c.args.self.now.script way.before act (replay_of c.args.self.now.replay) (replay_of c.step.new.self) way.led c.in_ok-step.ensures.after;
      numbers = turn-distinct keys (keys_of c.step.new.self.calls.entries) act rest (rw c.in-Some.ensures.next at way.numbers) c.in_ok-step.ensures.calls;
      few = turn-few keys (keys_of c.step.new.self.calls.entries) way.before act c.in_ok-step.ensures.calls way.few;
      planned = c.in_ok-step.ensures.planned;
    }

pub returns-clause-left : goal.returns-clause-left
returns-clause-left c =
    turn-left c.args.self.now.script (replay_of c.args.self.now.replay) (replay_of c.step.new.self) c.args.self.now.told.items c.step.new.told.items c.in-Some.act
    (into_iter_items c.next_of.new.acts) c.in_ok-step.ensures.after c.in_ok-step.ensures.tells
    ∙ ap (λ acts. c.args.self.now.told.items ++ told_from c.args.self.now.script (replay_of c.args.self.now.replay) acts) (sym c.in-Some.ensures.next)
