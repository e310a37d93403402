-- All lines are left.
use Rattle.std.proofs.Common.{[], length, ap, refl, sym, ◌∙◌, subst, arith, nat_eq}
use Rattle.std.specs.List.{IsDistinct}
use Rattle.std.specs.Map.{keys_of}
use Rattle.rpc_model.specs.Fits.{Fits}
use Rattle.rpc_model.specs.Told.{told_from}
use Rattle.model_laws.specs.Early.{settled}
use Rattle.sim_run.specs.Desk.{replay_of}
use Rattle.sim_run.specs.Replaying.{whole}
use Rattle.sim_run.proofs.Turns.{fits-rest, told-begins}
use Rattle.sim_run.proofs.replaying.Replaying.begin.Goals as goal

pub open-requires : goal.open-requires
open-requires c = rw c.apart-script.ensures.rest (fits-rest c.args.script c.requires)

pub returns-clause-under_way : goal.returns-clause-under_way
returns-clause-under_way c =
    let acts = c.into_iter.ensures.rest ∙ c.apart-script.ensures.acts in
    record {
      before = [];
      rest = rw c.apart-script.ensures.rest (fits-rest c.args.script c.requires);
      fits = rw (c.apart-script.ensures.rest, acts) c.requires;
      ready = c.in_ok-replay.ensures.ready;
      led = ap settled c.in_ok-replay.ensures.begins;
      numbers = rw (c.in_ok-replay.ensures.none, acts) c.requires.calls_differ;
      few = omega (arith, ap (λ es. length (keys_of es)) c.in_ok-replay.ensures.none);
      planned = c.in_ok-plans.ensures;
    }

pub returns-clause-left : goal.returns-clause-left
returns-clause-left c =
    let acts = c.into_iter.ensures.rest ∙ c.apart-script.ensures.acts in
    rw (c.new.ensures.items, acts, c.apart-script.ensures.rest) (told-begins c.args.script (replay_of c.in_ok-replay.replay) c.in_ok-replay.ensures.begins)
