-- The call at the place of its number.
use Rattle.std.proofs.Common.{ap, ◌∙◌, sym}
use Rattle.std.specs.Option.{option_copied}
use Rattle.sim_run.proofs.Numbered.{no_call, call_at}
use Rattle.sim_run.proofs.call_table.CallTable.get.Goals as goal

pub returns-in_err-place : goal.returns-in_err-place
returns-in_err-place c = record {
  value =
      rw (← c.self.view_is) (ap option_copied c.from_residual.ensures
      ∙ no_call c.self.inside.numbers c.self.inside.calls.items c.args.call c.self.invariant (sym c.in_err-place.was ∙ c.place_of.ensures.place));
}

pub returns : goal.returns
returns c = record {
  value =
      rw (← c.self.view_is) (call_at c.self.inside.numbers c.self.inside.calls.items c.args.call c.in_ok-place.place c.index.result.now c.self.invariant
      (sym c.in_ok-place.was ∙ c.place_of.ensures.place) c.index.ensures);
}
