-- The call at its place.
use Rattle.std.proofs.Common.{◌∙◌, sym}
use Rattle.call_script.proofs.Places.{no_chan, chan_at, found_place}
use Rattle.call_script.proofs.calls.Calls.chan_of.Goals as goal

pub returns-in_err-place : goal.returns-in_err-place
returns-in_err-place c =
    let none = found_place c.self.inside.numbers c.self.inside.calls.items c.args.number _ c.self.invariant (sym c.in_err-place.was ∙ c.place_of.ensures.place) in
    rw (← c.self.view_is) (c.from_residual.ensures ∙ sym (no_chan c.self.inside.calls.items c.args.number none))

pub returns : goal.returns
returns c =
    let at = found_place c.self.inside.numbers c.self.inside.calls.items c.args.number _ c.self.invariant (sym c.in_ok-place.was ∙ c.place_of.ensures.place) in
    rw (← c.self.view_is) (sym (chan_at c.self.inside.calls.items c.args.number c.in_ok-place.place c.index.result.now at c.index.ensures))
