-- The first line ends at the first newline, or at the end.
use Rattle.std.proofs.Common.{sym, ◌∙◌}
use Rattle.call_script.proofs.Said.{newline_some, newline_none}
use Rattle.call_script.proofs.cut.newline_place.Goals as goal

pub returns-in-Some : goal.returns-in-Some
returns-in-Some c = newline_some c.args.text.now c.in-Some.at (sym c.position_of.ensures.value ∙ c.in-Some.is)

pub returns-in-None : goal.returns-in-None
returns-in-None c = newline_none c.args.text.now (sym c.position_of.ensures.value ∙ c.in-None.is)
