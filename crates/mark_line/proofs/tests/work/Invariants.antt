use Rattle.mark_line.specs.Line.{IsPassOf}
use Rattle.mark_line.proofs.tests.work.Given as goal

abbrev pub invariant-loop-i : goal.invariant-loop-i
invariant-loop-i g l = IsPassOf l.line l.pass
