use Rattle.std.proofs.Common.{sym, ◌∙◌}
use Rattle.std.proofs.lemmas.List.{at_drop_all}
use Rattle.sim_run.specs.Marked.{marked}
use Rattle.sim_run.proofs.marking.set_marks.Goals as goal

pub returns : goal.returns
returns c = sym (at_drop_all (λ xs. marked c.args.first xs c.loop-mark.marks) c.args.set.now c.loop-mark.mark-index c.loop-mark-test.false) ∙ c.loop-mark.invariant
