use Rattle.std.proofs.Common.{sym, ◌∙◌}
use Rattle.std.proofs.lemmas.List.{at_drop_all}
use Rattle.rpc_model.specs.Marks.{set_all}
use Rattle.sim_run.proofs.open_call.set_marks.Goals as goal

pub returns : goal.returns
returns c = sym (at_drop_all (λ xs. set_all xs c.loop-mark.waiting.items) c.args.marks.now c.loop-mark.mark-index c.loop-mark-test.false) ∙ c.loop-mark.invariant
