-- What is written so far and what is left to be told are the text of all.
use Rattle.std.proofs.Common.{◌≡◌, ◌++◌, length}
use Rattle.rpc_model.specs.Text.{told_text}
use Rattle.rpc_model.specs.Told.{told}
use Rattle.sim_run.specs.Replaying.{IsUnderWay, left}
use Rattle.brpc_top.proofs.top.told_text_of.Given as goal

abbrev pub invariant-told : goal.invariant-told
invariant-told l = record {
  under_way : IsUnderWay l.replaying;
  said : l.text.items ++ told_text (left l.replaying) ≡ told_text (told l.fn.script);
}

abbrev pub decreases-told : goal.decreases-told
decreases-told l = length (left l.replaying)
