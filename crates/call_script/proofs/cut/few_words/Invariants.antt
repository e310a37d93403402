-- The words so far and those of the bytes that are left are all.
use Rattle.std.proofs.Common.{length}
use Rattle.call_script.proofs.FewWords.{AreReadIn}
use Rattle.call_script.proofs.cut.few_words.Given as goal

abbrev pub invariant-loop-at : goal.invariant-loop-at
invariant-loop-at l = AreReadIn l.text l.few l.count l.rest

abbrev pub decreases-loop-at : goal.decreases-loop-at
decreases-loop-at l = length l.rest
