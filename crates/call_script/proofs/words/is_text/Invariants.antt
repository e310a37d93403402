-- Both are alike so far, and so as they are from here on.
use Rattle.std.proofs.Common.{◌≡◌, drop, bytes_eq}
use Rattle.call_script.proofs.words.is_text.Given as goal

abbrev pub invariant-loop-at : goal.invariant-loop-at
invariant-loop-at l = record { left : bytes_eq (drop l.at l.word) (drop l.at l.text) ≡ bytes_eq l.word l.text }
