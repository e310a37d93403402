-- What is read so far goes on to the number that all digits spell.
use Rattle.std.proofs.Common.{◌≡◌, ◌≤◌, drop}
use Rattle.rpc_model.specs.Words.{all_within, digits_after}
use Rattle.call_script.proofs.words.digits.Given as goal

abbrev pub invariant-loop-byte : goal.invariant-loop-byte
invariant-loop-byte l = record {
  right : all_within 48 57 (drop l.byte-index l.word) ≡ all_within 48 57 l.word;
  spelled : digits_after l.number (drop l.byte-index l.word) ≡ digits_after 0 l.word;
  small : l.number ≤ l.high;
}
