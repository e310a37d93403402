-- What is read so far goes on to the number that all digits spell.
use Rattle.std.proofs.Common.{◌≡◌, ◌≤◌, drop}
use Rattle.rpc_model.specs.Words.{digits_after}
use Rattle.journal_text.proofs.numbers.digits.Given as goal

abbrev pub invariant-loop-digit : goal.invariant-loop-digit
invariant-loop-digit l = record { spelled : digits_after l.number (drop l.digit-index l.word) ≡ digits_after 0 l.word; small : l.number ≤ l.most }
