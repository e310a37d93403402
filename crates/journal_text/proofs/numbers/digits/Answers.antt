-- More digits spell no smaller number, so one that is too large stays so.
use Rattle.std.proofs.Common.{arith, drop, ◌<◌}
use Rattle.rpc_model.specs.Words.{digits_after}
use Rattle.rpc_model.proofs.Digits.{digits_after-over}
use Rattle.journal_text.proofs.numbers.digits.Goals as goal

pub returns-then-number-from : goal.returns-then-number-from
returns-then-number-from c =
    let over : c.args.most < digits_after c.loop-digit.number (drop c.loop-digit.digit-index c.args.word.now) =
    digits_after-over c.loop-digit.number c.loop-digit.digit-index c.args.most c.args.word.now c.loop-digit-test.true (omega arith) in
    omega (arith, c.loop-digit.invariant.spelled)
