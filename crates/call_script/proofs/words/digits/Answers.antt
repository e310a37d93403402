-- More digits spell no smaller number, so one that is too large stays so.
use Rattle.std.proofs.Common.{arith, drop, ◌<◌}
use Rattle.rpc_model.specs.Words.{all_within, digits_after}
use Rattle.rpc_model.proofs.Digits.{digits_after-over}
use Rattle.call_script.proofs.TooLarge.{too_large}
use Rattle.call_script.proofs.words.digits.Goals as goal

pub returns-then-number-high : goal.returns-then-number-high
returns-then-number-high c =
    let over : c.args.high < digits_after c.loop-byte.number (drop c.loop-byte.byte-index c.args.word.now) =
    digits_after-over c.loop-byte.number c.loop-byte.byte-index c.args.high c.args.word.now c.loop-byte-test.true (omega arith) in
    too_large (all_within 48 57 c.args.word.now) (digits_after 0 c.args.word.now) c.args.high (omega (arith, c.loop-byte.invariant.spelled))
