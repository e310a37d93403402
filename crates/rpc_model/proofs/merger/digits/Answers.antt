-- More digits spell no smaller number, so one that is too large stays so.
use Rattle.std.proofs.Common.{arith, drop, ◌<◌, ◌-◌, ◌^◌}
use Rattle.rpc_model.specs.Words.{digits_after}
use Rattle.rpc_model.proofs.Digits.{digits_after-over}
use Rattle.rpc_model.proofs.merger.digits.Goals as goal

pub returns-then-next-from : goal.returns-then-next-from
returns-then-next-from c =
    let over : 2 ^ 64 - 1 < digits_after c.loop-digit.number (drop c.loop-digit.digit-index c.args.text.now) =
    digits_after-over c.loop-digit.number c.loop-digit.digit-index (2 ^ 64 - 1) c.args.text.now c.loop-digit-test.true (omega arith) in
    omega (arith, c.loop-digit.invariant.spelled)
