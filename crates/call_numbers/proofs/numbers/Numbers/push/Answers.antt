-- One more number.
use Rattle.std.proofs.Common.{rules}
use Rattle.call_numbers.proofs.Finds.{one_follows, one_placed}
use Rattle.call_numbers.proofs.numbers.Numbers.push.Goals as goal

pub invariant_of-self-then-follows : goal.invariant_of-self-then-follows
invariant_of-self-then-follows c =
    rw c.in_ok-push.ensures.items (one_follows c.self.inside.places c.self.inside.numbers.items c.args.number c.self.invariant (search rules) (search rules))

pub returns-then-follows-clause-once : goal.returns-then-follows-clause-once
returns-then-follows-clause-once c = (invariant_of-self-then-follows c).once

pub invariant_of-self-in-Ok : goal.invariant_of-self-in-Ok
invariant_of-self-in-Ok c =
    rw c.in_ok-push.ensures.items (one_placed c.self.inside.places c.insert.new.self c.self.inside.numbers.items c.args.number c.self.invariant (search rules) (search rules) (search rules))

pub returns-in-Ok-clause-once : goal.returns-in-Ok-clause-once
returns-in-Ok-clause-once c = (invariant_of-self-in-Ok c).once
