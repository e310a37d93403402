-- One more call.
use Rattle.std.proofs.Common.{rules}
use Rattle.call_script.proofs.Places.{new_number}
use Rattle.call_script.proofs.calls.Calls.push.Goals as goal

pub push-requires-2 : goal.push-requires-2
push-requires-2 c = new_number c.self.inside.numbers c.self.inside.calls.items c.args.number c.self.invariant (search rules)
