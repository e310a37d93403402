-- One more call.
use Rattle.std.proofs.Common.{rules}
use Rattle.sim_run.proofs.Numbered.{new_number}
use Rattle.sim_run.proofs.call_table.CallTable.push.Goals as goal

pub push-requires-2 : goal.push-requires-2
push-requires-2 c = new_number c.self.inside.numbers c.self.inside.calls.items c.args.call c.self.invariant (search rules)
