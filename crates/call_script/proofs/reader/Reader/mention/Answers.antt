-- One more server.
use Rattle.std.proofs.Common.{rules}
use Rattle.call_script.proofs.Kept.{within_server}
use Rattle.call_script.proofs.reader.Reader.mention.Goals as goal

pub invariant_of-self-2 : goal.invariant_of-self-2
invariant_of-self-2 c = rw c.in_ok-push.ensures.name (within_server _ _ _ c.args.name.now _ _ _ _ _ _ c.self.invariant (search rules))
