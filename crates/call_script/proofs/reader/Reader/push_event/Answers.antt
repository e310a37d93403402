-- One more line that begins no call.
use Rattle.std.proofs.Common.{rules}
use Rattle.call_script.proofs.Kept.{within_event}
use Rattle.call_script.proofs.reader.Reader.push_event.Goals as goal

pub invariant_of-self-2 : goal.invariant_of-self-2
invariant_of-self-2 c =
    rw c.in_ok-push.ensures.items (within_event _ _ _ _ _ _ c.args.act _ _ _ c.self.invariant (search rules) c.requires.moment (search rules) c.requires.event)
