-- The reply stands there as often as the loop went round.
use Rattle.std.proofs.Common.{◌≡◌, ◌++◌}
use Rattle.prpc_frames.specs.Stream.Spelling.{frame_bytes}
use Rattle.echo_server.specs.Serving.{repeated}
use Rattle.echo_server.proofs.serving.put_replies.Given as goal

abbrev pub invariant-loop-time : goal.invariant-loop-time
invariant-loop-time l = l.text.items ≡ l.initial.text.items ++ repeated l._time (frame_bytes l.reply)
