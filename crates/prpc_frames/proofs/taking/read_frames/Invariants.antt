use Rattle.std.proofs.Common.{◌≡◌, ◌≤◌, ◌-◌, length, drop}
use Rattle.prpc_frames.specs.Stream.Reading.{frames, joined}
use Rattle.prpc_frames.specs.Seen.{IsPrefix}
use Rattle.prpc_frames.proofs.taking.read_frames.Given as goal

abbrev pub invariant-frames : goal.invariant-frames
invariant-frames l =
    (joined l.waiting.items (frames l.place (drop l.used l.bytes)) ≡ joined l.fn.waiting.items (frames l.fn.at l.bytes))
    × (l.used ≤ length l.bytes) × IsPrefix l.fn.waiting.items l.waiting.items

abbrev pub decreases-frames : goal.decreases-frames
decreases-frames l = length l.bytes - l.used
