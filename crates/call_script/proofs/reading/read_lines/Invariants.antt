-- What is judged so far goes on to what all lines say.
use Rattle.std.proofs.Common.{◌≡◌, ◌≤◌, ◌+◌, ◌==◌, length}
use Rattle.std.specs.List.{slice_split}
use Rattle.rpc_model.specs.Before.{nothing}
use Rattle.rpc_model.specs.Script.{lines_say}
use Rattle.call_script.proofs.reading.read_lines.Given as goal

abbrev pub invariant-lines : goal.invariant-lines
invariant-lines l = record {
  said : lines_say l.number l.reader (slice_split (λ b. b == 10) l.rest) ≡ lines_say 1 (nothing l.fn.mode) (slice_split (λ b. b == 10) l.fn.bytes);
  counted : l.number + length l.rest ≤ length l.fn.bytes + 1;
}

abbrev pub decreases-lines : goal.decreases-lines
decreases-lines l = length l.rest
