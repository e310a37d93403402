-- What is still to be written stands behind what was.
use Rattle.std.proofs.Common.{◌≡◌, ◌++◌, drop, string_bytes}
use Rattle.rpc_model.specs.Texts.{text_of, lane_lines}
use Rattle.journal_text.proofs.writing.put_lanes.Given as goal

abbrev pub invariant-loop-number : goal.invariant-loop-number
invariant-loop-number l = string_bytes l.text ++ text_of (lane_lines l.number (drop l.number l.lanes)) ≡ string_bytes l.fn.text ++ text_of (lane_lines 0 l.lanes)
