-- What is still to be written stands behind what was.
use Rattle.std.proofs.Common.{◌≡◌, ◌++◌, drop, string_bytes}
use Rattle.rpc_model.specs.Texts.{text_of, wire_lines}
use Rattle.journal_text.proofs.writing.put_wires.Given as goal

abbrev pub invariant-loop-server : goal.invariant-loop-server
invariant-loop-server l = string_bytes l.text ++ text_of (wire_lines l.server (drop l.server l.wires)) ≡ string_bytes l.fn.text ++ text_of (wire_lines 0 l.wires)
