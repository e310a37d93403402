-- What is still to be written stands behind what was.
use Rattle.std.proofs.Common.{◌≡◌, ◌++◌, drop, string_bytes}
use Rattle.std.specs.List.{flat_map}
use Rattle.rpc_model.specs.Texts.{text_of, call_lines}
use Rattle.journal_text.proofs.writing.put_calls.Given as goal

abbrev pub invariant-loop-item : goal.invariant-loop-item
invariant-loop-item l = string_bytes l.text ++ text_of (flat_map call_lines (drop l.item-index l.calls)) ≡ string_bytes l.fn.text ++ text_of (flat_map call_lines l.calls)
