-- What is still to be written stands behind what was.
use Rattle.std.proofs.Common.{◌≡◌, ◌++◌, map, drop, string_bytes}
use Rattle.rpc_model.specs.Texts.{text_of}
use Rattle.rpc_model.specs.declared.line.Line.TheVariants as line
use Rattle.journal_text.proofs.lines.put_outs.Given as goal

abbrev pub invariant-loop-item : goal.invariant-loop-item
invariant-loop-item l = string_bytes l.text ++ text_of (map line.Out (drop l.item-index l.items)) ≡ string_bytes l.fn.text ++ text_of (map line.Out l.items)
