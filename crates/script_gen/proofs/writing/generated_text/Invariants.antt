-- What is written so far goes on to the whole script.
use Rattle.std.proofs.Common.{◌≡◌, ◌++◌, ◌<◌, ◌^◌, string_bytes, ◌+◌, ◌-◌}
use Rattle.script_gen.specs.Generator.{lines_from, generated}
use Rattle.script_gen.proofs.writing.generated_text.Given as goal

abbrev pub invariant-loop-before : goal.invariant-loop-before
invariant-loop-before l = record {
  small : l.draw < 2 ^ 32;
  so_far : string_bytes l.text ++ lines_from l.draw (l.before + 1) (l.count - l.before) ≡ generated l.count;
}
