-- The directions so far and those of the words that are left are all.
use Rattle.std.proofs.Common.{◌≡◌, map, drop}
use Rattle.std.specs.Prelude.{All}
use Rattle.rpc_model.specs.Words.{direction_words}
use Rattle.rpc_model.specs.Limits.{IsSpelled}
use Rattle.call_script.proofs.Each.{behind}
use Rattle.call_script.proofs.reader.setting_lines.direction_words.Given as goal

abbrev pub invariant-loop-word : goal.invariant-loop-word
invariant-loop-word l = record {
  rest : behind l.directions.items (direction_words (map (λ w. w.now) (drop l.word-index l.words))) ≡ direction_words (map (λ w. w.now) l.fn.words);
  spelled : All IsSpelled l.directions.items;
}
