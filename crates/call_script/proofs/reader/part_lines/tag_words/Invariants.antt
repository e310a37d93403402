-- Those so far and those of the words that are left are all.
use Rattle.std.proofs.Common.{◌≡◌, length, map, drop}
use Rattle.std.specs.Prelude.{All}
use Rattle.rpc_model.specs.Words.{each}
use Rattle.rpc_model.specs.ChannelWords.{tag_word}
use Rattle.call_script.specs.Named.{named_all, IsTag}
use Rattle.call_script.proofs.Each.{behind}
use Rattle.call_script.proofs.reader.part_lines.tag_words.Given as goal

abbrev pub invariant-loop-word : goal.invariant-loop-word
invariant-loop-word l = record {
  rest : behind (named_all l.tags.items) (each tag_word (map (λ w. w.now) (drop l.word-index l.words))) ≡ each tag_word (map (λ w. w.now) l.fn.words);
  right : All IsTag l.tags.items;
  many : length l.tags.items ≡ l.word-index;
}
