-- Those so far and those of the words that are left are all.
use Rattle.std.proofs.Common.{◌≡◌, ◌<◌, length, map, drop}
use Rattle.std.specs.Prelude.{All}
use Rattle.rpc_model.specs.Words.{each}
use Rattle.rpc_model.specs.ChannelWords.{sub_word}
use Rattle.call_script.proofs.Each.{behind}
use Rattle.call_script.proofs.reader.Reader.sub_words.Given as goal

abbrev pub invariant-loop-word : goal.invariant-loop-word
invariant-loop-word l = record {
  rest : behind l.subs.items (each (sub_word l.self.names) (map (λ w. w.now) (drop l.word-index l.words))) ≡ each (sub_word l.self.names) (map (λ w. w.now) l.fn.words);
  known : All (λ s. s.chan < length l.self.chans) l.subs.items;
  many : length l.subs.items ≡ l.word-index;
}
