-- Those so far and those of the words that are left are all.
use Rattle.std.proofs.Common.{◌≡◌, ◌<◌, length, map, drop}
use Rattle.std.specs.Prelude.{All}
use Rattle.rpc_model.specs.Words.{each, known_name}
use Rattle.call_script.proofs.Each.{behind}
use Rattle.call_script.proofs.reader.Reader.known_channels.Given as goal

abbrev pub invariant-loop-word : goal.invariant-loop-word
invariant-loop-word l = record {
  rest : behind l.numbers.items (each (known_name l.self.names) (map (λ w. w.now) (drop l.word-index l.words))) ≡ each (known_name l.self.names) (map (λ w. w.now) l.fn.words);
  known : All (λ n. n < length l.self.chans) l.numbers.items;
  many : length l.numbers.items ≡ l.word-index;
}
