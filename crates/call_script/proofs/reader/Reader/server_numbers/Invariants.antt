-- The numbers so far and those of the names that are left are all.
use Rattle.std.proofs.Common.{◌≡◌, ◌<◌, ◌++◌, All, length, map, drop}
use Rattle.rpc_model.specs.ChannelLines.{numbers_of}
use Rattle.call_script.proofs.reader.Reader.server_numbers.Given as goal

abbrev pub invariant-loop-name : goal.invariant-loop-name
invariant-loop-name l = record {
  rest : l.numbers.items ++ numbers_of l.fn.self.servers (map (λ n. n.now) (drop l.name-index l.names)) ≡ numbers_of l.fn.self.servers (map (λ n. n.now) l.fn.names);
  below : All (λ n. n < length l.fn.self.servers) l.numbers.items;
}
