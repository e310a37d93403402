-- What is mentioned so far goes on to all.
use Rattle.std.proofs.Common.{◌≡◌, ◌≤◌, length, map, drop}
use Rattle.rpc_model.specs.ChannelLines.{mention_all}
use Rattle.call_script.proofs.reader.Reader.mention_all.Given as goal

abbrev pub invariant-loop-name : goal.invariant-loop-name
invariant-loop-name l = record {
  rest : mention_all l.self.servers (map (λ n. n.now) (drop l.name-index l.names)) ≡ mention_all l.fn.self.servers (map (λ n. n.now) l.fn.names);
  same : l.self ≡ record l.fn.self { servers = l.self.servers };
  few : length l.self.servers ≤ 16;
}
