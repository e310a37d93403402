-- What is mentioned so far goes on to all.
use Rattle.std.proofs.Common.{◌≡◌, ◌≤◌, length, drop}
use Rattle.rpc_model.specs.ChannelLines.{mention_all, names_of}
use Rattle.call_script.specs.Named.{named_all}
use Rattle.call_script.proofs.reader.Reader.mention_tagged.Given as goal

abbrev pub invariant-loop-tag : goal.invariant-loop-tag
invariant-loop-tag l = record {
  rest : mention_all l.self.servers (names_of (named_all (drop l.tag-index l.named))) ≡ mention_all l.fn.self.servers (names_of (named_all l.fn.named));
  same : l.self ≡ record l.fn.self { servers = l.self.servers };
  few : length l.self.servers ≤ 16;
}
