-- The tags so far and those that are left are all.
use Rattle.std.proofs.Common.{◌≡◌, ◌<◌, ◌≤◌, ◌++◌, length, drop}
use Rattle.std.specs.Prelude.{All}
use Rattle.rpc_model.specs.ChannelLines.{tags_of}
use Rattle.call_script.specs.Named.{named_all}
use Rattle.call_script.proofs.reader.Reader.numbered_tags.Given as goal

abbrev pub invariant-loop-tag : goal.invariant-loop-tag
invariant-loop-tag l = record {
  rest : l.tags.items ++ tags_of l.fn.self.servers (named_all (drop l.tag-index l.named)) ≡ tags_of l.fn.self.servers (named_all l.fn.named);
  below : All (λ tag. (tag.server < length l.fn.self.servers) × (tag.part < tag.of) × (tag.of ≤ 1000)) l.tags.items;
}
