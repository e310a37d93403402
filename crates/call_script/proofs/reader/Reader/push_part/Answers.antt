-- A partition channel's line is refused or taken by its definition.
use Rattle.std.proofs.Common.{rules, arith, ◌≡◌, ◌<◌, ◌≤◌, true, false, length, refl, ap, sym, subst, ◌∙◌}
use Rattle.std.specs.Prelude.{List, nat_le, nat_lt, All, Result, Ok}
use Rattle.rpc_model.specs.Before.{Before}
use Rattle.rpc_model.specs.declared.script.Cause.{Cause}
use Rattle.rpc_model.specs.declared.chan.Tag.{Tag}
use Rattle.rpc_model.specs.declared.chan.Chan.TheVariants as chan
use Rattle.std.proofs.lemmas.List.{length-map}
use Rattle.rpc_model.specs.declared.chan.PartChan.{PartChan}
use Rattle.rpc_model.specs.declared.kinds.MapKind.{MapKind}
use Rattle.rpc_model.specs.declared.kinds.MergeKind.{MergeKind}
use Rattle.rpc_model.specs.ChannelLines.{mention_all, names_of, tags_of, with_chan}
use Rattle.call_script.specs.Named.{named_of, named_all, lacks_none}
use Rattle.call_script.proofs.Parts.{part_whole, part_missing, part_full, part_over, part_taken}
use Rattle.call_script.proofs.reader.Reader.push_part.Goals as goal

pub returns-then-not-has_all_parts : goal.returns-then-not-has_all_parts
returns-then-not-has_all_parts c =
    let all : lacks_none (named_all c.args.named.now) 0 c.args.bare.parts c.args.bare.parts ≡ false = search rules in
    part_missing c.args.self.now c.args.name.now (named_all c.args.named.now) _ (mention_all c.args.self.now.servers (names_of (named_all c.args.named.now))) refl all

pub returns-then-len-ge-CHANNEL_LIMIT : goal.returns-then-len-ge-CHANNEL_LIMIT
returns-then-len-ge-CHANNEL_LIMIT c =
    let all : lacks_none (named_all c.args.named.now) 0 c.args.bare.parts c.args.bare.parts ≡ true = search rules in
    let full : nat_lt (length c.args.self.now.names) 1000 ≡ false = search rules in
    part_full c.args.self.now c.args.name.now (named_all c.args.named.now) _ (mention_all c.args.self.now.servers (names_of (named_all c.args.named.now))) refl all full

pub returns-then-not-branch : goal.returns-then-not-branch
returns-then-not-branch c =
    let all : lacks_none (named_all c.args.named.now) 0 c.args.bare.parts c.args.bare.parts ≡ true = search rules in
    let room : nat_lt (length c.args.self.now.names) 1000 ≡ true = search rules in
    let over : nat_le (length (mention_all c.args.self.now.servers (names_of (named_all c.args.named.now)))) 16 ≡ false = search rules in
    part_over c.args.self.now c.args.name.now (named_all c.args.named.now) _ (mention_all c.args.self.now.servers (names_of (named_all c.args.named.now))) refl all room over

pub push_channel-requires-clause-chan : goal.push_channel-requires-clause-chan
push_channel-requires-clause-chan c =
    let named = named_all c.args.named.now in
    let servers = c.mention_tagged.new.self.servers in
    let all : lacks_none named 0 c.args.bare.parts c.args.bare.parts ≡ true = search rules in
    let tags = c.of.ensures ∙ c.in_ok-tags.ensures.tags in
    let part : PartChan MapKind MergeKind = record c.args.bare { tags = c.of.result } in
    let many = ap length tags ∙ length-map named _ ∙ length-map c.args.named.now named_of in
    record {
      some_part = c.requires.part.some_part;
      few_parts = c.requires.part.few_parts;
      few_tags = (let few = c.requires.few in omega (arith, many, few));
      known_servers = subst (λ z. All (λ tag. (tag.server < length servers) × (tag.part < tag.of) × (tag.of ≤ 1000)) z) (sym c.of.ensures) c.in_ok-tags.ensures.known;
      no_part_missing = part_whole c.args.self.now c.args.name.now named part servers tags all;
      few_retries = c.requires.part.few_retries;
      fail = c.requires.part.fail;
      ok = c.requires.part.ok;
      backup = c.requires.part.backup;
      timeout = c.requires.part.timeout;
    }

pub returns : goal.returns
returns c =
    let named = named_all c.args.named.now in
    let servers = mention_all c.args.self.now.servers (names_of named) in
    let all : lacks_none named 0 c.args.bare.parts c.args.bare.parts ≡ true = search rules in
    let room : nat_lt (length c.args.self.now.names) 1000 ≡ true = search rules in
    let fit : nat_le (length servers) 16 ≡ true = search rules in
    let mentioned : c.mention_tagged.new.self ≡ record c.args.self.now { servers = servers } = search rules in
    let tags : c.of.result ≡ tags_of servers named = c.of.ensures ∙ c.in_ok-tags.ensures.tags ∙ ap (λ (z : Before). tags_of z.servers named) mentioned in
    let part : PartChan MapKind MergeKind = record c.args.bare { tags = tags_of servers named } in
    part_taken c.args.self.now c.args.name.now named part servers refl all room fit
    ∙ ap ok
    (sym
    (c.in_ok-push_channel.ensures.channel ∙ ap (λ (z : Before). with_chan z c.args.name.now (chan.Part (record c.args.bare { tags = c.of.result }))) mentioned
    ∙ ap (λ (ts : List Tag). with_chan (record c.args.self.now { servers = servers }) c.args.name.now (chan.Part (record c.args.bare { tags = ts }))) tags))
  where
    ok : Before → Result Before Cause
    ok z = Ok z
