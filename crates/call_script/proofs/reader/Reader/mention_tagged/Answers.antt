-- One more server is mentioned, or has no room.
use Rattle.std.proofs.Common.{rules, ◌≡◌, ℕ, List, [], length, get_or, true, false, arith, sym, ap, ◌∙◌}
use Rattle.std.specs.Prelude.{nat_le}
use Rattle.std.proofs.lemmas.Bool.Decides.{nat_tests}
use Rattle.rpc_model.specs.ChannelLines.{mention, mention_all, names_of}
use Rattle.call_script.specs.declared.channel_words.NamedTag.{NamedTag as CodeTag}
use Rattle.call_script.specs.Named.{named_all}
use Rattle.call_script.proofs.Parts.{tagged_all, tagged_next, tagged_over, tagged_some}
use Rattle.call_script.proofs.reader.Reader.mention_tagged.Goals as goal

pub returns-then-not-branch-clause-room : goal.returns-then-not-branch-clause-room
returns-then-not-branch-clause-room c =
    let none : CodeTag = record { name = record { ref_ptr = (0, 0); now = [] }; part = 0; of = 0 } in
    let tag = get_or c.args.named.now c.loop-tag.tag-index none in
    let full : false ≡ nat_le (length (mention c.loop-tag.self.servers tag.name.now)) 16 = search rules in
    tagged_over c.loop-tag.self.servers c.args.named.now c.loop-tag.tag-index none c.loop-tag-test.true full ∙ ap (λ (all : List (List ℕ)). nat_le (length all) 16) c.loop-tag.invariant.rest

pub loop-tag-preserved : goal.loop-tag-preserved
loop-tag-preserved c =
    let none : CodeTag = record { name = record { ref_ptr = (0, 0); now = [] }; part = 0; of = 0 } in
    let tag = get_or c.args.named.now c.loop-tag.tag-index none in
    let room : true ≡ nat_le (length (mention c.loop-tag.self.servers tag.name.now)) 16 = search rules in
    let next : c.mention.new.self ≡ record c.loop-tag.self { servers = mention c.loop-tag.self.servers tag.name.now } = search rules in
    rw next (record {
      rest = sym (tagged_next c.loop-tag.self.servers c.args.named.now c.loop-tag.tag-index none c.loop-tag-test.true) ∙ c.loop-tag.invariant.rest;
      same = search rules;
      few = grind (arith, nat_tests, room);
    })

pub returns-clause-known : goal.returns-clause-known
returns-clause-known c is =
    let all : c.loop-tag.self.servers ≡ mention_all c.args.self.now.servers (names_of (named_all c.args.named.now)) =
    sym (tagged_all c.loop-tag.self.servers c.args.named.now c.loop-tag.tag-index (search rules)) ∙ c.loop-tag.invariant.rest in
    rw all (tagged_some c.args.self.now.servers c.args.named.now c.requires.some)
