-- One more name is mentioned, or has no room.
use Rattle.std.proofs.Common.{rules, ◌≡◌, ℕ, List, [], Bor, length, get_or, map, true, false, arith, sym, ap, ◌∙◌}
use Rattle.std.specs.Prelude.{nat_le}
use Rattle.std.proofs.lemmas.Bool.Decides.{nat_tests}
use Rattle.rpc_model.specs.ChannelLines.{mention, mention_all}
use Rattle.call_script.proofs.Servers.{mentioned_all, mentioned_next, mentioned_over, mention_all_some}
use Rattle.call_script.proofs.reader.Reader.mention_all.Goals as goal

pub returns-then-not-branch-clause-room : goal.returns-then-not-branch-clause-room
returns-then-not-branch-clause-room c =
    let none : Bor (List ℕ) = record { ref_ptr = (0, 0); now = [] } in
    let full : false ≡ nat_le (length (mention c.loop-name.self.servers (get_or c.args.names.now c.loop-name.name-index none).now)) 16 = search rules in
    mentioned_over c.loop-name.self.servers c.args.names.now c.loop-name.name-index none c.loop-name-test.true full ∙ ap (λ (all : List (List ℕ)). nat_le (length all) 16) c.loop-name.invariant.rest

pub loop-name-preserved : goal.loop-name-preserved
loop-name-preserved c =
    let none : Bor (List ℕ) = record { ref_ptr = (0, 0); now = [] } in
    let room : true ≡ nat_le (length (mention c.loop-name.self.servers (get_or c.args.names.now c.loop-name.name-index none).now)) 16 = search rules in
    let next : c.mention.new.self ≡ record c.loop-name.self { servers = mention c.loop-name.self.servers (get_or c.args.names.now c.loop-name.name-index none).now } = search rules in
    rw next (record {
      rest = sym (mentioned_next c.loop-name.self.servers c.args.names.now c.loop-name.name-index none c.loop-name-test.true) ∙ c.loop-name.invariant.rest;
      same = search rules;
      few = grind (arith, nat_tests, room);
    })

pub returns-clause-known : goal.returns-clause-known
returns-clause-known c is =
    let all : c.loop-name.self.servers ≡ mention_all c.args.self.now.servers (map (λ n. n.now) c.args.names.now) =
    sym (mentioned_all c.loop-name.self.servers c.args.names.now c.loop-name.name-index (search rules)) ∙ c.loop-name.invariant.rest in
    rw all (mention_all_some c.args.self.now.servers c.args.names.now c.requires.some)
