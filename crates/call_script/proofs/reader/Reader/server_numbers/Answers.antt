-- One more number is found.
use Rattle.std.proofs.Common.{rules, ◌≡◌, ℕ, ◌<◌, ◌++◌, ◌∷◌, List, [], Bor, length, get_or, unwrap_or, refl, ◌∙◌}
use Rattle.std.proofs.lemmas.List.Elements.{All-push}
use Rattle.rpc_model.specs.Words.{index_of}
use Rattle.call_script.proofs.Servers.{numbered_next, number_below}
use Rattle.call_script.proofs.reader.Reader.server_numbers.Goals as goal

pub loop-name-preserved : goal.loop-name-preserved
loop-name-preserved c =
    let none : Bor (List ℕ) = record { ref_ptr = (0, 0); now = [] } in
    let name = (get_or c.args.names.now c.loop-name.name-index none).now in
    let number = unwrap_or (index_of c.args.self.now.servers name) 0 in
    let pushed : c.push.new.self.items ≡ c.loop-name.numbers.items ++ number ∷ [] = search rules in
    rw pushed (record {
      rest = numbered_next c.args.self.now.servers c.args.names.now c.loop-name.numbers.items c.loop-name.name-index none c.loop-name-test.true ∙ c.loop-name.invariant.rest;
      below = All-push (λ n. n < length c.args.self.now.servers) c.loop-name.numbers.items number c.loop-name.invariant.below
          (number_below c.args.self.now.servers name (index_of c.args.self.now.servers name) refl c.requires);
    })
