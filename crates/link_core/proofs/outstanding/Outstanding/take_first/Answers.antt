use Rattle.std.proofs.Common.{◌≡◌, None, Some, ap, sym, ◌∙◌, rules}
use Rattle.std.specs.Option.{option_map}
use Rattle.link_core.specs.Outstanding.{call_of, first}
use Rattle.link_core.proofs.Waiting.{first_is}
use Rattle.link_core.proofs.outstanding.Outstanding.take_first.Goals as goal

pub returns-in-None-clause-answer : goal.returns-in-None-clause-answer
returns-in-None-clause-answer c =
    let h : Some c.in_ok-id.id ≡ option_map (λ e. e.0) (first c.args.self.now) = search rules in
    let n : call_of c.in_ok-id.id c.args.self.now ≡ None = search rules in
    sym (first_is c.in_ok-id.id c.args.self.now h ∙ ap (option_map (λ call. (c.in_ok-id.id, call))) n)
