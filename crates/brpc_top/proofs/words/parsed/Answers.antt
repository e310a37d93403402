-- The command that is built is the one of the definition.
use Rattle.std.proofs.Common.{rules, ap, ap₂, true, subst, map, string_bytes, ◌≡◌, ◌∙◌, IfOk, IfErr}
use Rattle.clap.specs.Words.{App, HasMatchesOf, app_of, kind_of, rule_of, takes, with_rule}
use Rattle.clap.specs.Simple.{app_of_fields}
use Rattle.clap.specs.declared.error.kind.ErrorKind.TheVariants.{OutOfMemory}
use Rattle.std.proofs.lemmas.Result.{IfErr-weaker}
use Rattle.brpc_top.proofs.Taken.{takes-all}
use Rattle.brpc_top.specs.Program.{program, command, count, bare}
use Rattle.brpc_top.proofs.words.parsed.Goals as goal

pub returns-clause-command : goal.returns-clause-command
returns-clause-command c =
    let command_is : rule_of c.required-command.result ≡ command = search rules in
    let count_is : rule_of c.new-count.result ≡ count = search rules in
    let bare_is : app_of c.no_binary_name.result ≡ bare = ap app_of_fields c.no_binary_name.ensures ∙ ap (λ (a : App). record a { top = record a.top { no_binary_name = true } }) c.new-2.ensures.app in
    let program_is : app_of c.in_ok-program.program ≡ program = c.in_ok-program.ensures.shape (search rules)
    ∙ ap₂ with_rule (c.in_ok-arg.ensures.shape (search rules) ∙ ap₂ with_rule bare_is command_is) count_is in
    subst (λ (a : App). IfOk c.try_get_matches_from.result (HasMatchesOf a (map (λ w. string_bytes w) c.args.words.now))) program_is c.try_get_matches_from.ensures.matches

pub returns-clause-memory : goal.returns-clause-memory
returns-clause-memory c =
    let command_is : rule_of c.required-command.result ≡ command = search rules in
    let count_is : rule_of c.new-count.result ≡ count = search rules in
    let bare_is : app_of c.no_binary_name.result ≡ bare = ap app_of_fields c.no_binary_name.ensures ∙ ap (λ (a : App). record a { top = record a.top { no_binary_name = true } }) c.new-2.ensures.app in
    let program_is : app_of c.in_ok-program.program ≡ program = c.in_ok-program.ensures.shape (search rules)
    ∙ ap₂ with_rule (c.in_ok-arg.ensures.shape (search rules) ∙ ap₂ with_rule bare_is command_is) count_is in
    let passes = subst (λ (a : App). IfErr c.try_get_matches_from.result (λ e. takes a (map (λ w. string_bytes w) c.args.words.now) ≡ true
    → kind_of e ≡ OutOfMemory)) program_is c.try_get_matches_from.ensures.passes in
    IfErr-weaker c.try_get_matches_from.result _ _ (λ e h. h (takes-all (map (λ w. string_bytes w) c.args.words.now) c.requires)) passes
