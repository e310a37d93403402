-- What the getters give is judged by the table.
use Rattle.std.proofs.Common.{rules, ap, refl, sym, codes, None, Some, option_map, map, string_bytes, ◌≡◌, ◌∙◌, List, ℕ, Option, is_some, true}
use Rattle.std.proofs.lemmas.Bool.{true≢false}
use Rattle.brpc_top.proofs.Taken.{got-is}
use Rattle.brpc_top.proofs.Named.{named}
use Rattle.brpc_top.specs.Words.{pair_of}
use Rattle.clap.specs.Words.{first_value, found_of}
use Rattle.brpc_top.proofs.words.read_words.Goals as goal

pub returns : goal.returns
returns c =
    let a : Some c.in-Some.command.now ≡ first_value (found_of c.in-Ok.matches) (codes "command") = search rules in
    let n : option_map (λ n. n.now) c.get_str-2.result ≡ first_value (found_of c.in-Ok.matches) (codes "count") = search rules in
    let e = got-is (map (λ w. string_bytes w) c.args.words.now) c.in-Ok.matches (Some c.in-Some.command.now) (option_map (λ n. n.now) c.get_str-2.result) (search rules) c.in-Ok.ensures.command a n in
    c.judge.ensures ∙ named (map (λ w. string_bytes w) c.args.words.now) c.in-Some.command.now (option_map (λ n. n.now) c.get_str-2.result) e

pub returns-in_default-get_str : goal.returns-in_default-get_str
returns-in_default-get_str c =
    let formed : is_some (pair_of (map (λ w. string_bytes w) c.args.words.now)) ≡ true = search rules in
    let a : None ≡ first_value (found_of c.in-Ok.matches) (codes "command") = search rules in
    let e = got-is (map (λ w. string_bytes w) c.args.words.now) c.in-Ok.matches None _ formed c.in-Ok.ensures.command a refl in
    absurd (true≢false (sym formed ∙ ap (λ (p : Option (List ℕ × Option (List ℕ))). is_some p) (sym e)))
