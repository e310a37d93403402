-- A load is of 1 to 100,000 calls.
use Rattle.std.proofs.Common.{◌≡◌, map, string_bytes, Some, rules, arith}
use Rattle.std.proofs.lemmas.Grind.{common_steps}
use Rattle.brpc_top.specs.declared.command.Command.TheVariants.{Load}
use Rattle.brpc_top.specs.Words.{command_of}
use Rattle.brpc_top.proofs.Named.{load-count}
use Rattle.brpc_top.proofs.top.run.Goals as goal

pub run_load-requires : goal.run_load-requires
run_load-requires g c =
    let named : command_of (map (λ w. string_bytes w) c.args.words.now) ≡ Some (Load c.in-Some-Load.count) = first_of (search rules, grind (arith, common_steps), cc) in
    load-count (map (λ w. string_bytes w) c.args.words.now) c.in-Some-Load.count named
