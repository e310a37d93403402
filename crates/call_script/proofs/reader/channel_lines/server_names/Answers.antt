-- There is a piece, also where there is no comma.
use Rattle.std.proofs.Common.{◌==◌, length, arith, ap, sym, ◌∙◌}
use Rattle.std.proofs.lemmas.List.{length-map}
use Rattle.std.proofs.lemmas.List.Splits.{length-slice_split}
use Rattle.call_script.proofs.reader.channel_lines.server_names.Goals as goal

pub returns-clause-some : goal.returns-clause-some
returns-clause-some c =
    let count = sym (length-map c.in_ok-names.names.items _) ∙ ap length c.in_ok-names.ensures ∙ length-slice_split (λ b. b == 44) c.args.word.now in omega (arith, count)
