-- The line and the three lists are the lines of a wire.
use Rattle.std.proofs.Common.{map, string_bytes}
use Rattle.rpc_model.specs.declared.line.Line.TheVariants as line
use Rattle.journal_text.proofs.Lists.{line_and_lists}
use Rattle.journal_text.proofs.writing.put_one_wire.Goals as goal

pub returns : goal.returns
returns c =
    let a = c.in_ok-put_wire.ensures in
    let n = c.in_ok-push_str.ensures.bytes in
    let b = c.in_ok-put_outs.ensures in
    let d = c.in_ok-put_cames.ensures in
    let e = c.in_ok-put_losses.ensures in
    let outs = c.list.ensures in
    let cames = c.list-2.ensures in
    let losses = c.list-3.ensures in
    let it = c.args.it.now in
    let whole = line_and_lists (string_bytes c.args.text.now) (line.Wire c.args.server it.how) (map line.Out it.out) (map line.In it.came) (map line.Loss it.losses) in
    cc
