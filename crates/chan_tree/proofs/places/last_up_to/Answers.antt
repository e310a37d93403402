use Rattle.std.proofs.Common.{Ok, Err}
use Rattle.std.proofs.lemmas.List.Sorted.{searched}
use Rattle.chan_tree.proofs.Rising.{weakly, behind-some, last-at, last-behind}
use Rattle.chan_tree.proofs.places.last_up_to.Goals as goal

pub overflow_sub-result : goal.overflow_sub-result
overflow_sub-result c =
    let s = searched c.args.numbers.now c.args.to (Err c.in-Err.behind) c.in-Err.ensures.position (weakly c.args.numbers.now c.requires.rising) in
    behind-some c.args.numbers.now c.args.to c.in-Err.behind c.requires.some c.requires.first s.2

pub returns-in-Ok : goal.returns-in-Ok
returns-in-Ok c =
    let s = searched c.args.numbers.now c.args.to (Ok c.in-Ok.at) c.in-Ok.ensures.position (weakly c.args.numbers.now c.requires.rising) in
    last-at c.args.numbers.now c.args.to c.in-Ok.at c.requires.rising s.0 s.1

pub returns-in-Err : goal.returns-in-Err
returns-in-Err c =
    let s = searched c.args.numbers.now c.args.to (Err c.in-Err.behind) c.in-Err.ensures.position (weakly c.args.numbers.now c.requires.rising) in
    last-behind c.args.numbers.now c.args.to c.in-Err.behind c.requires.some c.requires.first s.0 s.1 s.2
