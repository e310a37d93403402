use Rattle.std.proofs.Common.{◌≡◌, length, ap, arith, ◌∙◌}
use Rattle.id_shared.proofs.ids.Ids.look.Goals as goal

pub push_reserved-requires : goal.push_reserved-requires
push_reserved-requires g c =
    let is = c.pass.view_is ∙ c.load-word.ensures.view in
    let words : length c.pass.inside.words.items ≡ length c.args.pass.now.words = ap (λ p. length p.words) is in
    let slots : c.pass.inside.seat.table_id.slots ≡ c.args.pass.now.table.slots = ap (λ p. p.table.slots) is in
    let long = c.pass.inside.words.ok.0 in let room = c.pass.invariant.0.roomy in
    omega (arith, slots, words, long, room, c.requires.room)
