use Rattle.std.proofs.Common.{List, [], ap, sym, subst, Some}
use Rattle.id_rule.specs.declared.view.Receipt.{Receipt}
use Rattle.id_shared.specs.Claims.{IsHoldingWith}
use Rattle.id_shared.specs.Standing.{Claim}
use Rattle.id_shared.specs.Views.{receipts_in_errors}
use Rattle.id_shared.proofs.Holding.{left_out_all}
use Rattle.id_shared.proofs.post_tests.releases.Goals as goal

pub destroy-requires-clause-log : goal.destroy-requires-clause-log
destroy-requires-clause-log c =
    let q = c.unlock.new.pass in
    let errors = receipts_in_errors q.scratch in
    let log = c.args.book.taken.items in
    let book = c.in-Pending.book.taken.items in
    let same = ap (λ z. z.taken.items) c.in-Pending.ensures.answer.1 in
    let holding = c.in-Pending.ensures.still.1 log [] c.requires.holding in (
      [],
      left_out_all {E = Receipt} (λ r. Some r) q c.in-Pending.hold book (subst (λ (z : List Receipt). IsHoldingWith q c.in-Pending.hold z errors) (sym same)
          (subst (λ (z : Claim). IsHoldingWith q z log errors) (sym c.in-Pending.ensures.answer.0) holding)),
    )
