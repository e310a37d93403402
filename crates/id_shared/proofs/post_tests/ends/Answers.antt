use Rattle.std.proofs.Common.{List, [], sym, subst, ◌∙◌, Some}
use Rattle.id_rule.specs.declared.view.Receipt.{Receipt}
use Rattle.id_shared.specs.Claims.{IsHoldingWith}
use Rattle.id_shared.specs.declared.answers.Posted.{Posted}
use Rattle.id_shared.specs.Views.{receipts_in_errors}
use Rattle.id_shared.proofs.Holding.{left_out_all}
use Rattle.id_shared.proofs.post_tests.ends.Goals as goal

pub destroy-requires-clause-log : goal.destroy-requires-clause-log
destroy-requires-clause-log g c =
    let q = c.try_lock.new.pass in
    let log = c.in-Locked.book.taken.items in
    let none = c.try_lock.ensures.errors.0 ∙ c.requires.own.1 in (
      [],
      left_out_all {E = Receipt} (λ r. Some r) q c.in-Locked.hold log
          (subst (λ (z : List Posted). IsHoldingWith q c.in-Locked.hold log (receipts_in_errors z)) (sym none) c.in-Locked.ensures.holding),
    )
