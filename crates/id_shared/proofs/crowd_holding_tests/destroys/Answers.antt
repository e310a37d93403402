use Rattle.std.proofs.Common.{List, [], ap, sym, subst, ◌∙◌, Some}
use Rattle.id_rule.specs.declared.view.Receipt.{Receipt}
use Rattle.id_rule.specs.Parts.{part_of}
use Rattle.id_shared.specs.Claims.{IsHoldingWith}
use Rattle.id_shared.specs.declared.answers.Posted.{Posted}
use Rattle.id_shared.specs.Views.{receipts_in_errors}
use Rattle.id_shared.proofs.Holding.{left_out_all}
use Rattle.id_shared.proofs.crowd_holding_tests.destroys.Goals as goal

pub destroy-requires-clause-log : goal.destroy-requires-clause-log
destroy-requires-clause-log g c =
    let q = c.lock.new.pass in
    let log = c.in-Locked.book.taken.items in
    let none = c.lock.ensures.errors.0 ∙ c.requires.own.1 in (
      [],
      left_out_all {E = Receipt} (λ r. Some r) q c.in-Locked.hold log
          (subst (λ (z : List Posted). IsHoldingWith q c.in-Locked.hold log (receipts_in_errors z)) (sym none) c.in-Locked.ensures.holding),
    )

pub returns-clause-owners : goal.returns-clause-owners
returns-clause-owners g c = λ slot r h. ap (λ z. (part_of z slot).owner) c.drops.ensures.same ∙ c.destroy.ensures.owners slot r ((c.lock.ensures.claims slot r).2 h)
