use Rattle.std.proofs.Common.{List, ◌++◌, append_assoc, ap, sym, subst, ◌∙◌, Some}
use Rattle.id_rule.specs.declared.view.Receipt.{Receipt}
use Rattle.id_shared.specs.Claims.{IsHoldingWith}
use Rattle.id_shared.specs.Standing.{Claim, Standing}
use Rattle.id_shared.specs.Views.{receipts_in_errors}
use Rattle.id_shared.proofs.Holding.{grown_all}
use Rattle.id_shared.proofs.Noted.{all_receipts}
use Rattle.id_shared.proofs.post_tests.takes.Goals as goal

pub unlock-requires-clause-log : goal.unlock-requires-clause-log
unlock-requires-clause-log g c =
    let (old, (got, holding, is)) = c.requires.noted in
    grown_all {E = Receipt} (λ r. Some r) c.args.pass.now c.args.hold old got c.args.book.taken.items (sym is)
    (subst (λ (z : List Receipt). IsHoldingWith c.args.pass.now c.args.hold old z) (sym (all_receipts got)) holding)

pub returns-in-Pending-clause-noted : goal.returns-in-Pending-clause-noted
returns-in-Pending-clause-noted g c =
    let (old, (got, holding, is)) = c.requires.noted in
    let errors = receipts_in_errors c.unlock.new.pass.scratch in
    let still = c.in-Pending.ensures.still.1 old got holding in
    let hold = c.notes-last.ensures.same.0 ∙ c.in-Pending.ensures.answer.0 in
    let taken = c.notes-last.ensures.noted
    ∙ ap (λ z. z.taken.items ++ errors) c.in-Pending.ensures.answer.1
    ∙ ap (λ z. z ++ errors) is
    ∙ append_assoc old got errors in (
      old,
      (
        got ++ errors,
        subst (λ (z : Standing Receipt). IsHoldingWith z c.notes-last.new.hold old (got ++ errors)) (sym c.notes-last.ensures.pass)
            (subst (λ (z : Claim). IsHoldingWith c.unlock.new.pass z old (got ++ errors)) (sym hold) still),
        taken,
      ),
    )
