use Rattle.std.proofs.Common.{List, [], ◌++◌, append_assoc, append-nil, ap, sym, subst, ◌∙◌}
use Rattle.id_rule.specs.declared.view.Receipt.{Receipt}
use Rattle.id_shared.specs.Claims.{IsHoldingWith}
use Rattle.id_shared.specs.declared.answers.Posted.{Posted}
use Rattle.id_shared.specs.Standing.{Claim, Standing, first_id_of}
use Rattle.id_shared.specs.Views.{receipts_in_errors}
use Rattle.ids_bench.proofs.Books.{grown_all, left_out}
use Rattle.ids_bench.proofs.book.takes.Goals as goal

pub unlock-requires-clause-log : goal.unlock-requires-clause-log
unlock-requires-clause-log c =
    let (old, (got, holding, is)) = c.requires.kept.1 in
    grown_all c.args.pass.now c.args.kept.0 old got c.args.kept.1.taken.items is holding

pub destroy-requires-clause-log : goal.destroy-requires-clause-log
destroy-requires-clause-log c =
    let (old, (got, holding, is)) = c.requires.kept.1 in
    let q = c.unlock.new.pass in
    let errors = receipts_in_errors q.scratch in
    let (some, at, whole) = c.notes.ensures.noted in
    let still = c.in-Pending.ensures.still.1 old got holding in (
      [],
      left_out c.notes.new.pass c.notes.new.hold old (got ++ errors) (got ++ some) c.notes.new.book.taken.items
          (at ∙ ap (λ z. z.taken.items ++ some) c.in-Pending.ensures.answer.1 ∙ ap (λ z. z ++ some) is ∙ append_assoc old got some)
          (ap (λ z. got ++ z) whole ∙ sym (append_assoc got some (receipts_in_errors c.notes.new.pass.scratch)))
          (subst (λ (z : Standing Receipt × Claim). IsHoldingWith z.0 z.1 old (got ++ errors))
          (λ y. (sym c.notes.ensures.pass y, sym (c.notes.ensures.same.0 ∙ c.in-Pending.ensures.answer.0) y)) still),
    )

pub returns-then-notes-clause-kept : goal.returns-then-notes-clause-kept
returns-then-notes-clause-kept c =
    let (first, (old, (got, holding, is))) = c.requires.kept in
    let errors = receipts_in_errors c.unlock.new.pass.scratch in
    let (some, at, whole) = c.notes.ensures.noted in
    let still = c.in-Pending.ensures.still.1 old got holding in
    let hold = c.notes.ensures.same.0 ∙ c.in-Pending.ensures.answer.0 in
    let all = whole ∙ ap (λ (z : List Posted). some ++ receipts_in_errors z) (c.notes.ensures.all c.if-notes.true) ∙ append-nil some in (
      c.notes.ensures.same.1 ∙ ap (λ z. z.first) c.in-Pending.ensures.answer.1 ∙ first ∙ ap first_id_of (sym hold),
      (
        old,
        (
          got ++ errors,
          subst (λ (z : Standing Receipt × Claim). IsHoldingWith z.0 z.1 old (got ++ errors)) (λ y. (sym c.notes.ensures.pass y, sym hold y)) still,
          at ∙ ap (λ z. z.taken.items ++ some) c.in-Pending.ensures.answer.1 ∙ ap (λ z. z ++ some) is ∙ append_assoc old got some ∙ ap (λ z. old ++ (got ++ z)) (sym all),
        ),
      ),
    )
