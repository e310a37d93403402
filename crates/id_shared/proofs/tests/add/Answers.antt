use Rattle.std.proofs.Common.{ℕ, [], sym, subst, None}
use Rattle.id_shared.specs.Claims.{IsHoldingWith}
use Rattle.id_shared.specs.Standing.{Claim}
use Rattle.id_shared.specs.Views.{receipts_in_errors}
use Rattle.id_shared.proofs.Holding.{left_out_all}
use Rattle.id_shared.proofs.tests.add.Goals as goal

pub destroy-requires-clause-log : goal.destroy-requires-clause-log
destroy-requires-clause-log c =
    let q = c.unlock.new.pass in
    let errors = receipts_in_errors q.scratch in
    let holding = c.in-Pending.ensures.still.1 [] [] c.requires.holding in
    ([], left_out_all {E = ℕ} (λ e. None) q c.in-Pending.hold [] (subst (λ (z : Claim). IsHoldingWith q z [] errors) (sym c.in-Pending.ensures.answer.0) holding))
