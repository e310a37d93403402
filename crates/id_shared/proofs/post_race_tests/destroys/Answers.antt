use Rattle.std.proofs.Common.{List, [], sym, subst, Some}
use Rattle.id_rule.specs.declared.view.Receipt.{Receipt}
use Rattle.id_shared.specs.Claims.{IsHoldingWith}
use Rattle.id_shared.specs.declared.answers.Posted.{Posted}
use Rattle.id_shared.specs.Views.{receipts_in_errors}
use Rattle.id_shared.proofs.Holding.{left_out_all}
use Rattle.id_shared.proofs.post_race_tests.destroys.Goals as goal

pub destroy-count-requires-clause-log : goal.destroy-count-requires-clause-log
destroy-count-requires-clause-log c = let q = c.args.pass.now in let log = c.args.book.taken.items in (
  [],
  left_out_all {E = Receipt} (λ r. Some r) q c.args.hold log
      (subst (λ (z : List Posted). IsHoldingWith q c.args.hold log (receipts_in_errors z)) (sym c.requires.own.1) c.requires.holding),
)
