-- The receipts that a book notes.
use Rattle.std.proofs.Common.{◌≡◌, List, [], ◌∷◌, ◌++◌, append_assoc, refl, sym, ap, ◌∙◌, Some}
use Rattle.id_rule.specs.declared.view.Receipt.{Receipt}
use Rattle.id_rule.specs.Receipts.{receipts_in}
use Rattle.id_shared.specs.declared.answers.Posted.{Posted}
use Rattle.id_shared.specs.Views.{receipts_in_errors}

-- each receipt stands for itself
pub all_receipts : (rs : List Receipt) → receipts_in (λ (r : Receipt). Some r) rs ≡ rs
all_receipts [] = refl
all_receipts (r ∷ rs) = ap (λ z. r ∷ z) (all_receipts rs)

-- one error more is noted
pub one_noted : (taken whole : List Receipt) (e : Posted) (es errors : List Posted) → errors ≡ e ∷ es → taken ++ receipts_in_errors errors ≡ whole
    → (taken ++ e.receipt ∷ []) ++ receipts_in_errors es ≡ whole
one_noted taken whole e es errors is h = append_assoc taken (e.receipt ∷ []) (receipts_in_errors es) ∙ ap (λ z. taken ++ receipts_in_errors z) (sym is) ∙ h
