-- What may be unlocked and destroyed while errors come.
use Rattle.std.proofs.Common.{◌≡◌, ℕ, List, [], ◌∷◌, ◌++◌, append-nil, append_assoc, refl, sym, ap, ◌∙◌, false, Some}
use Rattle.std.proofs.lemmas.Option.{same_Some}
use Rattle.id_rule.proofs.Receipts.{numbers_append}
use Rattle.id_rule.specs.Changes.{turn_at}
use Rattle.id_rule.specs.declared.view.Receipt.{Receipt}
use Rattle.id_rule.specs.declared.view.Turn.{Turn}
use Rattle.id_rule.specs.Nodes.{numbers_of}
use Rattle.id_rule.specs.Receipts.{occurrences, receipts_in}
use Rattle.id_shared.specs.Answers.{HasGrown, HasLeftOut}
use Rattle.id_shared.specs.Claims.{IsHoldingWith}
use Rattle.id_shared.specs.declared.answers.Posted.{Posted}
use Rattle.id_shared.specs.Standing.{Claim, Standing}
use Rattle.id_shared.specs.Views.{receipts_in_errors}

-- each receipt stands for itself
all_receipts : (rs : List Receipt) → receipts_in (λ (r : Receipt). Some r) rs ≡ rs
all_receipts [] = refl
all_receipts (r ∷ rs) = ap (λ z. r ∷ z) (all_receipts rs)

-- one error more is noted
pub one_noted : (old some taken whole : List Receipt) (e : Posted) (es errors : List Posted) → errors ≡ e ∷ es → taken ≡ old ++ some → whole ≡ some ++ receipts_in_errors errors
    → (taken ++ e.receipt ∷ [] ≡ old ++ (some ++ e.receipt ∷ [])) × (whole ≡ (some ++ e.receipt ∷ []) ++ receipts_in_errors es)
one_noted old some taken whole e es errors is at h = (
  ap (λ z. z ++ e.receipt ∷ []) at ∙ append_assoc old some (e.receipt ∷ []),
  h ∙ ap (λ z. some ++ receipts_in_errors z) is ∙ sym (append_assoc some (e.receipt ∷ []) (receipts_in_errors es)),
)

module _ (q : Standing Receipt) (c : Claim) where
  -- a log with each receipt that was handed out since the lock, in order, may be unlocked
  pub grown_all : (old got log : List Receipt) → log ≡ old ++ got → IsHoldingWith q c old got → HasGrown (λ (r : Receipt). Some r) q c log
  grown_all old got log whole h t is = let same = same_Some (turn_at false old) t (sym h.1 ∙ is) in (
    got,
    ap (λ (z : Turn Receipt). z.log ++ got) (sym same) ∙ sym whole,
    λ a n. ap (λ (z : List Receipt). occurrences n (numbers_of a z)) (h.2 ∙ sym (all_receipts got)),
  )

  -- a log with some of them may be the last one where the others weren't handed out yet
  pub left_out : (old got some log : List Receipt) → log ≡ old ++ some → got ≡ some ++ receipts_in_errors q.scratch → IsHoldingWith q c old got
      → HasLeftOut (λ (r : Receipt). Some r) q c log []
  left_out old got some log whole at h t is = let same = same_Some (turn_at false old) t (sym h.1 ∙ is) in (
    some,
    ap (λ (z : Turn Receipt). z.log ++ some) (sym same) ∙ sym whole,
    λ a n. ap (λ (z : List Receipt). occurrences n (numbers_of a z)) (h.2 ∙ at)
        ∙ ap (occurrences n) (numbers_append a some (receipts_in_errors q.scratch))
        ∙ ap (λ (z : List Receipt). occurrences n (numbers_of a z ++ numbers_of a (receipts_in_errors q.scratch))) (sym (all_receipts some)),
  )
