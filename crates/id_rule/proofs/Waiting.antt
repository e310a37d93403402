-- Errors are known as they were queued.
use Rattle.std.proofs.Common.{⊎_elim, ℕ, List, [], ◌∷◌, sym, ap, ◌∙◌, subst, Option}
use Rattle.id_rule.specs.declared.view.Notice.{Notice}
use Rattle.id_rule.specs.declared.view.Receipt.{Receipt}
use Rattle.id_rule.specs.Laws.{HasNotice, ErrorsAreAsQueued}
use Rattle.id_rule.specs.Parts.{AreAll}
use Rattle.id_rule.specs.Receipts.{History, IsNoticed}

-- an error that is known was queued so
known : {E : Type 0} (g : History E) (e : Notice) (xs : List Notice) → HasNotice e xs → AreAll (IsNoticed g) xs → IsNoticed g e
known {E} g e [] has all = absurd has
known {E} g e (x ∷ xs) has all = ⊎_elim (λ same. subst (IsNoticed g) same all.0) (λ t. known g e xs t all.1) has

module _ {T E : Type 0} (log : T → List E) (first_id : T → ℕ) (rec : E → Option Receipt) where
  -- errors with one receipt are one
  pub errors_are_as_queued : ErrorsAreAsQueued log first_id rec
  errors_are_as_queued sizes s a b v w d e kept at there has also same =
      let g : History E = kept.history in
      sym (known g d v.notices has (kept.noticed a v at)).1 ∙ ap (λ (z : Receipt). g.notice z.pass z.number) same ∙ (known g e w.notices also (kept.noticed b w there)).1
