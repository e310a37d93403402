-- What is known of logs, when one more is learned.
use Rattle.std.proofs.Common.{⊎_elim, inl, inr, ℕ, ◌<◌, List, [], ◌++◌, append_assoc, append-nil, refl, sym, ap, ◌∙◌, subst, arith}
use mathlib.Core.List.{IsPrefix}
use Rattle.id_rule.specs.Parts.{HasLog, logs_with}
use Rattle.id_rule.specs.Phases.{AreBefore, AreWithin}
use Rattle.id_rule.specs.declared.view.Known.{Known}

module _ {E : Type 0} where
  -- a log begins with itself
  pub prefix_refl : (xs : List E) → IsPrefix xs xs
  prefix_refl xs = ([], append-nil xs)

  -- beginnings of beginnings
  pub prefix_trans : (xs ys zs : List E) → IsPrefix xs ys → IsPrefix ys zs → IsPrefix xs zs
  prefix_trans xs ys zs a b = (a.0 ++ b.0, sym (append_assoc xs a.0 b.0) ∙ ap (λ l. l ++ b.0) a.1 ∙ b.1)

  -- the log that was put in is known
  pub learned_here : (ks : List (Known E)) (f : ℕ) (l : List E) → HasLog (logs_with ks f l) f l
  learned_here ks f l = inl (refl, refl)

  -- knowing the whole log too
  pub learned_within : (ks : List (Known E)) (f : ℕ) (l : List E) → AreWithin f l ks → AreWithin f l (logs_with ks f l)
  learned_within ks f l old g k e = ⊎_elim (λ t. inr (sym t.0, subst (λ (z : List E). IsPrefix z l) t.1 (prefix_refl l))) (λ t. old g k t) e

  -- logs of earlier ranges alone
  pub before_within : (ks : List (Known E)) (f : ℕ) (l : List E) → AreBefore f ks → AreWithin f l ks
  before_within ks f l old g k e = inl (old g k e)

  -- the log of the range may grow
  pub within_grows : (ks : List (Known E)) (f : ℕ) (l m : List E) → IsPrefix l m → AreWithin f l ks → AreWithin f m ks
  within_grows ks f l m more old g k e = ⊎_elim inl (λ t. inr (t.0, prefix_trans k l m t.1 more)) (old g k e)

  -- a known log of the range is a beginning of its log
  pub within_prefix : (ks : List (Known E)) (f : ℕ) (l k : List E) → AreWithin f l ks → HasLog ks f k → IsPrefix k l
  within_prefix ks f l k old e = ⊎_elim (λ (h : f < f). absurd (omega arith)) (λ t. t.1) (old f k e)
