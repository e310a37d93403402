-- The conditions on a log, at the part of a seat within a call.
use Rattle.std.proofs.Common.{◌≡◌, List, refl, sym, ap, ◌∙◌, subst, true, Option, Some, None}
use Rattle.std.proofs.lemmas.Option.{none-some, same_Some}
use Rattle.id_rule.specs.Changes.{turn_with_out, part_with_out}
use Rattle.id_rule.specs.declared.view.Part.{Part}
use Rattle.id_rule.specs.declared.view.Receipt.{Receipt}
use Rattle.id_rule.specs.declared.view.Turn.{Turn}
use Rattle.id_rule.specs.declared.view.View.{View}
use Rattle.id_rule.specs.Parts.{part_of}
use Rattle.id_shared.specs.Standing.{Claim, Standing}

module _ {E : Type 0} (P : List E → List Receipt → Type 0) where
  -- what holds of the log at the lock holds of it when the slot went out
  turned : (o : Option (Turn E)) (got : List Receipt) → ((t : Turn E) → o ≡ Some t → P t.log got) → (t : Turn E) → turn_with_out true o ≡ Some t → P t.log got
  turned None got has t is = absurd (none-some t is)
  turned (Some u) got has t is = subst (λ (z : Turn E). P z.log got) (same_Some (record u { out = true }) t is) (has u refl)

  -- the same at the claim and the view as they stand inside
  pub grown_inside : (p : Standing E) (c k : Claim) (v w : View E) → k ≡ c → v ≡ p.view → part_of w k.slot ≡ part_with_out (part_of v k.slot) true
      → ((t : Turn E) → (part_of p.view c.slot).turn ≡ Some t → P t.log (part_of p.view c.slot).got)
      → (t : Turn E) → (part_of w k.slot).turn ≡ Some t → P t.log (part_of w k.slot).got
  grown_inside p c k v w claim view lifted has =
      subst (λ (z : Part E). (t : Turn E) → z.turn ≡ Some t → P t.log z.got) (sym lifted)
      (turned (part_of v k.slot).turn (part_of v k.slot).got
      (subst (λ (z : Claim × View E). (t : Turn E) → (part_of z.1 z.0.slot).turn ≡ Some t → P t.log (part_of z.1 z.0.slot).got) (λ y. (sym claim y, sym view y)) has))

  -- what holds of the log within the call holds of it outside
  pub grown_outside : (p : Standing E) (c k : Claim) (v w : View E) → k ≡ c → v ≡ p.view → part_of w k.slot ≡ part_with_out (part_of v k.slot) true
      → ((t : Turn E) → (part_of w k.slot).turn ≡ Some t → P t.log (part_of w k.slot).got)
      → (t : Turn E) → (part_of p.view c.slot).turn ≡ Some t → P t.log (part_of p.view c.slot).got
  grown_outside p c k v w claim view lifted has =
      subst (λ (z : Claim × View E). (t : Turn E) → (part_of z.1 z.0.slot).turn ≡ Some t → P t.log (part_of z.1 z.0.slot).got) (λ y. (claim y, view y))
      (λ t is. subst (λ (z : List Receipt). P t.log z) (ap (λ (z : Part E). z.got) lifted)
      (has (record t { out = true }) (ap (λ (z : Part E). z.turn) lifted ∙ ap (turn_with_out true) is)))
