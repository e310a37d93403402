-- Loads of slots' words, one after the other: what they leave of a view.
use Rattle.std.proofs.Common.{◌≡◌, ℕ, ◌≤◌, List, [], ◌∷◌, ◌++◌, refl, sym, ap, ◌∙◌, arith}
use Rattle.std.specs.Prelude.{max}
use mathlib.Core.Logic.{dite}
use native.Mathlib.Decide.{ℕ_discrete}
use Rattle.id_rule.specs.Changes.{view_after_load, part_with_ended_below}
use Rattle.id_rule.specs.Words.{ended_below_in}
use Rattle.id_rule.specs.declared.view.Part.{Part}
use Rattle.id_rule.specs.declared.view.View.{View}
use Rattle.id_rule.specs.Parts.{part_of}
use Rattle.id_rule.proofs.Lists.{part_here, part_else}
use Rattle.id_shared.specs.Views.{view_after_loads}

module _ {E : Type 0} where
  -- loads one after the other
  pub loads_more : (v : View E) (xs ys : List (ℕ × ℕ)) → view_after_loads v (xs ++ ys) ≡ view_after_loads (view_after_loads v xs) ys
  loads_more v [] ys = refl
  loads_more v (x ∷ xs) ys = loads_more (view_after_load v x.0 x.1) xs ys

  -- loads leave a pass's numbers
  pub loads_numbers : (v : View E) (xs : List (ℕ × ℕ)) → (view_after_loads v xs).numbers ≡ v.numbers
  loads_numbers v [] = refl
  loads_numbers v (x ∷ xs) = loads_numbers (view_after_load v x.0 x.1) xs

  -- a load leaves what a pass has, and what it knows but for what has ended
  pub one_load : (v : View E) (s n slot : ℕ) → (g : ℕ) × (part_of (view_after_load v s n) slot ≡ part_with_ended_below (part_of v slot) g) × ((part_of v slot).ended_below ≤ g)
  one_load v s n slot = let p = part_of v s in dite (ℕ_discrete slot s)
      (λ e. (
        max p.ended_below (ended_below_in n),
        ap (part_of (view_after_load v s n)) e ∙ part_here v.parts s (part_with_ended_below p (max p.ended_below (ended_below_in n)))
            ∙ ap (λ (z : ℕ). part_with_ended_below (part_of v z) (max p.ended_below (ended_below_in n))) (sym e),
        (let same : (part_of v slot).ended_below ≡ p.ended_below = ap (λ (z : ℕ). (part_of v z).ended_below) e in omega (arith, same)),
      ))
      (λ ne. ((part_of v slot).ended_below, part_else v.parts s slot (part_with_ended_below p (max p.ended_below (ended_below_in n))) ne, omega arith))

  -- so do several
  pub loads_keep : (v : View E) (xs : List (ℕ × ℕ)) (slot : ℕ) → (g : ℕ) × (part_of (view_after_loads v xs) slot ≡ part_with_ended_below (part_of v slot) g) × ((part_of v slot).ended_below ≤ g)
  loads_keep v [] slot = ((part_of v slot).ended_below, refl, omega arith)
  loads_keep v (x ∷ xs) slot =
      let one = one_load v x.0 x.1 slot in let more = loads_keep (view_after_load v x.0 x.1) xs slot in
      let low : (part_of (view_after_load v x.0 x.1) slot).ended_below ≤ more.0 = more.2 in
      let is : (part_of (view_after_load v x.0 x.1) slot).ended_below ≡ one.0 = ap (λ (z : Part E). z.ended_below) one.1 in
      (more.0, more.1 ∙ ap (λ (z : Part E). part_with_ended_below z more.0) one.1, omega (arith, low, is, one.2))
