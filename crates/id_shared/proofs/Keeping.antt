-- Which claims a pass still has after a call, and what it holds then.
use Rattle.std.proofs.Common.{◌≡◌, ◌≢◌, ℕ, List, [], ◌∷◌, ◌++◌, sym, ap, ◌∙◌, subst, Option, Some, None}
use Rattle.std.proofs.lemmas.Option.{none-some}
use mathlib.Core.Logic.{dite}
use native.Mathlib.Decide.{ℕ_discrete}
use Rattle.id_rule.specs.Changes.{view_after_load, part_with_spot, part_with_taking, part_without_taking}
use Rattle.id_rule.specs.Words.{packed_word}
use Rattle.id_rule.specs.declared.view.Part.{Part}
use Rattle.id_rule.specs.declared.view.View.{View}
use Rattle.id_rule.specs.Parts.{part_of, view_with}
use Rattle.id_rule.proofs.Lists.{part_here, part_else}
use Rattle.id_rule.specs.declared.rule.Sizes.{Sizes}
use Rattle.id_shared.specs.Answers.{IsReserved, start_of, view_after_round, IsTried, IsLockEnd, IsCollected, IsJoined, IsJoinSeen}
use Rattle.id_shared.specs.Claims.{IsKeptAt, KeepsClaims, KeepsOthers, KeepsCollected, KeepsErrors, IsHolding, HasReserved, HasTried, HasLockEnd}
use Rattle.id_shared.specs.declared.answers.Reserve.{Reserve}
use Rattle.id_shared.specs.declared.answers.Reserve.TheVariants as reserve
use Rattle.id_shared.specs.declared.answers.TryLock.{TryLock}
use Rattle.id_shared.specs.declared.answers.TryLock.TheVariants as try
use Rattle.id_shared.specs.declared.answers.LockEnd.{LockEnd}
use Rattle.id_shared.specs.declared.answers.LockEnd.TheVariants as lock
use Rattle.id_shared.specs.declared.answers.CollectEnd.{CollectEnd}
use Rattle.id_shared.specs.declared.answers.CollectEnd.TheVariants as collect
use Rattle.id_shared.specs.Standing.{Claim, Standing}
use Rattle.id_shared.specs.Views.{words_round, words_of, view_after_loads, view_with_spot, view_with_hold, view_with_value, view_after_collect}
use Rattle.id_rule.specs.declared.view.Receipt.{Receipt}
use Rattle.id_shared.proofs.Loads.{one_load, loads_keep}
use Rattle.id_shared.proofs.Parts.{HasPart, part_held, held_part}

module _ {E : Type 0} where
  -- a slot whose part stays keeps its claims
  pub kept_part : (v w : View E) (slot : ℕ) → part_of w slot ≡ part_of v slot → IsKeptAt v w slot
  kept_part v w slot same r = ((λ h. ap (λ (z : Part E). z.spot) same ∙ h), (λ h. ap (λ (z : Part E). z.hold) same ∙ h), (λ h. ap (λ (z : Part E). z.owner) same ∙ h))

  -- what is kept and kept again is kept
  pub kept_on : (u v w : View E) (slot : ℕ) → IsKeptAt u v slot → IsKeptAt v w slot → IsKeptAt u w slot
  kept_on u v w slot a b r = ((λ h. (b r).0 ((a r).0 h)), (λ h. (b r).1 ((a r).1 h)), (λ h. (b r).2 ((a r).2 h)))

  -- loads keep claims
  kept_loads : (v : View E) (xs : List (ℕ × ℕ)) (slot : ℕ) → IsKeptAt v (view_after_loads v xs) slot
  kept_loads v xs slot r = let k = (loads_keep v xs slot).1 in
      ((λ h. ap (λ (z : Part E). z.spot) k ∙ h), (λ h. ap (λ (z : Part E). z.hold) k ∙ h), (λ h. ap (λ (z : Part E). z.owner) k ∙ h))

  -- one load keeps claims
  pub kept_load : (v : View E) (s n slot : ℕ) → IsKeptAt v (view_after_load v s n) slot
  kept_load v s n slot r = let k = (one_load v s n slot).1 in
      ((λ h. ap (λ (z : Part E). z.spot) k ∙ h), (λ h. ap (λ (z : Part E). z.hold) k ∙ h), (λ h. ap (λ (z : Part E). z.owner) k ∙ h))

  -- a change of one slot keeps the others' claims
  pub kept_else : (v : View E) (seen : List (ℕ × ℕ)) (i : ℕ) (p : Part E) (slot : ℕ) → slot ≢ i → IsKeptAt v (view_with v seen i p) slot
  kept_else v seen i p slot ne = kept_part v (view_with v seen i p) slot (part_else v.parts i slot p ne)

  -- a change of one slot that keeps its claims keeps all
  kept_change : (v : View E) (seen : List (ℕ × ℕ)) (i : ℕ) (p : Part E)
      → ((r : ℕ × ℕ) → ((part_of v i).spot ≡ Some r → p.spot ≡ Some r) × ((part_of v i).hold ≡ Some r → p.hold ≡ Some r) × ((part_of v i).owner ≡ Some r → p.owner ≡ Some r))
      → (slot : ℕ) → IsKeptAt v (view_with v seen i p) slot
  kept_change v seen i p all slot = dite (ℕ_discrete slot i)
      (λ e. subst (IsKeptAt v (view_with v seen i p)) (sym e) (λ r. let here = part_here v.parts i p in
      ((λ h. ap (λ (z : Part E). z.spot) here ∙ (all r).0 h), (λ h. ap (λ (z : Part E). z.hold) here ∙ (all r).1 h), (λ h. ap (λ (z : Part E). z.owner) here ∙ (all r).2 h))))
      (λ ne. kept_else v seen i p slot ne)

  -- a Spot where there was none keeps claims
  kept_spot : (v : View E) (c : Claim) → (part_of v c.slot).spot ≡ None → (slot : ℕ) → IsKeptAt v (view_with_spot v c) slot
  kept_spot v c bare = kept_change v v.seen c.slot (part_with_spot (part_of v c.slot) (Some (c.first, c.size))) (λ r. ((λ h. absurd (none-some r (sym bare ∙ h))), (λ h. h), (λ h. h)))

  -- a change of one part that keeps its claims keeps all
  pub kept_at_part : (i : ℕ) (v w : View E) (p : Part E) → HasPart i v p w
      → ((r : ℕ × ℕ) → ((part_of v i).spot ≡ Some r → p.spot ≡ Some r) × ((part_of v i).hold ≡ Some r → p.hold ≡ Some r) × ((part_of v i).owner ≡ Some r → p.owner ≡ Some r))
      → (slot : ℕ) → IsKeptAt v w slot
  kept_at_part i v w p has all slot = dite (ℕ_discrete slot i)
      (λ e. subst (IsKeptAt v w) (sym e) (λ r.
      ((λ h. ap (λ (z : Part E). z.spot) has.here ∙ (all r).0 h), (λ h. ap (λ (z : Part E). z.hold) has.here ∙ (all r).1 h), (λ h. ap (λ (z : Part E). z.owner) has.here ∙ (all r).2 h))))
      (λ ne. kept_part v w slot (has.there slot ne))

  -- a Hold where there was none keeps claims
  pub kept_hold : (v : View E) (c : Claim) (log : List E) → (part_of v c.slot).hold ≡ None → (slot : ℕ) → IsKeptAt v (view_with_hold v c log) slot
  kept_hold v c log bare = kept_at_part c.slot v (view_with_hold v c log) (part_held (part_of v c.slot) (c.first, c.size) log) (held_part v c log)
      (λ r. ((λ h. h), (λ h. absurd (none-some r (sym bare ∙ h))), (λ h. h)))

  -- the Hold that a lock gave
  pub holding : (q : Standing E) (v : View E) (c : Claim) (log : List E) → q.view ≡ view_with_hold v c log → IsHolding q c log
  holding q v c log is =
      let here : part_of q.view c.slot ≡ part_held (part_of v c.slot) (c.first, c.size) log = ap (λ w. part_of w c.slot) is ∙ (held_part v c log).here in
      (ap (λ (z : Part E). z.hold) here, ap (λ (z : Part E). z.turn) here, ap (λ (z : Part E). z.got) here)

  -- claims are kept along an equation of views
  pub kept_to : (v u w : View E) (slot : ℕ) → u ≡ w → IsKeptAt v w slot → IsKeptAt v u slot
  kept_to v u w slot same = subst (λ z. IsKeptAt v z slot) (sym same)

  -- `reserve` keeps claims
  pub reserved_claims : (sizes : Sizes) (range : ℕ) (p q : Standing E) (answer : Reserve) → IsReserved sizes range p answer q → KeepsClaims p q
  reserved_claims sizes range p q (reserve.Spot c) a slot =
      let xs = words_round sizes.slots (start_of sizes p) q.words in let v = view_after_loads p.view xs in
      kept_to p.view q.view (view_with_spot v c) slot a.3 (kept_on p.view v (view_with_spot v c) slot (kept_loads p.view xs slot)
      (kept_spot v c (ap (λ (z : Part E). z.spot) (loads_keep p.view xs c.slot).1 ∙ a.4) slot))
  reserved_claims sizes range p q reserve.Full a slot =
      let xs = words_round sizes.slots (start_of sizes p) q.words in kept_to p.view q.view (view_after_loads p.view xs) slot a.3 (kept_loads p.view xs slot)
  reserved_claims sizes range p q (reserve.Again word found) a slot =
      let xs = words_round sizes.slots (start_of sizes p) q.words in let v = view_after_loads p.view xs in
      kept_to p.view q.view (view_after_load v a.2.0 found) slot a.2.2 (kept_on p.view v (view_after_load v a.2.0 found) slot (kept_loads p.view xs slot)
      (kept_load v a.2.0 found slot))
  reserved_claims sizes range p q reserve.BadRange a slot = kept_part p.view q.view slot (ap (λ z. part_of z.view slot) a.1)

  -- the Spot that `reserve` gave
  pub reserved_has : (sizes : Sizes) (range : ℕ) (p q : Standing E) (answer : Reserve) → IsReserved sizes range p answer q → HasReserved q answer
  reserved_has sizes range p q (reserve.Spot c) a =
      let v = view_after_round sizes p q.words in
      ap (λ w. (part_of w c.slot).spot) a.3 ∙ ap (λ (z : Part E). z.spot) (part_here v.parts c.slot (part_with_spot (part_of v c.slot) (Some (c.first, c.size))))
  reserved_has sizes range p q reserve.Full a = tt
  reserved_has sizes range p q (reserve.Again word found) a = tt
  reserved_has sizes range p q reserve.BadRange a = tt

  -- `join_seen` keeps claims
  pub seen_claims : (slots id : ℕ) (p q : Standing E) (answer : Option ℕ) → IsJoinSeen slots id p answer q → KeepsClaims p q
  seen_claims slots id p q (Some word) a slot =
      kept_to p.view q.view (view_after_loads p.view (words_of a.0 (a.3.0 ++ word ∷ []))) slot (ap (λ z. z.view) a.3.1) (kept_loads p.view (words_of a.0 (a.3.0 ++ word ∷ [])) slot)
  seen_claims slots id p q None a slot = kept_part p.view q.view slot (ap (λ z. part_of z.view slot) a.1)

  -- `join_seen` keeps the errors that are still to hand out
  pub seen_errors : (slots id : ℕ) (p q : Standing E) (answer : Option ℕ) → IsJoinSeen slots id p answer q → KeepsErrors p q
  seen_errors slots id p q (Some word) a = (ap (λ z. z.scratch) a.3.1, ap (λ z. z.holder) a.3.1)
  seen_errors slots id p q None a = (ap (λ z. z.scratch) a.1, ap (λ z. z.holder) a.1)

  -- collecting keeps the claims on other slots
  kept_collect : (v : View E) (c : Claim) (log : List E) (slot : ℕ) → slot ≢ c.slot → IsKeptAt v (view_after_collect v c log) slot
  kept_collect v c log slot ne = let w = view_with_value v c log in
      kept_on v w (view_after_collect v c log) slot (kept_else v (v.seen ++ (c.slot, packed_word c.first c.size 4 0) ∷ []) c.slot (part_with_taking (part_of v c.slot) (c.first, c.size) log) slot
      ne)
      (kept_else w w.seen c.slot (part_without_taking (part_of w c.slot)) slot ne)

module _ {T E : Type 0} (log : T → List E) (first_id : T → ℕ) (rec : E → Option Receipt) where
  -- `try_lock` keeps claims
  pub tried_claims : (slots id : ℕ) (p q : Standing E) (answer : TryLock T) → IsTried log first_id rec slots id p answer q → KeepsClaims p q
  tried_claims slots id p q (try.Locked c x) a slot =
      let v = view_after_load p.view c.slot a.1.0 in let k = (one_load p.view c.slot a.1.0 c.slot).1 in
      kept_to p.view q.view (view_with_hold v c (log x)) slot (ap (λ z. z.view) a.1.3) (kept_on p.view v (view_with_hold v c (log x)) slot (kept_load p.view c.slot a.1.0 slot)
      (kept_hold v c (log x) (ap (λ (z : Part E). z.hold) k ∙ a.1.2.4) slot))
  tried_claims slots id p q (try.Held word) a slot = kept_to p.view q.view (view_after_load p.view a.0 word) slot (ap (λ z. z.view) a.3) (kept_load p.view a.0 word slot)
  tried_claims slots id p q (try.Gone word) a slot = kept_to p.view q.view (view_after_load p.view a.0 word) slot (ap (λ z. z.view) a.3) (kept_load p.view a.0 word slot)
  tried_claims slots id p q try.NoSlot a slot = kept_part p.view q.view slot (ap (λ z. part_of z.view slot) a.1)
  tried_claims slots id p q (try.Again word found) a slot =
      let v = view_after_load p.view a.0 word in
      kept_to p.view q.view (view_after_load v a.0 found) slot (ap (λ z. z.view) a.4)
      (kept_on p.view v (view_after_load v a.0 found) slot (kept_load p.view a.0 word slot) (kept_load v a.0 found slot))

  -- `try_lock` keeps the errors that are still to hand out
  pub tried_errors : (slots id : ℕ) (p q : Standing E) (answer : TryLock T) → IsTried log first_id rec slots id p answer q → KeepsErrors p q
  tried_errors slots id p q (try.Locked c x) a = (ap (λ z. z.scratch) a.1.3, ap (λ z. z.holder) a.1.3)
  tried_errors slots id p q (try.Held word) a = (ap (λ z. z.scratch) a.3, ap (λ z. z.holder) a.3)
  tried_errors slots id p q (try.Gone word) a = (ap (λ z. z.scratch) a.3, ap (λ z. z.holder) a.3)
  tried_errors slots id p q try.NoSlot a = (ap (λ z. z.scratch) a.1, ap (λ z. z.holder) a.1)
  tried_errors slots id p q (try.Again word found) a = (ap (λ z. z.scratch) a.4, ap (λ z. z.holder) a.4)

  -- the Hold that `try_lock` gave
  pub tried_holding : (slots id : ℕ) (p q : Standing E) (answer : TryLock T) → IsTried log first_id rec slots id p answer q → HasTried log q answer
  tried_holding slots id p q (try.Locked c x) a = holding q (view_after_load p.view c.slot a.1.0) c (log x) (ap (λ z. z.view) a.1.3)
  tried_holding slots id p q (try.Held word) a = tt
  tried_holding slots id p q (try.Gone word) a = tt
  tried_holding slots id p q try.NoSlot a = tt
  tried_holding slots id p q (try.Again word found) a = tt

  -- `lock` keeps claims
  pub lock_claims : (slots id : ℕ) (p q : Standing E) (answer : LockEnd T) → IsLockEnd log first_id rec slots id p answer q → KeepsClaims p q
  lock_claims slots id p q (lock.Locked c x) a slot =
      let xs = words_of c.slot (a.1.0 ++ a.1.1.0 ∷ []) in let v = view_after_loads p.view xs in
      kept_to p.view q.view (view_with_hold v c (log x)) slot (ap (λ z. z.view) a.1.1.3) (kept_on p.view v (view_with_hold v c (log x)) slot (kept_loads p.view xs slot)
      (kept_hold v c (log x) (ap (λ (z : Part E). z.hold) (loads_keep p.view xs c.slot).1 ∙ a.1.1.2.4) slot))
  lock_claims slots id p q (lock.Gone word) a slot =
      let xs = words_of a.0 (a.3.0 ++ word ∷ []) in kept_to p.view q.view (view_after_loads p.view xs) slot (ap (λ z. z.view) a.3.1) (kept_loads p.view xs slot)
  lock_claims slots id p q lock.NoSlot a slot = kept_part p.view q.view slot (ap (λ z. part_of z.view slot) a.1)

  -- `lock` keeps the errors that are still to hand out
  pub lock_errors : (slots id : ℕ) (p q : Standing E) (answer : LockEnd T) → IsLockEnd log first_id rec slots id p answer q → KeepsErrors p q
  lock_errors slots id p q (lock.Locked c x) a = (ap (λ z. z.scratch) a.1.1.3, ap (λ z. z.holder) a.1.1.3)
  lock_errors slots id p q (lock.Gone word) a = (ap (λ z. z.scratch) a.3.1, ap (λ z. z.holder) a.3.1)
  lock_errors slots id p q lock.NoSlot a = (ap (λ z. z.scratch) a.1, ap (λ z. z.holder) a.1)

  -- the Hold that `lock` gave
  pub lock_holding : (slots id : ℕ) (p q : Standing E) (answer : LockEnd T) → IsLockEnd log first_id rec slots id p answer q → HasLockEnd log q answer
  lock_holding slots id p q (lock.Locked c x) a = holding q (view_after_loads p.view (words_of c.slot (a.1.0 ++ a.1.1.0 ∷ []))) c (log x) (ap (λ z. z.view) a.1.1.3)
  lock_holding slots id p q (lock.Gone word) a = tt
  lock_holding slots id p q lock.NoSlot a = tt

module _ {T E : Type 0} (log : T → List E) (first_id : T → ℕ) where
  -- `collect` keeps the claims on other slots, and all where it hands the Owner back
  pub collected_claims : (c : Claim) (p q : Standing E) (answer : CollectEnd T) → IsCollected log first_id c p answer q → KeepsCollected c p answer q
  collected_claims c p q (collect.Value x) a = λ slot ne. kept_to p.view q.view (view_after_collect p.view c (log x)) slot (ap (λ z. z.view) a.1) (kept_collect p.view c (log x) slot ne)
  collected_claims c p q (collect.NotYet same word) a = λ slot. kept_to p.view q.view (view_after_load p.view c.slot word) slot (ap (λ z. z.view) a.2) (kept_load p.view c.slot word slot)

  -- `join` keeps the claims on other slots
  pub joined_others : (c : Claim) (p q : Standing E) (x : T) → IsJoined log first_id c p x q → KeepsOthers c.slot p q
  joined_others c p q x a slot ne =
      let v = view_after_loads p.view (words_of c.slot a.1.0) in
      kept_to p.view q.view (view_after_collect v c (log x)) slot (ap (λ z. z.view) a.1.1) (kept_on p.view v (view_after_collect v c (log x)) slot (kept_loads p.view (words_of c.slot a.1.0) slot)
      (kept_collect v c (log x) slot ne))
