-- What holds while a call waits: the pass has loaded the id's slot some times.
use Rattle.std.proofs.Common.{◌≡◌, ℕ, List, [], ◌∷◌, ◌++◌, refl, sym, ap, ◌∙◌, subst, arith, Option, Some}
use Rattle.std.specs.Prelude.{true}
use Rattle.std.proofs.lemmas.Option.{same_Some}
use Rattle.rpc_model.specs.Gone.{gone_by}
use Rattle.id_rule.specs.Changes.{view_after_load, part_with_ended_below}
use Rattle.id_rule.specs.declared.view.Part.{Part}
use Rattle.id_rule.specs.Parts.{part_of, HasLog, HasNumber}
use Rattle.id_shared.specs.Answers.{IsSlotOf, HasNoSlot, HasReceipts, IsTried, IsLockEnd, HasSeenEnd, IsCollected, IsJoined, IsJoinSeen}
use Rattle.id_shared.specs.declared.answers.TryLock.TheVariants as try
use Rattle.id_shared.specs.declared.answers.LockEnd.TheVariants as lock
use Rattle.id_shared.specs.declared.answers.CollectEnd.TheVariants as collect
use Rattle.id_shared.specs.Standing.{Claim, Standing, HasOwner}
use Rattle.id_shared.specs.Views.{words_of, with_view, view_after_loads, view_with_hold, view_after_collect}
use Rattle.id_shared.proofs.Loads.{loads_more, loads_keep, loads_numbers}
use Rattle.id_rule.specs.declared.view.Receipt.{Receipt}
use Rattle.id_rule.specs.Nodes.{numbers_of}
use Rattle.id_rule.specs.Receipts.{IsReordered, receipts_of_range, receipts_in}

-- one word more of the slot
words_more : (slot n : ℕ) (ns : List ℕ) → words_of slot (ns ++ n ∷ []) ≡ words_of slot ns ++ (slot, n) ∷ []
words_more slot n [] = refl
words_more slot n (m ∷ ns) = ap (λ z. (slot, m) ∷ z) (words_more slot n ns)

module _ {E : Type 0} where
  -- the pass has loaded the id's slot some times, and nothing where the id names none
  pub record IsWaiting (slots id : ℕ) (p q : Standing E) : Type 0 where
    pub here : (slot : ℕ) → IsSlotOf slots id slot → (words : List ℕ) × (q ≡ with_view p (view_after_loads p.view (words_of slot words)))
    pub nowhere : HasNoSlot slots id → q ≡ p

  -- at first it has loaded nothing
  pub waits_first : (slots id : ℕ) (p : Standing E) → IsWaiting slots id p p
  waits_first slots id p = record { here = λ slot is. ([], refl); nowhere = λ no_slot. refl }

  -- a load of the slot more
  pub waits_more : (slots id slot word : ℕ) (p q r : Standing E) → IsWaiting slots id p q → IsSlotOf slots id slot → r ≡ with_view q (view_after_load q.view slot word)
      → IsWaiting slots id p r
  waits_more slots id slot word p q r was is more = let w = was.here slot is in record {
    here = λ other names. let same : slot ≡ other = same_Some slot other (sym is.0 ∙ names.0) in
        subst (λ (z : ℕ). (words : List ℕ) × (r ≡ with_view p (view_after_loads p.view (words_of z words)))) same (
          w.0 ++ word ∷ [],
          more ∙ ap (λ z. with_view z (view_after_load z.view slot word)) w.1
              ∙ ap (with_view p) (sym (loads_more p.view (words_of slot w.0) ((slot, word) ∷ [])) ∙ ap (view_after_loads p.view) (sym (words_more slot word w.0))),
        );
    nowhere = λ no_slot. (let low = is.1 in let high = no_slot slot is.0 in absurd (omega (arith, low, high)));
  }

  -- a word that shows the id gone, after the loads
  pub seen_end : (slots id : ℕ) (p q r : Standing E) (slot word : ℕ) → IsWaiting slots id p q → IsSlotOf slots id slot → gone_by word id ≡ true
      → r ≡ with_view q (view_after_load q.view slot word) → IsJoinSeen slots id p (Some word) r
  seen_end slots id p q r slot word was is gone more =
      let w = was.here slot is in (
        slot,
        is,
        gone,
        (
          w.0,
          more ∙ ap (λ z. with_view z (view_after_load z.view slot word)) w.1
              ∙ ap (with_view p) (sym (loads_more p.view (words_of slot w.0) ((slot, word) ∷ [])) ∙ ap (view_after_loads p.view) (sym (words_more slot word w.0))),
        ),
      )

  -- what the pass had seen end it still has
  pub still_ended : (slots id : ℕ) (p q : Standing E) → IsWaiting slots id p q → HasSeenEnd slots id p → HasSeenEnd slots id q
  still_ended slots id p q was h =
      let w = was.here h.0 h.1 in let k = loads_keep p.view (words_of h.0 w.0) h.0 in
      let now : (part_of q.view h.0).ended_below ≡ k.0 = ap (λ z. (part_of z.view h.0).ended_below) w.1 ∙ ap (λ (z : Part E). z.ended_below) k.1 in
      (h.0, h.1, omega (arith, h.2, now, k.2))

module _ {T E : Type 0} (log : T → List E) (first_id : T → ℕ) (rec : E → Option Receipt) where
  -- a lock after the loads
  pub locked_end : (slots id : ℕ) (p q r : Standing E) (c : Claim) (x : T) → IsWaiting slots id p q → IsTried log first_id rec slots id q (try.Locked c x) r
      → IsLockEnd log first_id rec slots id p (lock.Locked c x) r
  locked_end slots id p q r c x was a =
      let w = was.here c.slot a.0 in let word : ℕ = a.1.0 in let lk = a.1.2 in
      let k = loads_keep p.view (words_of c.slot w.0) c.slot in
      let now : part_of q.view c.slot ≡ part_with_ended_below (part_of p.view c.slot) k.0 = ap (λ z. part_of z.view c.slot) w.1 ∙ k.1 in
      let numbers : q.view.numbers ≡ p.view.numbers = ap (λ z. z.view.numbers) w.1 ∙ loads_numbers p.view (words_of c.slot w.0) in
      let kept_receipts : HasReceipts rec p.view c.slot c.first (log x) = subst (λ (z : List ℕ × Part E). (n : ℕ) → HasNumber n z.0
      → IsReordered (numbers_of n (receipts_of_range c.first z.1.receipts)) (numbers_of n (receipts_in rec (log x)))) (λ y. (numbers y, now y)) lk.5 in (
        a.0,
        (
          w.0,
          (
            word,
            a.1.1,
            (lk.0, lk.1, lk.2, (λ l h. lk.3 l (subst (λ (z : Part E). HasLog z.logs c.first l) (sym now) h)), sym (ap (λ (z : Part E). z.hold) now) ∙ lk.4, kept_receipts),
            a.1.3 ∙ ap (λ z. with_view z (view_with_hold (view_after_load z.view c.slot word) c (log x))) w.1
                ∙ ap (λ v. with_view p (view_with_hold v c (log x))) (sym (loads_more p.view (words_of c.slot w.0) ((c.slot, word) ∷ []))
                ∙ ap (view_after_loads p.view) (sym (words_more c.slot word w.0))),
          ),
        ),
      )

  -- a refusal after the loads
  pub gone_end : (slots id : ℕ) (p q r : Standing E) (word : ℕ) → IsWaiting slots id p q → IsTried log first_id rec slots id q (try.Gone word) r
      → IsLockEnd log first_id rec slots id p (lock.Gone word) r
  gone_end slots id p q r word was a =
      let w = was.here a.0 a.1 in (
        a.0,
        a.1,
        a.2,
        (
          w.0,
          a.3 ∙ ap (λ z. with_view z (view_after_load z.view a.0 word)) w.1
              ∙ ap (with_view p) (sym (loads_more p.view (words_of a.0 w.0) ((a.0, word) ∷ [])) ∙ ap (view_after_loads p.view) (sym (words_more a.0 word w.0))),
        ),
      )

module _ {E : Type 0} where
  -- the pass has loaded the owner's slot some times
  abbrev pub IsJoining : Standing E → Claim → Standing E → Type 0
  IsJoining p c q = (words : List ℕ) × (q ≡ with_view p (view_after_loads p.view (words_of c.slot words)))

  -- the Owner stays while it waits
  pub still_owner : (p q : Standing E) (c : Claim) → IsJoining p c q → HasOwner p c → HasOwner q c
  still_owner p q c was has = ap (λ z. (part_of z.view c.slot).owner) was.1 ∙ ap (λ (z : Part E). z.owner) (loads_keep p.view (words_of c.slot was.0) c.slot).1 ∙ has

  -- one load more
  pub joins_more : (p q r : Standing E) (c : Claim) (word : ℕ) → IsJoining p c q → r ≡ with_view q (view_after_load q.view c.slot word) → IsJoining p c r
  joins_more p q r c word was more = (
    was.0 ++ word ∷ [],
    more ∙ ap (λ z. with_view z (view_after_load z.view c.slot word)) was.1
        ∙ ap (with_view p) (sym (loads_more p.view (words_of c.slot was.0) ((c.slot, word) ∷ [])) ∙ ap (view_after_loads p.view) (sym (words_more c.slot word was.0))),
  )

-- what was collected after the loads
pub joined_end : {T E : Type 0} (log : T → List E) (first_id : T → ℕ) (p q r : Standing E) (c : Claim) (x : T) → IsJoining p c q
    → IsCollected log first_id c q (collect.Value x) r → IsJoined log first_id c p x r
joined_end {T} {E} log first_id p q r c x was a =
    let now : part_of q.view c.slot ≡ part_with_ended_below (part_of p.view c.slot) (loads_keep p.view (words_of c.slot was.0) c.slot).0 =
    ap (λ z. part_of z.view c.slot) was.1 ∙ (loads_keep p.view (words_of c.slot was.0) c.slot).1 in (
      (a.0.0, (λ l h. a.0.1 l (subst (λ (z : Part E). HasLog z.logs c.first l) (sym now) h))),
      (was.0, a.1 ∙ ap (λ z. with_view z (view_after_collect z.view c (log x))) was.1),
    )
