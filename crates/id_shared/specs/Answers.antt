-- What each answer of a call says: of the id or the range asked for, the pass before, the answer and the pass after. Locking, ending and joining by id
-- follow bthread_id; reserving, collecting and the words that show a refusal are this project's own choice.
use Rattle.std.specs.Prelude.{◌≡◌, ◌≢◌, ◌⊎◌, ℕ, ◌+◌, ◌%◌, ◌<◌, ◌≤◌, List, [], ◌∷◌, ◌++◌, length, reverse, true, Option, Some, None}
use mathlib.Core.List.{IsPrefix}
use Rattle.id_pool.specs.Ids as ids
use Rattle.rpc_model.specs.Gone.{code_in, head_in, first_in, range_in, is_live_in, gone_by}
use Rattle.id_rule.specs.Changes.{view_after_load}
use Rattle.id_rule.specs.declared.view.Known.{Known}
use Rattle.id_rule.specs.declared.view.Receipt.{Receipt}
use Rattle.id_rule.specs.declared.view.View.{View}
use Rattle.id_rule.specs.declared.view.Queued.{Queued}
use Rattle.id_rule.specs.declared.view.Turn.{Turn}
use Rattle.id_rule.specs.Nodes.{numbers_of}
use Rattle.id_rule.specs.Receipts.{IsReordered, IsGrown, IsGrownWithout, receipts_of_range, receipts_in}
use Rattle.id_rule.specs.declared.rule.Sizes.{Sizes}
use Rattle.id_rule.specs.Parts.{part_of, own_number, HasLog, HasNumber, AreAll}
use Rattle.id_rule.specs.Steps.{IsChainOf}
use Rattle.id_rule.specs.Words.{packed_word}
use Rattle.id_shared.specs.declared.answers.Posted.{Posted}
use Rattle.id_shared.specs.declared.answers.Reserve.{Reserve}
use Rattle.id_shared.specs.declared.answers.Reserve.TheVariants as reserve
use Rattle.id_shared.specs.declared.answers.TryLock.{TryLock}
use Rattle.id_shared.specs.declared.answers.TryLock.TheVariants as try
use Rattle.id_shared.specs.declared.answers.LockEnd.{LockEnd}
use Rattle.id_shared.specs.declared.answers.LockEnd.TheVariants as lock
use Rattle.id_shared.specs.declared.answers.UnlockEnd.{UnlockEnd}
use Rattle.id_shared.specs.declared.answers.UnlockEnd.TheVariants as unlock
use Rattle.id_shared.specs.declared.answers.CollectEnd.{CollectEnd}
use Rattle.id_shared.specs.declared.answers.CollectEnd.TheVariants as collect
use Rattle.id_shared.specs.Standing.{Claim, Standing, first_id_of}
use Rattle.id_shared.specs.Views.{words_round, words_of, first_slot, with_view, view_after_loads, view_with_spot, view_with_hold, view_without_hold, view_after_pending}
use Rattle.id_shared.specs.Views.{view_after_destroy, view_after_collect, errors_of, receipts_in_errors}

-- a range may have 1 to 1,024 ids
abbrev pub IsSize : ℕ → Type 0
IsSize range = (1 ≤ range) × (range ≤ 1024)

-- the id names this slot of a table with so many
abbrev pub IsSlotOf : ℕ → ℕ → ℕ → Type 0
IsSlotOf slots id slot = (ids.slot_of id ≡ Some slot) × (slot < slots)

-- the id names no slot of a table with so many
abbrev pub HasNoSlot : ℕ → ℕ → Type 0
HasNoSlot slots id = (slot : ℕ) → ids.slot_of id ≡ Some slot → slots ≤ slot

-- the word is free and has the id's version
abbrev pub IsFreeFor : ℕ → ℕ → Type 0
IsFreeFor word id = (is_live_in word (ids.version_of id) ≡ true) × (code_in word ≡ 2)

-- the word is locked and has the id's version
abbrev pub IsHeldFor : ℕ → ℕ → Type 0
IsHeldFor word id = (is_live_in word (ids.version_of id) ≡ true) × (code_in word ≡ 3)

-- the slots were looked at from this one on, counted round, none of them twice: this slot's word was vacant, and none before it
abbrev pub IsFirstVacant : ℕ → ℕ → ℕ → ℕ → List ℕ → Type 0
IsFirstVacant slots start slot word words = (code_in word ≡ 0)
    × ((before : List ℕ)
    × (words ≡ before ++ word ∷ [])
    × ((start + length before) % slots ≡ slot)
    × (length before < slots)
    × AreAll (λ n. code_in n ≢ 0) before)

module _ {E : Type 0} where
  -- the log begins with each log of the range that is among those known
  abbrev pub HasAllLogs : List (Known E) → ℕ → List E → Type 0
  HasAllLogs ks first log = (l : List E) → HasLog ks first l → IsPrefix l log

  -- the exchange found the vacant word, which gave the Spot, or another
  abbrev pub IsReservedFrom : ℕ → ℕ → ℕ → Standing E → Reserve → Standing E → Type 0
  IsReservedFrom slot word range p (reserve.Spot c) q = (c.slot ≡ slot)
      × (c.first ≡ first_in word)
      × (c.size ≡ range)
      × (q ≡ with_view p (view_with_spot p.view c))
      × ((part_of p.view slot).spot ≡ None)
  IsReservedFrom slot word range p reserve.Full q = ⊥
  IsReservedFrom slot word range p (reserve.Again old found) q = (old ≡ word) × (found ≢ word) × (q ≡ with_view p (view_after_load p.view slot found))
  IsReservedFrom slot word range p reserve.BadRange q = ⊥

  -- the slot that the pass looks at first
  abbrev pub start_of : Sizes → Standing E → ℕ
  start_of sizes p = first_slot sizes.slots sizes.passes (own_number p.view.numbers)

  -- the view after loads of slots, from the pass's first one on, that found the words which are noted
  abbrev pub view_after_round : Sizes → Standing E → List ℕ → View E
  view_after_round sizes p words = view_after_loads p.view (words_round sizes.slots (start_of sizes p) words)

  -- `reserve`
  abbrev pub IsReserved : Sizes → ℕ → Standing E → Reserve → Standing E → Type 0
  IsReserved sizes range p (reserve.Spot c) q = IsSize range
      × ((word : ℕ) × IsFirstVacant sizes.slots (start_of sizes p) c.slot word q.words × (c.first ≡ first_in word))
      × (c.size ≡ range)
      × (q.view ≡ view_with_spot (view_after_round sizes p q.words) c)
      × ((part_of p.view c.slot).spot ≡ None)
  IsReserved sizes range p reserve.Full q = IsSize range
      × (length q.words ≡ sizes.slots)
      × AreAll (λ n. code_in n ≢ 0) q.words
      × (q.view ≡ view_after_round sizes p q.words)
  IsReserved sizes range p (reserve.Again word found) q = IsSize range
      × (found ≢ word)
      × ((slot : ℕ)
      × IsFirstVacant sizes.slots (start_of sizes p) slot word q.words
      × (q.view ≡ view_after_load (view_after_round sizes p q.words) slot found))
  IsReserved sizes range p reserve.BadRange q = (range < 1 ⊎ 1024 < range) × (q ≡ p)

  -- the log has, once, each receipt that the pass was given for the range
  abbrev pub HasReceipts : (E → Option Receipt) → View E → ℕ → ℕ → List E → Type 0
  HasReceipts rec v slot first log = (a : ℕ) → HasNumber a v.numbers
      → IsReordered (numbers_of a (receipts_of_range first (part_of v slot).receipts)) (numbers_of a (receipts_in rec log))

module _ {T E : Type 0} (log : T → List E) (first_id : T → ℕ) (rec : E → Option Receipt) where
  -- The Hold is of the range in the word that the pass saw last, and the value is that range's, with a log no older than any that the pass knows, in which
  -- each of the pass's receipts for the range stands once
  abbrev pub IsLocked : View E → ℕ → Claim → T → Type 0
  IsLocked v word c x = (c.first ≡ first_in word)
      × (c.size ≡ range_in word)
      × (first_id x ≡ first_id_of c)
      × HasAllLogs (part_of v c.slot).logs c.first (log x)
      × ((part_of v c.slot).hold ≡ None)
      × HasReceipts rec v c.slot c.first (log x)

  -- the exchange found the free word, which gave the Hold and the value, or another
  abbrev pub IsLockedFrom : ℕ → ℕ → Standing E → TryLock T → Standing E → Type 0
  IsLockedFrom slot word p (try.Locked c x) q = (c.slot ≡ slot) × IsLocked p.view word c x × (q ≡ with_view p (view_with_hold p.view c (log x)))
  IsLockedFrom slot word p (try.Held w) q = ⊥
  IsLockedFrom slot word p (try.Gone w) q = ⊥
  IsLockedFrom slot word p try.NoSlot q = ⊥
  IsLockedFrom slot word p (try.Again old found) q = (old ≡ word) × (found ≢ word) × (q ≡ with_view p (view_after_load p.view slot found))

  -- `try_lock`
  abbrev pub IsTried : ℕ → ℕ → Standing E → TryLock T → Standing E → Type 0
  IsTried slots id p (try.Locked c x) q = IsSlotOf slots id c.slot
      × ((word : ℕ)
      × IsFreeFor word id
      × IsLocked p.view word c x
      × (q ≡ with_view p (view_with_hold (view_after_load p.view c.slot word) c (log x))))
  IsTried slots id p (try.Held word) q = (slot : ℕ) × IsSlotOf slots id slot × IsHeldFor word id × (q ≡ with_view p (view_after_load p.view slot word))
  IsTried slots id p (try.Gone word) q = (slot : ℕ) × IsSlotOf slots id slot × (gone_by word id ≡ true)
      × (q ≡ with_view p (view_after_load p.view slot word))
  IsTried slots id p try.NoSlot q = HasNoSlot slots id × (q ≡ p)
  IsTried slots id p (try.Again word found) q = (slot : ℕ)
      × IsSlotOf slots id slot
      × IsFreeFor word id
      × (found ≢ word)
      × (q ≡ with_view p (view_after_load (view_after_load p.view slot word) slot found))

  -- `lock`, after loads of the id's slot that found these words
  abbrev pub IsLockEnd : ℕ → ℕ → Standing E → LockEnd T → Standing E → Type 0
  IsLockEnd slots id p (lock.Locked c x) q = IsSlotOf slots id c.slot
      × ((words : List ℕ)
      × ((word : ℕ)
      × IsFreeFor word id
      × IsLocked p.view word c x
      × (q ≡ with_view p (view_with_hold (view_after_loads p.view (words_of c.slot (words ++ word ∷ []))) c (log x)))))
  IsLockEnd slots id p (lock.Gone word) q = (slot : ℕ)
      × IsSlotOf slots id slot
      × (gone_by word id ≡ true)
      × ((words : List ℕ) × (q ≡ with_view p (view_after_loads p.view (words_of slot (words ++ word ∷ [])))))
  IsLockEnd slots id p lock.NoSlot q = HasNoSlot slots id × (q ≡ p)

module _ {T E : Type 0} (log : T → List E) (first_id : T → ℕ) where
  -- the value is the range's last one, with a log no older than any that the pass knows
  abbrev pub IsLastValue : View E → Claim → T → Type 0
  IsLastValue v c x = (first_id x ≡ first_id_of c) × HasAllLogs (part_of v c.slot).logs c.first (log x)

  -- `collect`
  abbrev pub IsCollected : Claim → Standing E → CollectEnd T → Standing E → Type 0
  IsCollected c p (collect.Value x) q = IsLastValue p.view c x × (q ≡ with_view p (view_after_collect p.view c (log x)))
  IsCollected c p (collect.NotYet same word) q = (same ≡ c)
      × (word ≢ packed_word c.first c.size 4 0)
      × (q ≡ with_view p (view_after_load p.view c.slot word))

module _ {T E : Type 0} (log : T → List E) (first_id : T → ℕ) where
  -- `join`, after loads of the owner's slot that found these words
  abbrev pub IsJoined : Claim → Standing E → T → Standing E → Type 0
  IsJoined c p x q = IsLastValue log first_id p.view c x
      × ((words : List ℕ) × (q ≡ with_view p (view_after_collect (view_after_loads p.view (words_of c.slot words)) c (log x))))

-- `join_seen`, after loads of the id's slot that found these words
abbrev pub IsJoinSeen : {E : Type 0} → ℕ → ℕ → Standing E → Option ℕ → Standing E → Type 0
IsJoinSeen slots id p (Some word) q = (slot : ℕ)
    × IsSlotOf slots id slot
    × (gone_by word id ≡ true)
    × ((words : List ℕ) × (q ≡ with_view p (view_after_loads p.view (words_of slot (words ++ word ∷ [])))))
IsJoinSeen slots id p None q = HasNoSlot slots id × (q ≡ p)

-- the answer is Gone
abbrev pub IsGone : {T : Type 0} → TryLock T → Type 0
IsGone (try.Locked c x) = ⊥
IsGone (try.Held word) = ⊥
IsGone (try.Gone word) = Unit {0}
IsGone try.NoSlot = ⊥
IsGone (try.Again word found) = ⊥

-- the answer is Gone
abbrev pub IsGoneEnd : {T : Type 0} → LockEnd T → Type 0
IsGoneEnd (lock.Locked c x) = ⊥
IsGoneEnd (lock.Gone word) = Unit {0}
IsGoneEnd lock.NoSlot = ⊥

-- the id names a slot of the table, and the pass has seen its version end
abbrev pub HasSeenEnd : {E : Type 0} → ℕ → ℕ → Standing E → Type 0
HasSeenEnd slots id p = (slot : ℕ) × IsSlotOf slots id slot × (ids.version_of id < (part_of p.view slot).ended_below)

module _ {E : Type 0} (rec : E → Option Receipt) where
  -- the log begins with the log at the lock, and has each receipt that was handed out since, once
  abbrev pub HasGrown : Standing E → Claim → List E → Type 0
  HasGrown p c log = (t : Turn E) → (part_of p.view c.slot).turn ≡ Some t → IsGrown rec t.log log (part_of p.view c.slot).got

  -- the log begins with the log at the lock; these receipts, handed out since, are what it leaves out of them
  abbrev pub HasGrownWithout : Standing E → Claim → List E → List Receipt → Type 0
  HasGrownWithout p c log out = (t : Turn E) → (part_of p.view c.slot).turn ≡ Some t → IsGrownWithout rec t.log log (part_of p.view c.slot).got out

  -- The log begins with the log at the lock, and its receipts since are some of those handed out since, each once. These are the others; the errors that
  -- weren't handed out yet are none of them
  abbrev pub HasLeftOut : Standing E → Claim → List E → List Receipt → Type 0
  HasLeftOut p c log out = HasGrownWithout p c log (out ++ receipts_in_errors p.scratch)

module _ {T E : Type 0} (log : T → List E) (rec : E → Option Receipt) where
  -- `unlock`: the range is unlocked, or its word had a head, and the chain was taken
  abbrev pub IsUnlocked : Claim → T → Standing E → UnlockEnd T → Standing E → Type 0
  IsUnlocked c x p unlock.Unlocked q = q ≡ with_view p (view_without_hold p.view c (log x))
  IsUnlocked c x p (unlock.Pending same y count) q = (same ≡ c)
      × (y ≡ x)
      × (1 ≤ count)
      × (count ≡ length q.scratch)
      × ((word : ℕ) × (head_in word ≢ 0)
      × ((qs : List Queued)
      × IsChainOf rec p.view c.slot c.size qs
      × (q ≡ record p { view = view_after_pending p.view c word qs; scratch = reverse (errors_of qs); holder = Some c.slot })))

  -- `destroy`: what the last log leaves out of the receipts since the lock is dropped, and so is the chain. The errors to hand out are those that weren't
  -- yet, and then those of the chain
  abbrev pub IsDestroyed : Claim → T → Standing E → Standing E → Type 0
  IsDestroyed c x p q = (out : List Receipt)
      × HasGrownWithout rec p c (log x) out
      × ((qs : List Queued)
      × IsChainOf rec p.view c.slot c.size qs
      × (q ≡ record p {
        view = view_after_destroy p.view c (log x) out qs;
        scratch = p.scratch ++ reverse (errors_of qs);
        holder = None;
      }))

-- the first of the errors still to hand out, if there is one
abbrev pub HasNext : {E : Type 0} → Standing E → Option Posted → Standing E → Type 0
HasNext p None q = (p.scratch ≡ []) × (q ≡ p)
HasNext p (Some e) q = (es : List Posted) × (p.scratch ≡ e ∷ es) × (q ≡ record p { scratch = es })
