-- Which Spots, Holds and Owners a pass still has after a call. This project's own choice.
use Rattle.std.specs.Prelude.{◌≡◌, ◌≢◌, ℕ, false, List, [], ◌++◌, Some}
use Rattle.id_rule.specs.Changes.{turn_at}
use Rattle.id_rule.specs.declared.view.Receipt.{Receipt}
use Rattle.id_rule.specs.declared.view.View.{View}
use Rattle.id_rule.specs.Parts.{part_of}
use Rattle.id_shared.specs.declared.answers.Reserve.{Reserve}
use Rattle.id_shared.specs.declared.answers.Reserve.TheVariants as reserve
use Rattle.id_shared.specs.declared.answers.TryLock.{TryLock}
use Rattle.id_shared.specs.declared.answers.TryLock.TheVariants as try
use Rattle.id_shared.specs.declared.answers.LockEnd.{LockEnd}
use Rattle.id_shared.specs.declared.answers.LockEnd.TheVariants as lock
use Rattle.id_shared.specs.declared.answers.UnlockEnd.{UnlockEnd}
use Rattle.id_shared.specs.declared.answers.UnlockEnd.TheVariants as unlock
use Rattle.id_shared.specs.declared.answers.TryPost.{TryPost}
use Rattle.id_shared.specs.declared.answers.TryPost.TheVariants as post
use Rattle.id_shared.specs.declared.answers.PostEnd.{PostEnd}
use Rattle.id_shared.specs.declared.answers.PostEnd.TheVariants as end
use Rattle.id_shared.specs.declared.answers.CollectEnd.{CollectEnd}
use Rattle.id_shared.specs.declared.answers.CollectEnd.TheVariants as collect
use Rattle.id_shared.specs.Standing.{Claim, Standing, HasSpot, HasHold}
use Rattle.id_shared.specs.Views.{receipts_in_errors}

module _ {E : Type 0} where
  -- each Spot, Hold and Owner of the slot is still there
  abbrev pub IsKeptAt : View E → View E → ℕ → Type 0
  IsKeptAt v w slot = (r : ℕ × ℕ) → ((part_of v slot).spot ≡ Some r → (part_of w slot).spot ≡ Some r)
      × ((part_of v slot).hold ≡ Some r → (part_of w slot).hold ≡ Some r)
      × ((part_of v slot).owner ≡ Some r → (part_of w slot).owner ≡ Some r)

  -- the pass has each Spot, Hold and Owner that it had
  abbrev pub KeepsClaims : Standing E → Standing E → Type 0
  KeepsClaims p q = (slot : ℕ) → IsKeptAt p.view q.view slot

  -- the pass has each Spot, Hold and Owner that it had of other slots
  abbrev pub KeepsOthers : ℕ → Standing E → Standing E → Type 0
  KeepsOthers slot p q = (other : ℕ) → other ≢ slot → IsKeptAt p.view q.view other

  -- the pass has each Owner that it had
  abbrev pub KeepsOwners : Standing E → Standing E → Type 0
  KeepsOwners p q = (slot : ℕ) (r : ℕ × ℕ) → (part_of p.view slot).owner ≡ Some r → (part_of q.view slot).owner ≡ Some r

  -- the pass has the Hold, this was the log at its lock, and these receipts were taken from its chain since
  abbrev pub IsHoldingWith : Standing E → Claim → List E → List Receipt → Type 0
  IsHoldingWith q c log got = HasHold q c × ((part_of q.view c.slot).turn ≡ Some (turn_at false log)) × ((part_of q.view c.slot).got ≡ got)

  -- the pass has the Hold, this was the log at its lock, and no receipt was taken from its chain since
  abbrev pub IsHolding : Standing E → Claim → List E → Type 0
  IsHolding q c log = IsHoldingWith q c log []

  -- a Spot that was answered is the pass's
  abbrev pub HasReserved : Standing E → Reserve → Type 0
  HasReserved q (reserve.Spot c) = HasSpot q c
  HasReserved q reserve.Full = Unit {0}
  HasReserved q (reserve.Again word found) = Unit {0}
  HasReserved q reserve.BadRange = Unit {0}

module _ {T E : Type 0} (log : T → List E) where
  -- a Hold that was answered is the pass's, and its value's log was the log at the lock
  abbrev pub HasTried : Standing E → TryLock T → Type 0
  HasTried q (try.Locked c x) = IsHolding q c (log x)
  HasTried q (try.Held word) = Unit {0}
  HasTried q (try.Gone word) = Unit {0}
  HasTried q try.NoSlot = Unit {0}
  HasTried q (try.Again word found) = Unit {0}

  -- a Hold that was answered is the pass's, and its value's log was the log at the lock
  abbrev pub HasLockEnd : Standing E → LockEnd T → Type 0
  HasLockEnd q (lock.Locked c x) = IsHolding q c (log x)
  HasLockEnd q (lock.Gone word) = Unit {0}
  HasLockEnd q lock.NoSlot = Unit {0}

-- `collect` keeps the claims on other slots, and all where it hands the Owner back
abbrev pub KeepsCollected : {T E : Type 0} → Claim → Standing E → CollectEnd T → Standing E → Type 0
KeepsCollected c p (collect.Value x) q = KeepsOthers c.slot p q
KeepsCollected c p (collect.NotYet same word) q = KeepsClaims p q

-- a Hold that `unlock` hands back is still the pass's, with the errors that were taken now besides those taken before
abbrev pub KeepsHolding : {T E : Type 0} → Claim → Standing E → UnlockEnd T → Standing E → Type 0
KeepsHolding c p unlock.Unlocked q = Unit {0}
KeepsHolding {T} {E} c p (unlock.Pending same x count) q = KeepsClaims p q
    × ((log : List E) (got : List Receipt) → IsHoldingWith p c log got → IsHoldingWith q c log (got ++ receipts_in_errors q.scratch))

-- the pass has the same errors still to hand out, of the same Hold
abbrev pub KeepsErrors : {E : Type 0} → Standing E → Standing E → Type 0
KeepsErrors p q = (q.scratch ≡ p.scratch) × (q.holder ≡ p.holder)

-- a Hold that was answered is the pass's, and its value's log was the log at the lock
abbrev pub HasTriedPost : {T E : Type 0} → (T → List E) → Standing E → TryPost T → Type 0
HasTriedPost log q (post.Locked c x) = IsHolding q c (log x)
HasTriedPost log q (post.Queued r) = Unit {0}
HasTriedPost log q (post.Gone word) = Unit {0}
HasTriedPost log q post.NoSlot = Unit {0}
HasTriedPost log q post.NoNode = Unit {0}
HasTriedPost log q (post.Again word found) = Unit {0}

-- the same
abbrev pub HasPostEnd : {T E : Type 0} → (T → List E) → Standing E → PostEnd T → Type 0
HasPostEnd log q (end.Locked c x) = IsHolding q c (log x)
HasPostEnd log q (end.Queued r) = Unit {0}
HasPostEnd log q (end.Gone word) = Unit {0}
HasPostEnd log q end.NoSlot = Unit {0}
HasPostEnd log q end.NoNode = Unit {0}

-- the pass has each Spot, Hold and Owner that one of both had
abbrev pub JoinsClaims : {E : Type 0} → Standing E → Standing E → Standing E → Type 0
JoinsClaims p other q = KeepsClaims p q × KeepsClaims other q
