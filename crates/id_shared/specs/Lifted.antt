-- The second halves of `unlock` and `destroy`: what each asks of a seat that took the Hold's slot again, and what it leaves. This project's own choice.
use Rattle.std.specs.Prelude.{◌≡◌, ◌≢◌, ◌<◌, ◌≤◌, ℕ, List, [], ◌∷◌, length, Option, Some, None}
use Rattle.atomic_table.specs.Seated.{TableId}
use Rattle.atomic_table.specs.Table.{Me}
use Rattle.rpc_model.specs.Gone.{head_in}
use Rattle.id_rule.specs.declared.view.Queued.{Queued}
use Rattle.id_rule.specs.declared.view.Receipt.{Receipt}
use Rattle.id_rule.specs.declared.view.Turn.{Turn}
use Rattle.id_rule.specs.declared.view.View.{View}
use Rattle.id_rule.specs.Parts.{part_of}
use Rattle.id_rule.specs.Receipts.{IsGrown, IsGrownWithout}
use Rattle.id_rule.specs.Steps.{IsChainOf}
use Rattle.id_shared.specs.declared.answers.Posted.{Posted}
use Rattle.id_shared.specs.declared.answers.UnlockEnd.{UnlockEnd}
use Rattle.id_shared.specs.declared.answers.UnlockEnd.TheVariants as unlock
use Rattle.id_shared.specs.Draining.{IsSeatOf}
use Rattle.id_shared.specs.Standing.{Claim, IdTable}
use Rattle.id_shared.specs.Views.{errors_of, view_unlocked, view_with_chain, view_ended}

-- the seat is of the table and has the Hold, whose slot is with it, empty; it has taken no nodes
pub record HasLifted {T E : Type 0} (ids : IdTable) (c : Claim) (table : TableId) (me : Me (Option T) (View E)) : Type 0 where
  pub seat : IsSeatOf ids table me.0
  pub slot : c.slot < table.slots
  pub hold : (part_of me.0 c.slot).hold ≡ Some (c.first, c.size)
  pub taken : me.0.taken ≡ []
  pub carried : me.1 ≡ (c.slot, None) ∷ []

module _ {E : Type 0} (rec : E → Option Receipt) where
  -- the log begins with the log at the lock, and has each receipt that was handed out since, once
  abbrev pub IsGrownSince : View E → Claim → List E → Type 0
  IsGrownSince v c log = (t : Turn E) → (part_of v c.slot).turn ≡ Some t → IsGrown rec t.log log (part_of v c.slot).got

  -- the log begins with the log at the lock; these receipts, handed out since, are what it leaves out of them
  abbrev pub IsLeftOutSince : View E → Claim → List E → List Receipt → Type 0
  IsLeftOutSince v c log out = (t : Turn E) → (part_of v c.slot).turn ≡ Some t → IsGrownWithout rec t.log log (part_of v c.slot).got out

module _ {T E : Type 0} (log : T → List E) (rec : E → Option Receipt) where
  -- the rest of `unlock`: the range is unlocked, or its word had a head, and the chain was taken and its errors are listed, last queued first
  abbrev pub IsUnlockedFrom : Claim → T → Me (Option T) (View E) → UnlockEnd T → Me (Option T) (View E) → List Posted → Type 0
  IsUnlockedFrom c x m unlock.Unlocked m' es = (m' ≡ (view_unlocked m.0 c (log x), [])) × (es ≡ [])
  IsUnlockedFrom c x m (unlock.Pending same y count) m' es = (same ≡ c)
      × (y ≡ x)
      × (1 ≤ count)
      × (count ≡ length es)
      × ((word : ℕ) × (head_in word ≢ 0)
      × ((qs : List Queued) × IsChainOf rec m.0 c.slot c.size qs × (es ≡ errors_of qs) × (m' ≡ (view_with_chain m.0 c word qs, []))))

  -- the rest of `destroy`: what the last log leaves out of the receipts since the lock is dropped, and so is the chain, whose errors are listed, last queued
  -- first
  abbrev pub IsDestroyedFrom : Claim → T → Me (Option T) (View E) → Me (Option T) (View E) → List Posted → Type 0
  IsDestroyedFrom c x m m' es = (out : List Receipt)
      × IsLeftOutSince rec m.0 c (log x) out
      × ((qs : List Queued) × IsChainOf rec m.0 c.slot c.size qs × (es ≡ errors_of qs) × (m' ≡ (view_ended m.0 c (log x) out qs, [])))
