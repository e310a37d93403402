-- The one list of marks of all calls: each mark has the id of its node. This project's own choice.
use Rattle.std.specs.Prelude.{◌≡◌, ℕ, ◌+◌, ◌-◌, ◌^◌, ◌<◌, ◌≤◌, ◌⊎◌, nat_eq, Option, min, List, [], ◌∷◌, slice_get, Some, if◌then◌else◌}
use Rattle.std.specs.Arc.{arc_value}
use Rattle.std.specs.List.{AllByRecursion}
use Rattle.std.specs.Map.{lookup}
use Rattle.rpc_model.specs.declared.codes.TheConstants.{ERPCTIMEDOUT, EBACKUPREQUEST}
use Rattle.rpc_model.specs.Effects.{Mark as CallMark}
use Rattle.rpc_model.specs.State.{size}
use Rattle.rpc_model.specs.Versions.{width}
use Rattle.rpc_model.specs.Marks.{Begun, rank, weave}
use Rattle.id_pool.specs.Ids.{make_id}
use Rattle.id_pool.specs.Ranges.{Range, Slot, Taken}
use Rattle.timer_core.specs.declared.mark.Mark.{Mark}
use Rattle.timer_core.specs.Marks.{added}
use Rattle.sim_run.specs.declared.ticket.Ticket.{Ticket}

-- a mark of a call with this first id, as it stands among those of all calls; a rank is at most the greatest number that it may be
abbrev pub timed : ℕ → CallMark → Mark
timed first mark = record { moment = mark.moment; rank = min (rank mark) (2 ^ 32 - 1); id = first + mark.node; code = if mark.backup then EBACKUPREQUEST else ERPCTIMEDOUT }

-- the marks that a call set, one after the other
abbrev pub marked : ℕ → List CallMark → List Mark → List Mark
marked first [] marks = marks
marked first (mark ∷ more) marks = marked first more (added (timed first mark) marks)

-- the list has a mark of this id at this moment
abbrev pub HasMark : ℕ → ℕ → List Mark → Type 0
HasMark id moment [] = ⊥
HasMark id moment (mark ∷ marks) = ((mark.id ≡ id) × (mark.moment ≡ moment)) ⊎ HasMark id moment marks

-- each mark that a call with this first id waits for is in the list
abbrev pub HasMarks : ℕ → List CallMark → List Mark → Type 0
HasMarks first waiting marks = AllByRecursion (λ w. HasMark (first + w.node) w.moment marks) waiting

-- each mark that a call in a slot waits for is in the list
abbrev pub AreMarked : List Mark → List (Slot Begun) → Type 0
AreMarked marks slots = (slot : ℕ) (r : Range Begun) → slice_get slots slot ≡ Some (Taken r) → HasMarks (make_id slot r.first) r.value.waiting marks

-- marks that stand by rising moments
abbrev pub IsSorted : List CallMark → Type 0
IsSorted [] = Unit {0}
IsSorted (mark ∷ marks) = AllByRecursion (λ (w : CallMark). mark.moment ≤ w.moment) marks × IsSorted marks

-- a call within a range of so many ids: it has no more nodes, its marks are of these, and they stand by rising moments
pub record IsFit (n : ℕ) (b : Begun) : Type 0 where
  pub size : size b.state ≤ n
  pub nodes : AllByRecursion (λ (w : CallMark). w.node < n) b.waiting
  pub sorted : IsSorted b.waiting

-- the id is one of a call that had ids
pub record IsOwned (entries : List (ℕ × Option Ticket)) (id : ℕ) : Type 0 where
  pub call : ℕ
  pub ticket : Ticket
  pub place : ℕ
  pub found : lookup (nat_eq call) entries ≡ Some (Some ticket)
  pub within : place < width (arc_value ticket.plan)
  pub is : id ≡ ticket.first + place

abbrev pub AreOwned : List (ℕ × Option Ticket) → List Mark → Type 0
AreOwned entries marks = AllByRecursion (λ (mark : Mark). IsOwned entries mark.id) marks

-- no call in a slot waits for a mark that is due
abbrev pub AreSettled : ℕ → List (Slot Begun) → Type 0
AreSettled moment slots = (slot : ℕ) (r : Range Begun) → slice_get slots slot ≡ Some (Taken r) → weave moment r.value ≡ r.value
