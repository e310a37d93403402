-- The losses of a lawful journal: each of an attempt that was sent on its wire, and each attempt at most once. This project's own choice.
use Rattle.std.specs.Prelude.{◌≡◌, ℕ, ◌≤◌, Bool, true, ◌==◌, ◌&&◌, nat_le, List, length, flat_map, count_by, All}
use Rattle.std.specs.List.{list_all, list_any}
use Rattle.rpc_model.specs.declared.codes.TheConstants.{EFAILEDSOCKET}
use Rattle.rpc_model.specs.declared.sent.Sent.{Sent}
use Rattle.rpc_model.specs.declared.journal.How.{How}
use Rattle.rpc_model.specs.declared.journal.How.TheVariants.{End, Fault, Bad, Full}
use Rattle.rpc_model.specs.declared.journal.LossNote.{LossNote}
use Rattle.rpc_model.specs.declared.journal.WireLog.{WireLog}
use Rattle.rpc_model.specs.declared.journal.Journal.{Journal}

-- A wire that met its end was lost behind its last frame, after so many; any other one may have been lost before.
abbrev pub IsLostAfter : How → ℕ → ℕ → Type 0
IsLostAfter End frames after = after ≡ frames
IsLostAfter Fault frames after = after ≤ frames
IsLostAfter Bad frames after = after ≤ frames
IsLostAfter Full frames after = after ≤ frames

abbrev pub losses : Journal → List LossNote
losses journal = flat_map (λ (w : WireLog). w.losses) journal.wires

-- how often an id was lost, on all wires
abbrev pub times_lost : Journal → ℕ → ℕ
times_lost journal id = count_by (λ (l : LossNote). l.id == id) (losses journal)

abbrev pub went_out_on : WireLog → ℕ → Bool
went_out_on wire id = list_any (λ (s : Sent). s.id == id) wire.out

-- A loss of a wire has the code of a failed connection and the id of a request that went out there. No id is lost twice.
pub record IsLossOf (journal : Journal) (wire : WireLog) (lost : LossNote) : Type 0 where
  pub code : lost.code ≡ EFAILEDSOCKET
  pub went_out : went_out_on wire lost.id ≡ true
  pub once : times_lost journal lost.id ≤ 1
  pub after : IsLostAfter wire.how (length wire.came) lost.after

abbrev pub HasLosses : Journal → Type 0
HasLosses journal = All (λ (w : WireLog). All (IsLossOf journal w) w.losses) journal.wires

-- ---- computed

abbrev pub is_lost_after : How → ℕ → ℕ → Bool
is_lost_after End frames after = after == frames
is_lost_after Fault frames after = nat_le after frames
is_lost_after Bad frames after = nat_le after frames
is_lost_after Full frames after = nat_le after frames

abbrev pub is_loss_of : Journal → WireLog → LossNote → Bool
is_loss_of journal wire lost =
    lost.code == EFAILEDSOCKET && (went_out_on wire lost.id && (nat_le (times_lost journal lost.id) 1 && is_lost_after wire.how (length wire.came) lost.after))

abbrev pub has_losses : Journal → Bool
has_losses journal = list_all (λ (w : WireLog). list_all (is_loss_of journal w) w.losses) journal.wires
