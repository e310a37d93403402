-- Whether losses are those of their wires is decided.
use Rattle.std.proofs.Common.{ℕ, ◌==◌, ◌&&◌, nat_le, length}
use Rattle.std.specs.Bool.{Decides}
use Rattle.std.specs.List.{list_all}
use Rattle.std.specs.Prelude.{All}
use Rattle.std.proofs.lemmas.Bool.Decides.{Decides-eqb, Decides-and, Decides-like}
use Rattle.rpc_model.specs.declared.codes.TheConstants.{EFAILEDSOCKET}
use Rattle.rpc_model.specs.declared.journal.How.{How}
use Rattle.rpc_model.specs.declared.journal.How.TheVariants.{End, Fault, Bad, Full}
use Rattle.rpc_model.specs.declared.journal.LossNote.{LossNote}
use Rattle.rpc_model.specs.declared.journal.WireLog.{WireLog}
use Rattle.rpc_model.specs.declared.journal.Journal.{Journal}
use Rattle.journal_rule.specs.Losses.{IsLostAfter, times_lost, went_out_on, IsLossOf, HasLosses, is_lost_after, is_loss_of, has_losses}
use Rattle.journal_rule.proofs.Decided.{itself, at_most, each}

after_decided : (how : How) (frames after : ℕ) → Decides (is_lost_after how frames after) (IsLostAfter how frames after)
after_decided End frames after = Decides-eqb after frames
after_decided Fault frames after = at_most after frames
after_decided Bad frames after = at_most after frames
after_decided Full frames after = at_most after frames

loss_decided : (journal : Journal) (wire : WireLog) (lost : LossNote) → Decides (is_loss_of journal wire lost) (IsLossOf journal wire lost)
loss_decided journal wire lost =
    let c = lost.code == EFAILEDSOCKET in
    let w = went_out_on wire lost.id in
    let o = nat_le (times_lost journal lost.id) 1 in
    let a = is_lost_after wire.how (length wire.came) lost.after in
    Decides-like (is_loss_of journal wire lost)
    (λ h. record { code = h.0; went_out = h.1.0; once = h.1.1.0; after = h.1.1.1 })
    (λ (h : IsLossOf journal wire lost). (h.code, (h.went_out, (h.once, h.after))))
    (Decides-and c (w && (o && a)) (Decides-eqb lost.code EFAILEDSOCKET)
    (Decides-and w (o && a) (itself w) (Decides-and o a (at_most (times_lost journal lost.id) 1) (after_decided wire.how (length wire.came) lost.after))))

pub losses_decided : (journal : Journal) → Decides (has_losses journal) (HasLosses journal)
losses_decided journal =
    each (λ (w : WireLog). list_all (is_loss_of journal w) w.losses) (λ (w : WireLog). All (IsLossOf journal w) w.losses)
    (λ w. each (is_loss_of journal w) (IsLossOf journal w) (loss_decided journal w) w.losses) journal.wires
