-- A join leaves each mark that a call in a slot waits for in the list.
use Rattle.std.proofs.Common.{◌≡◌, ℕ, ◌+◌, ◌-◌, ◌^◌, ◌<◌, ◌≤◌, nat_eq, List, length, slice_get, Option, None, Some, ap, sym, refl, ◌∙◌, subst, arith}
use Rattle.std.specs.Map.{lookup}
use Rattle.rpc_model.specs.declared.event.End.{End}
use Rattle.rpc_model.specs.State.{end_of}
use Rattle.rpc_model.specs.Marks.{Begun}
use Rattle.id_pool.specs.Ids.{make_id, version_of}
use Rattle.id_pool.specs.Ranges.{Slot, Taken, Range, Nothing, Unlocked, look, change, change_at, changed}
use Rattle.id_pool.specs.Answers.{value_says}
use Rattle.timer_core.specs.declared.mark.Mark.{Mark}
use Rattle.sim_run.specs.declared.ticket.Ticket.{Ticket}
use Rattle.sim_run.specs.Link.{Link}
use Rattle.sim_run.specs.Slots.{visited, finished, join, join_by, joined_to, acts_by}
use Rattle.sim_run.specs.Acting.{Acting, joined_by}
use Rattle.sim_run.specs.Marked.{AreMarked, HasMarks, IsFit, IsOwned, AreOwned}
use Rattle.sim_run.specs.Desk.{IsSlot, IsSound}
use Rattle.sim_run.proofs.Changes.{look-at}
use Rattle.sim_run.proofs.Acts.{joined-call, joined-marked, marks-own}
use Rattle.sim_run.proofs.Entries.{slot-of-all, known-of}
use Rattle.sim_run.proofs.Steps.{lives, most, is-over, over-look, over-nothing}
use Rattle.sim_run.proofs.Brings.{found, marked-step, marked-left, own-ids}
use Rattle.sim_run.proofs.JoinSteps.{first-finds, left_by-low}

-- what a join leaves of the list
pub record JoinMarks (slots after : List (Slot Begun)) (marks : List Mark) (entries : List (ℕ × Option Ticket)) : Type 0 where
  pub marked : AreMarked marks after
  pub owned : AreOwned entries marks

marked-if : (o : Option End) (reached i : ℕ) (slots : List (Slot Begun)) (r : Range Begun) (g : Slot Begun → Slot Begun) (a : Acting) → a.call ≡ r.value → IsFit r.size r.value
    → r.first + r.size ≤ 2 ^ 32 - 1024 → slice_get slots i ≡ Some (Taken r) → g (Taken r) ≡ joined_to o (finished reached r.value) r → AreMarked a.marks slots
    → AreMarked (joined_by reached (make_id i r.first) a).marks (change i g slots)
marked-if None reached i slots r g a own fit low at is marked =
    let b = joined_by reached (make_id i r.first) a in
    let call : b.call ≡ finished reached r.value = joined-call reached (make_id i r.first) a ∙ ap (finished reached) own in
    let kept = joined-marked r.size reached (make_id i r.first) a (subst (IsFit r.size) (sym own) fit) in
    let mine : HasMarks (make_id i r.first) a.call.waiting a.marks = subst (λ (c : Begun). HasMarks (make_id i r.first) c.waiting a.marks) (sym own) (marked i r at) in
    let done : HasMarks (make_id i r.first) (finished reached r.value).waiting b.marks =
    subst (λ (c : Begun). HasMarks (make_id i r.first) c.waiting b.marks) call (marks-own r.size (make_id i r.first) a b kept mine) in
    marked-step slots i r (visited r (finished reached r.value)) g a b at is refl done kept.others (λ j x differ there. marked j x there)
marked-if (Some e) reached i slots r g a own fit low at is marked =
    let b = joined_by reached (make_id i r.first) a in
    let kept = joined-marked r.size reached (make_id i r.first) a (subst (IsFit r.size) (sym own) fit) in
    marked-left slots i (r.first + r.size) r g a b at (is ∙ left_by-low r low) kept.others marked

pub join-marked : (reached : ℕ) (slots : List (Slot Begun)) (wires : List Link) (marks : List Mark) (entries : List (ℕ × Option Ticket)) (call : ℕ) (ticket : Ticket) → IsSound slots entries
    → length entries ≤ 500000 → lookup (nat_eq call) entries ≡ Some (Some ticket)
    → AreMarked marks slots → AreOwned entries marks
    → JoinMarks slots (changed (join reached (version_of ticket.first)) ticket.first slots) (acts_by ticket.first (joined_by reached) (look ticket.first slots) wires marks).1 entries
join-marked reached slots wires marks entries call ticket sound few at marked owned = by (value_says (look ticket.first slots)) refl
  where
    zero_more : ticket.first + 0 ≡ ticket.first
    zero_more = omega arith

    by : (x : Option Begun) → value_says (look ticket.first slots) ≡ x
        → JoinMarks slots (changed (join reached (version_of ticket.first)) ticket.first slots) (acts_by ticket.first (joined_by reached) (look ticket.first slots) wires marks).1 entries
    by None none =
        let known = known-of slots call (Some ticket) entries sound.known at in
        let o = is-over slots call ticket (most entries) known sound.open_slots (omega (arith, few)) none in
        let there = over-look slots ticket o 0 known.0 in
        let nothing : look ticket.first slots ≡ Nothing = subst (λ id. look id slots ≡ Nothing) zero_more (look-at (ticket.first + 0) slots o.slot there.0 ∙ there.1) in
        let same =
        subst (λ id. changed (join reached (version_of id)) id slots ≡ slots) zero_more (over-nothing slots ticket o 0 (λ v. join reached v) known.0 (λ v s e. ap (λ x. join_by reached x s) e)) in
        let silent : (acts_by ticket.first (joined_by reached) (look ticket.first slots) wires marks).1 ≡ marks = ap (λ x. (acts_by ticket.first (joined_by reached) x wires marks).1) nothing in
        record {
          marked = subst (λ ss. AreMarked (acts_by ticket.first (joined_by reached) (look ticket.first slots) wires marks).1 ss) (sym same)
              (subst (λ ms. AreMarked ms slots) (sym silent) marked);
          owned = subst (AreOwned entries) (sym silent) owned;
        }
    by (Some b) value =
        let known = known-of slots call (Some ticket) entries sound.known at in
        let l = lives slots call ticket b (most entries) known sound.open_slots value in
        let low : most entries < 2 ^ 32 = omega (arith, few) in
        let it = found slots entries ticket b 0 l sound few known.0 in
        let top = slot-of-all (IsSlot (most entries)) l.slot slots (Taken l.r) sound.open_slots l.at in
        let below = top.below in
        let here = first-finds slots ticket b (most entries) l sound.open_slots low known.0 in
        let g = join reached (version_of ticket.first) in
        let id = make_id l.slot l.r.first in
        let a : Acting = record { call = l.r.value; wires = wires; marks = marks } in
        let is : g (Taken l.r) ≡ joined_to (end_of (finished reached l.r.value).state) (finished reached l.r.value) l.r = ap (λ x. join_by reached x (Taken l.r)) here in
        let looks : look ticket.first slots ≡ Unlocked l.r 0 = subst (λ i. look i slots ≡ Unlocked l.r 0) zero_more it.looks in
        let first : ticket.first - 0 ≡ id = (let same : ticket.first - 0 ≡ ticket.first = omega arith in same ∙ it.own) in
        let out : (acts_by ticket.first (joined_by reached) (look ticket.first slots) wires marks).1 ≡ (joined_by reached id a).marks =
        ap (λ x. (acts_by ticket.first (joined_by reached) x wires marks).1) looks ∙ ap (λ n. (joined_by reached n a).marks) first in
        let same : changed g ticket.first slots ≡ change l.slot g slots = ap (λ o. change_at o g slots) l.here in
        let step = marked-if (end_of (finished reached l.r.value).state) reached l.slot slots l.r g a refl top.fit (omega (arith, below, few)) l.at is marked in
        let kept = joined-marked l.r.size reached id a top.fit in
        record {
          marked = subst (λ ss. AreMarked (acts_by ticket.first (joined_by reached) (look ticket.first slots) wires marks).1 ss) (sym same)
              (subst (λ ms. AreMarked ms (change l.slot g slots)) (sym out) step);
          owned = subst (AreOwned entries) (sym out) (kept.ids (IsOwned entries) (own-ids entries call ticket at l.width it.own) owned);
        }
