-- A moment is reached: the marks that are due are taken one after the other.
use Rattle.std.proofs.Common.{◌≡◌, ℕ, ◌+◌, ◌*◌, ◌^◌, ◌<◌, ◌≤◌, inl, inr, Bool, true, false, cond, nat_eq, List, [], ◌∷◌, length, map, slice_get, Option, None, Some, ap, sym, refl, ◌∙◌, subst, arith}
use Rattle.std.specs.List.{AllByRecursion}
use Rattle.std.specs.Map.{lookup}
use Rattle.rpc_model.specs.declared.script.Script.{Script}
use Rattle.rpc_model.specs.Effects.{Mark as CallMark}
use Rattle.rpc_model.specs.Marks.{Begun, weave, unstarted}
use Rattle.rpc_model.specs.Told.{Standing, change_first, is_call}
use Rattle.model_laws.specs.Early.{settle, settled}
use Rattle.model_laws.proofs.Early.{settle-twice}
use Rattle.id_pool.specs.Ids.{make_id, slot_of, version_of}
use Rattle.id_pool.proofs.Ids.{slot_of-make_id, version_of-make_id, make_id-plus}
use Rattle.id_pool.specs.Ranges.{Slot, Taken, Range, Nothing, Unlocked, offset, look, slot_at, change, change_at, changed}
use Rattle.id_pool.specs.Answers.{value_says}
use Rattle.timer_core.specs.declared.mark.Mark.{Mark}
use Rattle.timer_core.specs.Marks.{due_mark, rest_after}
use Rattle.sim_run.specs.declared.ticket.Ticket.{Ticket}
use Rattle.sim_run.specs.declared.state.Replay.{Replay}
use Rattle.sim_run.specs.declared.turn.Turn.TheVariants as turn
use Rattle.sim_run.specs.Link.{Link}
use Rattle.sim_run.specs.Slots.{visit, visit_by, visited, turned, acts_by}
use Rattle.sim_run.specs.Acting.{Acting, turned_by}
use Rattle.sim_run.specs.Passages.{HavePassed}
use Rattle.sim_run.specs.Marked.{HasMark, HasMarks, AreMarked, IsOwned, AreOwned}
use Rattle.sim_run.specs.Desk.{standings, IsSlot, IsSound, IsServedIn, AreWired, IsReady, replay_of, width_of}
use Rattle.sim_run.proofs.Later.{turned-later}
use Rattle.sim_run.proofs.Fit.{turned-fit, weave-rest}
use Rattle.sim_run.proofs.Acts.{HasIf, turned-call, turned-marked, all-if}
use Rattle.sim_run.proofs.Fewer.{turned-fewer, left_in, total_left, total-change}
use Rattle.sim_run.proofs.Changes.{look-at, seen-taken}
use Rattle.sim_run.proofs.Entries.{slot-of-all, known-of, entry-of}
use Rattle.sim_run.proofs.Steps.{lives, most, Changes, Follows, change-moved, finds-in, offset-in, is-over, over-look, over-nothing}
use Rattle.sim_run.proofs.Brings.{Brings, found, marked-step, own-ids}
use Rattle.sim_run.proofs.Marked.{was-due, drop-mark}
use Rattle.sim_run.proofs.Passing.{turned-speaks, acts-passed, then-passed}
use Rattle.sim_run.proofs.Wiring.{Works, wired-acts}
use Rattle.sim_run.proofs.Ready.{ready-brings}

-- To settle one call first makes no difference.
settle-first : (test : Standing → Bool) (m : ℕ) (xs : List Standing) → map (settle m) (change_first test (settle m) xs) ≡ map (settle m) xs
settle-first test m [] = refl
settle-first test m (x ∷ xs) = by (test x) (settle-first test m xs)
  where
    by : (v : Bool) → map (settle m) (change_first test (settle m) xs) ≡ map (settle m) xs → map (settle m) (cond v (settle m x ∷ xs) (x ∷ change_first test (settle m) xs)) ≡ map (settle m) (x ∷ xs)
    by true tail = ap (λ s. s ∷ map (settle m) xs) (settle-twice m m x (omega arith))
    by false tail = ap (λ ss. settle m x ∷ ss) tail

-- ---- the mark that is taken

-- An id of a slot's range finds the range.
pub range-finds : (slots : List (Slot Begun)) (bound j k : ℕ) (s : Range Begun) → AllByRecursion (IsSlot bound) slots → bound < 2 ^ 32 → slice_get slots j ≡ Some (Taken s) → k < s.size
    → (slot_of (make_id j s.first + k) ≡ Some j) × (look (make_id j s.first + k) slots ≡ Unlocked s k)
range-finds slots bound j k s open_ low at within =
    let range = slot-of-all (IsSlot bound) j slots (Taken s) open_ at in
    let below = range.below in
    let id = make_id-plus j s.first k in
    let slot : slot_of (make_id j s.first + k) ≡ Some j = ap slot_of id ∙ slot_of-make_id j (s.first + k) (omega (arith, below, low, within)) in
    let version : version_of (make_id j s.first + k) ≡ s.first + k = ap version_of id ∙ version_of-make_id j (s.first + k) (omega (arith, below, low, within)) in (
      slot,
      look-at (make_id j s.first + k) slots (Taken s) (ap (λ o. slot_at o slots) slot ∙ at)
          ∙ seen-taken (version_of (make_id j s.first + k)) s (Some k) _ (ap (offset s) version ∙ offset-in s k within) range.free,
    )

same-number : (i j : ℕ) → Some i ≡ Some j → i ≡ j
same-number i j e = cc

-- The marks of a call that are past the moment are in the list without the mark that was due.
past-marks : (moment first : ℕ) (mark : Mark) (waiting : List CallMark) (rest : List Mark) → mark.moment ≤ moment → HasMarks first waiting (mark ∷ rest) → HasIf (λ m. moment < m) first waiting rest
past-marks moment first mark [] rest due all = tt
past-marks moment first mark (w ∷ ws) rest due all = (by all.0, past-marks moment first mark ws rest due all.1)
  where
    by : HasMark (first + w.node) w.moment (mark ∷ rest) → moment < w.moment → HasMark (first + w.node) w.moment rest
    by (inl here) late = let same = here.1 in absurd (omega (arith, same, due, late))
    by (inr there) late = there

wakes : (slots : List (Slot Begun)) (ticket : Ticket) (moment : ℕ) → Changes slots ticket (turned (turn.Due moment)) (settle moment)
wakes slots ticket moment = record { on_begun = λ b e. refl; on_told = λ call. refl; later = λ b. turned-later (turn.Due moment) b; fit = λ n b fit. turned-fit n (turn.Due moment) b fit }

due-works : (slots : List (Slot Begun)) (ticket : Ticket) (moment : ℕ) → Works slots ticket (turned_by (turn.Due moment)) (turned (turn.Due moment)) (settle moment)
due-works slots ticket moment =
    record { speaks = λ first a. turned-speaks (turn.Due moment) first a; call = λ first a. turned-call (turn.Due moment) first a; on_begun = λ b value state e. e; on_told = λ call. refl }

-- what a mark that is taken leaves: of slots and marks, and fewer of what may come
pub record Wakes (slots after : List (Slot Begun)) (rest marks : List Mark) (entries : List (ℕ × Option Ticket)) (call moment : ℕ) : Type 0 where
  pub brought : Brings slots after marks entries call (settle moment)
  pub fewer : length marks + 2 * total_left after ≤ length rest + 2 * total_left slots

pub mark-taken : (slots : List (Slot Begun)) (wires : List Link) (entries : List (ℕ × Option Ticket)) (call k moment : ℕ) (ticket : Ticket) (mark : Mark) (rest : List Mark)
    → IsSound slots entries → length entries ≤ 500000 → lookup (nat_eq call) entries ≡ Some (Some ticket)
    → k < width_of ticket → mark.id ≡ ticket.first + k → mark.moment ≤ moment → AreMarked (mark ∷ rest) slots → AreOwned entries rest
    → Wakes slots (changed (visit (turned (turn.Due moment)) (version_of (ticket.first + k))) (ticket.first + k) slots) rest
    (acts_by (ticket.first + k) (turned_by (turn.Due moment)) (look (ticket.first + k) slots) wires rest).1 entries call moment
mark-taken slots wires entries call k moment ticket mark rest sound few at within own due marked owned = by (value_says (look ticket.first slots)) refl
  where
    id : ℕ
    id = ticket.first + k

    low : most entries < 2 ^ 32
    low = omega (arith, few)

    follows : Follows slots (changed (visit (turned (turn.Due moment)) (version_of id)) id slots) entries call (settle moment)
    follows = change-moved slots entries call ticket (turned (turn.Due moment)) (settle moment) k (wakes slots ticket moment) sound few at within

    by : (x : Option Begun) → value_says (look ticket.first slots) ≡ x
        → Wakes slots (changed (visit (turned (turn.Due moment)) (version_of id)) id slots) rest (acts_by id (turned_by (turn.Due moment)) (look id slots) wires rest).1 entries call moment
    by None none =
        let known = known-of slots call (Some ticket) entries sound.known at in
        let o = is-over slots call ticket (most entries) known sound.open_slots low none in
        let there = over-look slots ticket o k within in
        let nothing : look id slots ≡ Nothing = look-at id slots o.slot there.0 ∙ there.1 in
        let same = over-nothing slots ticket o k (λ v. visit (turned (turn.Due moment)) v) within (λ v s e. ap (λ x. visit_by (turned (turn.Due moment)) x s) e) in
        let silent : (acts_by id (turned_by (turn.Due moment)) (look id slots) wires rest).1 ≡ rest = ap (λ x. (acts_by id (turned_by (turn.Due moment)) x wires rest).1) nothing in
        let left : AreMarked rest slots = λ j s there'.
        drop-mark mark (make_id j s.first) s.size s.value.waiting rest (slot-of-all (IsSlot (most entries)) j slots (Taken s) sound.open_slots there').fit.nodes
        (λ node less e. let finds = range-finds slots (most entries) j node s sound.open_slots low there' less in let both : Nothing ≡ Unlocked s node = sym nothing
        ∙ ap (λ i. look i slots) (sym own ∙ e) ∙ finds.1 in cc) (marked j s there') in
        let a = ap (λ (ss : List (Slot Begun)). total_left ss) same in
        let b = ap length silent in
        record {
          brought = record {
            follows = follows;
            marked = subst (λ ss. AreMarked (acts_by id (turned_by (turn.Due moment)) (look id slots) wires rest).1 ss) (sym same) (subst (λ ms. AreMarked ms slots) (sym silent) left);
            owned = subst (AreOwned entries) (sym silent) owned;
          };
          fewer = omega (arith, a, b);
        }
    by (Some b) value =
        let known = known-of slots call (Some ticket) entries sound.known at in
        let l = lives slots call ticket b (most entries) known sound.open_slots value in
        let it = found slots entries ticket b k l sound few within in
        let range = slot-of-all (IsSlot (most entries)) l.slot slots (Taken l.r) sound.open_slots l.at in
        let first = make_id l.slot l.r.first in
        let g = visit (turned (turn.Due moment)) (version_of id) in
        let a : Acting = record { call = l.r.value; wires = wires; marks = rest } in
        let after = turned_by (turn.Due moment) first a in
        let kept = turned-marked l.r.size (turn.Due moment) first a range.fit in
        let here = finds-in slots ticket b (most entries) k l sound.open_slots low within in
        let is : g (Taken l.r) ≡ Taken (visited l.r (weave moment l.r.value)) = ap (λ x. visit_by (turned (turn.Due moment)) x (Taken l.r)) here.1 in
        let same : changed g id slots ≡ change l.slot g slots = ap (λ o. change_at o g slots) it.slot in
        let out : (acts_by id (turned_by (turn.Due moment)) (look id slots) wires rest).1 ≡ after.marks =
        ap (λ x. (acts_by id (turned_by (turn.Due moment)) x wires rest).1) it.looks ∙ ap (λ n. (turned_by (turn.Due moment) n a).marks) it.behind in
        let past = kept.own (λ m. moment < m) (past-marks moment first mark l.r.value.waiting rest due (marked l.slot l.r l.at)) in
        let call_is = turned-call (turn.Due moment) first a in
        let mine : HasIf (λ m. moment < m) first (weave moment l.r.value).waiting after.marks = subst (λ (c : Begun). HasIf (λ m. moment < m) first c.waiting after.marks) call_is past in
        let done : HasMarks first (weave moment l.r.value).waiting after.marks =
        all-if (λ m. moment < m) first (weave moment l.r.value).waiting after.marks (weave-rest l.r.size moment l.r.value range.fit) mine in
        let step = marked-step slots l.slot l.r (visited l.r (weave moment l.r.value)) g a after l.at is refl done kept.others
        (λ j s differ there. drop-mark mark (make_id j s.first) s.size s.value.waiting rest (slot-of-all (IsSlot (most entries)) j slots (Taken s) sound.open_slots there).fit.nodes
        (λ node less e. let finds = range-finds slots (most entries) j node s sound.open_slots low there less in differ
        (same-number l.slot j (sym it.slot ∙ ap slot_of (sym own ∙ e) ∙ finds.0))) (marked j s there)) in
        let fewer = (turned-fewer (turn.Due moment) first a).marks in
        let total = total-change l.slot g slots (Taken l.r) l.at in
        let own_left = ap left_in is in
        let state_is = ap (λ (c : Begun). unstarted c.state) call_is in
        let x = ap (λ (ss : List (Slot Begun)). total_left ss) same in
        let y = ap length out in
        record {
          brought = record {
            follows = follows;
            marked = subst (λ ss. AreMarked (acts_by id (turned_by (turn.Due moment)) (look id slots) wires rest).1 ss) (sym same) (subst (λ ms. AreMarked ms (change l.slot g slots)) (sym out) step);
            owned = subst (AreOwned entries) (sym out) (kept.ids (IsOwned entries) (own-ids entries call ticket at l.width it.own) owned);
          };
          fewer = omega (arith, fewer, total, own_left, state_is, x, y);
        }

-- ---- one turn of the loop

-- what holds while marks are taken, up to this moment
pub record IsReaching (script : Script) (old now : Replay) (moment : ℕ) : Type 0 where
  pub ready : IsReady script now
  pub reached : now.reached ≡ moment
  pub calls : now.calls ≡ old.calls
  pub alike : settled (replay_of now) ≡ settled (record (replay_of old) { reached = moment })
  pub passed : HavePassed old.wires.items now.wires.items

-- Replays of the same calls whose standings come to the same.
same-settled : (now new : Replay) (moment : ℕ) → now.reached ≡ moment → new.reached ≡ moment → new.calls ≡ now.calls
    → map (settle moment) (standings new.pool now.calls.entries) ≡ map (settle moment) (standings now.pool now.calls.entries)
    → settled (replay_of new) ≡ settled (replay_of now)
same-settled now new moment before after calls stood = rw (before, after, calls) (ap (λ (ss : List Standing). record { reached = moment; calls = ss }) stood)

-- what a turn leaves, and that less is left
pub record Reaches (script : Script) (old now new : Replay) (moment : ℕ) : Type 0 where
  pub reaching : IsReaching script old new moment
  pub fewer : length new.marks + 2 * total_left new.pool < length now.marks + 2 * total_left now.pool

pub reaching-turn : (script : Script) (old now new : Replay) (moment : ℕ) (mark : Mark) → IsReaching script old now moment → length now.calls.entries ≤ 500000
    → Some mark ≡ due_mark moment now.marks → new.reached ≡ now.reached → new.calls ≡ now.calls
    → new.pool ≡ changed (visit (turned (turn.Due moment)) (version_of mark.id)) mark.id now.pool
    → (new.wires.items, new.marks) ≡ acts_by mark.id (turned_by (turn.Due moment)) (look mark.id now.pool) now.wires.items (rest_after moment now.marks) → Reaches script old now new moment
reaching-turn script old now new moment mark r few is_due reached calls pool acts =
    let was = was-due moment mark now.marks is_due in
    let rest = rest_after moment now.marks in
    let all : AreOwned now.calls.entries (mark ∷ rest) = subst (AreOwned now.calls.entries) was.is r.ready.owned in
    let own = all.0 in
    let t = turn.Due moment in
    let marks_are : new.marks ≡ (acts_by mark.id (turned_by t) (look mark.id now.pool) now.wires.items rest).1 = ap (λ (p : List Link × List Mark). p.1) acts in
    let woke =
    mark-taken now.pool now.wires.items now.calls.entries own.call own.place moment own.ticket mark rest r.ready.sound few own.found own.within own.is was.due
    (subst (λ ms. AreMarked ms now.pool) was.is r.ready.marked) all.1 in
    let here : Wakes now.pool new.pool rest new.marks now.calls.entries own.call moment =
    rw (pool, marks_are) (subst
    (λ i. Wakes now.pool (changed (visit (turned t) (version_of i)) i now.pool) rest (acts_by i (turned_by t) (look i now.pool) now.wires.items rest).1 now.calls.entries own.call moment)
    (sym own.is) woke) in
    let wires_are : new.wires.items ≡ (acts_by mark.id (turned_by t) (look mark.id now.pool) now.wires.items rest).0 = ap (λ (p : List Link × List Mark). p.0) acts in
    let w =
    wired-acts script.servers now.pool new.pool now.calls.entries now.wires.items rest own.call own.place own.ticket (turned_by t) (turned t) (settle moment)
    (due-works now.pool own.ticket moment) r.ready.sound few own.found own.within
    (entry-of (IsServedIn script.servers) own.call (Some own.ticket) now.calls.entries r.ready.served own.found) here.brought.follows r.ready.wired in
    let wired : AreWired script.servers new.pool now.calls.entries new.wires.items =
    rw wires_are (subst (λ i. AreWired script.servers new.pool now.calls.entries (acts_by i (turned_by t) (look i now.pool) now.wires.items rest).0) (sym own.is) w) in
    let stood : map (settle moment) (standings new.pool now.calls.entries) ≡ map (settle moment) (standings now.pool now.calls.entries) =
    ap (map (settle moment)) here.brought.follows.stands ∙ settle-first (is_call own.call) moment (standings now.pool now.calls.entries) in
    let moments : new.reached ≡ moment = reached ∙ r.reached in
    let l = ap length was.is in
    let less = here.fewer in
    record {
      reaching = record {
        ready = ready-brings script now new own.call (settle moment) r.ready here.brought calls wired;
        reached = moments;
        calls = calls ∙ r.calls;
        alike = same-settled now new moment r.reached moments calls stood ∙ r.alike;
        passed = then-passed old.wires.items now.wires.items new.wires.items r.passed
            (rw wires_are (acts-passed mark.id (turned_by t) (look mark.id now.pool) now.wires.items rest (λ first a. turned-speaks t first a)));
      };
      fewer = omega (arith, l, less);
    }
