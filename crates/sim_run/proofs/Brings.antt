-- What comes to a call by one of its ids, and what is left of slots and marks.
use Rattle.std.proofs.Common.{◌≡◌, ◌≢◌, inl, inr, ℕ, zero, suc, ◌+◌, ◌-◌, ◌^◌, ◌<◌, ◌≤◌, nat_eq, List, [], ◌∷◌, length, slice_get, Option, None, Some, ap, sym, refl, ◌∙◌, subst, arith}
use Rattle.std.specs.Map.{lookup}
use Rattle.rpc_model.specs.Marks.{Begun}
use Rattle.rpc_model.specs.Told.{Standing}
use Rattle.id_pool.specs.Ids.{make_id, slot_of, version_of}
use Rattle.id_pool.proofs.Ids.{slot_of-make_id, version_of-make_id}
use Rattle.id_pool.specs.Ranges.{Slot, Taken, Range, Vacant, Nothing, Unlocked, look, slot_at, change, change_at, changed}
use Rattle.id_pool.specs.Answers.{value_says}
use Rattle.timer_core.specs.declared.mark.Mark.{Mark}
use Rattle.sim_run.specs.declared.ticket.Ticket.{Ticket}
use Rattle.sim_run.specs.Link.{Link}
use Rattle.sim_run.specs.declared.turn.Turn.{Turn}
use Rattle.sim_run.specs.Slots.{visit, visit_by, visited, turned, finished, acts_by}
use Rattle.sim_run.specs.Acting.{Acting, turned_by, joined_by}
use Rattle.sim_run.specs.Marked.{AreMarked, HasMark, HasMarks, IsFit, IsOwned, AreOwned}
use Rattle.sim_run.specs.Desk.{IsSlot, IsSound, width_of}
use Rattle.sim_run.proofs.Changes.{look-at, slice_get-change}
use Rattle.sim_run.proofs.Apart.{same_id, same_or, slice_get-other}
use Rattle.sim_run.proofs.Acts.{IsMarked, all-has, marks-own, turned-call, turned-marked, joined-call, joined-marked}
use Rattle.sim_run.proofs.Fit.{turned-fit, finished-fit}
use Rattle.sim_run.proofs.Entries.{slot-of-all, known-of}
use Rattle.sim_run.proofs.Steps.{Lives, lives, most, Follows, Changes, change-moved, finds-in, is-over, over-look, over-nothing}

pub slice_get-within : {X : Type 0} (i : ℕ) (xs : List X) (x : X) → slice_get xs i ≡ Some x → i < length xs
slice_get-within i [] x e = absurd (cc)
slice_get-within zero (y ∷ ys) x e = omega arith
slice_get-within (suc i) (y ∷ ys) x e = let tail = slice_get-within i ys x e in omega (arith, tail)

-- The first id of a call is made of its slot and its range's first version.
pub lives-id : (slots : List (Slot Begun)) (ticket : Ticket) (b : Begun) (l : Lives slots ticket b) → l.r.first < 2 ^ 32 → ticket.first ≡ make_id l.slot l.r.first
lives-id slots ticket b l low = same_id ticket.first (make_id l.slot l.r.first) l.slot l.here (slot_of-make_id l.slot l.r.first low) (l.version ∙ sym (version_of-make_id l.slot l.r.first low))

-- what an id of a call finds that has begun and wasn't told
pub record Found (slots : List (Slot Begun)) (ticket : Ticket) (b : Begun) (k : ℕ) (l : Lives slots ticket b) : Type 0 where
  pub looks : look (ticket.first + k) slots ≡ Unlocked l.r k
  pub own : ticket.first ≡ make_id l.slot l.r.first
  pub behind : (ticket.first + k) - k ≡ make_id l.slot l.r.first
  pub slot : slot_of (ticket.first + k) ≡ Some l.slot

pub found : (slots : List (Slot Begun)) (entries : List (ℕ × Option Ticket)) (ticket : Ticket) (b : Begun) (k : ℕ) (l : Lives slots ticket b) → IsSound slots entries
    → length entries ≤ 500000 → k < width_of ticket → Found slots ticket b k l
found slots entries ticket b k l sound few within =
    let range = slot-of-all (IsSlot (most entries)) l.slot slots (Taken l.r) sound.open_slots l.at in
    let below = range.below in
    let here = finds-in slots ticket b (most entries) k l sound.open_slots (omega (arith, few)) within in
    let own = lives-id slots ticket b l (omega (arith, below, few, within, l.width)) in
    record {
      looks = look-at (ticket.first + k) slots (Taken l.r) (ap (λ o. slot_at o slots) here.0 ∙ l.at) ∙ here.1;
      own = own;
      behind = (let same : (ticket.first + k) - k ≡ ticket.first = omega arith in same ∙ own);
      slot = here.0;
    }

-- ---- what is left of slots and marks

-- A range whose call was changed, among slots whose marks are in the list: what it does adds marks, and drops none.
pub marked-step : (slots : List (Slot Begun)) (i : ℕ) (r s : Range Begun) (g : Slot Begun → Slot Begun) (a b : Acting) → slice_get slots i ≡ Some (Taken r) → g (Taken r) ≡ Taken s → s.first ≡ r.first
    → HasMarks (make_id i r.first) s.value.waiting b.marks → ((id moment : ℕ) → HasMark id moment a.marks → HasMark id moment b.marks)
    → ((j : ℕ) (x : Range Begun) → i ≢ j → slice_get slots j ≡ Some (Taken x) → HasMarks (make_id j x.first) x.value.waiting a.marks) → AreMarked b.marks (change i g slots)
marked-step slots i r s g a b at is first done others all j x there = elim (same_or i j) [
  | inl same ↦
      let new : slice_get (change i g slots) i ≡ Some (Taken s) = slice_get-change i g slots (Taken r) at ∙ ap Some is in
      let both : Some (Taken s) ≡ Some (Taken x) = sym new ∙ ap (slice_get (change i g slots)) same ∙ there in
      let own : s ≡ x = same-taken s x both in
      subst (λ (y : Range Begun). HasMarks (make_id j y.first) y.value.waiting b.marks) own
      (subst (λ n. HasMarks (make_id n s.first) s.value.waiting b.marks) same (subst (λ f. HasMarks (make_id i f) s.value.waiting b.marks) (sym first) done))
  | inr other ↦
      let here : slice_get slots j ≡ Some (Taken x) = sym (slice_get-other i j g slots other) ∙ there in
      all-has (make_id j x.first) x.value.waiting a.marks b.marks others (all j x other here)
]
  where
    same-taken : (s x : Range Begun) → Some (Taken s) ≡ Some (Taken x) → s ≡ x
    same-taken s x e = cc

-- Where a slot no longer has a call, the others' marks are in the list.
pub marked-left : (slots : List (Slot Begun)) (i next : ℕ) (r : Range Begun) (g : Slot Begun → Slot Begun) (a b : Acting) → slice_get slots i ≡ Some (Taken r) → g (Taken r) ≡ Vacant next
    → ((id moment : ℕ) → HasMark id moment a.marks → HasMark id moment b.marks) → AreMarked a.marks slots → AreMarked b.marks (change i g slots)
marked-left slots i next r g a b at is others all j x there = elim (same_or i j) [
  | inl same ↦
      let new : slice_get (change i g slots) i ≡ Some (Vacant next) = slice_get-change i g slots (Taken r) at ∙ ap Some is in
      let both : Some (Vacant next) ≡ Some (Taken x) = sym new ∙ ap (slice_get (change i g slots)) same ∙ there in
      absurd (cc)
  | inr other ↦
      let here : slice_get slots j ≡ Some (Taken x) = sym (slice_get-other i j g slots other) ∙ there in
      all-has (make_id j x.first) x.value.waiting a.marks b.marks others (all j x here)
]

-- what comes to a call and what the call does: both are the same change of the call, and the call's marks stay in the list
pub record Does (f : ℕ → Acting → Acting) (h : Begun → Begun) : Type 1 where
  pub call : (first : ℕ) (a : Acting) → (f first a).call ≡ h a.call
  pub marks : (n first : ℕ) (a : Acting) → IsFit n a.call → IsMarked n first a (f first a)
  pub fit : (n : ℕ) (b : Begun) → IsFit n b → IsFit n (h b)

-- what is left of slots and marks
pub record Brings (slots after : List (Slot Begun)) (marks : List Mark) (entries : List (ℕ × Option Ticket)) (call : ℕ) (f : Standing → Standing) : Type 0 where
  pub follows : Follows slots after entries call f
  pub marked : AreMarked marks after
  pub owned : AreOwned entries marks

-- The ids of a call's range are the call's.
pub own-ids : (entries : List (ℕ × Option Ticket)) (call : ℕ) (ticket : Ticket) {n first : ℕ} → lookup (nat_eq call) entries ≡ Some (Some ticket) → width_of ticket ≡ n → ticket.first ≡ first
    → (node : ℕ) → node < n → IsOwned entries (first + node)
own-ids entries call ticket at wide is node less = record { call = call; ticket = ticket; place = node; found = at; within = omega (arith, wide, less); is = omega (arith, is) }

brings-over : (slots : List (Slot Begun)) (wires : List Link) (marks : List Mark) (entries : List (ℕ × Option Ticket)) (call : ℕ) (ticket : Ticket) (d : ℕ → Acting → Acting)
    (h : Begun → Begun) (f : Standing → Standing) (k : ℕ)
    → IsSound slots entries → length entries ≤ 500000
    → lookup (nat_eq call) entries ≡ Some (Some ticket) → k < width_of ticket → AreMarked marks slots → AreOwned entries marks → value_says (look ticket.first slots) ≡ None
    → Follows slots (changed (visit h (version_of (ticket.first + k))) (ticket.first + k) slots) entries call f
    → Brings slots (changed (visit h (version_of (ticket.first + k))) (ticket.first + k) slots) (acts_by (ticket.first + k) d (look (ticket.first + k) slots) wires marks).1 entries call f
brings-over slots wires marks entries call ticket d h f k sound few at within marked owned none follows =
    let known = known-of slots call (Some ticket) entries sound.known at in
    let o = is-over slots call ticket (most entries) known sound.open_slots (omega (arith, few)) none in
    let there = over-look slots ticket o k within in
    let nothing : look (ticket.first + k) slots ≡ Nothing = look-at (ticket.first + k) slots o.slot there.0 ∙ there.1 in
    let same = over-nothing slots ticket o k (λ v. visit h v) within (λ v s e. ap (λ x. visit_by h x s) e) in
    let silent : (acts_by (ticket.first + k) d (look (ticket.first + k) slots) wires marks).1 ≡ marks = ap (λ x. (acts_by (ticket.first + k) d x wires marks).1) nothing in
    record {
      follows = follows;
      marked = subst (λ ss. AreMarked (acts_by (ticket.first + k) d (look (ticket.first + k) slots) wires marks).1 ss) (sym same) (subst (λ ms. AreMarked ms slots) (sym silent) marked);
      owned = subst (AreOwned entries) (sym silent) owned;
    }

brings-lives : (slots : List (Slot Begun)) (wires : List Link) (marks : List Mark) (entries : List (ℕ × Option Ticket)) (call : ℕ) (ticket : Ticket) (d : ℕ → Acting → Acting)
    (h : Begun → Begun) (f : Standing → Standing) (k : ℕ) (b : Begun)
    → Does d h → IsSound slots entries
    → length entries ≤ 500000 → lookup (nat_eq call) entries ≡ Some (Some ticket) → k < width_of ticket → AreMarked marks slots → AreOwned entries marks → value_says (look ticket.first slots) ≡ Some b
    → Follows slots (changed (visit h (version_of (ticket.first + k))) (ticket.first + k) slots) entries call f
    → Brings slots (changed (visit h (version_of (ticket.first + k))) (ticket.first + k) slots) (acts_by (ticket.first + k) d (look (ticket.first + k) slots) wires marks).1 entries call f
brings-lives slots wires marks entries call ticket d h f k b does sound few at within marked owned value follows =
    let known = known-of slots call (Some ticket) entries sound.known at in
    let l = lives slots call ticket b (most entries) known sound.open_slots value in
    let it = found slots entries ticket b k l sound few within in
    let g = visit h (version_of (ticket.first + k)) in
    let a : Acting = record { call = l.r.value; wires = wires; marks = marks } in
    let id = make_id l.slot l.r.first in
    let here = finds-in slots ticket b (most entries) k l sound.open_slots (omega (arith, few)) within in
    let is : g (Taken l.r) ≡ Taken (visited l.r (h l.r.value)) = ap (λ x. visit_by h x (Taken l.r)) here.1 in
    let same : changed g (ticket.first + k) slots ≡ change l.slot g slots = ap (λ o. change_at o g slots) it.slot in
    let out : (acts_by (ticket.first + k) d (look (ticket.first + k) slots) wires marks).1 ≡ (d id a).marks =
    ap (λ x. (acts_by (ticket.first + k) d x wires marks).1) it.looks ∙ ap (λ n. (d n a).marks) it.behind in
    let range = slot-of-all (IsSlot (most entries)) l.slot slots (Taken l.r) sound.open_slots l.at in
    let kept = does.marks l.r.size id a range.fit in
    let done : HasMarks id (h l.r.value).waiting (d id a).marks =
    subst (λ (c : Begun). HasMarks id c.waiting (d id a).marks) (does.call id a) (marks-own l.r.size id a (d id a) kept (marked l.slot l.r l.at)) in
    let step = marked-step slots l.slot l.r (visited l.r (h l.r.value)) g a (d id a) l.at is refl done kept.others (λ j x differ there. marked j x there) in
    let mine = own-ids entries call ticket at l.width it.own in
    record {
      follows = follows;
      marked = subst (λ ss. AreMarked (acts_by (ticket.first + k) d (look (ticket.first + k) slots) wires marks).1 ss) (sym same) (subst (λ ms. AreMarked ms (change l.slot g slots)) (sym out) step);
      owned = subst (AreOwned entries) (sym out) (kept.ids (IsOwned entries) mine owned);
    }

-- What comes to a call by one of its ids.
pub brings : (slots : List (Slot Begun)) (wires : List Link) (marks : List Mark) (entries : List (ℕ × Option Ticket)) (call : ℕ) (ticket : Ticket) (d : ℕ → Acting → Acting)
    (h : Begun → Begun) (f : Standing → Standing) (k : ℕ)
    → Does d h → Changes slots ticket h f → IsSound slots entries
    → length entries ≤ 500000 → lookup (nat_eq call) entries ≡ Some (Some ticket) → k < width_of ticket → AreMarked marks slots → AreOwned entries marks
    → Brings slots (changed (visit h (version_of (ticket.first + k))) (ticket.first + k) slots) (acts_by (ticket.first + k) d (look (ticket.first + k) slots) wires marks).1 entries call f
brings slots wires marks entries call ticket d h f k acts does sound few at within marked owned = by (value_says (look ticket.first slots)) refl
  where
    by : (x : Option Begun) → value_says (look ticket.first slots) ≡ x
        → Brings slots (changed (visit h (version_of (ticket.first + k))) (ticket.first + k) slots) (acts_by (ticket.first + k) d (look (ticket.first + k) slots) wires marks).1 entries call f
    by None e = brings-over slots wires marks entries call ticket d h f k sound few at within marked owned e (change-moved slots entries call ticket h f k does sound few at within)
    by (Some b) e = brings-lives slots wires marks entries call ticket d h f k b acts sound few at within marked owned e (change-moved slots entries call ticket h f k does sound few at within)

pub turn-does : (t : Turn) → Does (turned_by t) (turned t)
turn-does t = record { call = λ first a. turned-call t first a; marks = λ n first a fit. turned-marked n t first a fit; fit = λ n b fit. turned-fit n t b fit }

pub join-does : (reached : ℕ) → Does (joined_by reached) (finished reached)
join-does reached = record { call = λ first a. joined-call reached first a; marks = λ n first a fit. joined-marked n reached first a fit; fit = λ n b fit. finished-fit n reached b fit }
