-- A reply comes to its attempt by the attempt's id alone.
use Rattle.std.proofs.Common.{◌≡◌, ℕ, zero, suc, slice_get, ◌+◌, ◌*◌, ◌/◌, ◌^◌, ◌<◌, ◌≤◌, nat_eq, List, [], ◌∷◌, length, Option, None, Some, ap, sym, refl, ◌∙◌, subst, arith}
use Rattle.std.specs.List.{AllByRecursion}
use Rattle.std.specs.Map.{lookup}
use Rattle.std.specs.Option.{option_map}
use Rattle.rpc_model.specs.declared.event.Event.{Event}
use Rattle.rpc_model.specs.declared.script.Script.{Script}
use Rattle.rpc_model.specs.declared.kinds.MapKind.{MapKind}
use Rattle.rpc_model.specs.declared.kinds.MergeKind.{MergeKind}
use Rattle.rpc_model.specs.declared.meaning.Meaning.{Meaning}
use Rattle.rpc_model.specs.declared.meaning.Meaning.TheVariants.{Attempt}
use Rattle.rpc_model.specs.Plan.{Plan}
use Rattle.rpc_model.specs.Versions.{versions, offset_of, meaning_of, width}
use Rattle.model_laws.proofs.Runs.{inverse}
use Rattle.rpc_model.specs.Marks.{Begun}
use Rattle.rpc_model.specs.Told as spec
use Rattle.id_pool.specs.Ids.{slot_of, version_of}
use Rattle.id_pool.specs.Ranges.{Slot, Nothing, look, slot_at, changed}
use Rattle.id_pool.specs.Answers.{value_says}
use Rattle.sim_run.specs.declared.ticket.Ticket.{Ticket}
use Rattle.sim_run.specs.declared.state.Replay.{Replay}
use Rattle.sim_run.specs.declared.turn.Turn.TheVariants as turn
use Rattle.sim_run.specs.Link.{Link}
use Rattle.timer_core.specs.declared.mark.Mark.{Mark}
use Rattle.sim_run.specs.Acting.{turned_by}
use Rattle.sim_run.specs.Sends.{server_to}
use Rattle.sim_run.specs.Wires.{on_wire}
use Rattle.sim_run.specs.Slots.{visit, visit_by, turned, meant, brought, brought_to, brings_to, brought_wires, acts_by}
use Rattle.sim_run.specs.Marked.{AreSettled}
use Rattle.sim_run.specs.Desk.{attempt_id, plan_of, width_of, IsNumbered, IsOfSlot, IsSlot, IsSound, IsServedIn, AreWired, IsReady, ticket_in, event_wires, wires_by, attempt_wires}
use Rattle.sim_run.proofs.Changes.{look-at}
use Rattle.sim_run.proofs.Apart.{high_half}
use Rattle.sim_run.proofs.Entries.{known-of, entry-of}
use Rattle.sim_run.proofs.Steps.{most, Follows, lives, is-over, over-look, over-nothing, event-changes}
use Rattle.sim_run.proofs.Brings.{slice_get-within, found, Brings, brings, turn-does}
use Rattle.sim_run.proofs.Wiring.{wired-acts}
use Rattle.sim_run.proofs.Ready.{some_ticket, settled-at, event-works}

-- ---- where ids lie

-- where a ticket's ids lie: below the ids of 4,096 slots
pub record IsLow (ticket : Ticket) : Type 0 where
  pub first : ticket.first < 4097 * 2 ^ 32

low-slot : (slots : List (Slot Begun)) (ticket : Ticket) (bound : ℕ) (o : Option ℕ) (m : Option (Slot Begun)) → slot_of ticket.first ≡ o → slot_at o slots ≡ m → IsOfSlot ticket m
    → AllByRecursion (IsSlot bound) slots → bound < 2 ^ 32 → length slots ≤ 4096 → IsLow ticket
low-slot slots ticket bound None m p q of open_ low few = absurd (let none : m ≡ None = sym q in subst (IsOfSlot ticket) none of)
low-slot slots ticket bound (Some i) None p q of open_ low few = absurd of
low-slot slots ticket bound (Some i) (Some slot) p q of open_ low few =
    let h = high_half (ticket.first / 2 ^ 32) i p in
    let within = slice_get-within i slots slot q in
    record { first = omega (arith, h, within, few) }

pub ticket-low : (script : Script) (old : Replay) (call : ℕ) (ticket : Ticket) → IsReady script old → length old.calls.entries ≤ 500000 → script.slots ≤ 4096
    → Some ticket ≡ ticket_in (lookup (nat_eq call) old.calls.entries) → IsLow ticket
ticket-low script old call ticket ready few slots found =
    let looked = some_ticket (lookup (nat_eq call) old.calls.entries) ticket (sym found) in
    let known = known-of old.pool call (Some ticket) old.calls.entries ready.sound.known looked in
    low-slot old.pool ticket (most old.calls.entries) (slot_of ticket.first) (slot_at (slot_of ticket.first) old.pool) refl refl known.1 ready.sound.open_slots (omega (arith, few))
    (omega (arith, ready.pool, slots))

within-list : {X : Type 0} (xs : List X) (i : ℕ) (x : X) → slice_get xs i ≡ Some x → i < length xs
within-list [] i x e = absurd (cc)
within-list (y ∷ ys) zero x e = omega arith
within-list (y ∷ ys) (suc i) x e = let tail = within-list ys i x e in omega (arith, tail)

within-of : (p : Plan MapKind MergeKind) (offset : ℕ) (meaning : Meaning) → meaning_of p offset ≡ Some meaning → offset < width p
unfolding width meaning_of
within-of p offset meaning e = within-list (versions p) offset meaning e

-- what the id of an attempt says of it
pub record Names (ticket : Ticket) (node attempt id : ℕ) : Type 0 where
  pub offset : ℕ
  pub within : offset < width_of ticket
  pub means : meaning_of (plan_of ticket) offset ≡ Some (Attempt node attempt)
  pub is : id ≡ ticket.first + offset

pub names : (ticket : Ticket) (node attempt id : ℕ) → Some id ≡ attempt_id ticket node attempt → Names ticket node attempt id
names ticket node attempt id e = by (offset_of (plan_of ticket) (Attempt node attempt)) refl e
  where
    by : (o : Option ℕ) → offset_of (plan_of ticket) (Attempt node attempt) ≡ o → Some id ≡ option_map (λ offset. ticket.first + offset) o → Names ticket node attempt id
    by None p e = absurd (cc)
    by (Some offset) p e =
        let means = (inverse (plan_of ticket)).1 (Attempt node attempt) offset p in
        record { offset = offset; within = within-of (plan_of ticket) offset (Attempt node attempt) means; means = means; is = cc }

-- ---- the step of what becomes of an attempt

-- what is brought to the attempt's id is brought to the call
record IsBrought (slots : List (Slot Begun)) (wires : List Link) (marks : List Mark) (id node attempt moment : ℕ) (what : ℕ → ℕ → Event) : Type 0 where
  slots_are : brought what moment id slots ≡ changed (visit (turned (turn.Event (what node attempt) moment)) (version_of id)) id slots
  acts_are : brought_wires what moment id slots wires marks ≡ acts_by id (turned_by (turn.Event (what node attempt) moment)) (look id slots) wires marks

is-brought : (slots : List (Slot Begun)) (wires : List Link) (marks : List Mark) (entries : List (ℕ × Option Ticket)) (call : ℕ) (ticket : Ticket) (node attempt offset moment : ℕ)
    (what : ℕ → ℕ → Event)
    → IsSound slots entries → length entries ≤ 500000
    → lookup (nat_eq call) entries ≡ Some (Some ticket) → offset < width_of ticket → meaning_of (plan_of ticket) offset ≡ Some (Attempt node attempt)
    → IsBrought slots wires marks (ticket.first + offset) node attempt moment what
is-brought slots wires marks entries call ticket node attempt offset moment what sound few at within means = by (value_says (look ticket.first slots)) refl
  where
    id : ℕ
    id = ticket.first + offset

    by : (x : Option Begun) → value_says (look ticket.first slots) ≡ x → IsBrought slots wires marks id node attempt moment what
    by None e =
        let known = known-of slots call (Some ticket) entries sound.known at in
        let o = is-over slots call ticket (most entries) known sound.open_slots (omega (arith, few)) e in
        let there = over-look slots ticket o offset within in
        let h = turned (turn.Event (what node attempt) moment) in
        let nothing : look id slots ≡ Nothing = look-at id slots o.slot there.0 ∙ there.1 in
        record {
          slots_are = ap (λ x. brought_to (meant x) what moment id slots) nothing ∙ sym (over-nothing slots ticket o offset (λ v. visit h v) within (λ v s e. ap (λ x. visit_by h x s) e));
          acts_are = ap (λ x. brings_to (meant x) what moment id slots wires marks) nothing ∙ sym (ap (λ x. acts_by id (turned_by (turn.Event (what node attempt) moment)) x wires marks) nothing);
        }
    by (Some b) e =
        let known = known-of slots call (Some ticket) entries sound.known at in
        let l = lives slots call ticket b (most entries) known sound.open_slots e in
        let it = found slots entries ticket b offset l sound few within in
        let own : IsNumbered call ticket (Some b) = subst (IsNumbered call ticket) e known.2 in
        let planned : l.r.value.plan ≡ plan_of ticket = ap (λ (c : Begun). c.plan) l.value ∙ own.1 in
        let says : meant (look id slots) ≡ Some (Attempt node attempt) = ap meant it.looks ∙ ap (λ p. meaning_of p offset) planned ∙ means in
        record {
          slots_are = ap (λ o. brought_to o what moment id slots) says;
          acts_are = ap (λ o. brings_to o what moment id slots wires marks) says;
        }

-- What becomes of an attempt does to the calls what the plain machine does. The wires are those after the reply came in, or the attempt was lost.
pub attempt-brings : (script : Script) (old : Replay) (wires : List Link) (call : ℕ) (ticket : Ticket) (node attempt id : ℕ) (what : ℕ → ℕ → Event) → IsReady script old
    → length old.calls.entries ≤ 500000 → AreSettled old.reached old.pool
    → Some ticket ≡ ticket_in (lookup (nat_eq call) old.calls.entries) → Some id ≡ attempt_id ticket node attempt
    → Brings old.pool (brought what old.reached id old.pool) (brought_wires what old.reached id old.pool wires old.marks).1 old.calls.entries call (spec.event_after (what node attempt) old.reached)
attempt-brings script old wires call ticket node attempt id what ready few settled found' named =
    let n = names ticket node attempt id named in
    let looked = some_ticket (lookup (nat_eq call) old.calls.entries) ticket (sym found') in
    let t = turn.Event (what node attempt) old.reached in
    let f = spec.event_after (what node attempt) old.reached in
    let does = event-changes old.pool ticket (what node attempt) old.reached (settled-at old.reached old.pool old.calls.entries call ticket settled ready.sound looked) in
    let moved = brings old.pool wires old.marks old.calls.entries call ticket (turned_by t) (turned t) f n.offset (turn-does t) does ready.sound few looked n.within ready.marked ready.owned in
    let same = is-brought old.pool wires old.marks old.calls.entries call ticket node attempt n.offset old.reached what ready.sound few looked n.within n.means in
    let set : (brought_wires what old.reached (ticket.first + n.offset) old.pool wires old.marks).1 ≡
    (acts_by (ticket.first + n.offset) (turned_by t) (look (ticket.first + n.offset) old.pool) wires old.marks).1 = ap (λ (p : List Link × List Mark). p.1) same.acts_are in
    rw (n.is, same.slots_are, set) moved

-- What is left of the wires. They were already those after the reply came in, or the attempt was lost.
pub attempt-wired : (script : Script) (old : Replay) (wires : List Link) (call : ℕ) (ticket : Ticket) (node attempt id : ℕ) (what : ℕ → ℕ → Event) → IsReady script old
    → length old.calls.entries ≤ 500000 → AreSettled old.reached old.pool
    → Some ticket ≡ ticket_in (lookup (nat_eq call) old.calls.entries) → Some id ≡ attempt_id ticket node attempt → AreWired script.servers old.pool old.calls.entries wires
    → Follows old.pool (brought what old.reached id old.pool) old.calls.entries call (spec.event_after (what node attempt) old.reached)
    → AreWired script.servers (brought what old.reached id old.pool) old.calls.entries (brought_wires what old.reached id old.pool wires old.marks).0
attempt-wired script old wires call ticket node attempt id what ready few settled found' named wired follows =
    let n = names ticket node attempt id named in
    let looked = some_ticket (lookup (nat_eq call) old.calls.entries) ticket (sym found') in
    let t = turn.Event (what node attempt) old.reached in
    let f = spec.event_after (what node attempt) old.reached in
    let works = event-works old.pool ticket (what node attempt) old.reached (settled-at old.reached old.pool old.calls.entries call ticket settled ready.sound looked) in
    let after = brought what old.reached id old.pool in
    let w =
    wired-acts script.servers old.pool after old.calls.entries wires old.marks call n.offset ticket (turned_by t) (turned t) f works ready.sound few looked n.within
    (entry-of (IsServedIn script.servers) call (Some ticket) old.calls.entries ready.served looked) follows wired in
    let same = is-brought old.pool wires old.marks old.calls.entries call ticket node attempt n.offset old.reached what ready.sound few looked n.within n.means in
    let set : (brought_wires what old.reached (ticket.first + n.offset) old.pool wires old.marks).0 ≡
    (acts_by (ticket.first + n.offset) (turned_by t) (look (ticket.first + n.offset) old.pool) wires old.marks).0 = ap (λ (p : List Link × List Mark). p.0) same.acts_are in
    let here : AreWired script.servers after old.calls.entries (brought_wires what old.reached (ticket.first + n.offset) old.pool wires old.marks).0 = rw set w in
    subst (λ i. AreWired script.servers after old.calls.entries (brought_wires what old.reached i old.pool wires old.marks).0) (sym n.is) here

-- The wires after a reply or a loss that came by its attempt's id, and after one that named no attempt.
pub aimed-wires : (change : ℕ → Link → Link) (what : ℕ → ℕ → Event) (old : Replay) (new came : List Link) (ticket : Ticket) (call node attempt id server : ℕ)
    → new ≡ (brought_wires what old.reached id old.pool came old.marks).0
    → came ≡ on_wire server (change id) old.wires.items → server ≡ server_to (plan_of ticket) call node attempt → Some id ≡ attempt_id ticket node attempt
    → new ≡ attempt_wires change what (Some ticket) call node attempt old
aimed-wires change what old new came ticket call node attempt id server is wire to named =
    is ∙ ap (λ ws. (brought_wires what old.reached id old.pool ws old.marks).0) wire ∙ ap (λ s. wires_by (Some id) change what ticket s node attempt old) to
    ∙ ap (λ o. wires_by o change what ticket (server_to (plan_of ticket) call node attempt) node attempt old) named

pub unaimed-wires : (change : ℕ → Link → Link) (what : ℕ → ℕ → Event) (old : Replay) (new : List Link) (ticket : Ticket) (call node attempt : ℕ)
    → new ≡ event_wires (Some ticket) (what node attempt) old → attempt_id ticket node attempt ≡ None
    → new ≡ attempt_wires change what (Some ticket) call node attempt old
unaimed-wires change what old new ticket call node attempt is none =
    is ∙ ap (λ o. wires_by o change what ticket (server_to (plan_of ticket) call node attempt) node attempt old) (sym none)
