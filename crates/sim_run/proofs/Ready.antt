-- A replay between two lines: what an event and a join of a call leave of it.
use Rattle.std.proofs.Common.{◌≡◌, ◌≢◌, ℕ, zero, suc, ◌+◌, ◌≤◌, nat_eq, List, [], length, slice_get, count_by, Option, None, Some, ap, sym, refl, ◌∙◌, subst, arith}
use Rattle.std.specs.List.{IsDistinct, AllByRecursion}
use Rattle.std.specs.Map.{lookup}
use Rattle.rpc_model.specs.declared.event.Event.{Event}
use Rattle.rpc_model.specs.declared.script.Script.{Script}
use Rattle.rpc_model.specs.Marks.{Begun, apply, weave}
use Rattle.rpc_model.specs.Told as spec
use Rattle.id_pool.specs.Ids.{version_of}
use Rattle.id_pool.specs.Ranges.{Slot, Vacant, Taken, Range, changed, look, opened}
use Rattle.sim_run.specs.declared.ticket.Ticket.{Ticket}
use Rattle.sim_run.specs.declared.state.Replay.{Replay}
use Rattle.timer_core.specs.declared.mark.Mark.{Mark}
use Rattle.sim_run.specs.Link.{Link}
use Rattle.sim_run.specs.declared.turn.Turn.TheVariants as turn
use Rattle.sim_run.specs.Slots.{visit, turned, acts_by}
use Rattle.sim_run.specs.Acting.{turned_by}
use Rattle.sim_run.specs.Marked.{AreMarked, AreSettled}
use Rattle.sim_run.specs.Desk.{is_taken, IsSlot, IsSound, IsServedIn, AreWired, IsReady, replay_of, ticket_in}
use Rattle.sim_run.proofs.Entries.{count-cons, known-of, entry-of}
use Rattle.sim_run.proofs.Steps.{Follows, IsSettledAt, most, lives, event-changes, event-nothing}
use Rattle.sim_run.proofs.Brings.{Brings, brings, turn-does}
use Rattle.sim_run.proofs.Acts.{turned-call}
use Rattle.sim_run.proofs.Passing.{turned-speaks}
use Rattle.sim_run.proofs.Wiring.{Works, wired-acts}

-- ---- a new replay

opened-slots : (n : ℕ) → AllByRecursion (IsSlot 1) (opened {T = Begun} n)
opened-slots zero = tt
opened-slots (suc n) = (omega arith, opened-slots n)

opened-taken : (n : ℕ) → count_by is_taken (opened {T = Begun} n) ≡ 0
opened-taken zero = refl
opened-taken (suc n) = let tail = opened-taken n in count-cons is_taken (Vacant 1) (opened n) ∙ omega (arith, tail)

pub opened-length : (n : ℕ) → length (opened {T = Begun} n) ≡ n
opened-length zero = refl
opened-length (suc n) = ap suc (opened-length n)

pub opened-sound : (n : ℕ) (entries : List (ℕ × Option Ticket)) → entries ≡ [] → IsSound (opened {T = Begun} n) entries
unfolding IsDistinct
opened-sound n entries none = rw none (record {
  numbers = tt;
  ids = tt;
  known = tt;
  open_slots = opened-slots n;
  counted = sym (opened-taken n);
})

opened-vacant : (n i : ℕ) (r : Range Begun) → slice_get (opened {T = Begun} n) i ≢ Some (Taken r)
opened-vacant zero i r e = cc
opened-vacant (suc n) zero r e = cc
opened-vacant (suc n) (suc i) r e = opened-vacant n i r e

pub opened-marked : (n : ℕ) (slots : List (Slot Begun)) (marks : List Mark) → slots ≡ opened n → AreMarked marks slots
opened-marked n slots marks is slot r at = absurd (opened-vacant n slot r (sym (ap (λ (ss : List (Slot Begun)). slice_get ss slot) is) ∙ at))

-- ---- one call's step

-- A step of one call leaves a replay ready.
pub ready-brings : (script : Script) (old new : Replay) (call : ℕ) (f : spec.Standing → spec.Standing) → IsReady script old → Brings old.pool new.pool new.marks old.calls.entries call f
    → new.calls ≡ old.calls
    → AreWired script.servers new.pool old.calls.entries new.wires.items → IsReady script new
ready-brings script old new call f ready brought calls wired = record {
  sound = rw calls brought.follows.sound;
  pool = brought.follows.size ∙ ready.pool;
  wired = rw calls wired;
  marked = brought.marked;
  owned = rw calls brought.owned;
  served = rw calls ready.served;
}

-- An event leaves the plain machine's replay after it.
pub event-replay : (old new : Replay) (call : ℕ) (event : Event) → Follows old.pool new.pool old.calls.entries call (spec.event_after event old.reached) → new.calls ≡ old.calls
    → new.reached ≡ old.reached
    → replay_of new ≡ spec.call_event (replay_of old) old.reached call event
event-replay old new call event follows calls reached =
    rw (calls, reached) (ap (λ (ss : List spec.Standing). record { reached = old.reached; calls = ss }) follows.stands)

pub some_ticket : (o : Option (Option Ticket)) (ticket : Ticket) → ticket_in o ≡ Some ticket → o ≡ Some (Some ticket)
some_ticket None ticket e = absurd (cc)
some_ticket (Some o) ticket e = ap Some e

pub no_ticket : (o : Option (Option Ticket)) → ticket_in o ≡ None → (ticket : Ticket) → o ≢ Some (Some ticket)
no_ticket None e ticket same = absurd (cc)
no_ticket (Some o) e ticket same = cc

-- Where no call in a slot waits for a due mark, a ticket's ids find no such call.
pub settled-at : (moment : ℕ) (slots : List (Slot Begun)) (entries : List (ℕ × Option Ticket)) (call : ℕ) (ticket : Ticket) → AreSettled moment slots → IsSound slots entries
    → lookup (nat_eq call) entries ≡ Some (Some ticket) → IsSettledAt moment slots ticket
settled-at moment slots entries call ticket settled sound found b value =
    let known = known-of slots call (Some ticket) entries sound.known found in
    let l = lives slots call ticket b (most entries) known sound.open_slots value in
    subst (λ c. weave moment c ≡ c) l.value (settled l.slot l.r l.at)

-- An event that comes by the call's own id.
pub own-event : (script : Script) (old : Replay) (after : List (Slot Begun)) (wires : List Link) (marks : List Mark) (call : ℕ) (ticket : Ticket) (event : Event) → IsReady script old
    → length old.calls.entries ≤ 500000 → AreSettled old.reached old.pool
    → Some ticket ≡ ticket_in (lookup (nat_eq call) old.calls.entries) → after ≡ changed (visit (turned (turn.Event event old.reached)) (version_of ticket.first)) ticket.first old.pool
    → (wires, marks) ≡ acts_by ticket.first (turned_by (turn.Event event old.reached)) (look ticket.first old.pool) old.wires.items old.marks
    → Brings old.pool after marks old.calls.entries call (spec.event_after event old.reached)
own-event script old after wires marks call ticket event ready few settled found is out =
    let looked = some_ticket (lookup (nat_eq call) old.calls.entries) ticket (sym found) in
    let known = known-of old.pool call (Some ticket) old.calls.entries ready.sound.known looked in
    let same : ticket.first + 0 ≡ ticket.first = omega arith in
    let t = turn.Event event old.reached in
    let f = spec.event_after event old.reached in
    let does = event-changes old.pool ticket event old.reached (settled-at old.reached old.pool old.calls.entries call ticket settled ready.sound looked) in
    let moved = brings old.pool old.wires.items old.marks old.calls.entries call ticket (turned_by t) (turned t) f 0 (turn-does t) does ready.sound few looked known.0 ready.marked ready.owned in
    let set : marks ≡ (acts_by ticket.first (turned_by t) (look ticket.first old.pool) old.wires.items old.marks).1 = ap (λ (p : List Link × List Mark). p.1) out in
    rw (is, set) (subst
    (λ id. Brings old.pool (changed (visit (turned t) (version_of id)) id old.pool) (acts_by id (turned_by t) (look id old.pool) old.wires.items old.marks).1 old.calls.entries call f) same moved)

-- An event works as the machine's, where no mark of the call is due.
pub event-works : (slots : List (Slot Begun)) (ticket : Ticket) (event : Event) (moment : ℕ) → IsSettledAt moment slots ticket
    → Works slots ticket (turned_by (turn.Event event moment)) (turned (turn.Event event moment)) (spec.event_after event moment)
event-works slots ticket event moment settled = record {
  speaks = λ first a. turned-speaks (turn.Event event moment) first a;
  call = λ first a. turned-call (turn.Event event moment) first a;
  on_begun = λ b value state e. ap (λ (d : Begun). (apply d event moment).state) (settled b value) ∙ e;
  on_told = λ call. refl;
}

-- What an event that comes by the call's own id leaves of the wires.
pub own-wired : (script : Script) (old : Replay) (after : List (Slot Begun)) (wires : List Link) (marks : List Mark) (call : ℕ) (ticket : Ticket) (event : Event) → IsReady script old
    → length old.calls.entries ≤ 500000 → AreSettled old.reached old.pool
    → Some ticket ≡ ticket_in (lookup (nat_eq call) old.calls.entries) → Follows old.pool after old.calls.entries call (spec.event_after event old.reached)
    → (wires, marks) ≡ acts_by ticket.first (turned_by (turn.Event event old.reached)) (look ticket.first old.pool) old.wires.items old.marks → AreWired script.servers after old.calls.entries wires
own-wired script old after wires marks call ticket event ready few settled found follows out =
    let looked = some_ticket (lookup (nat_eq call) old.calls.entries) ticket (sym found) in
    let known = known-of old.pool call (Some ticket) old.calls.entries ready.sound.known looked in
    let same : ticket.first + 0 ≡ ticket.first = omega arith in
    let t = turn.Event event old.reached in
    let works = event-works old.pool ticket event old.reached (settled-at old.reached old.pool old.calls.entries call ticket settled ready.sound looked) in
    let set : wires ≡ (acts_by ticket.first (turned_by t) (look ticket.first old.pool) old.wires.items old.marks).0 = ap (λ (p : List Link × List Mark). p.0) out in
    let w =
    wired-acts script.servers old.pool after old.calls.entries old.wires.items old.marks call 0 ticket (turned_by t) (turned t) (spec.event_after event old.reached) works ready.sound few
    looked known.0 (entry-of (IsServedIn script.servers) call (Some ticket) old.calls.entries ready.served looked) follows ready.wired in
    rw set (subst (λ id. AreWired script.servers after old.calls.entries (acts_by id (turned_by t) (look id old.pool) old.wires.items old.marks).0) same w)

-- An event of a call without a ticket.
pub no-event : (script : Script) (old : Replay) (call : ℕ) (event : Event) (moment : ℕ) → IsReady script old → None ≡ ticket_in (lookup (nat_eq call) old.calls.entries)
    → Follows old.pool old.pool old.calls.entries call (spec.event_after event moment)
no-event script old call event moment ready none = record {
  stands = event-nothing old.pool old.calls.entries call event moment ready.sound.known (no_ticket (lookup (nat_eq call) old.calls.entries) (sym none));
  sound = ready.sound;
  size = refl;
}
