-- What passed on the wires stays what the calls sent and what came in for them: a step of one call, a reply or a loss, a new call.
use Rattle.std.proofs.Common.{◌≡◌, ◌≢◌, inl, inr, ℕ, zero, suc, ◌+◌, ◌≤◌, ◌<◌, false, nat_eq, List, [], ◌∷◌, ◌++◌, length, Option, None, Some, is_some, ap, sym, refl, ◌∙◌, subst, arith, if◌then◌else◌}
use Rattle.std.proofs.lemmas.Bool.{eqb-true, eqb-false, eq-eqb, ne_eqb}
use Rattle.std.proofs.lemmas.List.{append-nil}
use Rattle.std.proofs.lemmas.List.Sums.{fold-append}
use Rattle.std.proofs.lemmas.Map.Keys.{IsDistinct-head, IsDistinct-tail}
use Rattle.std.specs.List.{IsDistinct, AllByRecursion}
use Rattle.std.specs.Map.{keys_of, lookup}
use Rattle.rpc_model.specs.declared.event.End.{End}
use Rattle.rpc_model.specs.declared.event.Event.{Event}
use Rattle.rpc_model.specs.declared.kinds.MapKind.{MapKind}
use Rattle.rpc_model.specs.declared.kinds.MergeKind.{MergeKind}
use Rattle.rpc_model.specs.Effects.{Send}
use Rattle.rpc_model.specs.Kinds.{script_kinds}
use Rattle.rpc_model.specs.Plan.{Plan}
use Rattle.rpc_model.specs.Served.{AreServed}
use Rattle.rpc_model.specs.State.{State, Run, end_of, and_then}
use Rattle.rpc_model.specs.Machine.{start, step, machine}
use Rattle.rpc_model.specs.Marks.{Begun, begin}
use Rattle.rpc_model.specs.Told.{Standing, begun, full, told_of, is_call, change_first, stand_joined}
use Rattle.id_pool.specs.Ids.{make_id}
use Rattle.id_pool.specs.Ranges.{Slot, Nothing, look}
use Rattle.id_pool.specs.Answers.{value_says}
use Rattle.timer_core.specs.declared.mark.Mark.{Mark}
use Rattle.sim_run.specs.declared.ticket.Ticket.{Ticket}
use Rattle.sim_run.specs.Link.{Link}
use Rattle.sim_run.specs.Sends.{posted}
use Rattle.sim_run.specs.Wires.{idle_wires, sent, received, lost}
use Rattle.sim_run.specs.Passages.{Passage, went_out, came_in, was_lost, passed_one, passed, request_at, requests, requests_in}
use Rattle.sim_run.specs.Acting.{Acting}
use Rattle.sim_run.specs.Slots.{acts_by}
use Rattle.sim_run.specs.Desk.{stand, standing_at, standing, standings, plan_of, width_of, IsKnown, IsNumbered, IsSound, IsIn, HasSent, IsSender, IsPassage, AreWired}
use Rattle.sim_run.proofs.Changes.{look-at}
use Rattle.sim_run.proofs.Entries.{found_if, change_first-yes, change_first-no, is_call-standing, known-of, lookup-more, lookup-last}
use Rattle.sim_run.proofs.Steps.{lives, most, Follows, is-over, over-look}
use Rattle.sim_run.proofs.Begins.{Joined}
use Rattle.sim_run.proofs.Brings.{found}
use Rattle.sim_run.proofs.Setting.{on_wire-length}
use Rattle.sim_run.proofs.Attempts.{all-append}
use Rattle.sim_run.proofs.Named.{run-placed}
use Rattle.sim_run.proofs.Passing.{passed-append, posted-passed, requests-append, in-append, requests-own, requests-other, ran, Speaks, place}

-- ---- the senders

-- What passes of other calls changes nothing of what a call sent.
in-other : (c : ℕ) (log more : List Passage) → requests_in c more ≡ [] → requests_in c (log ++ more) ≡ requests_in c log
in-other c log more none = in-append c log more ∙ ap (λ ps. requests_in c log ++ ps) none ∙ append-nil (requests_in c log)

sender-other : (servers c : ℕ) (o : Option Ticket) (s : Standing) (log more : List Passage) → requests_in c more ≡ [] → IsSender servers log c o s → IsSender servers (log ++ more) c o s
sender-other servers c None s log more none h = in-other c log more none ∙ h
sender-other servers c (Some ticket) s log more none h =
    record { request = h.request; moment = h.moment; events = h.events; stands = h.stands; sent = in-other c log more none ∙ h.sent; placed = h.placed }

-- more that passed, none of it a request of another call than this one
abbrev pub IsOnlyOf : ℕ → List Passage → Type 0
IsOnlyOf call more = (c : ℕ) → c ≢ call → requests_in c more ≡ []

senders-rest : (servers : ℕ) (slots after : List (Slot Begun)) (call : ℕ) (log more : List Passage) (xs : List (ℕ × Option Ticket)) → IsOnlyOf call more
    → AllByRecursion (λ y. nat_eq call y ≡ false) (keys_of xs) → standings after xs ≡ standings slots xs
    → AllByRecursion (λ entry. IsSender servers log entry.0 entry.1 (standing slots entry)) xs → AllByRecursion (λ entry. IsSender servers (log ++ more) entry.0 entry.1 (standing after entry)) xs
senders-rest servers slots after call log more [] only apart same all = tt
senders-rest servers slots after call log more ((number, o) ∷ xs) only apart same all =
    let head : standing_at after number o ≡ standing_at slots number o = cc in
    let tail : standings after xs ≡ standings slots xs = cc in
    let mine = sender-other servers number o (standing_at slots number o) log more (only number (λ e. eqb-false call number apart.0 (sym e))) all.0 in
    (subst (IsSender servers (log ++ more) number o) (sym head) mine, senders-rest servers slots after call log more xs only apart.1 tail all.1)

-- what a step of a call makes of its own requests
abbrev pub Sends : ℕ → List (Slot Begun) → (Standing → Standing) → List Passage → List Passage → ℕ → Option Ticket → Type 0
Sends servers slots f log more call o = IsSender servers log call o (standing_at slots call o) → IsSender servers (log ++ more) call o (f (standing_at slots call o))

senders-step : (servers : ℕ) (slots after : List (Slot Begun)) (call : ℕ) (ticket : Ticket) (f : Standing → Standing) (log more : List Passage) (entries : List (ℕ × Option Ticket))
    → AllByRecursion (λ entry. IsKnown slots entry.0 entry.1) entries → IsDistinct nat_eq (keys_of entries)
    → lookup (nat_eq call) entries ≡ Some (Some ticket) → IsOnlyOf call more → Sends servers slots f log more call (Some ticket)
    → standings after entries ≡ change_first (is_call call) f (standings slots entries)
    → AllByRecursion (λ entry. IsSender servers log entry.0 entry.1 (standing slots entry)) entries
    → AllByRecursion (λ entry. IsSender servers (log ++ more) entry.0 entry.1 (standing after entry)) entries
senders-step servers slots after call ticket f log more [] known once at only own stands all = absurd (cc)
senders-step servers slots after call ticket f log more ((number, o) ∷ xs) known once at only own stands all = elim (found_if (nat_eq call number) o (Some ticket) (lookup (nat_eq call) xs) at) [
  | inl here ↦
      let both : standing_at after number o ∷ standings after xs ≡ f (standing_at slots number o) ∷ standings slots xs =
      stands ∙ change_first-yes (is_call call) f (standing_at slots number o) (standings slots xs) (is_call-standing slots call number o known.0 ∙ here.0) in
      let head : standing_at after number o ≡ f (standing_at slots number o) = cc in
      let tail : standings after xs ≡ standings slots xs = cc in
      let same : call ≡ number = eqb-true call number here.0 in
      let mine : Sends servers slots f log more number o = subst (λ n. Sends servers slots f log more n o) same (subst (λ p. Sends servers slots f log more call p) (sym here.1) own) in
      let apart = subst (λ n. AllByRecursion (λ y. nat_eq n y ≡ false) (keys_of xs)) (sym same) (IsDistinct-head nat_eq number (keys_of xs) once) in
      (subst (IsSender servers (log ++ more) number o) (sym head) (mine all.0), senders-rest servers slots after call log more xs only apart tail all.1)
  | inr there ↦
      let both : standing_at after number o ∷ standings after xs ≡ standing_at slots number o ∷ change_first (is_call call) f (standings slots xs) =
      stands ∙ change_first-no (is_call call) f (standing_at slots number o) (standings slots xs) (is_call-standing slots call number o known.0 ∙ there.0) in
      let head : standing_at after number o ≡ standing_at slots number o = cc in
      let tail : standings after xs ≡ change_first (is_call call) f (standings slots xs) = cc in
      let mine = sender-other servers number o (standing_at slots number o) log more (only number (λ e. eqb-false call number there.0 (sym e))) all.0 in (
        subst (IsSender servers (log ++ more) number o) (sym head) mine,
        senders-step servers slots after call ticket f log more xs known.1 (IsDistinct-tail nat_eq number (keys_of xs) once)
            there.1 only own tail all.1,
      )
]

-- ---- one call's step

wired-step : (servers : ℕ) (slots after : List (Slot Begun)) (entries : List (ℕ × Option Ticket)) (wires new : List Link) (call : ℕ) (ticket : Ticket) (f : Standing → Standing) (more : List Passage)
    → IsSound slots entries → lookup (nat_eq call) entries ≡ Some (Some ticket)
    → Follows slots after entries call f → new ≡ passed more wires → IsOnlyOf call more → AllByRecursion (IsPassage entries) more
    → ((log : List Passage) → Sends servers slots f log more call (Some ticket)) → AreWired servers slots entries wires → AreWired servers after entries new
wired-step servers slots after entries wires new call ticket f more sound at follows is only all own w = record {
  log = w.log ++ more;
  left = is ∙ ap (passed more) w.left ∙ sym (passed-append w.log more (idle_wires servers));
  senders = senders-step servers slots after call ticket f w.log more entries sound.known sound.numbers at only (own w.log) follows.stands w.senders;
  all = all-append (IsPassage entries) w.log more w.all all;
}

requests-passages : (entries : List (ℕ × Option Ticket)) (call : ℕ) (ticket : Ticket) (first : ℕ) (plan : Plan MapKind MergeKind) (sends : List Send)
    → lookup (nat_eq call) entries ≡ Some (Some ticket) → AllByRecursion (IsPassage entries) (requests first plan call sends)
requests-passages entries call ticket first plan [] at = tt
requests-passages entries call ticket first plan (s ∷ ss) at =
    all-append (IsPassage entries) (request_at (place plan s) first call s) (requests first plan call ss) (by (place plan s)) (requests-passages entries call ticket first plan ss at)
  where
    by : (o : Option ℕ) → AllByRecursion (IsPassage entries) (request_at o first call s)
    by None = tt
    by (Some offset) = ((ticket, at), tt)

-- what comes to a call: what it does, how the call changes, and how its standing does
pub record Works (slots : List (Slot Begun)) (ticket : Ticket) (d : ℕ → Acting → Acting) (h : Begun → Begun) (f : Standing → Standing) : Type 0 where
  pub speaks : (first : ℕ) (a : Acting) → Speaks first a (d first a)
  pub call : (first : ℕ) (a : Acting) → (d first a).call ≡ h a.call
  pub on_begun : (b : Begun) → value_says (look ticket.first slots) ≡ Some b → (state : State MapKind MergeKind) → (h b).state ≡ state → IsIn (f (begun b)) state
  pub on_told : (call : ℕ) → f (told_of call) ≡ told_of call

-- A run goes on with what a call does.
goes-on : (servers : ℕ) (log : List Passage) (call first : ℕ) (ticket : Ticket) (b : Begun) (s : Standing) (a c : Acting) → a.call ≡ b → b.call ≡ call → b.plan ≡ plan_of ticket
    → (sp : Speaks first a c) → AreServed servers (plan_of ticket)
    → ((state : State MapKind MergeKind) → c.call.state ≡ state → IsIn s state) → HasSent servers log call ticket (begun b)
    → HasSent servers (log ++ requests ticket.first (plan_of ticket) call sp.sends) call ticket s
goes-on servers log call first ticket b s a c same number planned sp served stands h =
    let more = requests ticket.first (plan_of ticket) call sp.sends in
    let run = machine script_kinds (plan_of ticket) call h.request h.moment h.events in
    let own : a.call.call ≡ call = ap (λ (x : Begun). x.call) same ∙ number in
    let here : run.state ≡ a.call.state = sym (ap (λ (x : Begun). x.state) same ∙ h.stands) in
    let goes : machine script_kinds (plan_of ticket) call h.request h.moment (h.events ++ sp.events) ≡ ran a.call.call run sp.events =
    fold-append (λ (r : Run MapKind MergeKind) (timed : Event × ℕ). and_then r (step script_kinds call r.state timed.0 timed.1)) (start script_kinds (plan_of ticket) call h.request h.moment)
    h.events sp.events
    ∙ ap (λ n. ran n run sp.events) (sym own) in
    let sends : (machine script_kinds (plan_of ticket) call h.request h.moment (h.events ++ sp.events)).sends ≡ run.sends ++ sp.sends =
    ap (λ (r : Run MapKind MergeKind). r.sends) goes ∙ sp.sent run here in
    record {
      request = h.request;
      moment = h.moment;
      events = h.events ++ sp.events;
      stands = stands _ (sym (ap (λ (r : Run MapKind MergeKind). r.state) goes ∙ sp.state run here));
      placed = run-placed servers (plan_of ticket) call h.request h.moment (h.events ++ sp.events) served;
      sent =
          in-append call log more ∙ ap (λ ps. ps ++ requests_in call more) h.sent
          ∙ ap (λ ps. requests ticket.first (plan_of ticket) call run.sends ++ ps) (requests-own ticket.first (plan_of ticket) call sp.sends)
          ∙ sym (requests-append ticket.first (plan_of ticket) call run.sends sp.sends) ∙ ap (requests ticket.first (plan_of ticket) call) (sym sends);
    }

-- What comes to a call by one of its ids leaves the wires with what the machine sends.
pub wired-acts : (servers : ℕ) (slots after : List (Slot Begun)) (entries : List (ℕ × Option Ticket)) (wires : List Link) (marks : List Mark) (call k : ℕ) (ticket : Ticket)
    (d : ℕ → Acting → Acting) (h : Begun → Begun) (f : Standing → Standing)
    → Works slots ticket d h f → IsSound slots entries
    → length entries ≤ 500000 → lookup (nat_eq call) entries ≡ Some (Some ticket) → k < width_of ticket → AreServed servers (plan_of ticket) → Follows slots after entries call f
    → AreWired servers slots entries wires
    → AreWired servers after entries (acts_by (ticket.first + k) d (look (ticket.first + k) slots) wires marks).0
wired-acts servers slots after entries wires marks call k ticket d h f works sound few at within served follows wired = by (value_says (look ticket.first slots)) refl
  where
    id : ℕ
    id = ticket.first + k

    by : (x : Option Begun) → value_says (look ticket.first slots) ≡ x → AreWired servers after entries (acts_by id d (look id slots) wires marks).0
    by None none =
        let known = known-of slots call (Some ticket) entries sound.known at in
        let o = is-over slots call ticket (most entries) known sound.open_slots (omega (arith, few)) none in
        let there = over-look slots ticket o k within in
        let nothing : look id slots ≡ Nothing = look-at id slots o.slot there.0 ∙ there.1 in
        let silent : (acts_by id d (look id slots) wires marks).0 ≡ wires = ap (λ x. (acts_by id d x wires marks).0) nothing in
        let told : standing_at slots call (Some ticket) ≡ told_of call = ap (stand call) none in
        let same : f (standing_at slots call (Some ticket)) ≡ standing_at slots call (Some ticket) = ap f told ∙ works.on_told call ∙ sym told in
        wired-step servers slots after entries wires (acts_by id d (look id slots) wires marks).0 call ticket f [] sound at follows silent (λ c differ. refl) tt
        (λ log sent. subst (λ s. IsSender servers (log ++ []) call (Some ticket) s) (sym same) (sender-other servers call (Some ticket) (standing_at slots call (Some ticket)) log [] refl sent)) wired
    by (Some b) value =
        let known = known-of slots call (Some ticket) entries sound.known at in
        let l = lives slots call ticket b (most entries) known sound.open_slots value in
        let it = found slots entries ticket b k l sound few within in
        let a : Acting = record { call = l.r.value; wires = wires; marks = marks } in
        let first = make_id l.slot l.r.first in
        let out : (acts_by id d (look id slots) wires marks).0 ≡ (d first a).wires = ap (λ x. (acts_by id d x wires marks).0) it.looks ∙ ap (λ n. (d n a).wires) it.behind in
        let own : IsNumbered call ticket (Some b) = subst (IsNumbered call ticket) value known.2 in
        let sp = works.speaks first a in
        let planned : l.r.value.plan ≡ plan_of ticket = ap (λ (c : Begun). c.plan) l.value ∙ own.1 in
        let numbered : l.r.value.call ≡ call = ap (λ (c : Begun). c.call) l.value ∙ own.0 in
        let is : (d first a).wires ≡ posted ticket.first (plan_of ticket) call sp.sends wires =
        sp.wires ∙ ap (λ n. posted n l.r.value.plan l.r.value.call sp.sends wires) (sym it.own) ∙ ap (λ p. posted ticket.first p l.r.value.call sp.sends wires) planned
        ∙ ap (λ n. posted ticket.first (plan_of ticket) n sp.sends wires) numbered in
        let more = requests ticket.first (plan_of ticket) call sp.sends in
        let before : standing_at slots call (Some ticket) ≡ begun b = ap (stand call) value in
        let does : (state : State MapKind MergeKind) → (d first a).call.state ≡ state → IsIn (f (begun b)) state =
        λ state e. works.on_begun b value state (sym (ap (λ (c : Begun). c.state) (works.call first a ∙ ap h l.value)) ∙ e) in
        wired-step servers slots after entries wires (acts_by id d (look id slots) wires marks).0 call ticket f more sound at follows
        (out ∙ is ∙ posted-passed ticket.first (plan_of ticket) call sp.sends wires)
        (λ c differ. requests-other c ticket.first (plan_of ticket) call sp.sends differ) (requests-passages entries call ticket ticket.first (plan_of ticket) sp.sends at)
        (λ log sent. subst (λ s. IsSender servers (log ++ more) call (Some ticket) (f s)) (sym before)
        (goes-on servers log call first ticket b (f (begun b)) a (d first a) l.value own.0 own.1 sp served does (subst (λ s. IsSender servers log call (Some ticket) s) before sent))) wired

-- ---- what comes in

senders-all : (servers : ℕ) (slots : List (Slot Begun)) (log more : List Passage) (entries : List (ℕ × Option Ticket)) → ((c : ℕ) → requests_in c more ≡ [])
    → AllByRecursion (λ entry. IsSender servers log entry.0 entry.1 (standing slots entry)) entries
    → AllByRecursion (λ entry. IsSender servers (log ++ more) entry.0 entry.1 (standing slots entry)) entries
senders-all servers slots log more [] none all = tt
senders-all servers slots log more ((number, o) ∷ xs) none all =
    (sender-other servers number o (standing_at slots number o) log more (none number) all.0, senders-all servers slots log more xs none all.1)

-- A reply or a loss comes on a wire.
pub wired-in : (servers : ℕ) (slots : List (Slot Begun)) (entries : List (ℕ × Option Ticket)) (wires : List Link) (p : Passage) → IsPassage entries p
    → ((c : ℕ) → requests_in c (p ∷ []) ≡ []) → AreWired servers slots entries wires
    → AreWired servers slots entries (passed_one p wires)
wired-in servers slots entries wires p of none w = record {
  log = w.log ++ p ∷ [];
  left = ap (passed_one p) w.left ∙ sym (passed-append w.log (p ∷ []) (idle_wires servers));
  senders = senders-all servers slots w.log (p ∷ []) entries none w.senders;
  all = all-append (IsPassage entries) w.log (p ∷ []) w.all (of, tt);
}

-- ---- a new call

passage-more : (entries : List (ℕ × Option Ticket)) (last : ℕ × Option Ticket) (p : Passage) → IsPassage entries p → IsPassage (entries ++ last ∷ []) p
passage-more entries last (went_out call server id payload) h = (h.0, lookup-more call (Some h.0) last entries h.1)
passage-more entries last (came_in call server r) h =
    record { ticket = h.ticket; node = h.node; attempt = h.attempt; found = lookup-more call (Some h.ticket) last entries h.found; named = h.named; to = h.to }
passage-more entries last (was_lost call server id) h =
    record { ticket = h.ticket; node = h.node; attempt = h.attempt; found = lookup-more call (Some h.ticket) last entries h.found; named = h.named; to = h.to }

passages-more : (entries : List (ℕ × Option Ticket)) (last : ℕ × Option Ticket) (log : List Passage) → AllByRecursion (IsPassage entries) log → AllByRecursion (IsPassage (entries ++ last ∷ [])) log
passages-more entries last [] all = tt
passages-more entries last (p ∷ ps) all = (passage-more entries last p all.0, passages-more entries last ps all.1)

-- A call that no line began has sent nothing.
none-in : (entries : List (ℕ × Option Ticket)) (call : ℕ) (log : List Passage) → lookup (nat_eq call) entries ≡ None → AllByRecursion (IsPassage entries) log → requests_in call log ≡ []
none-in entries call [] none all = refl
none-in entries call (went_out c server id payload ∷ ps) none all =
    let differ : c ≢ call = λ e. (let both : None ≡ Some (Some all.0.0) = sym none ∙ ap (λ n. lookup (nat_eq n) entries) (sym e) ∙ all.0.1 in cc) in
    ap (λ b. if b then went_out c server id payload ∷ requests_in call ps else requests_in call ps) (ne_eqb c call differ) ∙ none-in entries call ps none all.1
none-in entries call (came_in c server r ∷ ps) none all = none-in entries call ps none all.1
none-in entries call (was_lost c server id ∷ ps) none all = none-in entries call ps none all.1

other-number : (call number : ℕ) (o p : Option (Option Ticket)) → (if nat_eq call number then o else p) ≡ None → o ≢ None → number ≢ call
other-number call number o p none some e = some (sym (ap (λ b. if b then o else p) (eq-eqb call number (sym e))) ∙ none)

lookup-behind : (call number : ℕ) (o : Option Ticket) (xs : List (ℕ × Option Ticket)) → lookup (nat_eq call) ((number, o) ∷ xs) ≡ None → number ≢ call → lookup (nat_eq call) xs ≡ None
lookup-behind call number o xs none differ = sym (ap (λ b. if b then Some o else lookup (nat_eq call) xs) (ne_eqb call number (λ e. differ (sym e)))) ∙ none

senders-more : (servers : ℕ) (slots after : List (Slot Begun)) (call : ℕ) (o : Option Ticket) (s : Standing) (log more : List Passage) (entries : List (ℕ × Option Ticket))
    → standings after (entries ++ (call, o) ∷ []) ≡ standings slots entries ++ s ∷ [] → lookup (nat_eq call) entries ≡ None
    → IsOnlyOf call more → IsSender servers (log ++ more) call o s → AllByRecursion (λ entry. IsSender servers log entry.0 entry.1 (standing slots entry)) entries
    → AllByRecursion (λ entry. IsSender servers (log ++ more) entry.0 entry.1 (standing after entry)) (entries ++ (call, o) ∷ [])
senders-more servers slots after call o s log more [] stands none only own all = let head : standing_at after call o ≡ s = cc in (subst (IsSender servers (log ++ more) call o) (sym head) own, tt)
senders-more servers slots after call o s log more ((number, p) ∷ xs) stands none only own all =
    let head : standing_at after number p ≡ standing_at slots number p = cc in
    let tail : standings after (xs ++ (call, o) ∷ []) ≡ standings slots xs ++ s ∷ [] = cc in
    let differ = other-number call number (Some p) (lookup (nat_eq call) xs) none (λ e. cc) in
    let mine = sender-other servers number p (standing_at slots number p) log more (only number differ) all.0 in
    (subst (IsSender servers (log ++ more) number p) (sym head) mine, senders-more servers slots after call o s log more xs tail (lookup-behind call number p xs none differ) only own all.1)

-- A call begins, and its first requests go out.
pub wired-begins : (servers : ℕ) (slots after : List (Slot Begun)) (entries : List (ℕ × Option Ticket)) (wires : List Link) (call moment : ℕ) (ticket : Ticket) (text : List ℕ)
    → lookup (nat_eq call) entries ≡ None → AreServed servers (plan_of ticket)
    → Joined slots after entries call (Some ticket) (begun (begin call (plan_of ticket) text moment)) → AreWired servers slots entries wires
    → AreWired servers after (entries ++ (call, Some ticket) ∷ []) (posted ticket.first (plan_of ticket) call (start script_kinds (plan_of ticket) call text moment).sends wires)
wired-begins servers slots after entries wires call moment ticket text none served j w =
    let run = start script_kinds (plan_of ticket) call text moment in
    let more = requests ticket.first (plan_of ticket) call run.sends in
    let own : HasSent servers (w.log ++ more) call ticket (begun (begin call (plan_of ticket) text moment)) = record {
      request = text;
      moment = moment;
      events = [];
      stands = refl;
      placed = run-placed servers (plan_of ticket) call text moment [] served;
      sent = in-append call w.log more ∙ ap (λ ps. ps ++ requests_in call more) (none-in entries call w.log none w.all) ∙ requests-own ticket.first (plan_of ticket) call run.sends;
    } in
    record {
      log = w.log ++ more;
      left = posted-passed ticket.first (plan_of ticket) call run.sends wires ∙ ap (passed more) w.left ∙ sym (passed-append w.log more (idle_wires servers));
      senders = senders-more servers slots after call (Some ticket) (begun (begin call (plan_of ticket) text moment)) w.log more entries j.stands none
          (λ c differ. requests-other c ticket.first (plan_of ticket) call run.sends differ) own w.senders;
      all = all-append (IsPassage (entries ++ (call, Some ticket) ∷ [])) w.log more (passages-more entries (call, Some ticket) w.log w.all)
          (requests-passages (entries ++ (call, Some ticket) ∷ []) call ticket ticket.first (plan_of ticket) run.sends (lookup-last call (Some ticket) entries none));
    }

-- A call finds no slot.
pub wired-full : (servers : ℕ) (slots after : List (Slot Begun)) (entries : List (ℕ × Option Ticket)) (wires : List Link) (call : ℕ) → lookup (nat_eq call) entries ≡ None
    → Joined slots after entries call None (full call) → AreWired servers slots entries wires
    → AreWired servers after (entries ++ (call, None) ∷ []) wires
wired-full servers slots after entries wires call none j w = record {
  log = w.log ++ [];
  left = w.left ∙ sym (passed-append w.log [] (idle_wires servers));
  senders = senders-more servers slots after call None (full call) w.log [] entries j.stands none (λ c differ. refl) (in-other call w.log [] refl ∙ none-in entries call w.log none w.all) w.senders;
  all = all-append (IsPassage (entries ++ (call, None) ∷ [])) w.log [] (passages-more entries (call, None) w.log w.all) tt;
}

-- ---- a new replay

idle-length : (n : ℕ) → length (idle_wires n) ≡ n
idle-length zero = refl
idle-length (suc n) = ap suc (idle-length n)

passed-length : (log : List Passage) (wires : List Link) → length (passed log wires) ≡ length wires
passed-length [] wires = refl
passed-length (p ∷ ps) wires = passed-length ps (passed_one p wires) ∙ one p
  where
    one : (p : Passage) → length (passed_one p wires) ≡ length wires
    one (went_out call server id payload) = on_wire-length server (sent id call payload) wires
    one (came_in call server r) = on_wire-length server (received r) wires
    one (was_lost call server id) = on_wire-length server (lost id) wires

-- There is a wire for each server.
pub wired-length : (servers : ℕ) (slots : List (Slot Begun)) (entries : List (ℕ × Option Ticket)) (wires : List Link) → AreWired servers slots entries wires → length wires ≡ servers
wired-length servers slots entries wires w = ap length w.left ∙ passed-length w.log (idle_wires servers) ∙ idle-length servers

pub wired-none : (servers : ℕ) (slots : List (Slot Begun)) (entries : List (ℕ × Option Ticket)) (wires : List Link) → entries ≡ [] → wires ≡ idle_wires servers → AreWired servers slots entries wires
wired-none servers slots entries wires none is = rw none (record { log = []; left = is; senders = tt; all = tt })

-- ---- a join

pub joined-in : (o : Option End) (b : Begun) (state : State MapKind MergeKind) → b.state ≡ state → end_of b.state ≡ o → IsIn (stand_joined b o) state
joined-in None b state same e = same
joined-in (Some end) b state same e = ap (λ s. is_some (end_of s)) (sym same) ∙ ap is_some e
