-- A join line of a replay.
use Rattle.std.proofs.Common.{◌≡◌, ◌≢◌, ℕ, ◌+◌, ◌^◌, ◌<◌, ◌≤◌, subst, arith, nat_eq, List, [], ◌∷◌, length, find, Option, None, Some, ap, sym, refl, ◌∙◌}
use Rattle.std.specs.Map.{lookup}
use Rattle.rpc_model.specs.declared.script.Script.{Script}
use Rattle.rpc_model.specs.declared.told.Told.{Told}
use Rattle.rpc_model.specs.declared.told.Told.TheVariants.{Gone}
use Rattle.rpc_model.specs.Told as spec
use Rattle.sim_run.specs.declared.ticket.Ticket.{Ticket}
use Rattle.sim_run.specs.declared.state.Replay.{Replay}
use Rattle.rpc_model.specs.Marks.{Begun}
use Rattle.id_pool.specs.Ids.{version_of}
use Rattle.id_pool.specs.Ranges.{Slot, look, changed}
use Rattle.sim_run.specs.Link.{Link}
use Rattle.timer_core.specs.declared.mark.Mark.{Mark}
use Rattle.sim_run.specs.Acting.{joined_by}
use Rattle.std.specs.Option.{option_map}
use Rattle.id_pool.specs.Answers.{value_says}
use Rattle.rpc_model.specs.State.{end_of}
use Rattle.sim_run.specs.Slots.{finished, join, acts_by, IsJoinedEarly}
use Rattle.sim_run.proofs.Entries.{find-standing, known-of, entry-of}
use Rattle.sim_run.proofs.Acts.{joined-call}
use Rattle.sim_run.proofs.Passing.{joined-speaks}
use Rattle.sim_run.proofs.Wiring.{Works, wired-acts, joined-in}
use Rattle.sim_run.specs.Desk.{stand, standing_at, standings, IsServedIn, AreWired, IsReady, replay_of}
use Rattle.sim_run.proofs.Brings.{Brings}
use Rattle.sim_run.proofs.JoinMarked.{join-marked}
use Rattle.sim_run.proofs.Steps.{Follows}
use Rattle.sim_run.proofs.JoinSteps.{JoinFollows, join-moved, join-full, join-absent, join-idle}

-- A join leaves the plain machine's replay after it.
pub join-replay : (old new : Replay) (call : ℕ) → Follows old.pool new.pool old.calls.entries call (spec.joined old.reached) → new.calls ≡ old.calls
    → new.reached ≡ spec.joined_moment old.reached (find (spec.is_call call) (standings old.pool old.calls.entries)) → replay_of new ≡ spec.call_join (replay_of old) call
join-replay old new call follows calls reached =
    rw (calls, reached) (ap (λ (ss : List spec.Standing). record { reached = spec.joined_moment old.reached (find (spec.is_call call) (standings old.pool old.calls.entries)); calls = ss })
    follows.stands)

idle : (script : Script) (old : Replay) (call : ℕ) → IsReady script old → ((ticket : Ticket) → lookup (nat_eq call) old.calls.entries ≢ Some (Some ticket))
    → Follows old.pool old.pool old.calls.entries call (spec.joined old.reached)
idle script old call ready none = record {
  stands = join-idle old.reached old.pool old.calls.entries call ready.sound.known none;
  sound = ready.sound;
  size = refl;
}

-- what a join line leaves and tells where its call has no ticket
pub record JoinsNone (old : Replay) (call : ℕ) (tells : List Told) : Type 0 where
  pub follows : Follows old.pool old.pool old.calls.entries call (spec.joined old.reached)
  pub moment : old.reached ≡ spec.joined_moment old.reached (find (spec.is_call call) (standings old.pool old.calls.entries))
  pub tells_it : spec.join_tells old.reached (find (spec.is_call call) (standings old.pool old.calls.entries)) ≡ tells

-- No line begins the call.
pub joins-absent : (script : Script) (old : Replay) (call : ℕ) → IsReady script old → None ≡ lookup (nat_eq call) old.calls.entries → JoinsNone old call []
joins-absent script old call ready none =
    let found = join-absent old.reached old.pool old.calls.entries call ready.sound.known (sym none) in
    record {
      follows = idle script old call ready (λ ticket e. let both = none ∙ e in absurd (cc));
      moment = sym (ap (spec.joined_moment old.reached) found);
      tells_it = ap (spec.join_tells old.reached) found;
    }

-- The call found no slot.
pub joins-full : (script : Script) (old : Replay) (call : ℕ) → IsReady script old → Some None ≡ lookup (nat_eq call) old.calls.entries → JoinsNone old call (Gone call ∷ [])
joins-full script old call ready full =
    let found = join-full old.reached old.pool old.calls.entries call ready.sound.known (sym full) in
    record {
      follows = idle script old call ready (λ ticket e. let both = full ∙ e in absurd (cc));
      moment = sym (ap (spec.joined_moment old.reached) found);
      tells_it = ap (spec.join_tells old.reached) found;
    }

-- The call has a ticket.
pub joins-ticket : (script : Script) (old : Replay) (call : ℕ) (ticket : Ticket) → IsReady script old → length old.calls.entries ≤ 500000
    → Some (Some ticket) ≡ lookup (nat_eq call) old.calls.entries → JoinFollows old.reached old.pool old.calls.entries call ticket.first
joins-ticket script old call ticket ready few found = join-moved old.reached old.pool old.calls.entries call ticket ready.sound few (sym found)

-- What such a join leaves of slots and marks.
pub join-brings : (script : Script) (old : Replay) (after : List (Slot Begun)) (wires : List Link) (marks : List Mark) (call : ℕ) (ticket : Ticket) → IsReady script old
    → length old.calls.entries ≤ 500000 → Some (Some ticket) ≡ lookup (nat_eq call) old.calls.entries
    → Follows old.pool (changed (join old.reached (version_of ticket.first)) ticket.first old.pool) old.calls.entries call (spec.joined old.reached)
    → after ≡ changed (join old.reached (version_of ticket.first)) ticket.first old.pool
    → (wires, marks) ≡ acts_by ticket.first (joined_by old.reached) (look ticket.first old.pool) old.wires.items old.marks
    → Brings old.pool after marks old.calls.entries call (spec.joined old.reached)
join-brings script old after wires marks call ticket ready few found follows is out =
    let set : marks ≡ (acts_by ticket.first (joined_by old.reached) (look ticket.first old.pool) old.wires.items old.marks).1 = ap (λ (p : List Link × List Mark). p.1) out in
    let left = join-marked old.reached old.pool old.wires.items old.marks old.calls.entries call ticket ready.sound few (sym found) ready.marked ready.owned in
    rw (is, set) (record { follows = follows; marked = left.marked; owned = left.owned })

join-works : (slots : List (Slot Begun)) (ticket : Ticket) (reached : ℕ) → Works slots ticket (joined_by reached) (finished reached) (spec.joined reached)
join-works slots ticket reached = record {
  speaks = λ first a. joined-speaks reached first a;
  call = λ first a. joined-call reached first a;
  on_begun = λ b value state e. joined-in (end_of (finished reached b).state) (finished reached b) state e refl;
  on_told = λ call. refl;
}

-- What such a join leaves of the wires.
pub join-wired : (script : Script) (old : Replay) (after : List (Slot Begun)) (wires : List Link) (marks : List Mark) (call : ℕ) (ticket : Ticket) → IsReady script old
    → length old.calls.entries ≤ 500000 → Some (Some ticket) ≡ lookup (nat_eq call) old.calls.entries
    → Follows old.pool after old.calls.entries call (spec.joined old.reached)
    → (wires, marks) ≡ acts_by ticket.first (joined_by old.reached) (look ticket.first old.pool) old.wires.items old.marks → AreWired script.servers after old.calls.entries wires
join-wired script old after wires marks call ticket ready few found follows out =
    let known = known-of old.pool call (Some ticket) old.calls.entries ready.sound.known (sym found) in
    let same : ticket.first + 0 ≡ ticket.first = omega arith in
    let d = joined_by old.reached in
    let set : wires ≡ (acts_by ticket.first d (look ticket.first old.pool) old.wires.items old.marks).0 = ap (λ (p : List Link × List Mark). p.0) out in
    let w =
    wired-acts script.servers old.pool after old.calls.entries old.wires.items old.marks call 0 ticket d (finished old.reached) (spec.joined old.reached)
    (join-works old.pool ticket old.reached) ready.sound few (sym found) known.0 (entry-of (IsServedIn script.servers) call (Some ticket) old.calls.entries ready.served (sym found))
    follows ready.wired in
    rw set (subst (λ id. AreWired script.servers after old.calls.entries (acts_by id d (look id old.pool) old.wires.items old.marks).0) same w)

-- A join of a call that has a ticket reaches what the plain machine's does.
pub join-early : (script : Script) (old : Replay) (call : ℕ) (ticket : Ticket) → IsReady script old → Some (Some ticket) ≡ lookup (nat_eq call) old.calls.entries
    → (spec.call_join (replay_of old) call).reached < 2 ^ 60 → IsJoinedEarly old.reached (value_says (look ticket.first old.pool))
join-early script old call ticket ready found early = by (value_says (look ticket.first old.pool)) refl
  where
    by : (o : Option Begun) → value_says (look ticket.first old.pool) ≡ o → IsJoinedEarly old.reached o
    by None e = tt
    by (Some b) e =
        let finds : find (spec.is_call call) (standings old.pool old.calls.entries) ≡ Some (spec.begun b) =
        find-standing old.pool call old.calls.entries ready.sound.known ∙ ap (option_map (standing_at old.pool call)) (sym found) ∙ ap (λ o. Some (stand call o)) e in
        subst (λ o. spec.joined_moment old.reached o < 2 ^ 60) finds early
