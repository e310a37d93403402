-- A call line of a replay.
use Rattle.std.proofs.Common.{◌≡◌, ℕ, ◌+◌, ◌*◌, ◌^◌, ◌<◌, ◌≤◌, inl, inr, true, false, nat_eq, List, [], ◌∷◌, ◌++◌, length, slice_get, count_by, Option, None, Some, ap, sym, refl, ◌∙◌, subst}
use Rattle.std.proofs.Common.{arith, if◌then◌else◌}
use Rattle.std.proofs.lemmas.Bool.{eqb-false, ne_eqb}
use Rattle.std.proofs.lemmas.Bool.Decides.{nat_tests}
use Rattle.std.proofs.lemmas.Map.Keys.{IsDistinct-head, IsDistinct-tail}
use Rattle.std.specs.List.{IsDistinct, AllByRecursion}
use Rattle.std.specs.Map.{keys_of, lookup}
use Rattle.std.specs.Option.{option_map}
use Rattle.rpc_model.specs.declared.kinds.MapKind.{MapKind}
use Rattle.rpc_model.specs.declared.kinds.MergeKind.{MergeKind}
use Rattle.rpc_model.specs.declared.script.Script.{Script}
use Rattle.rpc_model.specs.Kinds.{script_kinds}
use Rattle.rpc_model.specs.Machine.{start}
use Rattle.rpc_model.specs.Plan.{Plan}
use Rattle.rpc_model.specs.Served.{AreServed}
use Rattle.rpc_model.specs.Versions.{width}
use Rattle.rpc_model.specs.Marks.{Begun, begin}
use Rattle.rpc_model.specs.declared.told.Told.TheVariants.{Full as TellsFull}
use Rattle.rpc_model.specs.Told as spec
use Rattle.rpc_model.specs.Told.{begun, full}
use Rattle.model_laws.proofs.Within.{start-within}
use Rattle.chan_tree.proofs.Offsets.{few_attempts}
use Rattle.id_pool.specs.Ids.{make_id}
use Rattle.id_pool.specs.Ranges.{Slot, Vacant, Taken, Range, is_width, lowest, created, created_at, change, fresh}
use Rattle.timer_core.specs.declared.mark.Mark.{Mark}
use Rattle.sim_run.specs.declared.ticket.Ticket.{Ticket}
use Rattle.sim_run.specs.declared.state.Replay.{Replay}
use Rattle.sim_run.specs.Sends.{posted}
use Rattle.sim_run.specs.Marked.{marked, HasMarks, AreMarked, IsOwned, AreOwned}
use Rattle.sim_run.specs.Desk.{standings, plan_of, width_of, IsSlot, IsServedIn, IsReady, replay_of, first_wires}
use Rattle.sim_run.proofs.Changes.{slice_get-change}
use Rattle.sim_run.proofs.Apart.{same_or, slice_get-other}
use Rattle.sim_run.proofs.Acts.{marks-set, all-has, has-marked, ids-set}
use Rattle.sim_run.proofs.Fit.{begin-fit}
use Rattle.sim_run.proofs.Entries.{slot-of-all, lookup-more, lookup-last}
use Rattle.sim_run.proofs.Steps.{plan-wide}
use Rattle.sim_run.proofs.Begins.{Joined, lowest-at, all-taken, not-all-taken, call-begins, full-begins, All-snoc}
use Rattle.sim_run.proofs.Brings.{slice_get-within}
use Rattle.sim_run.proofs.Wiring.{wired-begins, wired-full}

-- ---- the pool's answer

pub width-is : (width : ℕ) → 1 ≤ width → width ≤ 1024 → is_width width ≡ true
width-is width some most = grind (arith, nat_tests)

-- where a call's ids are
pub record Place (slots : List (Slot Begun)) (width id : ℕ) (b : Begun) : Type 0 where
  pub slot : ℕ
  pub next : ℕ
  pub at : slice_get slots slot ≡ Some (Vacant next)
  pub is : id ≡ make_id slot next
  pub after : created width b slots ≡ change slot (λ s. Taken (fresh next width b)) slots

place-of : (slots : List (Slot Begun)) (width id : ℕ) (b : Begun) (o : Option (ℕ × ℕ)) → lowest slots ≡ o → is_width width ≡ true → Some id ≡ option_map (λ p. make_id p.0 p.1) o
    → Place slots width id b
place-of slots width id b None low wide e = absurd (cc)
place-of slots width id b (Some p) low wide e = record {
  slot = p.0;
  next = p.1;
  at = lowest-at slots p.0 p.1 low;
  is = cc;
  after = ap (λ b'. created_at b' (lowest slots) width b slots) wide ∙ ap (λ o. created_at true o width b slots) low;
}

pub place : (slots : List (Slot Begun)) (width id : ℕ) (b : Begun) → 1 ≤ width → width ≤ 1024 → Some id ≡ option_map (λ p. make_id p.0 p.1) (lowest slots) → Place slots width id b
place slots width id b some most e = place-of slots width id b (lowest slots) refl (width-is width some most) e

none-low : (o : Option (ℕ × ℕ)) → None ≡ option_map (λ p. make_id p.0 p.1) o → o ≡ None
none-low None e = refl
none-low (Some p) e = absurd (cc)

-- No slot is vacant, and none is taken.
pub no-place : (slots : List (Slot Begun)) (width : ℕ) (b : Begun) → 1 ≤ width → width ≤ 1024 → None ≡ option_map (λ p. make_id p.0 p.1) (lowest slots)
    → (lowest slots ≡ None) × (created width b slots ≡ slots)
no-place slots width b some most e =
    let low = none-low (lowest slots) e in
    (low, ap (λ b'. created_at b' (lowest slots) width b slots) (width-is width some most) ∙ ap (λ o. created_at true o width b slots) low)

-- ---- whether the table is full

pub is-full : (script : Script) (old : Replay) → IsReady script old → lowest old.pool ≡ None → spec.is_full script (replay_of old) ≡ true
is-full script old ready none =
    let all = all-taken _ old.pool ready.sound.open_slots none in
    let c = ready.sound.counted in
    let n = ready.pool in
    let le : script.slots ≤ count_by spec.is_begun (standings old.pool old.calls.entries) = omega (arith, all, c, n) in
    grind (arith, nat_tests)

pub isn't-full : (script : Script) (old : Replay) (i next : ℕ) → IsReady script old → slice_get old.pool i ≡ Some (Vacant next) → spec.is_full script (replay_of old) ≡ false
isn't-full script old i next ready at =
    let few = not-all-taken old.pool i next at in
    let c = ready.sound.counted in
    let n = ready.pool in
    let lt : count_by spec.is_begun (standings old.pool old.calls.entries) < script.slots = omega (arith, few, c, n) in
    grind (arith, nat_tests)

-- ---- the call line

-- A call that took a slot leaves the plain machine's calls with it.
begun-joined : (old : Replay) (script : Script) (call moment : ℕ) (ticket : Ticket) (text : List ℕ) (entries : List (ℕ × Option Ticket)) (after : List (Slot Begun)) → IsReady script old
    → length old.calls.entries ≤ 500000 → width_of ticket ≤ 1024
    → (p : Place old.pool (width_of ticket) ticket.first (begin call (plan_of ticket) text moment)) → after ≡ created (width_of ticket) (begin call (plan_of ticket) text moment) old.pool
    → entries ≡ old.calls.entries ++ (call, Some ticket) ∷ [] → IsDistinct nat_eq (keys_of entries)
    → Joined old.pool after old.calls.entries call (Some ticket) (begun (begin call (plan_of ticket) text moment))
begun-joined old script call moment ticket text entries after ready few narrow p made put once =
    let b = begin call (plan_of ticket) text moment in
    let j =
    call-begins old.pool old.calls.entries call p.slot p.next ticket b ready.sound few p.at p.is refl (plan-wide (plan_of ticket)) narrow refl (begin-fit call (plan_of ticket) text moment)
    (subst (λ es. IsDistinct nat_eq (keys_of es)) put once) in
    subst (λ ss. Joined old.pool ss old.calls.entries call (Some ticket) (begun b)) (sym (made ∙ p.after)) j

-- The first id is low.
pub first-low : (old : Replay) (script : Script) (width first : ℕ) (b : Begun) → IsReady script old → length old.calls.entries ≤ 500000 → script.slots ≤ 4096
    → (p : Place old.pool width first b) → first < 2 ^ 63
first-low old script width first b ready few slots p =
    let top : p.next ≤ 1 + 1024 * length old.calls.entries = slot-of-all (IsSlot (1 + 1024 * length old.calls.entries)) p.slot old.pool (Vacant p.next) ready.sound.open_slots p.at in
    let within = slice_get-within p.slot old.pool (Vacant p.next) p.at in
    let n = ready.pool in
    let is = p.is in
    omega (arith, top, few, within, n, slots, is)

-- Each mark that a call waits for is among all marks, and each of those is a call's.
owned-more : (entries : List (ℕ × Option Ticket)) (call : ℕ) (o : Option Ticket) (id : ℕ) → lookup (nat_eq call) entries ≡ None → IsOwned entries id → IsOwned (entries ++ (call, o) ∷ []) id
owned-more entries call o id none own =
    record { call = own.call; ticket = own.ticket; place = own.place; found = lookup-more own.call (Some own.ticket) (call, o) entries own.found; within = own.within; is = own.is }

all-owned-more : (entries : List (ℕ × Option Ticket)) (call : ℕ) (o : Option Ticket) (marks : List Mark) → lookup (nat_eq call) entries ≡ None → AreOwned entries marks
    → AreOwned (entries ++ (call, o) ∷ []) marks
all-owned-more entries call o [] none all = tt
all-owned-more entries call o (m ∷ ms) none all = (owned-more entries call o m.id none all.0, all-owned-more entries call o ms none all.1)

pub call-ready : (old new : Replay) (script : Script) (call moment : ℕ) (ticket : Ticket) (text : List ℕ) → IsReady script old → length old.calls.entries ≤ 500000 → width_of ticket ≤ 1024
    → AreServed script.servers (plan_of ticket) → lookup (nat_eq call) old.calls.entries ≡ None
    → (p : Place old.pool (width_of ticket) ticket.first (begin call (plan_of ticket) text moment)) → new.pool ≡ created (width_of ticket) (begin call (plan_of ticket) text moment) old.pool
    → new.calls.entries ≡ old.calls.entries ++ (call, Some ticket) ∷ []
    → IsDistinct nat_eq (keys_of new.calls.entries) → new.marks ≡ marked ticket.first (start script_kinds (plan_of ticket) call text moment).marks old.marks
    → new.wires.items ≡ posted ticket.first (plan_of ticket) call (start script_kinds (plan_of ticket) call text moment).sends old.wires.items → IsReady script new
call-ready old new script call moment ticket text ready few narrow served none p made put once set wires =
    let plan = plan_of ticket in
    let run = start script_kinds plan call text moment in
    let b = begin call plan text moment in
    let j = begun-joined old script call moment ticket text new.calls.entries new.pool ready few narrow p made put once in
    let g : Slot Begun → Slot Begun = λ s. Taken (fresh p.next (width_of ticket) b) in
    let own : HasMarks ticket.first b.waiting (marked ticket.first run.marks old.marks) = marks-set ticket.first run.marks [] old.marks tt in
    let waits : AreMarked (marked ticket.first run.marks old.marks) (change p.slot g old.pool) = λ i x there. elim (same_or p.slot i) [
      | inl same ↦
          let at_new : slice_get (change p.slot g old.pool) i ≡ Some (Taken (fresh p.next (width_of ticket) b)) =
          ap (slice_get (change p.slot g old.pool)) (sym same) ∙ slice_get-change p.slot g old.pool (Vacant p.next) p.at in
          let both : Some (Taken (fresh p.next (width_of ticket) b)) ≡ Some (Taken x) = sym at_new ∙ there in
          let is : fresh p.next (width_of ticket) b ≡ x = same-taken _ x both in
          subst (λ (y : Range Begun). HasMarks (make_id i y.first) y.value.waiting (marked ticket.first run.marks old.marks)) is
          (subst (λ n. HasMarks (make_id n p.next) b.waiting (marked ticket.first run.marks old.marks)) same (subst (λ f. HasMarks f b.waiting (marked ticket.first run.marks old.marks)) p.is own))
      | inr other ↦
          let here : slice_get old.pool i ≡ Some (Taken x) = sym (slice_get-other p.slot i g old.pool other) ∙ there in
          all-has (make_id i x.first) x.value.waiting old.marks (marked ticket.first run.marks old.marks) (λ id m h. has-marked id m ticket.first run.marks old.marks h) (ready.marked i x here)
    ] in
    let entries = old.calls.entries ++ (call, Some ticket) ∷ [] in
    let within = start-within script_kinds (width plan) 0 plan call text moment (let w = few_attempts plan in omega (arith, w)) in
    let mine : (node : ℕ) → node < width plan → IsOwned entries (ticket.first + node) =
    λ node less. record { call = call; ticket = ticket; place = node; found = lookup-last call (Some ticket) old.calls.entries none; within = less; is = refl } in
    let owned : AreOwned entries (marked ticket.first run.marks old.marks) =
    ids-set (IsOwned entries) (width plan) ticket.first run.marks old.marks mine within (all-owned-more old.calls.entries call (Some ticket) old.marks none ready.owned) in
    record {
      sound = rw put j.sound;
      pool = j.size ∙ ready.pool;
      wired = rw (put, wires) (wired-begins script.servers old.pool new.pool old.calls.entries old.wires.items call moment ticket text none served j ready.wired);
      marked = rw (set, made, p.after) waits;
      owned = rw (put, set) owned;
      served = rw put (All-snoc (λ entry. IsServedIn script.servers entry.1) old.calls.entries (call, Some ticket) ready.served served);
    }
  where
    same-taken : (s x : Range Begun) → Some (Taken s) ≡ Some (Taken x) → s ≡ x
    same-taken s x e = cc

pub call-after : (old new : Replay) (script : Script) (moment call : ℕ) (ticket : Ticket) (text : List ℕ) (o : Option (Plan MapKind MergeKind)) → o ≡ Some (plan_of ticket)
    → IsReady script old → length old.calls.entries ≤ 500000 → width_of ticket ≤ 1024
    → (p : Place old.pool (width_of ticket) ticket.first (begin call (plan_of ticket) text moment)) → new.pool ≡ created (width_of ticket) (begin call (plan_of ticket) text moment) old.pool
    → new.calls.entries ≡ old.calls.entries ++ (call, Some ticket) ∷ []
    → IsDistinct nat_eq (keys_of new.calls.entries) → new.reached ≡ moment → replay_of new ≡ spec.call_after script (replay_of old) moment call text o
call-after old new script moment call ticket text o planned ready few narrow p made put once reached =
    let j = begun-joined old script call moment ticket text new.calls.entries new.pool ready few narrow p made put once in
    let free = isn't-full script old p.slot p.next ready p.at in
    let stood : standings new.pool new.calls.entries ≡ standings old.pool old.calls.entries ++ spec.stand_new (spec.is_full script (replay_of old)) call (plan_of ticket) text moment ∷ [] =
    ap (standings new.pool) put ∙ j.stands ∙ sym (ap (λ v. standings old.pool old.calls.entries ++ spec.stand_new v call (plan_of ticket) text moment ∷ []) free) in
    rw (planned, reached) (ap (λ (ss : List spec.Standing). record { reached = moment; calls = ss }) stood)

-- What a call line tells where the call took a slot.
pub call-tells : (old : Replay) (script : Script) (call width first : ℕ) (b : Begun) (o : Option (Plan MapKind MergeKind)) (p' : Plan MapKind MergeKind) → o ≡ Some p' → IsReady script old
    → (p : Place old.pool width first b) → spec.call_tells (spec.is_full script (replay_of old)) call o ≡ []
call-tells old script call width first b o p' planned ready p =
    ap (spec.call_tells (spec.is_full script (replay_of old)) call) planned ∙ ap (λ v. spec.new_tells v call) (isn't-full script old p.slot p.next ready p.at)

-- A call that found no slot.
full-joined : (old new : Replay) (script : Script) (call : ℕ) → IsReady script old → new.calls.entries ≡ old.calls.entries ++ (call, None) ∷ []
    → IsDistinct nat_eq (keys_of new.calls.entries) → Joined old.pool old.pool old.calls.entries call None (full call)
full-joined old new script call ready put once = full-begins old.pool old.calls.entries call ready.sound (subst (λ es. IsDistinct nat_eq (keys_of es)) put once)

pub full-ready : (old new : Replay) (script : Script) (call : ℕ) → IsReady script old → lookup (nat_eq call) old.calls.entries ≡ None → new.pool ≡ old.pool → new.wires ≡ old.wires
    → new.marks ≡ old.marks → new.calls.entries ≡ old.calls.entries ++ (call, None) ∷ [] → IsDistinct nat_eq (keys_of new.calls.entries) → IsReady script new
full-ready old new script call ready absent_yet pool wires marks put once =
    let j = full-joined old new script call ready put once in
    record {
      sound = rw (pool, put) j.sound;
      pool = ap length pool ∙ ready.pool;
      wired = rw (pool, put, wires) (wired-full script.servers old.pool old.pool old.calls.entries old.wires.items call absent_yet j ready.wired);
      marked = rw (pool, marks) ready.marked;
      owned = rw (put, marks) (all-owned-more old.calls.entries call None old.marks absent_yet ready.owned);
      served = rw put (All-snoc (λ entry. IsServedIn script.servers entry.1) old.calls.entries (call, None) ready.served tt);
    }

pub full-after : (old new : Replay) (script : Script) (moment call : ℕ) (text : List ℕ) (p' : Plan MapKind MergeKind) (o : Option (Plan MapKind MergeKind)) → o ≡ Some p' → IsReady script old
    → lowest old.pool ≡ None → new.pool ≡ old.pool → new.reached ≡ moment → new.calls.entries ≡ old.calls.entries ++ (call, None) ∷ []
    → IsDistinct nat_eq (keys_of new.calls.entries) → replay_of new ≡ spec.call_after script (replay_of old) moment call text o
full-after old new script moment call text p' o planned ready none pool reached put once =
    let j = full-joined old new script call ready put once in
    let stood : standings new.pool new.calls.entries ≡ standings old.pool old.calls.entries ++ spec.stand_new (spec.is_full script (replay_of old)) call p' text moment ∷ [] =
    rw (pool, put) (j.stands ∙ sym (ap (λ v. standings old.pool old.calls.entries ++ spec.stand_new v call p' text moment ∷ []) (is-full script old ready none))) in
    rw (planned, reached) (ap (λ (ss : List spec.Standing). record { reached = moment; calls = ss }) stood)

pub full-tells : (old : Replay) (script : Script) (call : ℕ) (o : Option (Plan MapKind MergeKind)) (p' : Plan MapKind MergeKind) → o ≡ Some p' → IsReady script old → lowest old.pool ≡ None
    → spec.call_tells (spec.is_full script (replay_of old)) call o ≡ TellsFull call ∷ []
full-tells old script call o p' planned ready none =
    ap (spec.call_tells (spec.is_full script (replay_of old)) call) planned ∙ ap (λ v. spec.new_tells v call) (is-full script old ready none)

-- A number that comes after all others isn't theirs.
pub absent : (entries : List (ℕ × Option Ticket)) (call : ℕ) (rest : List ℕ) → IsDistinct nat_eq (keys_of entries ++ call ∷ rest) → lookup (nat_eq call) entries ≡ None
absent [] call rest d = refl
absent ((number, o) ∷ xs) call rest d =
    let differ : nat_eq number call ≡ false = behind (keys_of xs) call rest number (IsDistinct-head nat_eq number (keys_of xs ++ call ∷ rest) d) in
    ap (λ b. if b then Some o else lookup (nat_eq call) xs) (ne_eqb call number (λ e. eqb-false number call differ (sym e)))
    ∙ absent xs call rest (IsDistinct-tail nat_eq number (keys_of xs ++ call ∷ rest) d)
  where
    behind : (ks : List ℕ) (call : ℕ) (rest : List ℕ) (number : ℕ) → AllByRecursion (λ y. nat_eq number y ≡ false) (ks ++ call ∷ rest) → nat_eq number call ≡ false
    behind [] call rest number h = h.0
    behind (k ∷ ks) call rest number h = behind ks call rest number h.1

-- What a call that took a slot sends at once.
pub first-wires : (old : Replay) (call first : ℕ) (text : List ℕ) (plan : Plan MapKind MergeKind) (o : Option (ℕ × ℕ)) → Some first ≡ option_map (λ p. make_id p.0 p.1) o
    → posted first plan call (start script_kinds plan call text old.reached).sends old.wires.items ≡ first_wires o (Some plan) call text old
first-wires old call first text plan None e = absurd (cc)
first-wires old call first text plan (Some free) e =
    let same : first ≡ make_id free.0 free.1 = cc in ap (λ n. posted n plan call (start script_kinds plan call text old.reached).sends old.wires.items) same
