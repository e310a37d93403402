-- A line of an accepted script raises the bound on the moments of a replay by 2^41, so all stay below 2^60.
use Rattle.std.proofs.Common.{◌≡◌, ℕ, zero, suc, ◌+◌, ◌*◌, ◌^◌, ◌<◌, ◌≤◌, max, Bool, true, false, cond, nat_le, List, [], ◌∷◌, ◌++◌, length, All, find, Option, Some, None, is_some, arith}
use Rattle.std.proofs.Common.{refl, ap, subst, slice_get, length-append}
use Rattle.std.specs.List.{AllByRecursion}
use Rattle.std.proofs.lemmas.List.Elements.{All-nil, All-cons, All-head, All-tail}
use Rattle.rpc_model.specs.declared.event.End.{End}
use Rattle.rpc_model.specs.declared.event.Event.{Event}
use Rattle.rpc_model.specs.declared.event.Event.TheVariants as event
use Rattle.rpc_model.specs.declared.script.Act.{Act}
use Rattle.rpc_model.specs.declared.script.Act.TheVariants.{Call, Cancel, Reply, Lose, Tick, Join}
use Rattle.rpc_model.specs.Limits.{IsWait, IsMoment, moment_of}
use Rattle.rpc_model.specs.Effects.{Mark}
use Rattle.rpc_model.specs.declared.kinds.MapKind.{MapKind}
use Rattle.rpc_model.specs.declared.kinds.MergeKind.{MergeKind}
use Rattle.rpc_model.specs.declared.chan.Chan.{Chan}
use Rattle.rpc_model.specs.declared.chan.Chan.TheVariants as chan
use Rattle.rpc_model.specs.declared.chan.PartChan.{PartChan}
use Rattle.rpc_model.specs.Kinds.{Kinds, script_kinds}
use Rattle.rpc_model.specs.Plan.{Rule, Plan, leaf_plan, par_plan, sel_plan, Plans, and_plan, plans_of, par_over, sel_over, rule_of, subs_of, part_plans, chan_plan, plan_within, plan, tries}
use Rattle.rpc_model.specs.Versions.{nodes, width}
use Rattle.rpc_model.specs.Parallel.{mapped, refused, limits}
use Rattle.rpc_model.specs.State.{State, waits, leaf_state, par_state, sel_state, end_of}
use Rattle.rpc_model.specs.Machine.{start_at, start_subs, start, step, cancelled}
use Rattle.rpc_model.specs.Marks.{Begun, begin, apply, unstarted, marks_left, set_mark, set_all, is_before, least_mark, take_mark, mark_event, weave_at_most, weave_least, weave}
use Rattle.rpc_model.specs.Marks.{finish_at_most, finish_least}
use Rattle.rpc_model.specs.declared.script.Script.{Script}
use Rattle.rpc_model.specs.Told.{Standing, begun, full, told_of, Replay, unbegun, change_first, stand_new, call_after, is_full, event_after, stand_joined, joined, joined_moment, is_call}
use Rattle.rpc_model.specs.Told.{call_event, call_join, after}
use Rattle.model_laws.specs.Logs.{after_all}
use Rattle.model_laws.specs.Soon.{IsSoon, IsShort, AreShort, WaitsShortly, RunIsSoon}
use Rattle.rpc_model.specs.Fits.{IsChan, AreChans, IsNarrow, BeginsNarrow}
use Rattle.model_laws.specs.Moments.{MarkBy, IsSoonBy, StandsBy, IsBy, WaitsEarly, MomentsAreEarly}
use Rattle.model_laws.proofs.Few.{call-step-few, few-par, subs-few, tries-few}
use Rattle.model_laws.proofs.Soon.{start-soon, step-soon}
use Rattle.rpc_model.proofs.Versions.{width-is}

-- ---- lists

pub all-weaker : {X : Type 0} (P Q : X → Type 0) (xs : List X) → ((x : X) → P x → Q x) → AllByRecursion P xs → AllByRecursion Q xs
all-weaker {X} P Q [] weaker h = tt
all-weaker {X} P Q (x ∷ xs) weaker h = (weaker x h.0, all-weaker P Q xs weaker h.1)

all-push : {X : Type 0} (P : X → Type 0) (xs : List X) (x : X) → AllByRecursion P xs → P x → AllByRecursion P (xs ++ x ∷ [])
all-push {X} P [] x h hx = (hx, tt)
all-push {X} P (y ∷ ys) x h hx = (h.0, all-push P ys x h.1 hx)

set-all : (P : Mark → Type 0) (m : Mark) (xs : List Mark) → P m → AllByRecursion P xs → AllByRecursion P (set_mark m xs)
set-all P m [] h hs = (h, tt)
set-all P m (x ∷ xs) h hs = elim (is_before m x) as (λ v. AllByRecursion P (cond v (m ∷ x ∷ xs) (x ∷ set_mark m xs))) [ true ↦ (h, hs) | false ↦ (hs.0, set-all P m xs h hs.1) ]

pub sets-all : (P : Mark → Type 0) (ms xs : List Mark) → AllByRecursion P ms → AllByRecursion P xs → AllByRecursion P (set_all ms xs)
sets-all P [] xs h hs = hs
sets-all P (m ∷ ms) xs h hs = sets-all P ms (set_mark m xs) h.1 (set-all P m xs h.0 hs)

-- ---- a step

module _ {M G : Type 0} (kinds : Kinds M G) where
  cancelled-short : (state : State M G) → WaitsShortly state → WaitsShortly (cancelled state)
  cancelled-short (waits plan) h = h
  cancelled-short (leaf_state chan request leaf) h = tt
  cancelled-short (par_state par states) h = h
  cancelled-short (sel_state sel states) h = h

  call-step-soon : (call : ℕ) (state : State M G) (e : Event) (m : ℕ) → WaitsShortly state → RunIsSoon m (step kinds call state e m)
  call-step-soon call state (event.Reply node attempt code text) m h = step-soon kinds 0 state call (event.Reply node attempt code text) m h
  call-step-soon call state (event.Lost node attempt code) m h = step-soon kinds 0 state call (event.Lost node attempt code) m h
  call-step-soon call state (event.Backup node) m h = step-soon kinds 0 state call (event.Backup node) m h
  call-step-soon call state (event.Deadline node) m h = step-soon kinds 0 state call (event.Deadline node) m h
  call-step-soon call state event.Cancel m h = (tt, cancelled-short state h)

  -- A call that starts has started its root.
  root-started : (node : ℕ) (plan : Plan M G) (call : ℕ) (request : List ℕ) (m : ℕ) → unstarted (start_at kinds node plan call request m).state + 1 ≤ nodes plan
  root-started node (leaf_plan leaf) call request m = omega arith
  root-started node (par_plan rule plans) call request m =
      let asked = mapped kinds.map rule.maps request in
      let few = few-par kinds plans (start_subs kinds (node + 1) plans call asked (limits rule asked) rule.merges m []) (refused asked)
      (subs-few kinds (node + 1) plans call asked (limits rule asked) rule.merges m []) in
      omega (arith, few)
  root-started node (sel_plan timeout plans) call request m = let few = tries-few kinds (node + 1) plans call request m in omega (arith, few)

-- an event whose moment leaves time for every node that may be started yet
InTime : ℕ → ℕ → ℕ → Type 0
InTime bound unstarted moment = moment + unstarted * 2 ^ 31 ≤ bound + 2 ^ 41

marks-later : (bound before now : ℕ) (marks : List Mark) → now ≤ before → AllByRecursion (MarkBy bound before) marks → AllByRecursion (MarkBy bound now) marks
marks-later bound before now marks le h = all-weaker (MarkBy bound before) (MarkBy bound now) marks (λ mark soon. omega (arith, soon, le)) h

-- the marks that a step set, at most twice as many as the nodes that it started
new-marks : (bound before now moment : ℕ) (marks : List Mark) → InTime bound before moment → length marks + 2 * now ≤ 2 * before → AllByRecursion (IsSoon moment) marks
    → AllByRecursion (MarkBy bound now) marks
unfolding InTime
new-marks bound before now moment [] early few h = tt
new-marks bound before now moment (mark ∷ marks) early few h =
    let less : now + 1 ≤ before = omega (arith, few) in
    all-weaker (IsSoon moment) (MarkBy bound now) (mark ∷ marks) (λ m soon. omega (arith, soon, less, early)) h

apply-by : (bound : ℕ) (b : Begun) (e : Event) (moment : ℕ) → InTime bound (unstarted b.state) moment → IsSoonBy bound b → IsSoonBy bound (apply b e moment)
apply-by bound b e moment early h =
    let run = step script_kinds b.call b.state e moment in
    let few = call-step-few script_kinds b.call b.state e moment in
    let soon = call-step-soon script_kinds b.call b.state e moment h.short in
    let bound_is = h.few in
    record {
      marks =
          sets-all (MarkBy bound (unstarted run.state)) run.marks b.waiting (new-marks bound (unstarted b.state) (unstarted run.state) moment run.marks early few soon.0)
          (marks-later bound (unstarted b.state) (unstarted run.state) b.waiting (omega (arith, few)) h.marks);
      short = soon.1;
      few = omega (arith, few, bound_is);
    }

taken-by : (bound : ℕ) (b : Begun) (mark : Mark) (others : List Mark) → least_mark b.waiting ≡ Some (mark, others) → IsSoonBy bound b → MarkBy bound (unstarted b.state) mark
    × IsSoonBy bound (take_mark b mark others)
unfolding InTime
taken-by bound b mark others e h =
    let first = split b.waiting e h.marks in
    (first.0, apply-by bound (record b { waiting = others }) (mark_event mark.node mark.backup) mark.moment first.0 (record { marks = first.1; short = h.short; few = h.few }))
  where
    split : (xs : List Mark) → least_mark xs ≡ Some (mark, others) → AllByRecursion (MarkBy bound (unstarted b.state)) xs → MarkBy bound (unstarted b.state) mark
        × AllByRecursion (MarkBy bound (unstarted b.state)) others
    split [] e hs = absurd (cc)
    split (x ∷ xs) e hs =
        let same : (x, xs) ≡ (mark, others) = cc in
        subst (λ (p : Mark × List Mark). MarkBy bound (unstarted b.state) p.0 × AllByRecursion (MarkBy bound (unstarted b.state)) p.1) same hs

weave-met : (bound : ℕ) (again : Begun → Begun) (moment : ℕ) (b : Begun) (o : Option (Mark × List Mark)) → least_mark b.waiting ≡ o → ((d : Begun) → IsSoonBy bound d → IsSoonBy bound (again d))
    → IsSoonBy bound b → IsSoonBy bound (weave_least again moment b o)
weave-met bound again moment b None e keeps h = h
weave-met bound again moment b (Some (mark, others)) e keeps h =
    elim (nat_le mark.moment moment) as (λ v. IsSoonBy bound (cond v (again (take_mark b mark others)) b)) [ true ↦ keeps (take_mark b mark others) (taken-by bound b mark others e h).1 | false ↦ h ]

weave-by : (bound count moment : ℕ) (b : Begun) → IsSoonBy bound b → IsSoonBy bound (weave_at_most count moment b)
weave-by bound zero moment b h = h
weave-by bound (suc count) moment b h = weave-met bound (weave_at_most count moment) moment b (least_mark b.waiting) refl (λ d hd. weave-by bound count moment d hd) h

FinishedBy : ℕ → ℕ × Begun → Type 0
FinishedBy bound p = (p.0 ≤ bound + 2 ^ 41) × IsSoonBy bound p.1

finish-met : (bound : ℕ) (again : ℕ → Begun → ℕ × Begun) (reached : ℕ) (b : Begun) (o : Option (Mark × List Mark)) → least_mark b.waiting ≡ o
    → ((r : ℕ) (d : Begun) → r ≤ bound + 2 ^ 41 → IsSoonBy bound d → FinishedBy bound (again r d))
    → reached ≤ bound + 2 ^ 41 → IsSoonBy bound b → FinishedBy bound (finish_least again reached b o)
unfolding FinishedBy
finish-met bound again reached b None e keeps r h = (r, h)
finish-met bound again reached b (Some (mark, others)) e keeps r h =
    let taken = taken-by bound b mark others e h in
    let soon : mark.moment + unstarted b.state * 2 ^ 31 ≤ bound + 2 ^ 41 = taken.0 in
    keeps (max reached mark.moment) (take_mark b mark others) (omega (arith, soon, r)) taken.1

finish-by : (bound count reached : ℕ) (b : Begun) → reached ≤ bound + 2 ^ 41 → IsSoonBy bound b → FinishedBy bound (finish_at_most count reached b)
unfolding FinishedBy
finish-by bound zero reached b r h = (r, h)
finish-by bound (suc count) reached b r h =
    elim (is_some (end_of b.state)) as (λ v. FinishedBy bound (cond v (reached, b) (finish_least (finish_at_most count) reached b (least_mark b.waiting)))) [
      | true ↦ (r, h)
      | false ↦ finish-met bound (finish_at_most count) reached b (least_mark b.waiting) refl (λ s d hs hd. finish-by bound count s d hs hd) r h
    ]

-- ---- a call that stands

event_after-by : (bound : ℕ) (e : Event) (moment : ℕ) (s : Standing) → moment ≤ bound → StandsBy bound s → StandsBy bound (event_after e moment s)
unfolding InTime
event_after-by bound e moment (begun b) early h =
    let woven = weave-by bound (marks_left b) moment b h in
    let few = woven.few in
    apply-by bound (weave moment b) e moment (omega (arith, few, early)) woven
event_after-by bound e moment (full call) early h = tt
event_after-by bound e moment (told_of call) early h = tt

stand_joined-by : (bound : ℕ) (b : Begun) (end : Option End) → IsSoonBy bound b → StandsBy bound (stand_joined b end)
stand_joined-by bound b None h = h
stand_joined-by bound b (Some end) h = tt

joined-by : (bound reached : ℕ) (s : Standing) → reached ≤ bound → StandsBy bound s → StandsBy bound (joined reached s)
unfolding FinishedBy
joined-by bound reached (begun b) r h = stand_joined-by bound _ _ (finish-by bound (marks_left b) reached b (omega (arith, r)) h).1
joined-by bound reached (full call) r h = tt
joined-by bound reached (told_of call) r h = tt

change-by : (P : Standing → Type 0) (t : Standing → Bool) (f : Standing → Standing) → ((s : Standing) → P s → P (f s)) → (xs : List Standing) → AllByRecursion P xs
    → AllByRecursion P (change_first t f xs)
change-by P t f keeps [] h = h
change-by P t f keeps (x ∷ xs) h = elim (t x) as (λ v. AllByRecursion P (cond v (f x ∷ xs) (x ∷ change_first t f xs))) [ true ↦ (keeps x h.0, h.1) | false ↦ (h.0, change-by P t f keeps xs h.1) ]

FoundBy : ℕ → Option Standing → Type 0
FoundBy bound None = Unit {0}
FoundBy bound (Some s) = StandsBy bound s

find-by : (bound : ℕ) (t : Standing → Bool) (xs : List Standing) → AllByRecursion (StandsBy bound) xs → FoundBy bound (find t xs)
unfolding FoundBy
find-by bound t [] h = tt
find-by bound t (x ∷ xs) h = elim (t x) as (λ v. FoundBy bound (cond v (Some x) (find t xs))) [ true ↦ h.0 | false ↦ find-by bound t xs h.1 ]

joined_moment-by : (bound reached : ℕ) (o : Option Standing) → reached ≤ bound → FoundBy bound o → joined_moment reached o ≤ bound + 2 ^ 41
unfolding FoundBy FinishedBy
joined_moment-by bound reached None r h = omega (arith, r)
joined_moment-by bound reached (Some (begun b)) r h = (finish-by bound (marks_left b) reached b (omega (arith, r)) h).0
joined_moment-by bound reached (Some (full call)) r h = omega (arith, r)
joined_moment-by bound reached (Some (told_of call)) r h = omega (arith, r)

-- A higher bound holds too.
stands-later : (bound : ℕ) (s : Standing) → StandsBy bound s → StandsBy (bound + 2 ^ 41) s
stands-later bound (begun b) h = record {
  marks = all-weaker (MarkBy bound (unstarted b.state)) (MarkBy (bound + 2 ^ 41) (unstarted b.state)) b.waiting
      (λ mark soon. let early : mark.moment + unstarted b.state * 2 ^ 31 ≤ bound + 2 ^ 41 = soon in omega (arith, early)) h.marks;
  short = h.short;
  few = h.few;
}
stands-later bound (full call) h = tt
stands-later bound (told_of call) h = tt

calls-later : (bound : ℕ) (calls : List Standing) → AllByRecursion (StandsBy bound) calls → AllByRecursion (StandsBy (bound + 2 ^ 41)) calls
calls-later bound calls h = all-weaker (StandsBy bound) (StandsBy (bound + 2 ^ 41)) calls (stands-later bound) h

-- ---- the plan of a channel of an accepted script has short waits

module _ {M G : Type 0} where
  abbrev ShortIf : Option (Plan M G) → Type 0
  ShortIf None = Unit {0}
  ShortIf (Some plan) = IsShort plan

  abbrev ShortAll : Option (Plans M G) → Type 0
  ShortAll None = Unit {0}
  ShortAll (Some plans) = AreShort plans

  short-and : (one : Option (Plan M G)) (rest : Option (Plans M G)) → ShortIf one → ShortAll rest → ShortAll (and_plan one rest)
  short-and None rest h hs = tt
  short-and (Some plan) None h hs = tt
  short-and (Some plan) (Some plans) h hs = (h, hs)

  short-plans : (plan_of : ℕ → Option (Plan M G)) (numbers : List ℕ) → ((number : ℕ) → ShortIf (plan_of number)) → ShortAll (plans_of plan_of numbers)
  short-plans plan_of [] h = tt
  short-plans plan_of (number ∷ numbers) h = short-and (plan_of number) (plans_of plan_of numbers) (h number) (short-plans plan_of numbers h)

  short-parts : (part : PartChan M G) (first count : ℕ) → IsWait part.backup → AreShort (part_plans part first count)
  short-parts part first zero h = tt
  short-parts part first (suc count) h = ((tt, h), short-parts part (first + 1) count h)

  short-par : (rule : Rule M G) (plans : Option (Plans M G)) → IsWait rule.timeout → ShortAll plans → ShortIf (par_over rule plans)
  short-par rule None w h = tt
  short-par rule (Some plans) w h = (w, h)

  short-sel : (timeout : Option ℕ) (plans : Option (Plans M G)) → IsWait timeout → ShortAll plans → ShortIf (sel_over timeout plans)
  short-sel timeout None w h = tt
  short-sel timeout (Some plans) w h = (w, h)

  abbrev ChanIf : ℕ → ℕ → Option (Chan M G) → Type 0
  ChanIf servers number None = Unit {0}
  ChanIf servers number (Some c) = IsChan servers number c

  chan-at : (servers first : ℕ) (chans : List (Chan M G)) (number : ℕ) → AreChans servers first chans → (at : ℕ) × ChanIf servers at (slice_get chans number)
  chan-at servers first [] number h = (0, tt)
  chan-at servers first (c ∷ chans) zero h = (first, h.0)
  chan-at servers first (c ∷ chans) (suc number) h = chan-at servers (suc first) chans number h.1

  short-chan : (plan_of : ℕ → Option (Plan M G)) (call servers number : ℕ) (c : Option (Chan M G)) → ChanIf servers number c → ((n : ℕ) → ShortIf (plan_of n)) → ShortIf (chan_plan plan_of call c)
  short-chan plan_of call servers number None fit h = tt
  short-chan plan_of call servers number (Some (chan.Leaf leaf)) fit h = (fit.timeout, fit.backup)
  short-chan plan_of call servers number (Some (chan.Par par)) fit h = short-par (rule_of par) (plans_of plan_of (subs_of par)) fit.timeout (short-plans plan_of (subs_of par) h)
  short-chan plan_of call servers number (Some (chan.Sel sel)) fit h = short-sel sel.timeout (plans_of plan_of (tries sel call)) fit.timeout (short-plans plan_of (tries sel call) h)
  short-chan plan_of call servers number (Some (chan.Part part)) fit h = (fit.timeout, short-parts part 0 part.parts fit.backup)

  short-within : (depth servers : ℕ) (chans : List (Chan M G)) (call number : ℕ) → AreChans servers 0 chans → ShortIf (plan_within depth chans call number)
  short-within zero servers chans call number h = tt
  short-within (suc depth) servers chans call number h =
      let at = chan-at servers 0 chans number h in
      short-chan (plan_within depth chans call) call servers at.0 (slice_get chans number) at.1 (λ n. short-within depth servers chans call n h)

-- ---- a line

begin-by : (bound call : ℕ) (p : Plan MapKind MergeKind) (text : List ℕ) (moment : ℕ) → moment ≤ bound → IsShort p → width p ≤ 1024 → IsSoonBy bound (begin call p text moment)
begin-by bound call p text moment early short narrow =
    let run = start script_kinds p call text moment in
    let soon = start-soon script_kinds 0 p call text moment short in
    let root = root-started script_kinds 0 p call text moment in
    let wide = width-is p in
    let few : unstarted run.state ≤ 1023 = omega (arith, root, wide, narrow) in
    record {
      marks = sets-all (MarkBy bound (unstarted run.state)) run.marks [] (all-weaker (IsSoon moment) (MarkBy bound (unstarted run.state)) run.marks
          (λ mark h. omega (arith, h, few, early)) soon.0) tt;
      short = soon.1;
      few = few;
    }

stand_new-by : (bound : ℕ) (f : Bool) (call : ℕ) (p : Plan MapKind MergeKind) (text : List ℕ) (moment : ℕ) → moment ≤ bound → IsShort p → width p ≤ 1024
    → StandsBy bound (stand_new f call p text moment)
stand_new-by bound true call p text moment early short narrow = tt
stand_new-by bound false call p text moment early short narrow = begin-by bound call p text moment early short narrow

call_after-by : (bound : ℕ) (script : Script) (replay : Replay) (moment call : ℕ) (text : List ℕ) (o : Option (Plan MapKind MergeKind)) → moment ≤ bound → ShortIf o → IsNarrow o → IsBy bound replay
    → IsBy (bound + 2 ^ 41) (call_after script replay moment call text o)
call_after-by bound script replay moment call text None early short narrow by' = record { moment = omega (arith, early); calls = calls-later bound replay.calls by'.calls }
call_after-by bound script replay moment call text (Some p) early short narrow by' = record {
  moment = omega (arith, early);
  calls = calls-later bound _ (all-push (StandsBy bound) replay.calls _ by'.calls (stand_new-by bound (is_full script replay) call p text moment early short narrow));
}

call_event-by : (bound : ℕ) (replay : Replay) (moment call : ℕ) (e : Event) → moment ≤ bound → IsBy bound replay → IsBy (bound + 2 ^ 41) (call_event replay moment call e)
call_event-by bound replay moment call e early by' = record {
  moment = omega (arith, early);
  calls = calls-later bound _ (change-by (StandsBy bound) (is_call call) (event_after e moment) (λ s h. event_after-by bound e moment s early h) replay.calls by'.calls);
}

call_join-by : (bound : ℕ) (replay : Replay) (call : ℕ) → IsBy bound replay → IsBy (bound + 2 ^ 41) (call_join replay call)
call_join-by bound replay call by' = record {
  moment = joined_moment-by bound replay.reached (find (is_call call) replay.calls) by'.moment (find-by bound (is_call call) replay.calls by'.calls);
  calls = calls-later bound _ (change-by (StandsBy bound) (is_call call) (joined replay.reached) (λ s h. joined-by bound replay.reached s by'.moment h) replay.calls by'.calls);
}

-- A line whose moment is within the bound.
pub after-by : (bound servers : ℕ) (script : Script) (replay : Replay) (act : Act) → AreChans servers 0 script.chans → BeginsNarrow script.chans act → moment_of act ≤ bound → IsBy bound replay
    → IsBy (bound + 2 ^ 41) (after script replay act)
unfolding after
after-by bound servers script replay (Call at call chan text) channels narrow early by' =
    call_after-by bound script replay (max replay.reached at) call text (plan script.chans chan call) (let m = by'.moment in omega (arith, m, early))
    (short-within (suc chan) servers script.chans call chan channels) narrow by'
after-by bound servers script replay (Cancel at call) channels narrow early by' = call_event-by bound replay (max replay.reached at) call event.Cancel
    (let m = by'.moment in omega (arith, m, early)) by'
after-by bound servers script replay (Reply at call node attempt code text) channels narrow early by' =
    call_event-by bound replay (max replay.reached at) call (event.Reply node attempt code text) (let m = by'.moment in omega (arith, m, early)) by'
after-by bound servers script replay (Lose at call node attempt code) channels narrow early by' =
    call_event-by bound replay (max replay.reached at) call (event.Lost node attempt code) (let m = by'.moment in omega (arith, m, early)) by'
after-by bound servers script replay (Tick at) channels narrow early by' = record { moment = (let m = by'.moment in omega (arith, m, early)); calls = calls-later bound replay.calls by'.calls }
after-by bound servers script replay (Join call) channels narrow early by' = call_join-by bound replay call by'

-- ---- all lines

lines-by : (bound servers : ℕ) (script : Script) (replay : Replay) (acts : List Act) → AreChans servers 0 script.chans → All (BeginsNarrow script.chans) acts → All IsMoment acts → 2 ^ 53 ≤ bound
    → IsBy bound replay
    → IsBy (bound + length acts * 2 ^ 41) (after_all script replay acts)
lines-by bound servers script replay [] channels narrow moments high by' = let same : bound ≡ bound + 0 * 2 ^ 41 = omega arith in subst (λ b. IsBy b replay) same by'
lines-by bound servers script replay (act ∷ acts) channels narrow moments high by' =
    let early : moment_of act < 2 ^ 53 = All-head IsMoment act acts moments in
    let one = after-by bound servers script replay act channels (All-head (BeginsNarrow script.chans) act acts narrow) (omega (arith, early, high)) by' in
    let more = lines-by (bound + 2 ^ 41) servers script (after script replay act) acts channels (All-tail (BeginsNarrow script.chans) act acts narrow) (All-tail IsMoment act acts moments)
    (omega (arith, high)) one in
    let same : bound + 2 ^ 41 + length acts * 2 ^ 41 ≡ bound + suc (length acts) * 2 ^ 41 = omega arith in
    subst (λ b. IsBy b (after_all script (after script replay act) acts)) same more

stands-early : (bound : ℕ) (s : Standing) → bound + 2 ^ 41 < 2 ^ 60 → StandsBy bound s → WaitsEarly s
stands-early bound (begun b) low h = all-weaker (MarkBy bound (unstarted b.state)) (λ mark. mark.moment < 2 ^ 60) b.waiting
    (λ mark soon. let early : mark.moment + unstarted b.state * 2 ^ 31 ≤ bound + 2 ^ 41 = soon in omega (arith, early, low)) h.marks
stands-early bound (full call) low h = tt
stands-early bound (told_of call) low h = tt

pub moments-early : MomentsAreEarly
moments-early script acts more fits is =
    let bound = 2 ^ 53 + length acts * 2 ^ 41 in
    let narrow = all-before (BeginsNarrow script.chans) acts more (subst (All (BeginsNarrow script.chans)) is fits.widths) in
    let moments = all-before IsMoment acts more (subst (All IsMoment) is fits.moments) in
    let start_by : IsBy (2 ^ 53) unbegun = record { moment = omega arith; calls = tt } in
    let by' = lines-by (2 ^ 53) script.servers script unbegun acts fits.channels narrow moments (omega arith) start_by in
    let lines = fits.lines in
    let l = ap length is in
    let both = length-append acts more in
    let few : length acts ≤ 500000 = omega (arith, lines, l, both) in
    let low : bound + 2 ^ 41 < 2 ^ 60 = omega (arith, few) in
    let reached = by'.moment in
    (omega (arith, reached, low), all-weaker (StandsBy bound) WaitsEarly (after_all script unbegun acts).calls (λ s h. stands-early bound s low h) by'.calls)
  where
    all-before : (P : Act → Type 0) (xs ys : List Act) → All P (xs ++ ys) → All P xs
    all-before P [] ys h = All-nil P
    all-before P (x ∷ xs) ys h = All-cons P x xs (All-head P x (xs ++ ys) h) (all-before P xs ys (All-tail P x (xs ++ ys) h))
