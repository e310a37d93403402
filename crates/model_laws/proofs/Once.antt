-- A call whose end was told is told no more.
use Rattle.std.proofs.Common.{◌≡◌, ℕ, zero, suc, ◌≤◌, ◌⊎◌, inl, inr, Bool, true, false, cond, ◌==◌, nat_le, List, [], ◌∷◌, ◌++◌, max, find, count_by, Option, Some, None, is_some, arith}
use Rattle.std.proofs.Common.{refl, ap, sym, ◌∙◌, subst}
use Rattle.std.specs.Option.{option_map}
use Rattle.std.proofs.lemmas.List.Sums.{sum_by-append}
use Rattle.rpc_model.specs.declared.event.End.{End}
use Rattle.rpc_model.specs.declared.event.Event.{Event}
use Rattle.rpc_model.specs.declared.event.Event.TheVariants as event
use Rattle.rpc_model.specs.declared.script.Act.{Act}
use Rattle.rpc_model.specs.declared.script.Act.TheVariants.{Call, Cancel, Reply, Lose, Tick, Join}
use Rattle.rpc_model.specs.Effects.{Mark}
use Rattle.rpc_model.specs.Marks.{Begun, least_mark, take_mark, weave_at_most, weave_least, marks_left, finish_at_most, finish_least, finish}
use Rattle.rpc_model.specs.declared.script.Script.{Script}
use Rattle.rpc_model.specs.Told.{Standing, begun, full, told_of, Replay, unbegun, number_of, is_call, change_first, is_full, call_after, event_after, call_event, stand_joined, joined}
use Rattle.rpc_model.specs.Told.{call_join, join_end, join_tells, call_tells, new_tells, after, tells, told_from, told}
use Rattle.model_laws.specs.Heard.{is_end_of}
use Rattle.rpc_model.specs.declared.kinds.MapKind.{MapKind}
use Rattle.rpc_model.specs.declared.kinds.MergeKind.{MergeKind}
use Rattle.rpc_model.specs.Plan.{Plan, plan}
use Rattle.rpc_model.specs.State.{end_of}

-- ---- a call keeps its number

weave_least-call : (again : Begun → Begun) (moment : ℕ) (b : Begun) (o : Option (Mark × List Mark)) → ((d : Begun) → (again d).call ≡ d.call) → (weave_least again moment b o).call ≡ b.call
weave_least-call again moment b None keeps = refl
weave_least-call again moment b (Some (mark, others)) keeps =
    elim (nat_le mark.moment moment) as (λ v. (cond v (again (take_mark b mark others)) b).call ≡ b.call) [ true ↦ keeps (take_mark b mark others) | false ↦ refl ]

pub weave-call : (count moment : ℕ) (b : Begun) → (weave_at_most count moment b).call ≡ b.call
weave-call zero moment b = refl
weave-call (suc count) moment b = weave_least-call (weave_at_most count moment) moment b (least_mark b.waiting) (λ d. weave-call count moment d)

finish_least-call : (again : ℕ → Begun → ℕ × Begun) (reached : ℕ) (b : Begun) (o : Option (Mark × List Mark)) → ((r : ℕ) (d : Begun) → (again r d).1.call ≡ d.call)
    → (finish_least again reached b o).1.call ≡ b.call
finish_least-call again reached b None keeps = refl
finish_least-call again reached b (Some (mark, others)) keeps = keeps (max reached mark.moment) (take_mark b mark others)

pub finish-call : (count reached : ℕ) (b : Begun) → (finish_at_most count reached b).1.call ≡ b.call
finish-call zero reached b = refl
finish-call (suc count) reached b =
    elim (is_some (end_of b.state)) as (λ v. (cond v (reached, b) (finish_least (finish_at_most count) reached b (least_mark b.waiting))).1.call ≡ b.call) [
      | true ↦ refl
      | false ↦ finish_least-call (finish_at_most count) reached b (least_mark b.waiting) (λ r d. finish-call count r d)
    ]

pub event-number : (e : Event) (moment : ℕ) (s : Standing) → number_of (event_after e moment s) ≡ number_of s
event-number e moment (begun b) = weave-call (marks_left b) moment b
event-number e moment (full call) = refl
event-number e moment (told_of call) = refl

stand_joined-number : (b : Begun) (end : Option End) → number_of (stand_joined b end) ≡ b.call
stand_joined-number b None = refl
stand_joined-number b (Some end) = refl

pub joined-number : (reached : ℕ) (s : Standing) → number_of (joined reached s) ≡ number_of s
joined-number reached (begun b) = let b' = (finish reached b).1 in stand_joined-number b' (end_of b'.state) ∙ finish-call (marks_left b) reached b
joined-number reached (full call) = refl
joined-number reached (told_of call) = refl

-- ---- where a call is found after a change of another, and of itself

pub find-other : (c d : ℕ) (f : Standing → Standing) → ((s : Standing) → number_of (f s) ≡ number_of s) → (c ≡ d → ⊥) → (xs : List Standing)
    → find (is_call c) (change_first (is_call d) f xs) ≡ find (is_call c) xs
find-other c d f keeps differ [] = refl
find-other c d f keeps differ (x ∷ xs) =
    elim (number_of x == d) as (λ v. (number_of x == d) ≡ v → find (is_call c) (cond v (f x ∷ xs) (x ∷ change_first (is_call d) f xs)) ≡ find (is_call c) (x ∷ xs)) [
      | true ↦ λ e.
          let other : (number_of x == c) ≡ false = grind arith in
          let still : (number_of (f x) == c) ≡ false = rw keeps other in
          rw (still, other)
      | false ↦ λ e. ap (λ (o : Option Standing). cond (number_of x == c) (Some x) o) (find-other c d f keeps differ xs)
    ] refl

pub find-same : (c : ℕ) (f : Standing → Standing) → ((s : Standing) → number_of (f s) ≡ number_of s) → (xs : List Standing)
    → find (is_call c) (change_first (is_call c) f xs) ≡ option_map f (find (is_call c) xs)
find-same c f keeps [] = refl
find-same c f keeps (x ∷ xs) =
    elim (number_of x == c) as (λ v. (number_of x == c) ≡ v → find (is_call c) (cond v (f x ∷ xs) (x ∷ change_first (is_call c) f xs)) ≡ option_map f (cond v (Some x) (find (is_call c) xs))) [
      | true ↦ λ e. let still : (number_of (f x) == c) ≡ true = rw keeps e in rw still
      | false ↦ λ e. rw e (find-same c f keeps xs)
    ] refl

pub find-number : (c : ℕ) (xs : List Standing) (s : Standing) → find (is_call c) xs ≡ Some s → number_of s ≡ c
find-number c [] s e = cc
find-number c (x ∷ xs) s e =
    elim (number_of x == c) as (λ v. (number_of x == c) ≡ v → cond v (Some x) (find (is_call c) xs) ≡ Some s → number_of s ≡ c) [
      | true ↦ λ here found. let same : x ≡ s = cc in subst (λ (y : Standing). number_of y ≡ c) same (grind arith)
      | false ↦ λ here found. find-number c xs s found
    ] refl e

-- ---- a call that was told, or found no slot

abbrev pub SilentStand : Standing → Type 0
SilentStand (begun b) = ⊥
SilentStand (full call) = Unit {0}
SilentStand (told_of call) = Unit {0}

abbrev pub Silent : Option Standing → Type 0
Silent None = ⊥
Silent (Some s) = SilentStand s

silent-event : (e : Event) (moment : ℕ) (o : Option Standing) → Silent o → Silent (option_map (event_after e moment) o)
silent-event e moment None h = h
silent-event e moment (Some (begun b)) h = absurd h
silent-event e moment (Some (full call)) h = tt
silent-event e moment (Some (told_of call)) h = tt

silent-joined : (reached : ℕ) (o : Option Standing) → Silent o → Silent (option_map (joined reached) o)
silent-joined reached None h = h
silent-joined reached (Some (begun b)) h = absurd h
silent-joined reached (Some (full call)) h = tt
silent-joined reached (Some (told_of call)) h = tt

silent-pushed : (c : ℕ) (xs : List Standing) (s : Standing) → Silent (find (is_call c) xs) → Silent (find (is_call c) (xs ++ s ∷ []))
silent-pushed c [] s h = absurd h
silent-pushed c (x ∷ xs) s h =
    elim (number_of x == c) as (λ v. Silent (cond v (Some x) (find (is_call c) xs)) → Silent
    (cond v (Some x) (find (is_call c) (xs ++ s ∷ [])))) [ true ↦ λ here. here | false ↦ λ later. silent-pushed c xs s later ] h

pub equal_or_not : (c d : ℕ) → (c ≡ d) ⊎ (c ≡ d → ⊥)
equal_or_not c d = elim (c == d) as (λ v. (c == d) ≡ v → (c ≡ d) ⊎ (c ≡ d → ⊥)) [ true ↦ λ e. inl (grind arith) | false ↦ λ e. inr (λ same. grind arith) ] refl

silent-changed : (c call : ℕ) (f : Standing → Standing) (xs : List Standing) → ((s : Standing) → number_of (f s) ≡ number_of s) → ((o : Option Standing) → Silent o → Silent (option_map f o))
    → (c ≡ call) ⊎ (c ≡ call → ⊥) → Silent (find (is_call c) xs) → Silent (find (is_call c) (change_first (is_call call) f xs))
silent-changed c call f xs keeps stays (inl same) h =
    let found : find (is_call c) (change_first (is_call c) f xs) ≡ option_map f (find (is_call c) xs) = find-same c f keeps xs in
    subst (λ (d : ℕ). Silent (find (is_call c) (change_first (is_call d) f xs))) same (rw found (stays (find (is_call c) xs) h))
silent-changed c call f xs keeps stays (inr differ) h =
    let found : find (is_call c) (change_first (is_call call) f xs) ≡ find (is_call c) xs = find-other c call f keeps differ xs in
    rw found h

silent-call_event : (c : ℕ) (replay : Replay) (moment call : ℕ) (e : Event) → Silent (find (is_call c) replay.calls) → Silent (find (is_call c) (call_event replay moment call e).calls)
silent-call_event c replay moment call e h =
    silent-changed c call (event_after e moment) replay.calls (event-number e moment) (silent-event e moment) (equal_or_not c call) h

silent-call_join : (c : ℕ) (replay : Replay) (call : ℕ) → Silent (find (is_call c) replay.calls) → Silent (find (is_call c) (call_join replay call).calls)
silent-call_join c replay call h =
    silent-changed c call (joined replay.reached) replay.calls (joined-number replay.reached) (silent-joined replay.reached) (equal_or_not c call) h

silent-call_after : (c : ℕ) (script : Script) (replay : Replay) (moment call : ℕ) (text : List ℕ) (o : Option (Plan MapKind MergeKind)) → Silent (find (is_call c) replay.calls)
    → Silent (find (is_call c) (call_after script replay moment call text o).calls)
silent-call_after c script replay moment call text None h = h
silent-call_after c script replay moment call text (Some p) h = silent-pushed c replay.calls _ h

pub silent-after : (c : ℕ) (script : Script) (replay : Replay) (act : Act) → Silent (find (is_call c) replay.calls) → Silent (find (is_call c) (after script replay act).calls)
unfolding after
silent-after c script replay (Call at call chan text) h = silent-call_after c script replay (max replay.reached at) call text (plan script.chans chan call) h
silent-after c script replay (Cancel at call) h = silent-call_event c replay (max replay.reached at) call event.Cancel h
silent-after c script replay (Reply at call node attempt code text) h = silent-call_event c replay (max replay.reached at) call (event.Reply node attempt code text) h
silent-after c script replay (Lose at call node attempt code) h = silent-call_event c replay (max replay.reached at) call (event.Lost node attempt code) h
silent-after c script replay (Tick at) h = h
silent-after c script replay (Join call) h = silent-call_join c replay call h

-- ---- what a line tells of a call's end

new_tells-none : (c : ℕ) (v : Bool) (call : ℕ) → count_by (is_end_of c) (new_tells v call) ≡ 0
new_tells-none c true call = refl
new_tells-none c false call = refl

pub call_tells-none : (c : ℕ) (v : Bool) (call : ℕ) (o : Option (Plan MapKind MergeKind)) → count_by (is_end_of c) (call_tells v call o) ≡ 0
call_tells-none c v call None = refl
call_tells-none c v call (Some p) = new_tells-none c v call

-- A join of a standing tells no end of this call; or it tells one, the standing is this call's, and it is told from then on.
abbrev pub NumberIs : ℕ → Option Standing → Type 0
NumberIs c None = ⊥
NumberIs c (Some s) = number_of s ≡ c

abbrev pub JoinTells : ℕ → ℕ → Option Standing → Type 0
JoinTells c reached o = (count_by (is_end_of c) (join_tells reached o) ≡ 0) ⊎ ((count_by (is_end_of c) (join_tells reached o) ≡ 1) × NumberIs c o × Silent (option_map (joined reached) o))

join_end-tells : (c : ℕ) (b : Begun) (end : Option End) → (count_by (is_end_of c) (join_end b end ∷ []) ≡ 0)
    ⊎ ((count_by (is_end_of c) (join_end b end ∷ []) ≡ 1) × (b.call ≡ c) × SilentStand (stand_joined b end))
join_end-tells c b None = inl refl
join_end-tells c b (Some end) = ended-counts (b.call == c) refl
  where
    ended-counts : (v : Bool) → (b.call == c) ≡ v → (count_by (is_end_of c) (join_end b (Some end) ∷ []) ≡ 0) ⊎ ((count_by (is_end_of c) (join_end b (Some end) ∷ []) ≡ 1) × (b.call ≡ c) × Unit {0})
    ended-counts true e = inr (rw e refl, grind arith, tt)
    ended-counts false e = inl (rw e refl)

begun-tells : (c reached : ℕ) (b d : Begun) (end : Option End) → d.call ≡ b.call
    → (count_by (is_end_of c) (join_end d end ∷ []) ≡ 0) ⊎ ((count_by (is_end_of c) (join_end d end ∷ []) ≡ 1) × (d.call ≡ c) × SilentStand (stand_joined d end))
    → (count_by (is_end_of c) (join_end d end ∷ []) ≡ 0) ⊎ ((count_by (is_end_of c) (join_end d end ∷ []) ≡ 1) × (b.call ≡ c) × SilentStand (stand_joined d end))
begun-tells c reached b d end keeps (inl none) = inl none
begun-tells c reached b d end keeps (inr one) = inr (one.0, sym keeps ∙ one.1, one.2)

pub join-tells : (c reached : ℕ) (o : Option Standing) → JoinTells c reached o
join-tells c reached None = inl refl
join-tells c reached (Some (begun b)) =
    let b' = (finish reached b).1 in
    begun-tells c reached b b' (end_of b'.state) (finish-call (marks_left b) reached b) (join_end-tells c b' (end_of b'.state))
join-tells c reached (Some (full call)) = inl refl
join-tells c reached (Some (told_of call)) = inl refl

join-silent : (c reached : ℕ) (o : Option Standing) → Silent o → count_by (is_end_of c) (join_tells reached o) ≡ 0
join-silent c reached None h = absurd h
join-silent c reached (Some (begun b)) h = absurd h
join-silent c reached (Some (full call)) h = refl
join-silent c reached (Some (told_of call)) h = refl

pub found-number : (call c : ℕ) (xs : List Standing) (o : Option Standing) → find (is_call call) xs ≡ o → NumberIs c o → c ≡ call
found-number call c xs None e h = absurd h
found-number call c xs (Some s) e h = sym h ∙ find-number call xs s e

-- What a line tells of a call.
LineTells : ℕ → Script → Replay → Act → Type 0
LineTells c script replay act =
    (count_by (is_end_of c) (tells script replay act) ≡ 0) ⊎ ((count_by (is_end_of c) (tells script replay act) ≡ 1) × Silent (find (is_call c) (after script replay act).calls))

join_line-tells : (c : ℕ) (script : Script) (replay : Replay) (call : ℕ) → JoinTells c replay.reached (find (is_call call) replay.calls) → LineTells c script replay (Join call)
unfolding LineTells after tells
join_line-tells c script replay call (inl none) = inl none
join_line-tells c script replay call (inr one) =
    let same : c ≡ call = found-number call c replay.calls (find (is_call call) replay.calls) refl one.1 in
    let found : find (is_call call) (change_first (is_call call) (joined replay.reached) replay.calls) ≡ option_map (joined replay.reached) (find (is_call call) replay.calls) =
    find-same call (joined replay.reached) (joined-number replay.reached) replay.calls in
    let silent : Silent (find (is_call call) (change_first (is_call call) (joined replay.reached) replay.calls)) = rw found one.2 in
    inr (one.0, subst (λ (d : ℕ). Silent (find (is_call d) (change_first (is_call call) (joined replay.reached) replay.calls))) (sym same) silent)

line-tells : (c : ℕ) (script : Script) (replay : Replay) (act : Act) → LineTells c script replay act
unfolding LineTells after tells
line-tells c script replay (Call at call chan text) = inl (call_tells-none c (is_full script replay) call (plan script.chans chan call))
line-tells c script replay (Cancel at call) = inl refl
line-tells c script replay (Reply at call node attempt code text) = inl refl
line-tells c script replay (Lose at call node attempt code) = inl refl
line-tells c script replay (Tick at) = inl refl
line-tells c script replay (Join call) = join_line-tells c script replay call (join-tells c replay.reached (find (is_call call) replay.calls))

join_line-silent : (c : ℕ) (replay : Replay) (call : ℕ) → Silent (find (is_call c) replay.calls) → (c ≡ call) ⊎ (c ≡ call → ⊥) → JoinTells c replay.reached (find (is_call call) replay.calls)
    → count_by (is_end_of c) (join_tells replay.reached (find (is_call call) replay.calls)) ≡ 0
join_line-silent c replay call h (inl same) j = join-silent c replay.reached (find (is_call call) replay.calls) (subst (λ (d : ℕ). Silent (find (is_call d) replay.calls)) same h)
join_line-silent c replay call h (inr differ) (inl none) = none
join_line-silent c replay call h (inr differ) (inr one) = absurd (differ (found-number call c replay.calls (find (is_call call) replay.calls) refl one.1))

pub silent-tells : (c : ℕ) (script : Script) (replay : Replay) (act : Act) → Silent (find (is_call c) replay.calls) → count_by (is_end_of c) (tells script replay act) ≡ 0
unfolding tells
silent-tells c script replay (Call at call chan text) h = call_tells-none c (is_full script replay) call (plan script.chans chan call)
silent-tells c script replay (Cancel at call) h = refl
silent-tells c script replay (Reply at call node attempt code text) h = refl
silent-tells c script replay (Lose at call node attempt code) h = refl
silent-tells c script replay (Tick at) h = refl
silent-tells c script replay (Join call) h = join_line-silent c replay call h (equal_or_not c call) (join-tells c replay.reached (find (is_call call) replay.calls))

-- ---- all lines

pub silent-from : (c : ℕ) (script : Script) (replay : Replay) (acts : List Act) → Silent (find (is_call c) replay.calls) → count_by (is_end_of c) (told_from script replay acts) ≡ 0
silent-from c script replay [] h = refl
silent-from c script replay (act ∷ acts) h =
    sum_by-append _ (tells script replay act) (told_from script (after script replay act) acts)
    ∙ (let now = silent-tells c script replay act h in let later = silent-from c script (after script replay act) acts (silent-after c script replay act h) in omega (arith, now, later))

once-split : (c : ℕ) (script : Script) (replay : Replay) (act : Act) (acts : List Act) → LineTells c script replay act → count_by (is_end_of c) (told_from script (after script replay act) acts) ≤ 1
    → count_by (is_end_of c) (told_from script replay (act ∷ acts)) ≤ 1
unfolding LineTells
once-split c script replay act acts (inl none) later = rw sum_by-append (omega (arith, none, later))
once-split c script replay act acts (inr one) later =
    let rest = silent-from c script (after script replay act) acts one.1 in rw sum_by-append (omega (arith, one.0, rest))

once-from : (c : ℕ) (script : Script) (replay : Replay) (acts : List Act) → count_by (is_end_of c) (told_from script replay acts) ≤ 1
once-from c script replay [] = omega arith
once-from c script replay (act ∷ acts) = once-split c script replay act acts (line-tells c script replay act) (once-from c script (after script replay act) acts)

-- The end of a call is told once at the most.
pub told-once : (script : Script) (call : ℕ) → count_by (is_end_of call) (told script) ≤ 1
unfolding told
told-once script call = once-from call script unbegun script.acts
