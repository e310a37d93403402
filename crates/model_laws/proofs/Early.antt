-- Marks that are due may be taken at once.
use Rattle.std.proofs.Common.{◌≡◌, ℕ, zero, suc, ◌+◌, ◌≤◌, max, Bool, true, false, cond, ◌==◌, nat_le, List, [], ◌∷◌, ◌++◌, map, find, count_by, Option, Some, None, is_some, arith, refl, ap, sym, ◌∙◌}
use Rattle.std.proofs.lemmas.List.{map-append}
use Rattle.std.proofs.lemmas.List.Sums.{sum_by-cons}
use Rattle.std.specs.Option.{option_map}
use Rattle.rpc_model.specs.declared.event.End.{End}
use Rattle.rpc_model.specs.declared.event.Event.{Event}
use Rattle.rpc_model.specs.declared.event.Event.TheVariants as event
use Rattle.rpc_model.specs.declared.script.Act.{Act}
use Rattle.rpc_model.specs.declared.script.Act.TheVariants.{Call, Cancel, Reply, Lose, Tick, Join}
use Rattle.rpc_model.specs.declared.told.Told.{Told}
use Rattle.rpc_model.specs.declared.told.Told.TheVariants.{Ended}
use Rattle.rpc_model.specs.Effects.{Mark}
use Rattle.rpc_model.specs.Marks.{marks_left, Begun, apply, least_mark, take_mark, weave, finish_at_most, finish_least, finish}
use Rattle.rpc_model.specs.declared.script.Script.{Script}
use Rattle.rpc_model.specs.Told.{Standing, begun, full, told_of, Replay, number_of, is_call, is_begun, is_full, change_first, stand_new, call_after, event_after, call_event, stand_joined}
use Rattle.rpc_model.specs.Told.{joined, joined_moment, join_end, join_tells, call_join, call_tells, after, tells, told_from}
use Rattle.model_laws.specs.Early.{settle, settled}
use Rattle.rpc_model.specs.declared.kinds.MapKind.{MapKind}
use Rattle.rpc_model.specs.declared.kinds.MergeKind.{MergeKind}
use Rattle.rpc_model.specs.Plan.{Plan, plan}
use Rattle.rpc_model.specs.State.{end_of, attempts}
use Rattle.model_laws.proofs.Once.{weave-call}
use Rattle.model_laws.proofs.Weaves.{weave-twice}
use Rattle.model_laws.proofs.Finishes.{Alike, finish-weave}

-- ---- calls, and lists of calls

-- It keeps the number, and whether a call has begun.
settle-number : (r : ℕ) (s : Standing) → number_of (settle r s) ≡ number_of s
settle-number r (begun b) = weave-call (marks_left b) r b
settle-number r (full call) = refl
settle-number r (told_of call) = refl

settle-begun : (r : ℕ) (s : Standing) → is_begun (settle r s) ≡ is_begun s
settle-begun r (begun b) = refl
settle-begun r (full call) = refl
settle-begun r (told_of call) = refl

pub settle-twice : (r m : ℕ) (s : Standing) → r ≤ m → settle m (settle r s) ≡ settle m s
settle-twice r m (begun b) le = ap begun (weave-twice r m b le)
settle-twice r m (full call) le = refl
settle-twice r m (told_of call) le = refl

pub all-twice : (r m : ℕ) (xs : List Standing) → r ≤ m → map (settle m) (map (settle r) xs) ≡ map (settle m) xs
all-twice r m [] le = refl
all-twice r m (x ∷ xs) le = ap (λ s. s ∷ map (settle m) (map (settle r) xs)) (settle-twice r m x le) ∙ ap (λ ss. settle m x ∷ ss) (all-twice r m xs le)

-- A change of the first that passes a test, on calls that took their due marks.
change-settled : (test : Standing → Bool) (f : Standing → Standing) (r m : ℕ) (xs : List Standing) → ((s : Standing) → test (settle r s) ≡ test s) → ((s : Standing) → f (settle r s) ≡ f s) → r ≤ m
    → map (settle m) (change_first test f (map (settle r) xs)) ≡ map (settle m) (change_first test f xs)
change-settled test f r m [] same does le = refl
change-settled test f r m (x ∷ xs) same does le = by (test x) refl (change-settled test f r m xs same does le)
  where
    by : (v : Bool) → test x ≡ v → map (settle m) (change_first test f (map (settle r) xs)) ≡ map (settle m) (change_first test f xs)
        → map (settle m) (change_first test f (map (settle r) (x ∷ xs))) ≡ map (settle m) (change_first test f (x ∷ xs))
    by true e tail = rw (same x, e) (ap (λ s. settle m s ∷ map (settle m) (map (settle r) xs)) (does x) ∙ ap (λ ss. settle m (f x) ∷ ss) (all-twice r m xs le))
    by false e tail = rw (same x, e) (ap (λ s. s ∷ map (settle m) (change_first test f (map (settle r) xs))) (settle-twice r m x le) ∙ ap (λ ss. settle m x ∷ ss) tail)

find-settled : (test : Standing → Bool) (r : ℕ) (xs : List Standing) → ((s : Standing) → test (settle r s) ≡ test s) → find test (map (settle r) xs) ≡ option_map (settle r) (find test xs)
find-settled test r [] same = refl
find-settled test r (x ∷ xs) same = by (test x) refl (find-settled test r xs same)
  where
    by : (v : Bool) → test x ≡ v → find test (map (settle r) xs) ≡ option_map (settle r) (find test xs) → find test (map (settle r) (x ∷ xs)) ≡ option_map (settle r) (find test (x ∷ xs))
    by true e tail = rw (same x, e) refl
    by false e tail = rw (same x, e) tail

count-more : (x : Standing) (xs : List Standing) → count_by is_begun (x ∷ xs) ≡ cond (is_begun x) 1 0 + count_by is_begun xs
count-more x xs = sum_by-cons (λ s. cond (is_begun s) 1 0) x xs

pub count-settled : (r : ℕ) (xs : List Standing) → count_by is_begun (map (settle r) xs) ≡ count_by is_begun xs
count-settled r [] = refl
count-settled r (x ∷ xs) =
    count-more (settle r x) (map (settle r) xs) ∙ ap (λ v. cond v 1 0 + count_by is_begun (map (settle r) xs)) (settle-begun r x) ∙ ap (λ n. cond (is_begun x) 1 0 + n) (count-settled r xs) ∙ sym
    (count-more x xs)

-- ---- what a call does that took its due marks

event-settled : (e : Event) (r m : ℕ) (s : Standing) → r ≤ m → event_after e m (settle r s) ≡ event_after e m s
event-settled e r m (begun b) le = ap (λ d. begun (apply d e m)) (weave-twice r m b le)
event-settled e r m (full call) le = refl
event-settled e r m (told_of call) le = refl

joined-alike : (p q : ℕ × Begun) (v : Option End) → Alike p q → end_of p.1.state ≡ v → stand_joined p.1 (end_of p.1.state) ≡ stand_joined q.1 (end_of q.1.state)
joined-alike p q None a e =
    let same = a.open_ (ap is_some e) in ap (λ (d : Begun). stand_joined d (end_of d.state)) same
joined-alike p q (Some end) a e =
    let other : end_of q.1.state ≡ Some end = sym (ap end_of a.state) ∙ e in
    ap (stand_joined p.1) e ∙ ap told_of a.call ∙ sym (ap (stand_joined q.1) other)

tells-alike : (p q : ℕ × Begun) (v : Option End) → Alike p q → end_of p.1.state ≡ v → join_end p.1 (end_of p.1.state) ≡ join_end q.1 (end_of q.1.state)
tells-alike p q None a e =
    let same = a.open_ (ap is_some e) in ap (λ (d : Begun). join_end d (end_of d.state)) same
tells-alike p q (Some end) a e =
    let other : end_of q.1.state ≡ Some end = sym (ap end_of a.state) ∙ e in
    ap (join_end p.1) e ∙ ap (λ c. Ended c end (attempts p.1.state)) a.call ∙ ap (λ s. Ended q.1.call end (attempts s)) a.state ∙ sym (ap (join_end q.1) other)

joined-settled : (r : ℕ) (s : Standing) → joined r (settle r s) ≡ joined r s
joined-settled r (begun b) = joined-alike (finish r (weave r b)) (finish r b) (end_of (finish r (weave r b)).1.state) (finish-weave r b) refl
joined-settled r (full call) = refl
joined-settled r (told_of call) = refl

moment-settled : (r : ℕ) (o : Option Standing) → joined_moment r (option_map (settle r) o) ≡ joined_moment r o
moment-settled r None = refl
moment-settled r (Some (begun b)) = (finish-weave r b).moment
moment-settled r (Some (full call)) = refl
moment-settled r (Some (told_of call)) = refl

tells-settled : (r : ℕ) (o : Option Standing) → join_tells r (option_map (settle r) o) ≡ join_tells r o
tells-settled r None = refl
tells-settled r (Some (begun b)) = ap (λ (t : Told). t ∷ []) (tells-alike (finish r (weave r b)) (finish r b) (end_of (finish r (weave r b)).1.state) (finish-weave r b) refl)
tells-settled r (Some (full call)) = refl
tells-settled r (Some (told_of call)) = refl

-- ---- a line

is-call-settled : (call r : ℕ) (s : Standing) → is_call call (settle r s) ≡ is_call call s
is-call-settled call r s = ap (λ n. n == call) (settle-number r s)

pub event-line : (script : Script) (s : Replay) (m call : ℕ) (e : Event) → s.reached ≤ m → settled (call_event (settled s) m call e) ≡ settled (call_event s m call e)
event-line script s m call e le =
    ap (λ (ss : List Standing). record { reached = m; calls = ss }) (change-settled (is_call call) (event_after e m) s.reached m s.calls (λ x. is-call-settled call s.reached x)
    (λ x. event-settled e s.reached m x le) le)

-- A join never takes a moment back.
pub finish-late : (n r : ℕ) (b : Begun) → r ≤ (finish_at_most n r b).0
finish-late zero r b = omega arith
finish-late (suc n) r b = by (is_some (end_of b.state)) (least_mark b.waiting) (λ s d. finish-late n s d)
  where
    by : (v : Bool) (o : Option (Mark × List Mark)) → ((s : ℕ) (d : Begun) → s ≤ (finish_at_most n s d).0) → r ≤ (cond v (r, b) (finish_least (finish_at_most n) r b o)).0
    by true o again = omega arith
    by false None again = omega arith
    by false (Some (mark, others)) again = let later = again (max r mark.moment) (take_mark b mark others) in omega (arith, later)

joined-late : (r : ℕ) (o : Option Standing) → r ≤ joined_moment r o
joined-late r None = omega arith
joined-late r (Some (begun b)) = finish-late (marks_left b) r b
joined-late r (Some (full call)) = omega arith
joined-late r (Some (told_of call)) = omega arith

join-line : (s : Replay) (call : ℕ) → settled (call_join (settled s) call) ≡ settled (call_join s call)
join-line s call =
    let r = s.reached in
    let found : find (is_call call) (map (settle r) s.calls) ≡ option_map (settle r) (find (is_call call) s.calls) = find-settled (is_call call) r s.calls (λ x. is-call-settled call r x) in
    let moment : joined_moment r (find (is_call call) (map (settle r) s.calls)) ≡ joined_moment r (find (is_call call) s.calls) = ap (joined_moment r) found ∙ moment-settled r
    (find (is_call call) s.calls) in
    let m = joined_moment r (find (is_call call) s.calls) in
    let calls : map (settle m) (change_first (is_call call) (joined r) (map (settle r) s.calls)) ≡ map (settle m) (change_first (is_call call) (joined r) s.calls) =
    change-settled (is_call call) (joined r) r m s.calls (λ x. is-call-settled call r x) (λ x. joined-settled r x) (joined-late r (find (is_call call) s.calls)) in
    ap (λ (k : ℕ). record { reached = k; calls = map (settle k) (change_first (is_call call) (joined r) (map (settle r) s.calls)) }) moment
    ∙ ap (λ (ss : List Standing). record { reached = m; calls = ss }) calls

pub call-line : (script : Script) (s : Replay) (m call : ℕ) (text : List ℕ) (o : Option (Plan MapKind MergeKind)) → s.reached ≤ m → settled (call_after script (settled s) m call text o)
    ≡ settled (call_after script s m call text o)
call-line script s m call text None le = ap (λ (ss : List Standing). record { reached = m; calls = ss }) (all-twice s.reached m s.calls le)
call-line script s m call text (Some p) le =
    ap (λ (ss : List Standing). record { reached = m; calls = ss })
    (map-append (settle m) (map (settle s.reached) s.calls) (stand_new (is_full script (settled s)) call p text m ∷ [])
    ∙ ap (λ ss. ss ++ settle m (stand_new (is_full script (settled s)) call p text m) ∷ []) (all-twice s.reached m s.calls le)
    ∙ ap (λ n. map (settle m) s.calls ++ settle m (stand_new (nat_le script.slots n) call p text m) ∷ []) (count-settled s.reached s.calls)
    ∙ sym (map-append (settle m) s.calls (stand_new (is_full script s) call p text m ∷ [])))

pub after-settled : (script : Script) (s : Replay) (act : Act) → settled (after script (settled s) act) ≡ settled (after script s act)
unfolding after
after-settled script s (Call at call chan text) = call-line script s (max s.reached at) call text (plan script.chans chan call) (omega arith)
after-settled script s (Cancel at call) = event-line script s (max s.reached at) call event.Cancel (omega arith)
after-settled script s (Reply at call node attempt code text) = event-line script s (max s.reached at) call (event.Reply node attempt code text) (omega arith)
after-settled script s (Lose at call node attempt code) = event-line script s (max s.reached at) call (event.Lost node attempt code) (omega arith)
after-settled script s (Tick at) = ap (λ (ss : List Standing). record { reached = max s.reached at; calls = ss }) (all-twice s.reached (max s.reached at) s.calls (omega arith))
after-settled script s (Join call) = join-line s call

pub tells-same : (script : Script) (s : Replay) (act : Act) → tells script (settled s) act ≡ tells script s act
unfolding tells
tells-same script s (Call at call chan text) = ap (λ n. call_tells (nat_le script.slots n) call (plan script.chans chan call)) (count-settled s.reached s.calls)
tells-same script s (Cancel at call) = refl
tells-same script s (Reply at call node attempt code text) = refl
tells-same script s (Lose at call node attempt code) = refl
tells-same script s (Tick at) = refl
tells-same script s (Join call) =
    ap (join_tells s.reached) (find-settled (is_call call) s.reached s.calls (λ x. is-call-settled call s.reached x)) ∙ tells-settled s.reached (find (is_call call) s.calls)

-- ---- all lines

pub same-lines : (script : Script) (acts : List Act) (s t : Replay) → settled s ≡ settled t → told_from script s acts ≡ told_from script t acts
same-lines script [] s t e = refl
same-lines script (act ∷ acts) s t e =
    let tells_same : tells script s act ≡ tells script t act = sym (tells-same script s act) ∙ ap (λ r. tells script r act) e ∙ tells-same script t act in
    let after_same : settled (after script s act) ≡ settled (after script t act) = sym (after-settled script s act) ∙ ap (λ r. settled (after script r act)) e ∙ after-settled script t act in
    ap (λ ts. ts ++ told_from script (after script s act) acts) tells_same
    ∙ ap (λ ts. tells script t act ++ ts) (same-lines script acts (after script s act) (after script t act) after_same)

-- Two replays that agree on their settled calls tell the same.
pub settled-tells : (script : Script) (acts : List Act) (s : Replay) → told_from script (settled s) acts ≡ told_from script s acts
settled-tells script acts s =
    same-lines script acts (settled s) s (ap (λ (ss : List Standing). record { reached = s.reached; calls = ss }) (all-twice s.reached s.reached s.calls (omega arith)))
