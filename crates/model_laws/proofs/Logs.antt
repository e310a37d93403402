-- Each end that is told is the machine's for that call's own events.
use Rattle.std.proofs.Common.{◌≡◌, ℕ, zero, suc, ◌⊎◌, inl, inr, Bool, true, false, cond, ◌==◌, max, List, [], ◌∷◌, ◌++◌, find, count_by, Option, Some, None, arith, refl, ap, sym, ◌∙◌, subst}
use Rattle.std.specs.Prelude.{Contains}
use Rattle.std.specs.Option.{option_map}
use Rattle.std.proofs.lemmas.List.Elements.{Contains-append_cases}
use Rattle.std.proofs.lemmas.List.Sums.{sum_by-cons}
use Rattle.rpc_model.specs.declared.event.End.{End}
use Rattle.rpc_model.specs.declared.event.Event.{Event}
use Rattle.rpc_model.specs.declared.event.Event.TheVariants as event
use Rattle.rpc_model.specs.declared.script.Act.{Act}
use Rattle.rpc_model.specs.declared.script.Act.TheVariants.{Call, Cancel, Reply, Lose, Tick, Join}
use Rattle.rpc_model.specs.declared.told.Told.{Told}
use Rattle.rpc_model.specs.declared.told.Told.TheVariants.{Ended, Unended}
use Rattle.model_laws.specs.Heard.{is_end_of}
use Rattle.rpc_model.specs.Marks.{Begun, begin, apply, marks_left, weave, finish}
use Rattle.rpc_model.specs.declared.script.Script.{Script}
use Rattle.rpc_model.specs.Told.{Standing, begun, told_of, Replay, unbegun, number_of, is_call, is_full, change_first, stand_new, call_after, event_after, call_event, stand_joined, joined}
use Rattle.rpc_model.specs.Told.{join_end, join_tells, after, tells, told_from, told}
use Rattle.model_laws.specs.Logs.{own_event, own_events, is_mark, EndsBy}
use Rattle.model_laws.proofs.Took.{Took, took-none, took-then, finish-took, event-took, machine-took}
use Rattle.model_laws.proofs.Once.{finish-call, event-number, joined-number, find-other, find-same, Silent, equal_or_not, silent-from, call_tells-none, found-number, join-tells, JoinTells}
use Rattle.rpc_model.specs.Kinds.{script_kinds}
use Rattle.rpc_model.specs.declared.kinds.MapKind.{MapKind}
use Rattle.rpc_model.specs.declared.kinds.MergeKind.{MergeKind}
use Rattle.rpc_model.specs.Plan.{Plan, plan}
use Rattle.rpc_model.specs.State.{end_of, attempts}
use Rattle.rpc_model.specs.Machine.{machine}

-- ---- a line

-- After a line a call that had begun is still found, and took what the line brings it.
record Stays (c : ℕ) (calls : List Standing) (lines : List (Event × ℕ)) (b : Begun) : Type 0 where
  now : Begun
  found : find (is_call c) calls ≡ Some (begun now)
  took : Took lines b now

stays-as : (c : ℕ) (calls : List Standing) (b : Begun) → find (is_call c) calls ≡ Some (begun b) → Stays c calls [] b
stays-as c calls b h = record { now = b; found = h; took = took-none b }

find-pushed : (c : ℕ) (xs : List Standing) (s t : Standing) → find (is_call c) xs ≡ Some t → find (is_call c) (xs ++ s ∷ []) ≡ Some t
find-pushed c [] s t h = absurd (cc)
find-pushed c (x ∷ xs) s t h = by (number_of x == c) h (λ e. find-pushed c xs s t e)
  where
    by : (v : Bool) → cond v (Some x) (find (is_call c) xs) ≡ Some t → (find (is_call c) xs ≡ Some t → find (is_call c) (xs ++ s ∷ []) ≡ Some t) → cond v (Some x) (find (is_call c) (xs ++ s ∷ []))
        ≡ Some t
    by true e again = e
    by false e again = again e

find-none-pushed : (c : ℕ) (xs : List Standing) (s : Standing) → find (is_call c) xs ≡ None → find (is_call c) (xs ++ s ∷ []) ≡ cond (number_of s == c) (Some s) None
find-none-pushed c [] s h = refl
find-none-pushed c (x ∷ xs) s h = by (number_of x == c) h (λ e. find-none-pushed c xs s e)
  where
    by : (v : Bool) → cond v (Some x) (find (is_call c) xs) ≡ None → (find (is_call c) xs ≡ None → find (is_call c) (xs ++ s ∷ []) ≡ cond (number_of s == c) (Some s) None)
        → cond v (Some x) (find (is_call c) (xs ++ s ∷ [])) ≡ cond (number_of s == c) (Some s) None
    by true e again = absurd (cc)
    by false e again = again e

stays-call : (c : ℕ) (script : Script) (replay : Replay) (moment call : ℕ) (text : List ℕ) (o : Option (Plan MapKind MergeKind)) (b : Begun) → find (is_call c) replay.calls ≡ Some (begun b)
    → Stays c (call_after script replay moment call text o).calls [] b
stays-call c script replay moment call text None b h = stays-as c replay.calls b h
stays-call c script replay moment call text (Some p) b h = stays-as c _ b (find-pushed c replay.calls _ (begun b) h)

test-same : (c call : ℕ) → c ≡ call → (call == c) ≡ true
test-same c call e = grind arith

test-other : (c call : ℕ) → (c ≡ call → ⊥) → (call == c) ≡ false
test-other c call e = by (call == c) refl
  where
    by : (v : Bool) → (call == c) ≡ v → (call == c) ≡ false
    by true h = absurd (e (grind arith))
    by false h = h

stays-event : (c : ℕ) (replay : Replay) (moment call : ℕ) (e : Event) (b : Begun) → is_mark e ≡ false → find (is_call c) replay.calls ≡ Some (begun b) → (c ≡ call) ⊎ (c ≡ call → ⊥)
    → Stays c (call_event replay moment call e).calls (cond (call == c) ((e, moment) ∷ []) []) b
stays-event c replay moment call e b is h (inl same) =
    let now = apply (weave moment b) e moment in
    let found : find (is_call c) (change_first (is_call c) (event_after e moment) replay.calls) ≡ Some (begun now) =
    find-same c (event_after e moment) (event-number e moment) replay.calls ∙ ap (option_map (event_after e moment)) h in
    record {
      now = now;
      found = subst (λ (d : ℕ). find (is_call c) (change_first (is_call d) (event_after e moment) replay.calls) ≡ Some (begun now)) same found;
      took = subst (λ v. Took (cond v ((e, moment) ∷ []) []) b now) (sym (test-same c call same)) (event-took e moment b is);
    }
stays-event c replay moment call e b is h (inr differ) =
    let found = find-other c call (event_after e moment) (event-number e moment) differ replay.calls ∙ h in
    subst (λ v. Stays c (call_event replay moment call e).calls (cond v ((e, moment) ∷ []) []) b) (sym (test-other c call differ)) (stays-as c _ b found)

-- what a line does to a call that has begun: it stays, and its end isn't told; or the line joins it and tells its end
record Joins (c : ℕ) (script : Script) (replay : Replay) (act : Act) (b : Begun) : Type 0 where
  line : act ≡ Join c
  last : Begun
  end : End
  took : Took [] b last
  ends : end_of last.state ≡ Some end
  told : tells script replay act ≡ Ended b.call end (attempts last.state) ∷ []
  silent : Silent (find (is_call c) (after script replay act).calls)

abbrev LineIs : ℕ → Script → Replay → Act → Begun → Type 0
LineIs c script replay act b = (Stays c (after script replay act).calls (own_event c replay.reached act) b × (count_by (is_end_of c) (tells script replay act) ≡ 0)) ⊎ Joins c script replay act b

joins-or : (c : ℕ) (script : Script) (replay : Replay) (b d : Begun) (o : Option End) → find (is_call c) replay.calls ≡ Some (begun b) → d ≡ (finish replay.reached b).1 → end_of d.state ≡ o
    → Took [] b d → d.call ≡ b.call
    → LineIs c script replay (Join c) b
unfolding after tells
joins-or c script replay b d None h is e took call =
    let stands : joined replay.reached (begun b) ≡ begun d = ap (λ (x : Begun). stand_joined x (end_of x.state)) (sym is) ∙ ap (stand_joined d) e in
    let found = find-same c (joined replay.reached) (joined-number replay.reached) replay.calls ∙ ap (option_map (joined replay.reached)) h ∙ ap Some stands in
    let tells_it : join_tells replay.reached (find (is_call c) replay.calls) ≡ Unended d.call ∷ [] =
    ap (join_tells replay.reached) h ∙ ap (λ (x : Begun). join_end x (end_of x.state) ∷ []) (sym is) ∙ ap (λ o. join_end d o ∷ []) e in
    inl (record { now = d; found = found; took = took }, ap (count_by (is_end_of c)) tells_it)
joins-or c script replay b d (Some end) h is e took call =
    let stands : joined replay.reached (begun b) ≡ told_of d.call = ap (λ (x : Begun). stand_joined x (end_of x.state)) (sym is) ∙ ap (stand_joined d) e in
    let found = find-same c (joined replay.reached) (joined-number replay.reached) replay.calls ∙ ap (option_map (joined replay.reached)) h ∙ ap Some stands in
    let tells_it : join_tells replay.reached (find (is_call c) replay.calls) ≡ Ended d.call end (attempts d.state) ∷ [] =
    ap (join_tells replay.reached) h ∙ ap (λ (x : Begun). join_end x (end_of x.state) ∷ []) (sym is) ∙ ap (λ o. join_end d o ∷ []) e in
    inr (record {
      line = refl;
      last = d;
      end = end;
      took = took;
      ends = e;
      told = tells_it ∙ ap (λ n. Ended n end (attempts d.state) ∷ []) call;
      silent = subst Silent (sym found) tt;
    })

silent-join : (c : ℕ) (replay : Replay) (call : ℕ) → (c ≡ call → ⊥) → JoinTells c replay.reached (find (is_call call) replay.calls)
    → count_by (is_end_of c) (join_tells replay.reached (find (is_call call) replay.calls)) ≡ 0
silent-join c replay call differ (inl none) = none
silent-join c replay call differ (inr one) = absurd (differ (found-number call c replay.calls (find (is_call call) replay.calls) refl one.1))

line-join : (c : ℕ) (script : Script) (replay : Replay) (call : ℕ) (b : Begun) → find (is_call c) replay.calls ≡ Some (begun b) → (c ≡ call) ⊎ (c ≡ call → ⊥) → LineIs c script replay (Join call) b
unfolding after tells
line-join c script replay call b h (inl same) =
    let d = (finish replay.reached b).1 in
    subst (λ (n : ℕ). LineIs c script replay (Join n) b) same
    (joins-or c script replay b d (end_of d.state) h refl refl (finish-took (marks_left b) replay.reached b) (finish-call (marks_left b) replay.reached b))
line-join c script replay call b h (inr differ) =
    inl (
      stays-as c _ b (find-other c call (joined replay.reached) (joined-number replay.reached) differ replay.calls ∙ h),
      silent-join c replay call differ
          (join-tells c replay.reached (find (is_call call) replay.calls)),
    )

line-is : (c : ℕ) (script : Script) (replay : Replay) (act : Act) (b : Begun) → find (is_call c) replay.calls ≡ Some (begun b) → LineIs c script replay act b
unfolding after tells
line-is c script replay (Call at call chan text) b h =
    inl (stays-call c script replay (max replay.reached at) call text (plan script.chans chan call) b h, call_tells-none c (is_full script replay) call (plan script.chans chan call))
line-is c script replay (Cancel at call) b h = inl (stays-event c replay (max replay.reached at) call event.Cancel b refl h (equal_or_not c call), refl)
line-is c script replay (Reply at call node attempt code text) b h = inl (stays-event c replay (max replay.reached at) call (event.Reply node attempt code text) b refl h (equal_or_not c call), refl)
line-is c script replay (Lose at call node attempt code) b h = inl (stays-event c replay (max replay.reached at) call (event.Lost node attempt code) b refl h (equal_or_not c call), refl)
line-is c script replay (Tick at) b h = inl (stays-as c replay.calls b h, refl)
line-is c script replay (Join call) b h = line-join c script replay call b h (equal_or_not c call)

-- ---- all lines of a call that has begun

uncounted : (c : ℕ) (end : End) (count : ℕ) (ts : List Told) → Contains ts (Ended c end count) → count_by (is_end_of c) ts ≡ 0 → ⊥
uncounted c end count [] h none = let less = h.1 in omega (arith, less)
uncounted c end count (t ∷ ts) (zero, le, is) none =
    let one : is_end_of c t ≡ true = ap (is_end_of c) is ∙ test-same c c refl in
    let more = sum_by-cons (λ s. cond (is_end_of c s) 1 0) t ts in
    let counts : cond (is_end_of c t) 1 0 ≡ 1 = ap {B = ℕ} (λ v. cond v 1 0) one in
    omega (arith, none, more, counts)
uncounted c end count (t ∷ ts) (suc k, le, is) none =
    let more = sum_by-cons (λ s. cond (is_end_of c s) 1 0) t ts in
    uncounted c end count ts (k, omega (arith, le), is) (omega (arith, none, more))

only-one : (t u : Told) → Contains (t ∷ []) u → t ≡ u
only-one t u (zero, le, is) = is
only-one t u (suc k, le, is) = absurd (omega (arith, le))

-- From these lines on, a call that has begun ends so.
record From (script : Script) (replay : Replay) (acts : List Act) (b : Begun) (c : ℕ) (end : End) (count : ℕ) : Type 0 where
  between : List Act
  rest : List Act
  lines : acts ≡ between ++ Join c ∷ rest
  last : Begun
  took : Took (own_events c script replay between) b last
  ends : end_of last.state ≡ Some end
  issued : attempts last.state ≡ count

from-later : (script : Script) (replay : Replay) (act : Act) (acts : List Act) (b now : Begun) (c : ℕ) (end : End) (count : ℕ) → Took (own_event c replay.reached act) b now
    → From script (after script replay act) acts now c end count → From script replay (act ∷ acts) b c end count
from-later script replay act acts b now c end count h f = record {
  between = act ∷ f.between;
  rest = f.rest;
  lines = ap (λ xs. act ∷ xs) f.lines;
  last = f.last;
  took = took-then (own_event c replay.reached act) (own_events c script (after script replay act) f.between) b now f.last h f.took;
  ends = f.ends;
  issued = f.issued;
}

same-ended : (c d : ℕ) (end e : End) (n m : ℕ) → Ended c end n ≡ Ended d e m → (end ≡ e) × (n ≡ m)
same-ended c d end e n m h = let p : end ≡ e = cc in let q : n ≡ m = cc in (p, q)

from-joined : (script : Script) (replay : Replay) (act : Act) (acts : List Act) (b : Begun) (c : ℕ) (end : End) (count : ℕ) → Joins c script replay act b
    → Contains (tells script replay act) (Ended c end count) ⊎ Contains (told_from script (after script replay act) acts) (Ended c end count) → From script replay (act ∷ acts) b c end count
from-joined script replay act acts b c end count j (inl h) =
    let one = only-one (Ended b.call j.end (attempts j.last.state)) (Ended c end count) (subst (λ (ts : List Told). Contains ts (Ended c end count)) j.told h) in
    let same = same-ended b.call c j.end end (attempts j.last.state) count one in
    record { between = []; rest = acts; lines = ap (λ a. a ∷ acts) j.line; last = j.last; took = j.took; ends = j.ends ∙ ap Some same.0; issued = same.1 }
from-joined script replay act acts b c end count j (inr h) = absurd (uncounted c end count _ h (silent-from c script (after script replay act) acts j.silent))

from-line : (script : Script) (replay : Replay) (act : Act) (acts : List Act) (b : Begun) (c : ℕ) (end : End) (count : ℕ) → LineIs c script replay act b
    → Contains (tells script replay act) (Ended c end count) ⊎ Contains (told_from script (after script replay act) acts) (Ended c end count)
    → ((d : Begun) → find (is_call c) (after script replay act).calls ≡ Some (begun d) → Contains (told_from script (after script replay act) acts) (Ended c end count) → From script
    (after script replay act) acts d c end count)
    → From script replay (act ∷ acts) b c end count
from-line script replay act acts b c end count (inr joins) h again = from-joined script replay act acts b c end count joins h
from-line script replay act acts b c end count (inl stays) (inl h) again = absurd (uncounted c end count (tells script replay act) h stays.1)
from-line script replay act acts b c end count (inl stays) (inr h) again = from-later script replay act acts b stays.0.now c end count stays.0.took (again stays.0.now stays.0.found h)

from-begun : (script : Script) (replay : Replay) (acts : List Act) (b : Begun) (c : ℕ) (end : End) (count : ℕ) → find (is_call c) replay.calls ≡ Some (begun b)
    → Contains (told_from script replay acts) (Ended c end count) → From script replay acts b c end count
from-begun script replay [] b c end count found h = absurd (let less = h.1 in omega (arith, less))
from-begun script replay (act ∷ acts) b c end count found h =
    from-line script replay act acts b c end count (line-is c script replay act b found)
    (Contains-append_cases (tells script replay act) (told_from script (after script replay act) acts) (Ended c end count) h)
    (λ d e k. from-begun script (after script replay act) acts d c end count e k)

-- ---- all lines of a call that has yet to begin

-- A line tells no end of a call that hasn't begun.
none-tells : (c : ℕ) (script : Script) (replay : Replay) (act : Act) → find (is_call c) replay.calls ≡ None → count_by (is_end_of c) (tells script replay act) ≡ 0
unfolding tells
none-tells c script replay (Call at call chan text) h = call_tells-none c (is_full script replay) call (plan script.chans chan call)
none-tells c script replay (Cancel at call) h = refl
none-tells c script replay (Reply at call node attempt code text) h = refl
none-tells c script replay (Lose at call node attempt code) h = refl
none-tells c script replay (Tick at) h = refl
none-tells c script replay (Join call) h = by (equal_or_not c call)
  where
    by : (c ≡ call) ⊎ (c ≡ call → ⊥) → count_by (is_end_of c) (join_tells replay.reached (find (is_call call) replay.calls)) ≡ 0
    by (inl same) = ap (λ (o : Option Standing). count_by (is_end_of c) (join_tells replay.reached o)) (subst (λ (d : ℕ). find (is_call d) replay.calls ≡ None) same h)
    by (inr differ) = silent-join c replay call differ (join-tells c replay.reached (find (is_call call) replay.calls))

ends-later : (script : Script) (replay : Replay) (act : Act) (acts : List Act) (c : ℕ) (end : End) (count : ℕ) → EndsBy script (after script replay act) acts c end count
    → EndsBy script replay (act ∷ acts) c end count
ends-later script replay act acts c end count f = record {
  before = act ∷ f.before;
  at = f.at;
  chan = f.chan;
  text = f.text;
  between = f.between;
  rest = f.rest;
  lines = ap (λ xs. act ∷ xs) f.lines;
  tree = f.tree;
  planned = f.planned;
  begun = f.begun;
  begun_at = f.begun_at;
  events = f.events;
  own = f.own;
  woven = f.woven;
  ends = f.ends;
  issued = f.issued;
}

ends-here : (script : Script) (replay : Replay) (acts : List Act) (c at chan : ℕ) (text : List ℕ) (tree : Plan MapKind MergeKind) (end : End) (count : ℕ) → plan script.chans chan c ≡ Some tree
    → From script (after script replay (Call at c chan text)) acts (begin c tree text (max replay.reached at)) c end count → EndsBy script replay (Call at c chan text ∷ acts) c end count
ends-here script replay acts c at chan text tree end count planned f =
    let begun = max replay.reached at in
    let b = begin c tree text begun in
    let run = machine script_kinds tree c text begun f.took.events in
    let state : run.state ≡ f.last.state = machine-took f.took.events (machine script_kinds tree c text begun []) b refl ∙ ap (λ (d : Begun). d.state) f.took.reaches in
    record {
      before = [];
      at = at;
      chan = chan;
      text = text;
      between = f.between;
      rest = f.rest;
      lines = ap (λ xs. Call at c chan text ∷ xs) f.lines;
      tree = tree;
      planned = planned;
      begun = begun;
      begun_at = refl;
      events = f.took.events;
      own = f.took.own;
      woven = f.took.woven;
      ends = ap end_of state ∙ f.ends;
      issued = ap attempts state ∙ f.issued;
    }

find-none : (c call : ℕ) (f : Standing → Standing) (xs : List Standing) → ((s : Standing) → number_of (f s) ≡ number_of s) → (c ≡ call) ⊎ (c ≡ call → ⊥) → find (is_call c) xs ≡ None
    → find (is_call c) (change_first (is_call call) f xs) ≡ None
find-none c call f xs keeps (inl same) h =
    let found : find (is_call c) (change_first (is_call c) f xs) ≡ None = find-same c f keeps xs ∙ ap (option_map f) h in
    subst (λ (d : ℕ). find (is_call c) (change_first (is_call d) f xs) ≡ None) same found
find-none c call f xs keeps (inr differ) h = find-other c call f keeps differ xs ∙ h

-- where the lines behind this one have an end of the call, it is of a call that begins at this line or later
abbrev LaterEnds : Script → Replay → Act → List Act → ℕ → End → ℕ → Type 0
LaterEnds script replay act acts c end count = (find (is_call c) (after script replay act).calls ≡ None → EndsBy script (after script replay act) acts c end count) → Contains
    (told_from script (after script replay act) acts) (Ended c end count)
    → EndsBy script replay (act ∷ acts) c end count

silent-ends : (script : Script) (replay : Replay) (acts : List Act) (c : ℕ) (end : End) (count : ℕ) → Silent (find (is_call c) replay.calls)
    → Contains (told_from script replay acts) (Ended c end count) → ⊥
silent-ends script replay acts c end count silent h = uncounted c end count (told_from script replay acts) h (silent-from c script replay acts silent)

-- a call line of this number, where none of the number has begun
new-ends : (script : Script) (replay : Replay) (acts : List Act) (c at chan : ℕ) (text : List ℕ) (end : End) (count : ℕ) (tree : Plan MapKind MergeKind) (v : Bool) → plan script.chans chan c
    ≡ Some tree → is_full script replay ≡ v
    → find (is_call c) (after script replay (Call at c chan text)).calls ≡ Some (stand_new (is_full script replay) c tree text (max replay.reached at)) → LaterEnds script replay
    (Call at c chan text) acts c end count
new-ends script replay acts c at chan text end count tree true planned e found later h =
    let is = found ∙ ap (λ v. Some (stand_new v c tree text (max replay.reached at))) e in
    absurd (silent-ends script (after script replay (Call at c chan text)) acts c end count (subst Silent (sym is) tt) h)
new-ends script replay acts c at chan text end count tree false planned e found later h =
    let is = found ∙ ap (λ v. Some (stand_new v c tree text (max replay.reached at))) e in
    ends-here script replay acts c at chan text tree end count planned (from-begun script (after script replay (Call at c chan text)) acts
    (begin c tree text (max replay.reached at)) c end count is h)

stand_new-number : (v : Bool) (call : ℕ) (p : Plan MapKind MergeKind) (text : List ℕ) (moment : ℕ) → number_of (stand_new v call p text moment) ≡ call
stand_new-number true call p text moment = refl
stand_new-number false call p text moment = refl

call-ends : (script : Script) (replay : Replay) (acts : List Act) (c at call chan : ℕ) (text : List ℕ) (end : End) (count : ℕ) (o : Option (Plan MapKind MergeKind)) → plan script.chans chan call
    ≡ o → find (is_call c) replay.calls ≡ None
    → (c ≡ call) ⊎ (c ≡ call → ⊥) → LaterEnds script replay (Call at call chan text) acts c end count
unfolding after
call-ends script replay acts c at call chan text end count None planned none same later h =
    let is = ap (call_after script replay (max replay.reached at) call text) planned in
    ends-later script replay (Call at call chan text) acts c end count (later (ap (λ (r : Replay). find (is_call c) r.calls) is ∙ none))
call-ends script replay acts c at call chan text end count (Some tree) planned none (inr differ) later h =
    let is = ap (call_after script replay (max replay.reached at) call text) planned in
    let s = stand_new (is_full script replay) call tree text (max replay.reached at) in
    let other : (number_of s == c) ≡ false = ap (λ n. n == c) (stand_new-number (is_full script replay) call tree text (max replay.reached at)) ∙ test-other c call differ in
    let found = find-none-pushed c replay.calls s none ∙ ap (λ v. cond v (Some s) None) other in
    ends-later script replay (Call at call chan text) acts c end count (later (ap (λ (r : Replay). find (is_call c) r.calls) is ∙ found))
call-ends script replay acts c at call chan text end count (Some tree) planned none (inl same) later h =
    subst (λ (d : ℕ). plan script.chans chan d ≡ Some tree → LaterEnds script replay (Call at d chan text) acts c end count) same
    (λ p.
    let is = ap (call_after script replay (max replay.reached at) c text) p in
    let s = stand_new (is_full script replay) c tree text (max replay.reached at) in
    let here : (number_of s == c) ≡ true = ap (λ n. n == c) (stand_new-number (is_full script replay) c tree text (max replay.reached at)) ∙ test-same c c refl in
    let found = find-none-pushed c replay.calls s none ∙ ap (λ v. cond v (Some s) None) here in
    new-ends script replay acts c at chan text end count tree (is_full script replay) p refl (ap (λ (r : Replay). find (is_call c) r.calls) is ∙ found))
    planned later h

line-ends : (script : Script) (replay : Replay) (act : Act) (acts : List Act) (c : ℕ) (end : End) (count : ℕ) → find (is_call c) replay.calls ≡ None → LaterEnds script replay act acts c end count
unfolding after
line-ends script replay (Call at call chan text) acts c end count none later h = call-ends script replay acts c at call chan text end count (plan script.chans chan call) refl none
    (equal_or_not c call) later h
line-ends script replay (Cancel at call) acts c end count none later h =
    ends-later script replay _ acts c end count (later (find-none c call _ replay.calls (event-number event.Cancel (max replay.reached at)) (equal_or_not c call) none))
line-ends script replay (Reply at call node attempt code text) acts c end count none later h =
    ends-later script replay _ acts c end count (later (find-none c call _ replay.calls (event-number (event.Reply node attempt code text) (max replay.reached at)) (equal_or_not c call) none))
line-ends script replay (Lose at call node attempt code) acts c end count none later h =
    ends-later script replay _ acts c end count (later (find-none c call _ replay.calls (event-number (event.Lost node attempt code) (max replay.reached at)) (equal_or_not c call) none))
line-ends script replay (Tick at) acts c end count none later h = ends-later script replay (Tick at) acts c end count (later none)
line-ends script replay (Join call) acts c end count none later h =
    ends-later script replay (Join call) acts c end count (later (find-none c call _ replay.calls (joined-number replay.reached) (equal_or_not c call) none))

ends-from : (script : Script) (replay : Replay) (acts : List Act) (c : ℕ) (end : End) (count : ℕ) → find (is_call c) replay.calls ≡ None → Contains (told_from script replay acts) (Ended c end count)
    → EndsBy script replay acts c end count
ends-from script replay [] c end count none h = absurd (let less = h.1 in omega (arith, less))
ends-from script replay (act ∷ acts) c end count none h =
    by (Contains-append_cases (tells script replay act) (told_from script (after script replay act) acts) (Ended c end count) h)
    (λ n k. ends-from script (after script replay act) acts c end count n k)
  where
    by : Contains (tells script replay act) (Ended c end count) ⊎ Contains (told_from script (after script replay act) acts) (Ended c end count)
        → (find (is_call c) (after script replay act).calls ≡ None → Contains (told_from script (after script replay act) acts) (Ended c end count) → EndsBy script
        (after script replay act) acts c end count)
        → EndsBy script replay (act ∷ acts) c end count
    by (inl h) again = absurd (uncounted c end count (tells script replay act) h (none-tells c script replay act none))
    by (inr h) again = line-ends script replay act acts c end count none (λ n. again n h) h

-- Each end that is told is the machine's for that call's own events.
pub ends-are-the-machines : (script : Script) (c : ℕ) (end : End) (count : ℕ) → Contains (told script) (Ended c end count) → EndsBy script unbegun script.acts c end count
unfolding told
ends-are-the-machines script c end count h = ends-from script unbegun script.acts c end count refl h
