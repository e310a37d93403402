-- What a call took on its way from one state to another: events of lines, woven with its own marks.
use Rattle.std.proofs.Common.{◌≡◌, ℕ, zero, suc, ◌<◌, ◌≤◌, Bool, true, false, cond, nat_le, max, fold, List, [], ◌∷◌, ◌++◌, Option, Some, None, is_some, arith, refl, ap, sym, ◌∙◌, subst}
use Rattle.std.proofs.lemmas.List.Sums.{fold-append}
use Rattle.rpc_model.specs.declared.event.Event.{Event}
use Rattle.rpc_model.specs.declared.event.Event.TheVariants as event
use Rattle.rpc_model.specs.Effects.{Mark}
use Rattle.rpc_model.specs.Marks.{Begun, apply, marks_left, least_mark, take_mark, mark_event, weave_at_most, weave_least, weave, finish_at_most, finish_least}
use Rattle.model_laws.specs.Logs.{is_mark, outer, behind, take, IsFirst, NoneIsDue, ComesNext, AreWoven}
use Rattle.model_laws.proofs.Weaves.{none-left, taken-left}
use Rattle.rpc_model.specs.Kinds.{script_kinds}
use Rattle.rpc_model.specs.declared.kinds.MapKind.{MapKind}
use Rattle.rpc_model.specs.declared.kinds.MergeKind.{MergeKind}
use Rattle.rpc_model.specs.State.{Run, end_of, and_then}
use Rattle.rpc_model.specs.Machine.{step}

-- ---- what a call took

-- A call took events, of which these are the lines', on its way to another state.
pub record Took (lines : List (Event × ℕ)) (b d : Begun) : Type 0 where
  pub events : List (Event × ℕ)
  pub own : outer events ≡ lines
  pub woven : AreWoven b events
  pub reaches : fold take b events ≡ d

outer-append : (xs ys : List (Event × ℕ)) → outer (xs ++ ys) ≡ outer xs ++ outer ys
outer-append [] ys = refl
outer-append (x ∷ xs) ys = by (is_mark x.0) (outer-append xs ys)
  where
    by : (v : Bool) → outer (xs ++ ys) ≡ outer xs ++ outer ys → cond v (outer (xs ++ ys)) (x ∷ outer (xs ++ ys)) ≡ cond v (outer xs) (x ∷ outer xs) ++ outer ys
    by true h = h
    by false h = ap (λ zs. x ∷ zs) h

woven-append : (b : Begun) (xs ys : List (Event × ℕ)) → AreWoven b xs → AreWoven (fold take b xs) ys → AreWoven b (xs ++ ys)
woven-append b [] ys h k = k
woven-append b (x ∷ xs) ys h k = (h.0, woven-append (take b x) xs ys h.1 k)

pub took-none : (b : Begun) → Took [] b b
took-none b = record { events = []; own = refl; woven = tt; reaches = refl }

pub took-then : (xs ys : List (Event × ℕ)) (b d e : Begun) → Took xs b d → Took ys d e → Took (xs ++ ys) b e
took-then xs ys b d e h k = record {
  events = h.events ++ k.events;
  own = outer-append h.events k.events ∙ ap (λ zs. zs ++ outer k.events) h.own ∙ ap (λ zs. xs ++ zs) k.own;
  woven = woven-append b h.events k.events h.woven (subst (λ (z : Begun). AreWoven z k.events) (sym h.reaches) k.woven);
  reaches = fold-append take b h.events k.events ∙ ap (λ (z : Begun). fold take z k.events) h.reaches ∙ k.reaches;
}

-- ---- a mark

kind-next : (b : Begun) (moment node : ℕ) (kind : Bool) → IsFirst (record { moment = moment; node = node; backup = kind }) b.waiting → ComesNext b (mark_event node kind) moment
kind-next b moment node false h = h
kind-next b moment node true h = h

kind-mark : (node : ℕ) (kind : Bool) → is_mark (mark_event node kind) ≡ true
kind-mark node false = refl
kind-mark node true = refl

first-of : (ms : List Mark) (mark : Mark) (others : List Mark) → least_mark ms ≡ Some (mark, others) → IsFirst mark ms × (behind true ms ≡ others)
first-of [] mark others e = absurd (cc)
first-of (m ∷ ms) mark others e = let same : (m, ms) ≡ (mark, others) = cc in (ap (λ (p : Mark × List Mark). p.0) same, ap (λ (p : Mark × List Mark). p.1) same)

took-mark : (b : Begun) (mark : Mark) (others : List Mark) → least_mark b.waiting ≡ Some (mark, others) → Took [] b (take_mark b mark others)
took-mark b mark others e =
    let f = first-of b.waiting mark others e in
    let event = mark_event mark.node mark.backup in
    let is = kind-mark mark.node mark.backup in
    record {
      events = (event, mark.moment) ∷ [];
      own = ap (λ v. cond v [] ((event, mark.moment) ∷ [])) is;
      woven = (kind-next b mark.moment mark.node mark.backup f.0, tt);
      reaches = ap (λ ws. apply (record b { waiting = ws }) event mark.moment) (ap (λ v. behind v b.waiting) is ∙ f.1);
    }

-- ---- a line's event

line-next : (b : Begun) (e : Event) (m : ℕ) → is_mark e ≡ false → NoneIsDue m b.waiting → ComesNext b e m
line-next b (event.Reply node attempt code text) m is h = h
line-next b (event.Lost node attempt code) m is h = h
line-next b (event.Backup node) m is h = absurd (cc)
line-next b (event.Deadline node) m is h = absurd (cc)
line-next b event.Cancel m is h = h

took-event : (b : Begun) (e : Event) (m : ℕ) → is_mark e ≡ false → NoneIsDue m b.waiting → Took ((e, m) ∷ []) b (apply b e m)
took-event b e m is h = record {
  events = (e, m) ∷ [];
  own = ap (λ v. cond v [] ((e, m) ∷ [])) is;
  woven = (line-next b e m is h, tt);
  reaches = ap (λ v. apply (record b { waiting = behind v b.waiting }) e m) is;
}

-- ---- a weave and a finish

took-least : (again : Begun → Begun) (m : ℕ) (b : Begun) (o : Option (Mark × List Mark)) → least_mark b.waiting ≡ o → ((d : Begun) → Took [] d (again d)) → Took [] b (weave_least again m b o)
took-least again m b None e h = took-none b
took-least again m b (Some (mark, others)) e h = by (nat_le mark.moment m)
  where
    by : (v : Bool) → Took [] b (cond v (again (take_mark b mark others)) b)
    by true = took-then [] [] b (take_mark b mark others) (again (take_mark b mark others)) (took-mark b mark others e) (h (take_mark b mark others))
    by false = took-none b

weave-took : (k m : ℕ) (b : Begun) → Took [] b (weave_at_most k m b)
weave-took zero m b = took-none b
weave-took (suc k) m b = took-least (weave_at_most k m) m b (least_mark b.waiting) refl (λ d. weave-took k m d)

pub finish-took : (k r : ℕ) (b : Begun) → Took [] b (finish_at_most k r b).1
finish-took zero r b = took-none b
finish-took (suc k) r b = by (is_some (end_of b.state)) (least_mark b.waiting) refl (λ s d. finish-took k s d)
  where
    by : (v : Bool) (o : Option (Mark × List Mark)) → least_mark b.waiting ≡ o → ((s : ℕ) (d : Begun) → Took [] d (finish_at_most k s d).1)
        → Took [] b (cond v (r, b) (finish_least (finish_at_most k) r b o)).1
    by true o e h = took-none b
    by false None e h = took-none b
    by false (Some (mark, others)) e h =
        let t = take_mark b mark others in
        took-then [] [] b t (finish_at_most k (max r mark.moment) t).1 (took-mark b mark others e) (h (max r mark.moment) t)

idle-due : (m : ℕ) (ms : List Mark) → least_mark ms ≡ None → NoneIsDue m ms
idle-due m [] e = tt
idle-due m (x ∷ xs) e = absurd (cc)

late-due : (m : ℕ) (ms : List Mark) (mark : Mark) (others : List Mark) → least_mark ms ≡ Some (mark, others) → nat_le mark.moment m ≡ false → NoneIsDue m ms
late-due m [] mark others e late = tt
late-due m (x ∷ xs) mark others e late =
    let h : m < mark.moment = grind arith in
    let first = first-of (x ∷ xs) mark others e in
    subst (λ (y : Mark). m < y.moment) (sym first.0) h

-- After a weave no mark is due.
none-due : (k m : ℕ) (b : Begun) → marks_left b ≤ k → NoneIsDue m (weave_at_most k m b).waiting
none-due zero m b le = idle-due m b.waiting (none-left b le)
none-due (suc k) m b le = by (least_mark b.waiting) refl (λ d h. none-due k m d h)
  where
    at : (mark : Mark) (others : List Mark) (v : Bool) → nat_le mark.moment m ≡ v → least_mark b.waiting ≡ Some (mark, others)
        → ((d : Begun) → marks_left d ≤ k → NoneIsDue m (weave_at_most k m d).waiting)
        → NoneIsDue m (cond v (weave_at_most k m (take_mark b mark others)) b).waiting
    at mark others true due e again = let left = taken-left b mark others e in again (take_mark b mark others) (omega (arith, left, le))
    at mark others false due e again = late-due m b.waiting mark others e due

    by : (o : Option (Mark × List Mark)) → least_mark b.waiting ≡ o → ((d : Begun) → marks_left d ≤ k → NoneIsDue m (weave_at_most k m d).waiting)
        → NoneIsDue m (weave_least (weave_at_most k m) m b o).waiting
    by None e again = idle-due m b.waiting e
    by (Some (mark, others)) e again = at mark others (nat_le mark.moment m) refl e again

pub event-took : (e : Event) (m : ℕ) (b : Begun) → is_mark e ≡ false → Took ((e, m) ∷ []) b (apply (weave m b) e m)
event-took e m b is =
    took-then [] ((e, m) ∷ []) b (weave m b) (apply (weave m b) e m) (weave-took (marks_left b) m b) (took-event (weave m b) e m is (none-due (marks_left b) m b (omega arith)))

-- ---- the machine

-- The machine of what a call took is in the state that the call reached.
pub machine-took : (events : List (Event × ℕ)) (run : Run MapKind MergeKind) (b : Begun) → run.state ≡ b.state
    → (fold (λ (r : Run MapKind MergeKind) timed. and_then r (step script_kinds b.call r.state timed.0 timed.1)) run events).state ≡ (fold take b events).state
machine-took [] run b e = e
machine-took (timed ∷ events) run b e =
    machine-took events (and_then run (step script_kinds b.call run.state timed.0 timed.1)) (take b timed) (ap (λ s. (step script_kinds b.call s timed.0 timed.1).state) e)
