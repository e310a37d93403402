-- What comes to a call that is over changes nothing that is told.
use Rattle.std.proofs.Common.{◌≡◌, ℕ, ◌≤◌, max, Bool, true, false, cond, List, [], ◌∷◌, ◌++◌, length, map, find, Some, arith, refl, ap, ◌∙◌}
use Rattle.rpc_model.specs.declared.event.End.{End}
use Rattle.rpc_model.specs.declared.event.Event.{Event}
use Rattle.rpc_model.specs.declared.event.Event.TheVariants as event
use Rattle.rpc_model.specs.declared.script.Act.{Act}
use Rattle.rpc_model.specs.declared.script.Act.TheVariants.{Call, Cancel, Reply, Lose, Tick, Join}
use Rattle.rpc_model.specs.declared.script.Script.{Script}
use Rattle.rpc_model.specs.Kinds.{script_kinds}
use Rattle.rpc_model.specs.Effects.{Mark}
use Rattle.rpc_model.specs.State.{end_of}
use Rattle.rpc_model.specs.Machine.{step}
use Rattle.rpc_model.specs.Marks.{Begun, apply, set_all, unstarted, weave}
use Rattle.rpc_model.specs.Told.{Standing, begun, full, told_of, Replay, unbegun, is_call, change_first, event_after, call_event, after, tells, told_from, told}
use Rattle.model_laws.specs.Early.{settle}
use Rattle.model_laws.specs.Logs.{after_all}
use Rattle.model_laws.specs.Late.{BringsTo, IsOver, LateLinesTellNothing}
use Rattle.model_laws.proofs.Ended.{step-ended}
use Rattle.model_laws.proofs.Few.{call-step-few}
use Rattle.model_laws.proofs.Weaves.{weave-twice}
use Rattle.model_laws.proofs.Finishes.{some-end}
use Rattle.model_laws.proofs.Early.{same-lines}

-- ---- a call

no-marks : (marks : List Mark) → length marks ≤ 0 → marks ≡ []
no-marks [] h = refl
no-marks (m ∷ marks) h = absurd (omega (arith, h))

-- No event changes a call that has an end, and none sets a mark.
apply-ended : (b : Begun) (e : Event) (m : ℕ) (end : End) → end_of b.state ≡ Some end → apply b e m ≡ b
apply-ended b e m end h =
    let run = step script_kinds b.call b.state e m in
    let same : run.state ≡ b.state = step-ended script_kinds b.call b.state e m end h in
    let few = call-step-few script_kinds b.call b.state e m in
    let left : unstarted run.state ≡ unstarted b.state = ap unstarted same in
    let none : run.marks ≡ [] = no-marks run.marks (omega (arith, few, left)) in
    ap (λ s. record b { state = s; waiting = set_all run.marks b.waiting }) same ∙ ap (λ ms. record b { waiting = set_all ms b.waiting }) none

over-event : (e : Event) (m : ℕ) (s : Standing) → IsOver m (Some s) → settle m (event_after e m s) ≡ settle m s
over-event e m (begun b) over =
    let ended = some-end (end_of (weave m b).state) over in
    ap (λ d. begun (weave m d)) (apply-ended (weave m b) e m ended.0 ended.1) ∙ ap begun (weave-twice m m b (omega arith))
over-event e m (full call) over = refl
over-event e m (told_of call) over = refl

-- ---- all calls

over-change : (c m : ℕ) (e : Event) (xs : List Standing) → IsOver m (find (is_call c) xs) → map (settle m) (change_first (is_call c) (event_after e m) xs) ≡ map (settle m) xs
over-change c m e [] over = refl
over-change c m e (x ∷ xs) over = by (is_call c x) refl over (λ h. over-change c m e xs h)
  where
    by : (v : Bool) → is_call c x ≡ v → IsOver m (cond v (Some x) (find (is_call c) xs)) → (IsOver m (find (is_call c) xs) → map (settle m) (change_first (is_call c) (event_after e m) xs)
        ≡ map (settle m) xs)
        → map (settle m) (cond v (event_after e m x ∷ xs) (x ∷ change_first (is_call c) (event_after e m) xs)) ≡ map (settle m) (x ∷ xs)
    by true is h again = ap (λ s. s ∷ map (settle m) xs) (over-event e m x h)
    by false is h again = ap (λ ss. settle m x ∷ ss) (again h)

-- ---- a line

event-tells : (script : Script) (replay : Replay) (c at : ℕ) (e : Event) (rest : List Act) → IsOver (max replay.reached at) (find (is_call c) replay.calls)
    → told_from script (call_event replay (max replay.reached at) c e) rest ≡ told_from script (record replay { reached = max replay.reached at }) rest
event-tells script replay c at e rest over =
    let m = max replay.reached at in
    same-lines script rest (call_event replay m c e) (record replay { reached = m }) (ap (λ (ss : List Standing). record { reached = m; calls = ss }) (over-change c m e replay.calls over))

line-tells : (script : Script) (replay : Replay) (act : Act) (c at : ℕ) (rest : List Act) → BringsTo c at act → IsOver (max replay.reached at) (find (is_call c) replay.calls)
    → told_from script replay (act ∷ rest) ≡ told_from script replay (Tick at ∷ rest)
unfolding after tells
line-tells script replay (Call t call chan text) c at rest h over = absurd h
line-tells script replay (Cancel t call) c at rest h over = rw (h.0, h.1) (event-tells script replay c at event.Cancel rest over)
line-tells script replay (Reply t call node attempt code text) c at rest h over = rw (h.0, h.1) (event-tells script replay c at (event.Reply node attempt code text) rest over)
line-tells script replay (Lose t call node attempt code) c at rest h over = rw (h.0, h.1) (event-tells script replay c at (event.Lost node attempt code) rest over)
line-tells script replay (Tick t) c at rest h over = absurd h
line-tells script replay (Join call) c at rest h over = absurd h

lines-tell : (script : Script) (before : List Act) (replay : Replay) (act : Act) (c at : ℕ) (rest : List Act) → BringsTo c at act
    → IsOver (max (after_all script replay before).reached at) (find (is_call c) (after_all script replay before).calls)
    → told_from script replay (before ++ act ∷ rest) ≡ told_from script replay (before ++ Tick at ∷ rest)
lines-tell script [] replay act c at rest h over = line-tells script replay act c at rest h over
lines-tell script (a ∷ before) replay act c at rest h over = ap (λ ts. tells script replay a ++ ts) (lines-tell script before (after script replay a) act c at rest h over)

-- A line that brings something to a call that is over tells nothing and changes nothing that is told.
pub late-lines : LateLinesTellNothing
unfolding told
late-lines script before act rest c at lines h over = ap (told_from script unbegun) lines ∙ lines-tell script before unbegun act c at rest h over
