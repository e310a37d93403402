-- What a call that acts leaves of counts: no more marks than it had and might set.
use Rattle.std.proofs.Common.{◌≡◌, ℕ, zero, suc, ◌+◌, ◌*◌, ◌≤◌, Bool, true, false, cond, nat_le, List, [], ◌∷◌, length, slice_get, Option, Some, None, refl, ap, arith}
use Rattle.rpc_model.specs.declared.event.Event.{Event}
use Rattle.rpc_model.specs.Effects.{Mark as CallMark}
use Rattle.rpc_model.specs.Kinds.{script_kinds}
use Rattle.rpc_model.specs.Machine.{step}
use Rattle.rpc_model.specs.Marks.{Begun, least_mark, mark_event, marks_left, unstarted}
use Rattle.model_laws.proofs.Few.{call-step-few}
use Rattle.id_pool.specs.Ranges.{Slot, Vacant, Retired, Taken, change}
use Rattle.timer_core.specs.declared.mark.Mark.{Mark}
use Rattle.timer_core.specs.Marks.{added, comes_after}
use Rattle.sim_run.specs.declared.turn.Turn.{Turn}
use Rattle.sim_run.specs.declared.turn.Turn.TheVariants as turn
use Rattle.sim_run.specs.Marked.{timed, marked}
use Rattle.sim_run.specs.Acting.{Acting, acted, taken, woven_at_most, woven_least, turned_by}

-- ---- marks

added-length : (mark : Mark) (marks : List Mark) → length (added mark marks) ≡ suc (length marks)
added-length mark [] = refl
added-length mark (m ∷ ms) = by (comes_after m mark) (added-length mark ms)
  where
    by : (v : Bool) → length (added mark ms) ≡ suc (length ms) → length (cond v (mark ∷ m ∷ ms) (m ∷ added mark ms)) ≡ suc (suc (length ms))
    by true h = refl
    by false h = ap suc h

pub marked-length : (first : ℕ) (set : List CallMark) (marks : List Mark) → length (marked first set marks) ≡ length set + length marks
marked-length first [] marks = omega arith
marked-length first (w ∷ set) marks = let h = marked-length first set (added (timed first w) marks) in let l = added-length (timed first w) marks in omega (arith, h, l)

-- ---- a call that acts

-- of marks and of nodes that may set two no more
pub record IsFewer (a b : Acting) : Type 0 where
  pub marks : length b.marks + 2 * unstarted b.call.state ≤ length a.marks + 2 * unstarted a.call.state

same-fewer : (a : Acting) → IsFewer a a
same-fewer a = record { marks = omega arith }

then-fewer : (a b c : Acting) → IsFewer a b → IsFewer b c → IsFewer a c
then-fewer a b c h k = let hm = h.marks in let km = k.marks in record { marks = omega (arith, hm, km) }

acted-fewer : (first : ℕ) (event : Event) (moment : ℕ) (a : Acting) → IsFewer a (acted first event moment a)
acted-fewer first event moment a =
    let run = step script_kinds a.call.call a.call.state event moment in
    let few = call-step-few script_kinds a.call.call a.call.state event moment in
    let l = marked-length first run.marks a.marks in
    record { marks = omega (arith, few, l) }

taken-fewer : (first : ℕ) (a : Acting) (mark : CallMark) (others : List CallMark) → IsFewer a (taken first a mark others)
taken-fewer first a mark others = let h = acted-fewer first (mark_event mark.node mark.backup) mark.moment (record a { call = record a.call { waiting = others } }) in record { marks = h.marks }

woven-fewer : (n first moment : ℕ) (a : Acting) → IsFewer a (woven_at_most n first moment a)
woven-fewer zero first moment a = same-fewer a
woven-fewer (suc n) first moment a = by (least_mark a.call.waiting) (λ c. woven-fewer n first moment c)
  where
    by : (o : Option (CallMark × List CallMark)) → ((c : Acting) → IsFewer c (woven_at_most n first moment c)) → IsFewer a (woven_least (woven_at_most n first moment) first moment a o)
    by None again = same-fewer a
    by (Some (mark, others)) again = at (nat_le mark.moment moment)
      where
        at : (v : Bool) → IsFewer a (cond v (woven_at_most n first moment (taken first a mark others)) a)
        at true = then-fewer a (taken first a mark others) (woven_at_most n first moment (taken first a mark others)) (taken-fewer first a mark others) (again (taken first a mark others))
        at false = same-fewer a

pub turned-fewer : (t : Turn) (first : ℕ) (a : Acting) → IsFewer a (turned_by t first a)
turned-fewer (turn.Event event moment) first a = acted-fewer first event moment a
turned-fewer (turn.Due moment) first a = woven-fewer (marks_left a.call) first moment a

-- ---- all calls in slots

-- the nodes of a slot's call that weren't started
abbrev pub left_in : Slot Begun → ℕ
left_in (Vacant next) = 0
left_in Retired = 0
left_in (Taken r) = unstarted r.value.state

abbrev pub total_left : List (Slot Begun) → ℕ
total_left [] = 0
total_left (s ∷ ss) = left_in s + total_left ss

pub total-change : (i : ℕ) (g : Slot Begun → Slot Begun) (slots : List (Slot Begun)) (s : Slot Begun) → slice_get slots i ≡ Some s
    → total_left (change i g slots) + left_in s ≡ total_left slots + left_in (g s)
total-change i g [] s e = absurd (cc)
total-change zero g (x ∷ xs) s e =
    let same : x ≡ s = cc in
    let a = ap left_in same in
    let b = ap (λ y. left_in (g y)) same in
    omega (arith, a, b)
total-change (suc i) g (x ∷ xs) s e = let h = total-change i g xs s e in omega (arith, h)
