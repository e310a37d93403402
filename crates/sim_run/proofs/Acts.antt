-- A call that acts is the plain machine's call, and each mark that it waits for is among all marks.
use Rattle.std.proofs.Common.{◌≡◌, ℕ, zero, suc, ◌+◌, ◌<◌, ◌≤◌, inl, inr, max, Bool, true, false, cond, nat_le, List, [], ◌∷◌, Option, Some, None, is_some, refl, ap, sym, ◌∙◌, subst, arith}
use Rattle.std.proofs.lemmas.Bool.Decides.{nat_tests}
use Rattle.std.specs.List.{AllByRecursion}
use Rattle.rpc_model.specs.declared.event.Event.{Event}
use Rattle.rpc_model.specs.Effects.{Mark as CallMark}
use Rattle.rpc_model.specs.Kinds.{script_kinds}
use Rattle.rpc_model.specs.Machine.{step}
use Rattle.rpc_model.specs.State.{end_of}
use Rattle.rpc_model.specs.Marks.{Begun, is_before, set_mark, set_all, take_mark, mark_event, least_mark, marks_left, weave_at_most, weave_least, finish_at_most, finish_least, finish}
use Rattle.model_laws.proofs.Weaves.{taken-left}
use Rattle.model_laws.proofs.Within.{AreWithin, step-within}
use Rattle.sim_run.proofs.Fit.{taken-fit}
use Rattle.timer_core.specs.declared.mark.Mark.{Mark}
use Rattle.timer_core.specs.Marks.{added, comes_after}
use Rattle.sim_run.specs.declared.turn.Turn.{Turn}
use Rattle.sim_run.specs.declared.turn.Turn.TheVariants as turn
use Rattle.sim_run.specs.Marked.{timed, marked, HasMark, HasMarks, IsSorted, IsFit}
use Rattle.sim_run.specs.Acting.{Acting, acted, taken, woven_at_most, woven_least, woven, finished_at_most, finished_least, finished_by, turned_by, joined_by}
use Rattle.sim_run.specs.Slots.{turned, finished}

-- ---- the call is the machine's

-- what is to be said of all fewer marks
abbrev SameCalls : ℕ → ℕ → Type 0
SameCalls n first = (r : ℕ) (c : Acting) → ((finished_at_most n first r c).0 ≡ (finish_at_most n r c.call).0) × ((finished_at_most n first r c).1.call ≡ (finish_at_most n r c.call).1)

woven-call : (n first moment : ℕ) (a : Acting) → (woven_at_most n first moment a).call ≡ weave_at_most n moment a.call
woven-call zero first moment a = refl
woven-call (suc n) first moment a = by (least_mark a.call.waiting) (λ c. woven-call n first moment c)
  where
    by : (o : Option (CallMark × List CallMark)) → ((c : Acting) → (woven_at_most n first moment c).call ≡ weave_at_most n moment c.call)
        → (woven_least (woven_at_most n first moment) first moment a o).call ≡ weave_least (weave_at_most n moment) moment a.call o
    by None again = refl
    by (Some (mark, others)) again = at (nat_le mark.moment moment)
      where
        at : (v : Bool) → (cond v (woven_at_most n first moment (taken first a mark others)) a).call ≡ cond v (weave_at_most n moment (take_mark a.call mark others)) a.call
        at true = again (taken first a mark others)
        at false = refl

finished-call : (n first reached : ℕ) (a : Acting)
    → ((finished_at_most n first reached a).0 ≡ (finish_at_most n reached a.call).0) × ((finished_at_most n first reached a).1.call ≡ (finish_at_most n reached a.call).1)
finished-call zero first reached a = (refl, refl)
finished-call (suc n) first reached a = at (is_some (end_of a.call.state)) (λ r c. finished-call n first r c)
  where
    by : (o : Option (CallMark × List CallMark)) → SameCalls n first → ((finished_least (finished_at_most n first) first reached a o).0 ≡ (finish_least (finish_at_most n) reached a.call o).0)
        × ((finished_least (finished_at_most n first) first reached a o).1.call ≡ (finish_least (finish_at_most n) reached a.call o).1)
    by None again = (refl, refl)
    by (Some (mark, others)) again = again (max reached mark.moment) (taken first a mark others)

    at : (v : Bool) → SameCalls n first
        → ((cond v (reached, a) (finished_least (finished_at_most n first) first reached a (least_mark a.call.waiting))).0 ≡
        (cond v (reached, a.call) (finish_least (finish_at_most n) reached a.call (least_mark a.call.waiting))).0)
        × ((cond v (reached, a) (finished_least (finished_at_most n first) first reached a (least_mark a.call.waiting))).1.call ≡
        (cond v (reached, a.call) (finish_least (finish_at_most n) reached a.call (least_mark a.call.waiting))).1)
    at true again = (refl, refl)
    at false again = by (least_mark a.call.waiting) again

pub turned-call : (t : Turn) (first : ℕ) (a : Acting) → (turned_by t first a).call ≡ turned t a.call
turned-call (turn.Event event moment) first a = refl
turned-call (turn.Due moment) first a = woven-call (marks_left a.call) first moment a

pub joined-moment : (reached first : ℕ) (a : Acting) → (finished_by first reached a).0 ≡ (finish reached a.call).0
joined-moment reached first a = (finished-call (marks_left a.call) first reached a).0

pub joined-call : (reached first : ℕ) (a : Acting) → (joined_by reached first a).call ≡ finished reached a.call
joined-call reached first a = (finished-call (marks_left a.call) first reached a).1

-- ---- marks are taken one by one

woven-fuel : (n m first moment : ℕ) (a : Acting) → marks_left a.call ≤ n → marks_left a.call ≤ m → woven_at_most n first moment a ≡ woven_at_most m first moment a
woven-fuel zero m first moment a few few' = none m (least_mark a.call.waiting) refl
  where
    none : (m : ℕ) (o : Option (CallMark × List CallMark)) → least_mark a.call.waiting ≡ o → a ≡ woven_at_most m first moment a
    none zero o e = refl
    none (suc m) None e = sym (ap (woven_least (woven_at_most m first moment) first moment a) e)
    none (suc m) (Some (mark, others)) e = let l = taken-left a.call mark others e in absurd (omega (arith, l, few))
woven-fuel (suc n) zero first moment a few few' = none (least_mark a.call.waiting) refl
  where
    none : (o : Option (CallMark × List CallMark)) → least_mark a.call.waiting ≡ o → woven_least (woven_at_most n first moment) first moment a (least_mark a.call.waiting) ≡ a
    none None e = ap (woven_least (woven_at_most n first moment) first moment a) e
    none (Some (mark, others)) e = let l = taken-left a.call mark others e in absurd (omega (arith, l, few'))
woven-fuel (suc n) (suc m) first moment a few few' = by (least_mark a.call.waiting) refl (λ c h h'. woven-fuel n m first moment c h h')
  where
    by : (o : Option (CallMark × List CallMark)) → least_mark a.call.waiting ≡ o
        → ((c : Acting) → marks_left c.call ≤ n → marks_left c.call ≤ m → woven_at_most n first moment c ≡ woven_at_most m first moment c)
        → woven_least (woven_at_most n first moment) first moment a o ≡ woven_least (woven_at_most m first moment) first moment a o
    by None e again = refl
    by (Some (mark, others)) e again =
        let l = taken-left a.call mark others e in
        ap (λ (x : Acting). cond (nat_le mark.moment moment) x a) (again (taken first a mark others) (omega (arith, l, few)) (omega (arith, l, few')))

-- The mark that comes first is due, and is taken.
pub woven-due : (first moment : ℕ) (a : Acting) (mark : CallMark) (others : List CallMark) → least_mark a.call.waiting ≡ Some (mark, others) → mark.moment ≤ moment
    → woven first moment a ≡ woven first moment (taken first a mark others)
woven-due first moment a mark others e due =
    let l = taken-left a.call mark others e in
    let test : nat_le mark.moment moment ≡ true = grind (arith, nat_tests) in
    let once : woven_at_most (suc (marks_left a.call)) first moment a ≡ woven_at_most (marks_left a.call) first moment (taken first a mark others) =
    ap (woven_least (woven_at_most (marks_left a.call) first moment) first moment a) e ∙ ap (λ v. cond v (woven_at_most (marks_left a.call) first moment (taken first a mark others)) a) test in
    woven-fuel (marks_left a.call) (suc (marks_left a.call)) first moment a (omega arith) (omega arith) ∙ once
    ∙ woven-fuel (marks_left a.call) (marks_left (taken first a mark others).call) first moment (taken first a mark others) (omega (arith, l)) (omega arith)

-- None is, and the call stays as it is.
pub woven-late : (first moment : ℕ) (a : Acting) → ((mark : CallMark) (others : List CallMark) → least_mark a.call.waiting ≡ Some (mark, others) → moment < mark.moment) → woven first moment a ≡ a
woven-late first moment a late = by (marks_left a.call) (least_mark a.call.waiting) refl
  where
    by : (n : ℕ) (o : Option (CallMark × List CallMark)) → least_mark a.call.waiting ≡ o → woven_at_most n first moment a ≡ a
    by zero o e = refl
    by (suc n) None e = ap (woven_least (woven_at_most n first moment) first moment a) e
    by (suc n) (Some (mark, others)) e =
        let l = late mark others e in
        let test : nat_le mark.moment moment ≡ false = grind (arith, nat_tests) in
        ap (woven_least (woven_at_most n first moment) first moment a) e ∙ ap (λ v. cond v (woven_at_most n first moment (taken first a mark others)) a) test

-- a call without a mark that it may take stays as it is
finished-idle : (n first reached : ℕ) (a : Acting) → least_mark a.call.waiting ≡ None → finished_at_most n first reached a ≡ (reached, a)
finished-idle zero first reached a none = refl
finished-idle (suc n) first reached a none =
    ap (λ (o : Option (CallMark × List CallMark)). cond {A = ℕ × Acting} (is_some (end_of a.call.state)) (reached, a) (finished_least (finished_at_most n first) first reached a o)) none
    ∙ same (is_some (end_of a.call.state))
  where
    same : (v : Bool) → cond {A = ℕ × Acting} v (reached, a) (reached, a) ≡ (reached, a)
    same true = refl
    same false = refl

no-fuel : (a : Acting) → marks_left a.call ≤ 0 → least_mark a.call.waiting ≡ None
no-fuel a few = by (least_mark a.call.waiting) refl
  where
    by : (o : Option (CallMark × List CallMark)) → least_mark a.call.waiting ≡ o → o ≡ None
    by None e = refl
    by (Some (mark, others)) e = let l = taken-left a.call mark others e in absurd (omega (arith, l, few))

finished-fuel : (n m first reached : ℕ) (a : Acting) → marks_left a.call ≤ n → marks_left a.call ≤ m → finished_at_most n first reached a ≡ finished_at_most m first reached a
finished-fuel zero m first reached a few few' = sym (finished-idle m first reached a (no-fuel a few))
finished-fuel (suc n) zero first reached a few few' = finished-idle (suc n) first reached a (no-fuel a few')
finished-fuel (suc n) (suc m) first reached a few few' =
    ap (λ (x : ℕ × Acting). cond {A = ℕ × Acting} (is_some (end_of a.call.state)) (reached, a) x) (by (least_mark a.call.waiting) refl (λ r c h h'. finished-fuel n m first r c h h'))
  where
    by : (o : Option (CallMark × List CallMark)) → least_mark a.call.waiting ≡ o
        → ((r : ℕ) (c : Acting) → marks_left c.call ≤ n → marks_left c.call ≤ m → finished_at_most n first r c ≡ finished_at_most m first r c)
        → finished_least (finished_at_most n first) first reached a o ≡ finished_least (finished_at_most m first) first reached a o
    by None e again = refl
    by (Some (mark, others)) e again =
        let l = taken-left a.call mark others e in
        again (max reached mark.moment) (taken first a mark others) (omega (arith, l, few)) (omega (arith, l, few'))

-- The call has no end, and the mark that comes first is taken.
pub finished-open : (first reached : ℕ) (a : Acting) (mark : CallMark) (others : List CallMark) → is_some (end_of a.call.state) ≡ false → least_mark a.call.waiting ≡ Some (mark, others)
    → finished_by first reached a ≡ finished_by first (max reached mark.moment) (taken first a mark others)
finished-open first reached a mark others open_ e =
    let l = taken-left a.call mark others e in
    let once : finished_at_most (suc (marks_left a.call)) first reached a ≡ finished_at_most (marks_left a.call) first (max reached mark.moment) (taken first a mark others) =
    ap (λ v. cond {A = ℕ × Acting} v (reached, a) (finished_least (finished_at_most (marks_left a.call) first) first reached a (least_mark a.call.waiting))) open_
    ∙ ap (finished_least (finished_at_most (marks_left a.call) first) first reached a) e in
    finished-fuel (marks_left a.call) (suc (marks_left a.call)) first reached a (omega arith) (omega arith) ∙ once
    ∙ finished-fuel (marks_left a.call) (marks_left (taken first a mark others).call) first (max reached mark.moment) (taken first a mark others) (omega (arith, l)) (omega arith)

-- It has one, or no mark is left.
pub finished-over : (first reached : ℕ) (a : Acting) → is_some (end_of a.call.state) ≡ true → finished_by first reached a ≡ (reached, a)
finished-over first reached a over = by (marks_left a.call)
  where
    by : (n : ℕ) → finished_at_most n first reached a ≡ (reached, a)
    by zero = refl
    by (suc n) = ap (λ v. cond {A = ℕ × Acting} v (reached, a) (finished_least (finished_at_most n first) first reached a (least_mark a.call.waiting))) over

pub finished-none : (first reached : ℕ) (a : Acting) → least_mark a.call.waiting ≡ None → finished_by first reached a ≡ (reached, a)
finished-none first reached a none = finished-idle (marks_left a.call) first reached a none

-- The moment reached never goes back.
finish-reaches : (n reached : ℕ) (b : Begun) → reached ≤ (finish_at_most n reached b).0
finish-reaches zero reached b = omega arith
finish-reaches (suc n) reached b = at (is_some (end_of b.state)) (λ r c. finish-reaches n r c)
  where
    by : (o : Option (CallMark × List CallMark)) → ((r : ℕ) (c : Begun) → r ≤ (finish_at_most n r c).0) → reached ≤ (finish_least (finish_at_most n) reached b o).0
    by None again = omega arith
    by (Some (mark, others)) again = let h = again (max reached mark.moment) (take_mark b mark others) in omega (arith, h)

    at : (v : Bool) → ((r : ℕ) (c : Begun) → r ≤ (finish_at_most n r c).0) → reached ≤ (cond v (reached, b) (finish_least (finish_at_most n) reached b (least_mark b.waiting))).0
    at true again = omega arith
    at false again = by (least_mark b.waiting) again

pub finished-reaches : (first reached : ℕ) (a : Acting) → reached ≤ (finished_by first reached a).0
finished-reaches first reached a = let h = finish-reaches (marks_left a.call) reached a.call in let m = joined-moment reached first a in omega (arith, h, m)

-- ---- marks among all marks

-- A mark that is in the list stays in it when one is added.
has-added : (id moment : ℕ) (mark : Mark) (marks : List Mark) → HasMark id moment marks → HasMark id moment (added mark marks)
has-added id moment mark [] h = absurd h
has-added id moment mark (m ∷ ms) h = by (comes_after m mark) h (λ there. has-added id moment mark ms there)
  where
    by : (v : Bool) → HasMark id moment (m ∷ ms) → (HasMark id moment ms → HasMark id moment (added mark ms)) → HasMark id moment (cond v (mark ∷ m ∷ ms) (m ∷ added mark ms))
    by true h again = inr h
    by false (inl here) again = inl here
    by false (inr there) again = inr (again there)

has-new : (mark : Mark) (marks : List Mark) → HasMark mark.id mark.moment (added mark marks)
has-new mark [] = inl (refl, refl)
has-new mark (m ∷ ms) = by (comes_after m mark) (has-new mark ms)
  where
    by : (v : Bool) → HasMark mark.id mark.moment (added mark ms) → HasMark mark.id mark.moment (cond v (mark ∷ m ∷ ms) (m ∷ added mark ms))
    by true rest = inl (refl, refl)
    by false rest = inr rest

pub has-marked : (id moment first : ℕ) (set : List CallMark) (marks : List Mark) → HasMark id moment marks → HasMark id moment (marked first set marks)
has-marked id moment first [] marks h = h
has-marked id moment first (w ∷ set) marks h = has-marked id moment first set (added (timed first w) marks) (has-added id moment (timed first w) marks h)

pub all-has : (first : ℕ) (waiting : List CallMark) (marks more : List Mark) → ((id moment : ℕ) → HasMark id moment marks → HasMark id moment more) → HasMarks first waiting marks
    → HasMarks first waiting more
all-has first [] marks more h all = tt
all-has first (w ∷ ws) marks more h all = (h (first + w.node) w.moment all.0, all-has first ws marks more h all.1)

all-set : (P : CallMark → Type 0) (mark : CallMark) (ws : List CallMark) → P mark → AllByRecursion P ws → AllByRecursion P (set_mark mark ws)
all-set P mark [] p all = (p, tt)
all-set P mark (w ∷ ws) p all = by (is_before mark w) (all-set P mark ws p all.1)
  where
    by : (v : Bool) → AllByRecursion P (set_mark mark ws) → AllByRecursion P (cond v (mark ∷ w ∷ ws) (w ∷ set_mark mark ws))
    by true rest = (p, all)
    by false rest = (all.0, rest)

-- The marks that a call sets are in the list, and so are those that it waited for.
pub marks-set : (first : ℕ) (set waiting : List CallMark) (marks : List Mark) → HasMarks first waiting marks → HasMarks first (set_all set waiting) (marked first set marks)
marks-set first [] waiting marks all = all
marks-set first (w ∷ set) waiting marks all =
    let own : HasMark (first + w.node) w.moment (added (timed first w) marks) = has-new (timed first w) marks in
    let others = all-has first waiting marks (added (timed first w) marks) (λ id moment h. has-added id moment (timed first w) marks h) all in
    marks-set first set (set_mark w waiting) (added (timed first w) marks) (all-set (λ x. HasMark (first + x.node) x.moment (added (timed first w) marks)) w waiting own others)

-- each mark that a call waits for, of those whose moments are so, is in the list
abbrev pub HasIf : (ℕ → Type 0) → ℕ → List CallMark → List Mark → Type 0
HasIf Q first waiting marks = AllByRecursion (λ w. Q w.moment → HasMark (first + w.node) w.moment marks) waiting

all-late : (Q : ℕ → Type 0) (first : ℕ) (waiting : List CallMark) (marks more : List Mark) → ((id moment : ℕ) → HasMark id moment marks → HasMark id moment more)
    → HasIf Q first waiting marks → HasIf Q first waiting more
all-late Q first [] marks more h all = tt
all-late Q first (w ∷ ws) marks more h all = ((λ late. h (first + w.node) w.moment (all.0 late)), all-late Q first ws marks more h all.1)

late-set : (Q : ℕ → Type 0) (first : ℕ) (set waiting : List CallMark) (marks : List Mark) → HasIf Q first waiting marks → HasIf Q first (set_all set waiting) (marked first set marks)
late-set Q first [] waiting marks all = all
late-set Q first (w ∷ set) waiting marks all =
    let own : HasMark (first + w.node) w.moment (added (timed first w) marks) = has-new (timed first w) marks in
    let others = all-late Q first waiting marks (added (timed first w) marks) (λ id moment h. has-added id moment (timed first w) marks h) all in
    late-set Q first set (set_mark w waiting) (added (timed first w) marks) (all-set (λ x. Q x.moment → HasMark (first + x.node) x.moment (added (timed first w) marks)) w waiting (λ late. own) others)

all-added : (P : Mark → Type 0) (mark : Mark) (marks : List Mark) → P mark → AllByRecursion P marks → AllByRecursion P (added mark marks)
all-added P mark [] p all = (p, tt)
all-added P mark (m ∷ ms) p all = by (comes_after m mark) (all-added P mark ms p all.1)
  where
    by : (v : Bool) → AllByRecursion P (added mark ms) → AllByRecursion P (cond v (mark ∷ m ∷ ms) (m ∷ added mark ms))
    by true rest = (p, all)
    by false rest = (all.0, rest)

pub ids-set : (P : ℕ → Type 0) (n first : ℕ) (set : List CallMark) (marks : List Mark) → ((node : ℕ) → node < n → P (first + node)) → AreWithin n set
    → AllByRecursion (λ (m : Mark). P m.id) marks → AllByRecursion (λ (m : Mark). P m.id) (marked first set marks)
ids-set P n first [] marks own within all = all
ids-set P n first (w ∷ set) marks own within all = ids-set P n first set (added (timed first w) marks) own within.1 (all-added (λ (m : Mark). P m.id) (timed first w) marks (own w.node within.0) all)

-- what a call within a range of so many ids keeps of the list, and of its own fitness: its own marks, all that were there, and what holds of their ids
pub record IsMarked (n first : ℕ) (a b : Acting) : Type 1 where
  pub own : (Q : ℕ → Type 0) → HasIf Q first a.call.waiting a.marks → HasIf Q first b.call.waiting b.marks
  pub others : (id moment : ℕ) → HasMark id moment a.marks → HasMark id moment b.marks
  pub ids : (P : ℕ → Type 0) → ((node : ℕ) → node < n → P (first + node)) → AllByRecursion (λ (m : Mark). P m.id) a.marks → AllByRecursion (λ (m : Mark). P m.id) b.marks

same-marked : (n first : ℕ) (a : Acting) → IsMarked n first a a
same-marked n first a = record { own = λ Q h. h; others = λ id moment h. h; ids = λ P own all. all }

then-marked : (n first : ℕ) (a b c : Acting) → IsMarked n first a b → IsMarked n first b c → IsMarked n first a c
then-marked n first a b c h k = record { own = λ Q x. k.own Q (h.own Q x); others = λ id moment x. k.others id moment (h.others id moment x); ids = λ P own all. k.ids P own (h.ids P own all) }

acted-marked : (n first : ℕ) (event : Event) (moment : ℕ) (a : Acting) → IsFit n a.call → IsMarked n first a (acted first event moment a)
acted-marked n first event moment a fit =
    let run = step script_kinds a.call.call a.call.state event moment in
    record {
      own = λ Q h. late-set Q first run.marks a.call.waiting a.marks h;
      others = λ id m h. has-marked id m first run.marks a.marks h;
      ids = λ P own all. ids-set P n first run.marks a.marks own (step-within script_kinds n a.call.state a.call.call event moment fit.size) all;
    }

least-rest : (P : CallMark → Type 0) (ws : List CallMark) (mark : CallMark) (others : List CallMark) → least_mark ws ≡ Some (mark, others) → AllByRecursion P ws → AllByRecursion P others
least-rest P [] mark others e all = absurd (cc)
least-rest P (w ∷ ws) mark others e all = let pair : (w, ws) ≡ (mark, others) = cc in let same : ws ≡ others = ap (λ (p : CallMark × List CallMark). p.1) pair in subst (AllByRecursion P) same all.1

taken-marked : (n first : ℕ) (a : Acting) (mark : CallMark) (others : List CallMark) → least_mark a.call.waiting ≡ Some (mark, others) → IsFit n a.call → IsMarked n first a (taken first a mark others)
taken-marked n first a mark others e fit =
    let without : Acting = record a { call = record a.call { waiting = others } } in
    let kept : IsFit n without.call =
    record { size = fit.size; nodes = least-rest (λ w. w.node < n) a.call.waiting mark others e fit.nodes; sorted = sorted-rest a.call.waiting mark others e fit.sorted } in
    let step_is = acted-marked n first (mark_event mark.node mark.backup) mark.moment without kept in
    record { own = λ Q h. step_is.own Q (least-rest (λ w. Q w.moment → HasMark (first + w.node) w.moment a.marks) a.call.waiting mark others e h); others = step_is.others; ids = step_is.ids }
  where
    sorted-rest : (ws : List CallMark) (mark : CallMark) (others : List CallMark) → least_mark ws ≡ Some (mark, others) → IsSorted ws → IsSorted others
    sorted-rest [] mark others e s = absurd (cc)
    sorted-rest (w ∷ ws) mark others e s = let pair : (w, ws) ≡ (mark, others) = cc in let same : ws ≡ others = ap (λ (p : CallMark × List CallMark). p.1) pair in subst IsSorted same s.1

woven-marked : (n count first moment : ℕ) (a : Acting) → IsFit n a.call → IsMarked n first a (woven_at_most count first moment a)
woven-marked n zero first moment a fit = same-marked n first a
woven-marked n (suc count) first moment a fit = by (least_mark a.call.waiting) refl (λ c h. woven-marked n count first moment c h)
  where
    by : (o : Option (CallMark × List CallMark)) → least_mark a.call.waiting ≡ o → ((c : Acting) → IsFit n c.call → IsMarked n first c (woven_at_most count first moment c))
        → IsMarked n first a (woven_least (woven_at_most count first moment) first moment a o)
    by None e again = same-marked n first a
    by (Some (mark, others)) e again = at (nat_le mark.moment moment)
      where
        at : (v : Bool) → IsMarked n first a (cond v (woven_at_most count first moment (taken first a mark others)) a)
        at true =
            then-marked n first a (taken first a mark others) (woven_at_most count first moment (taken first a mark others)) (taken-marked n first a mark others e fit)
            (again (taken first a mark others) (taken-fit n a.call mark others e fit))
        at false = same-marked n first a

finished-marked : (n count first reached : ℕ) (a : Acting) → IsFit n a.call → IsMarked n first a (finished_at_most count first reached a).1
finished-marked n zero first reached a fit = same-marked n first a
finished-marked n (suc count) first reached a fit = at (is_some (end_of a.call.state)) (λ r c h. finished-marked n count first r c h)
  where
    by : (o : Option (CallMark × List CallMark)) → least_mark a.call.waiting ≡ o → ((r : ℕ) (c : Acting) → IsFit n c.call → IsMarked n first c (finished_at_most count first r c).1)
        → IsMarked n first a (finished_least (finished_at_most count first) first reached a o).1
    by None e again = same-marked n first a
    by (Some (mark, others)) e again =
        then-marked n first a (taken first a mark others) (finished_at_most count first (max reached mark.moment) (taken first a mark others)).1 (taken-marked n first a mark others e fit)
        (again (max reached mark.moment) (taken first a mark others) (taken-fit n a.call mark others e fit))

    at : (v : Bool) → ((r : ℕ) (c : Acting) → IsFit n c.call → IsMarked n first c (finished_at_most count first r c).1)
        → IsMarked n first a (cond v (reached, a) (finished_least (finished_at_most count first) first reached a (least_mark a.call.waiting))).1
    at true again = same-marked n first a
    at false again = by (least_mark a.call.waiting) refl again

pub turned-marked : (n : ℕ) (t : Turn) (first : ℕ) (a : Acting) → IsFit n a.call → IsMarked n first a (turned_by t first a)
turned-marked n (turn.Event event moment) first a fit = acted-marked n first event moment a fit
turned-marked n (turn.Due moment) first a fit = woven-marked n (marks_left a.call) first moment a fit

pub joined-marked : (n reached first : ℕ) (a : Acting) → IsFit n a.call → IsMarked n first a (joined_by reached first a)
joined-marked n reached first a fit = finished-marked n (marks_left a.call) first reached a fit

-- ---- all marks, and those past a moment

pub if-all : (Q : ℕ → Type 0) (first : ℕ) (waiting : List CallMark) (marks : List Mark) → HasMarks first waiting marks → HasIf Q first waiting marks
if-all Q first [] marks all = tt
if-all Q first (w ∷ ws) marks all = ((λ so. all.0), if-all Q first ws marks all.1)

pub all-if : (Q : ℕ → Type 0) (first : ℕ) (waiting : List CallMark) (marks : List Mark) → AllByRecursion (λ w. Q w.moment) waiting → HasIf Q first waiting marks → HasMarks first waiting marks
all-if Q first [] marks so all = tt
all-if Q first (w ∷ ws) marks so all = (all.0 so.0, all-if Q first ws marks so.1 all.1)

any-moment : (waiting : List CallMark) → AllByRecursion (λ (w : CallMark). Unit {0}) waiting
any-moment [] = tt
any-moment (w ∷ ws) = (tt, any-moment ws)

-- A call all of whose marks are in the list acts, and all of them are.
pub marks-own : (n first : ℕ) (a b : Acting) → IsMarked n first a b → HasMarks first a.call.waiting a.marks → HasMarks first b.call.waiting b.marks
marks-own n first a b marked all =
    all-if (λ m. Unit {0}) first b.call.waiting b.marks (any-moment b.call.waiting) (marked.own (λ m. Unit {0}) (if-all (λ m. Unit {0}) first a.call.waiting a.marks all))
