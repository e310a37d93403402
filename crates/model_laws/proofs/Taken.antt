-- A mark that a call takes is one that its nodes set.
use Rattle.std.proofs.Common.{◌≡◌, ℕ, Bool, true, false, fold, List, [], ◌∷◌, ◌++◌, arith, refl, ap, subst}
use Rattle.std.specs.Prelude.{Contains}
use Rattle.std.specs.List.{AllByRecursion}
use Rattle.std.proofs.lemmas.List.{append_assoc}
use Rattle.std.proofs.lemmas.List.Elements.{Contains-append_left, Contains-append_right}
use Rattle.rpc_model.specs.declared.event.Event.{Event}
use Rattle.rpc_model.specs.declared.kinds.MapKind.{MapKind}
use Rattle.rpc_model.specs.declared.kinds.MergeKind.{MergeKind}
use Rattle.rpc_model.specs.Kinds.{script_kinds}
use Rattle.rpc_model.specs.Effects.{Mark}
use Rattle.rpc_model.specs.State.{Run, and_then}
use Rattle.rpc_model.specs.Machine.{step, start, machine}
use Rattle.rpc_model.specs.Marks.{Begun, begin, mark_event, set_all}
use Rattle.model_laws.specs.Logs.{is_mark, behind, take, IsFirst, ComesNext, AreWoven, TakenMarksWereSet}
use Rattle.model_laws.proofs.MomentsStay.{all-weaker, sets-all}

-- ---- marks among others

-- each of the last elements is an element
among : {X : Type 0} (xs ys : List X) → AllByRecursion (Contains (xs ++ ys)) ys
among xs [] = tt
among xs (y ∷ ys) =
    (Contains-append_right xs (y ∷ ys) y (0, omega arith, refl), subst (λ zs. AllByRecursion (Contains zs) ys) (append_assoc xs (y ∷ []) ys) (among (xs ++ y ∷ []) ys))

-- ---- the marks that wait

abbrev WereSet : Run MapKind MergeKind → Begun → Type 0
WereSet run b = (run.state ≡ b.state) × AllByRecursion (Contains run.marks) b.waiting

behind-all : (P : Mark → Type 0) (v : Bool) (marks : List Mark) → AllByRecursion P marks → AllByRecursion P (behind v marks)
behind-all P false marks h = h
behind-all P true [] h = h
behind-all P true (m ∷ marks) h = h.1

take-set : (run : Run MapKind MergeKind) (b : Begun) (timed : Event × ℕ) → WereSet run b → WereSet (and_then run (step script_kinds b.call run.state timed.0 timed.1)) (take b timed)
take-set run b timed h =
    let next = step script_kinds b.call run.state timed.0 timed.1 in
    let others = behind (is_mark timed.0) b.waiting in
    let were =
    all-weaker (Contains run.marks) (Contains (run.marks ++ next.marks)) others (λ m c. Contains-append_left run.marks next.marks m c)
    (behind-all (Contains run.marks) (is_mark timed.0) b.waiting h.1) in
    let all = sets-all (Contains (run.marks ++ next.marks)) next.marks others (among run.marks next.marks) were in (
      ap (λ s. (step script_kinds b.call s timed.0 timed.1).state) h.0,
      subst (λ s. AllByRecursion (Contains (run.marks ++ next.marks)) (set_all (step script_kinds b.call s timed.0 timed.1).marks others)) h.0 all,
    )

takes-set : (events : List (Event × ℕ)) (run : Run MapKind MergeKind) (b : Begun) → WereSet run b
    → WereSet (fold (λ (r : Run MapKind MergeKind) timed. and_then r (step script_kinds b.call r.state timed.0 timed.1)) run events) (fold take b events)
takes-set [] run b h = h
takes-set (timed ∷ events) run b h = takes-set events (and_then run (step script_kinds b.call run.state timed.0 timed.1)) (take b timed) (take-set run b timed h)

woven-at : (b : Begun) (before : List (Event × ℕ)) (timed : Event × ℕ) (rest : List (Event × ℕ)) → AreWoven b (before ++ timed ∷ rest) → ComesNext (fold take b before) timed.0 timed.1
woven-at b [] timed rest h = h.0
woven-at b (t ∷ before) timed rest h = woven-at (take b t) before timed rest h.1

first-in : (P : Mark → Type 0) (mark : Mark) (marks : List Mark) → IsFirst mark marks → AllByRecursion P marks → P mark
first-in P mark [] h all = absurd h
first-in P mark (m ∷ marks) h all = subst P h all.0

first-next : (b : Begun) (node : ℕ) (backup : Bool) (moment : ℕ) → ComesNext b (mark_event node backup) moment → IsFirst (record { moment = moment; node = node; backup = backup }) b.waiting
first-next b node false moment h = h
first-next b node true moment h = h

pub taken-set : TakenMarksWereSet
taken-set tree c text begun before node backup moment rest woven =
    let first = start script_kinds tree c text begun in
    let b = begin c tree text begun in
    let run = machine script_kinds tree c text begun before in
    let all = takes-set before first b (refl, sets-all (Contains first.marks) first.marks [] (among [] first.marks) tt) in
    first-in (Contains run.marks) (record { moment = moment; node = node; backup = backup }) (fold take b before).waiting
    (first-next (fold take b before) node backup moment (woven-at b before (mark_event node backup, moment) rest woven)) all.1
