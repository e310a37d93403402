-- What a step leaves of a call within its range of ids.
use Rattle.std.proofs.Common.{◌≡◌, ℕ, zero, suc, ◌<◌, ◌≤◌, max, Bool, true, false, cond, nat_le, List, [], ◌∷◌, Option, Some, None, is_some, refl, ap, ◌∙◌, arith, subst}
use Rattle.std.proofs.lemmas.Bool.Decides.{nat_tests}
use Rattle.std.specs.List.{AllByRecursion}
use Rattle.rpc_model.specs.declared.kinds.MapKind.{MapKind}
use Rattle.rpc_model.specs.declared.kinds.MergeKind.{MergeKind}
use Rattle.rpc_model.specs.declared.event.Event.{Event}
use Rattle.rpc_model.specs.declared.event.Event.TheVariants.{Reply, Lost, Backup, Deadline, Cancel}
use Rattle.rpc_model.specs.Effects.{Mark}
use Rattle.rpc_model.specs.Kinds.{script_kinds}
use Rattle.rpc_model.specs.Plan.{Plan}
use Rattle.rpc_model.specs.Versions.{width}
use Rattle.rpc_model.specs.State.{State, waits, leaf_state, par_state, sel_state, size, end_of}
use Rattle.rpc_model.specs.Machine.{step, start, cancelled}
use Rattle.rpc_model.specs.Marks.{Begun, begin, apply, is_before, set_mark, set_all, take_mark, mark_event, least_mark, marks_left, weave_at_most, weave_least, weave, finish_at_most, finish_least}
use Rattle.model_laws.proofs.Weaves.{taken-left}
use Rattle.model_laws.proofs.Sizes.{size-step, size-start}
use Rattle.model_laws.proofs.Within.{step-within, start-within}
use Rattle.chan_tree.proofs.Offsets.{few_attempts}
use Rattle.sim_run.specs.declared.turn.Turn.{Turn}
use Rattle.sim_run.specs.declared.turn.Turn.TheVariants as turn
use Rattle.sim_run.specs.Marked.{IsSorted, IsFit}
use Rattle.sim_run.specs.Slots.{turned, finished}

-- ---- marks that are set

all-set : (P : Mark → Type 0) (mark : Mark) (ws : List Mark) → P mark → AllByRecursion P ws → AllByRecursion P (set_mark mark ws)
all-set P mark [] p all = (p, tt)
all-set P mark (w ∷ ws) p all = by (is_before mark w) (all-set P mark ws p all.1)
  where
    by : (v : Bool) → AllByRecursion P (set_mark mark ws) → AllByRecursion P (cond v (mark ∷ w ∷ ws) (w ∷ set_mark mark ws))
    by true rest = (p, all)
    by false rest = (all.0, rest)

all-later : (m n : ℕ) (ws : List Mark) → m ≤ n → AllByRecursion (λ (w : Mark). n ≤ w.moment) ws → AllByRecursion (λ (w : Mark). m ≤ w.moment) ws
all-later m n [] le all = tt
all-later m n (w ∷ ws) le all = ((let h : n ≤ w.moment = all.0 in omega (arith, le, h)), all-later m n ws le all.1)

sorted-set : (mark : Mark) (ws : List Mark) → IsSorted ws → IsSorted (set_mark mark ws)
sorted-set mark [] s = (tt, tt)
sorted-set mark (w ∷ ws) s = by (is_before mark w) refl (sorted-set mark ws s.1)
  where
    by : (v : Bool) → is_before mark w ≡ v → IsSorted (set_mark mark ws) → IsSorted (cond v (mark ∷ w ∷ ws) (w ∷ set_mark mark ws))
    by true e rest = let le : mark.moment ≤ w.moment = grind (arith, nat_tests) in ((le, all-later mark.moment w.moment ws le s.0), s)
    by false e rest = let le : w.moment ≤ mark.moment = grind (arith, nat_tests) in (all-set (λ (x : Mark). w.moment ≤ x.moment) mark ws le s.0, rest)

all-set_all : (P : Mark → Type 0) (set ws : List Mark) → AllByRecursion P set → AllByRecursion P ws → AllByRecursion P (set_all set ws)
all-set_all P [] ws p all = all
all-set_all P (mark ∷ set) ws p all = all-set_all P set (set_mark mark ws) p.1 (all-set P mark ws p.0 all)

sorted-set_all : (set ws : List Mark) → IsSorted ws → IsSorted (set_all set ws)
sorted-set_all [] ws s = s
sorted-set_all (mark ∷ set) ws s = sorted-set_all set (set_mark mark ws) (sorted-set mark ws s)

-- ---- a step

size-cancelled : (state : State MapKind MergeKind) → size (cancelled state) ≡ size state
size-cancelled (waits plan) = refl
size-cancelled (leaf_state chan request leaf) = refl
size-cancelled (par_state par states) = refl
size-cancelled (sel_state sel states) = refl

call-size : (state : State MapKind MergeKind) (call : ℕ) (e : Event) (m : ℕ) → size (step script_kinds call state e m).state ≡ size state
call-size state call (Reply node attempt code text) m = size-step script_kinds 0 state call (Reply node attempt code text) m
call-size state call (Lost node attempt code) m = size-step script_kinds 0 state call (Lost node attempt code) m
call-size state call (Backup node) m = size-step script_kinds 0 state call (Backup node) m
call-size state call (Deadline node) m = size-step script_kinds 0 state call (Deadline node) m
call-size state call Cancel m = size-cancelled state

pub apply-fit : (n : ℕ) (b : Begun) (e : Event) (m : ℕ) → IsFit n b → IsFit n (apply b e m)
apply-fit n b e m fit =
    let run = step script_kinds b.call b.state e m in
    let same = call-size b.state b.call e m in
    let size_is = fit.size in
    record {
      size = omega (arith, same, size_is);
      nodes = all-set_all (λ (w : Mark). w.node < n) run.marks b.waiting (step-within script_kinds n b.state b.call e m fit.size) fit.nodes;
      sorted = sorted-set_all run.marks b.waiting fit.sorted;
    }

without-fit : (n : ℕ) (b : Begun) (mark : Mark) (others : List Mark) → least_mark b.waiting ≡ Some (mark, others) → IsFit n b → IsFit n (record b { waiting = others })
without-fit n b mark others e fit = by b.waiting e fit.nodes fit.sorted
  where
    by : (ws : List Mark) → least_mark ws ≡ Some (mark, others) → AllByRecursion (λ (w : Mark). w.node < n) ws → IsSorted ws → IsFit n (record b { waiting = others })
    by [] e all s = absurd (cc)
    by (w ∷ ws) e all s =
        let pair : (w, ws) ≡ (mark, others) = cc in
        let same : ws ≡ others = ap (λ (p : Mark × List Mark). p.1) pair in
        record { size = fit.size; nodes = subst (AllByRecursion (λ (w : Mark). w.node < n)) same all.1; sorted = subst IsSorted same s.1 }

pub taken-fit : (n : ℕ) (b : Begun) (mark : Mark) (others : List Mark) → least_mark b.waiting ≡ Some (mark, others) → IsFit n b → IsFit n (take_mark b mark others)
taken-fit n b mark others e fit = apply-fit n (record b { waiting = others }) (mark_event mark.node mark.backup) mark.moment (without-fit n b mark others e fit)

weave-fit : (n count moment : ℕ) (b : Begun) → IsFit n b → IsFit n (weave_at_most count moment b)
weave-fit n zero moment b fit = fit
weave-fit n (suc count) moment b fit = by (least_mark b.waiting) refl (λ c h. weave-fit n count moment c h)
  where
    by : (o : Option (Mark × List Mark)) → least_mark b.waiting ≡ o → ((c : Begun) → IsFit n c → IsFit n (weave_at_most count moment c)) → IsFit n (weave_least (weave_at_most count moment) moment b o)
    by None e again = fit
    by (Some (mark, others)) e again = at (nat_le mark.moment moment)
      where
        at : (v : Bool) → IsFit n (cond v (weave_at_most count moment (take_mark b mark others)) b)
        at true = again (take_mark b mark others) (taken-fit n b mark others e fit)
        at false = fit

finish-fit : (n count reached : ℕ) (b : Begun) → IsFit n b → IsFit n (finish_at_most count reached b).1
finish-fit n zero reached b fit = fit
finish-fit n (suc count) reached b fit = at (is_some (end_of b.state)) (λ r c h. finish-fit n count r c h)
  where
    by : (o : Option (Mark × List Mark)) → least_mark b.waiting ≡ o → ((r : ℕ) (c : Begun) → IsFit n c → IsFit n (finish_at_most count r c).1)
        → IsFit n (finish_least (finish_at_most count) reached b o).1
    by None e again = fit
    by (Some (mark, others)) e again = again (max reached mark.moment) (take_mark b mark others) (taken-fit n b mark others e fit)

    at : (v : Bool) → ((r : ℕ) (c : Begun) → IsFit n c → IsFit n (finish_at_most count r c).1) → IsFit n (cond v (reached, b) (finish_least (finish_at_most count) reached b (least_mark b.waiting))).1
    at true again = fit
    at false again = by (least_mark b.waiting) refl again

pub turned-fit : (n : ℕ) (t : Turn) (b : Begun) → IsFit n b → IsFit n (turned t b)
turned-fit n (turn.Event event moment) b fit = apply-fit n b event moment fit
turned-fit n (turn.Due moment) b fit = weave-fit n (marks_left b) moment b fit

pub finished-fit : (n reached : ℕ) (b : Begun) → IsFit n b → IsFit n (finished reached b)
finished-fit n reached b fit = finish-fit n (marks_left b) reached b fit

-- A call that begins.
pub begin-fit : (call : ℕ) (plan : Plan MapKind MergeKind) (request : List ℕ) (m : ℕ) → IsFit (width plan) (begin call plan request m)
begin-fit call plan request m =
    let run = start script_kinds plan call request m in
    let same = size-start script_kinds 0 plan call request m in
    let wide = few_attempts plan in
    record {
      size = omega (arith, same, wide);
      nodes = all-set_all (λ (w : Mark). w.node < width plan) run.marks [] (start-within script_kinds (width plan) 0 plan call request m (omega (arith, wide))) tt;
      sorted = sorted-set_all run.marks [] tt;
    }

-- ---- a weave leaves no mark that is due

rest-late : (m : ℕ) (w : Mark) (ws : List Mark) → m < w.moment → IsSorted (w ∷ ws) → AllByRecursion (λ (x : Mark). m < x.moment) (w ∷ ws)
rest-late m w ws late s = (late, more ws s.0)
  where
    more : (xs : List Mark) → AllByRecursion (λ (x : Mark). w.moment ≤ x.moment) xs → AllByRecursion (λ (x : Mark). m < x.moment) xs
    more [] all = tt
    more (x ∷ xs) all = ((let h : w.moment ≤ x.moment = all.0 in omega (arith, late, h)), more xs all.1)

weave-rest-at : (n count moment : ℕ) (b : Begun) → marks_left b ≤ count → IsFit n b → AllByRecursion (λ (x : Mark). moment < x.moment) (weave_at_most count moment b).waiting
weave-rest-at n zero moment b few fit = by b.waiting refl
  where
    by : (ws : List Mark) → b.waiting ≡ ws → AllByRecursion (λ (x : Mark). moment < x.moment) ws
    by [] e = tt
    by (w ∷ ws) e = let l = taken-left b w ws (ap least_mark e) in absurd (omega (arith, l, few))
weave-rest-at n (suc count) moment b few fit = by (least_mark b.waiting) refl (λ c l h. weave-rest-at n count moment c l h)
  where
    none : (ws : List Mark) → least_mark ws ≡ None → AllByRecursion (λ (x : Mark). moment < x.moment) ws
    none [] e = tt
    none (w ∷ ws) e = absurd (cc)

    first : (ws : List Mark) (mark : Mark) (others : List Mark) → least_mark ws ≡ Some (mark, others) → IsSorted ws → moment < mark.moment → AllByRecursion (λ (x : Mark). moment < x.moment) ws
    first [] mark others e s late = absurd (cc)
    first (w ∷ ws) mark others e s late =
        let pair : (w, ws) ≡ (mark, others) = cc in let same : w ≡ mark = ap (λ (p : Mark × List Mark). p.0) pair in let at : moment <
        w.moment = (let m = ap (λ (x : Mark). x.moment) same in omega (arith, late, m)) in rest-late moment w ws at s

    by : (o : Option (Mark × List Mark)) → least_mark b.waiting ≡ o
        → ((c : Begun) → marks_left c ≤ count → IsFit n c → AllByRecursion (λ (x : Mark). moment < x.moment) (weave_at_most count moment c).waiting)
        → AllByRecursion (λ (x : Mark). moment < x.moment) (weave_least (weave_at_most count moment) moment b o).waiting
    by None e again = none b.waiting e
    by (Some (mark, others)) e again = at (nat_le mark.moment moment) refl
      where
        at : (v : Bool) → nat_le mark.moment moment ≡ v → AllByRecursion (λ (x : Mark). moment < x.moment) (cond v (weave_at_most count moment (take_mark b mark others)) b).waiting
        at true t = let l = taken-left b mark others e in again (take_mark b mark others) (omega (arith, l, few)) (taken-fit n b mark others e fit)
        at false t = let late : moment < mark.moment = grind (arith, nat_tests) in first b.waiting mark others e fit.sorted late

pub weave-rest : (n moment : ℕ) (b : Begun) → IsFit n b → AllByRecursion (λ (x : Mark). moment < x.moment) (weave moment b).waiting
weave-rest n moment b fit = weave-rest-at n (marks_left b) moment b (omega arith) fit

-- A weave does nothing where no mark is due.
pub weave-nothing : (moment : ℕ) (b : Begun) → AllByRecursion (λ (x : Mark). moment < x.moment) b.waiting → weave moment b ≡ b
weave-nothing moment b late = by (marks_left b) b.waiting refl late
  where
    by : (count : ℕ) (ws : List Mark) → b.waiting ≡ ws → AllByRecursion (λ (x : Mark). moment < x.moment) ws → weave_at_most count moment b ≡ b
    by zero ws e late = refl
    by (suc count) [] e late = ap (λ ws. weave_least (weave_at_most count moment) moment b (least_mark ws)) e
    by (suc count) (w ∷ ws) e late =
        let l : moment < w.moment = late.0 in
        let test : nat_le w.moment moment ≡ false = grind (arith, nat_tests) in
        ap (λ ws. weave_least (weave_at_most count moment) moment b (least_mark ws)) e ∙ ap (λ v. cond v (weave_at_most count moment (take_mark b w ws)) b) test
