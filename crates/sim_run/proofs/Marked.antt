-- The one list of marks beside the slots: the mark that is due, and what follows where none is.
use Rattle.std.proofs.Common.{◌≡◌, ℕ, ◌+◌, ◌<◌, ◌≤◌, inl, inr, Bool, true, false, leb, List, [], ◌∷◌, None, Some, if◌then◌else◌, ap, sym, refl, ◌∙◌, arith}
use Rattle.std.proofs.lemmas.Bool.Decides.{nat_tests}
use Rattle.std.specs.List.{AllByRecursion}
use Rattle.rpc_model.specs.Effects.{Mark as CallMark}
use Rattle.rpc_model.specs.Marks.{Begun}
use Rattle.id_pool.specs.Ids.{make_id}
use Rattle.id_pool.specs.Ranges.{Slot}
use Rattle.timer_core.specs.declared.mark.Mark.{Mark}
use Rattle.timer_core.specs.Marks.{due_mark, rest_after, is_due, NoneIsDue}
use Rattle.sim_run.specs.Marked.{HasMark, HasMarks, AreMarked, AreSettled}
use Rattle.sim_run.proofs.Fit.{weave-nothing}

-- The mark that is due, and the others.
pub record WasDue (moment : ℕ) (mark : Mark) (marks : List Mark) : Type 0 where
  pub is : marks ≡ mark ∷ rest_after moment marks
  pub due : mark.moment ≤ moment

pub was-due : (moment : ℕ) (mark : Mark) (marks : List Mark) → Some mark ≡ due_mark moment marks → WasDue moment mark marks
was-due moment mark [] e = absurd (cc)
was-due moment mark (m ∷ ms) e = by (is_due moment m) refl e
  where
    by : (v : Bool) → leb m.moment moment ≡ v → Some mark ≡ (if v then Some m else None) → WasDue moment mark (m ∷ ms)
    by true t e =
        let same : mark ≡ m = cc in
        let rest : rest_after moment (m ∷ ms) ≡ ms = ap (λ v. if v then ms else m ∷ ms) t in
        record {
          is = ap (λ x. x ∷ ms) (sym same) ∙ ap (λ xs. mark ∷ xs) (sym rest);
          due = (let moments = ap (λ (x : Mark). x.moment) same in grind (arith, nat_tests));
        }
    by false t e = absurd (cc)

has-late : (moment id w : ℕ) (marks : List Mark) → NoneIsDue moment marks → HasMark id w marks → moment < w
has-late moment id w [] none h = absurd h
has-late moment id w (m ∷ ms) none (inl here) =
    let t : leb m.moment moment ≡ false = none.0 in
    let same = here.1 in
    grind (arith, nat_tests)
has-late moment id w (m ∷ ms) none (inr there) = has-late moment id w ms none.1 there

all-late : (moment first : ℕ) (waiting : List CallMark) (marks : List Mark) → NoneIsDue moment marks → HasMarks first waiting marks → AllByRecursion (λ (w : CallMark). moment < w.moment) waiting
all-late moment first [] marks none all = tt
all-late moment first (w ∷ ws) marks none all = (has-late moment (first + w.node) w.moment marks none all.0, all-late moment first ws marks none all.1)

-- Where none is due, no call waits for one that is.
pub marked-settled : (moment : ℕ) (marks : List Mark) (slots : List (Slot Begun)) → AreMarked marks slots → NoneIsDue moment marks → AreSettled moment slots
marked-settled moment marks slots marked none slot r at = weave-nothing moment r.value (all-late moment (make_id slot r.first) r.value.waiting marks none (marked slot r at))

-- A mark that isn't one of these may go.
pub drop-mark : (mark : Mark) (first n : ℕ) (waiting : List CallMark) (rest : List Mark) → AllByRecursion (λ (w : CallMark). w.node < n) waiting
    → ((node : ℕ) → node < n → mark.id ≡ first + node → ⊥) → HasMarks first waiting (mark ∷ rest) → HasMarks first waiting rest
drop-mark mark first n [] rest within none all = tt
drop-mark mark first n (w ∷ ws) rest within none all = (by all.0, drop-mark mark first n ws rest within.1 none all.1)
  where
    by : HasMark (first + w.node) w.moment (mark ∷ rest) → HasMark (first + w.node) w.moment rest
    by (inl here) = absurd (none w.node within.0 here.0)
    by (inr there) = there
