-- The pieces are those that `split` yields.
use Rattle.std.proofs.Common.{rules, ◌≡◌, ◌==◌, List, Option, Result, Ok, ℕ, map, sym, subst, OnOk}
use Rattle.std.specs.Prelude.{MatchResult}
use Rattle.std.specs.Iterator.{Drains, Yields}
use Rattle.std.proofs.lemmas.Iterator.{YieldsList}
use Rattle.std.proofs.lemmas.Iterator.Adapters.{fact_from_extend}
use Rattle.std.proofs.lemmas.Iterator.Splits.{YieldsList-from_slice_split}
use Rattle.call_script.proofs.cut.cut.Goals as goal

-- What `extend` added is all that its source yields.
extended : {S A B E Q : Type 0} {steps : S → Option A → S → Type 0} {v : A → B} {s : S} {all : List B} {P : List A → Type 0} (r : Result (Unit {0}) E)
    → ((it : S) × (xs : List A) × (it ≡ s) × P xs × MatchResult r (λ _. Drains steps it xs) (λ _. (t : S) × Yields steps it xs t))
    → YieldsList steps v s all → ((xs : List A) → map v xs ≡ all → P xs → Q) → OnOk r Q
extended {steps = steps} {v = v} {all = all} r ran road done = fact_from_extend v r ran (λ it b. subst (λ t. YieldsList steps v t all) (sym b) road) done

pub returns : goal.returns
returns c =
    extended {E = ℕ} (Ok tt) c.in_ok-extend.ensures.ran
    (YieldsList-from_slice_split _ (λ b. b == c.args.at) c.args.bytes.now c.split.ensures.rest c.split.ensures.done c.split.ensures.closure (λ x b q h. search rules))
    (λ xs e h. rw (h, c.new-pieces.ensures.items) e)
