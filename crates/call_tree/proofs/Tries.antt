-- The tries of a selective node start one after the other.
use Rattle.std.proofs.Common.{◌≡◌, ℕ, zero, suc, ◌+◌, ◌<◌, Bool, true, false, nat_lt, List, [], ◌∷◌, ◌++◌, length, drop, Option, Some, None, arith, refl, ap, sym, ◌∙◌}
use Rattle.std.proofs.lemmas.Bool.Decides.{nat_tests}
use Rattle.std.proofs.lemmas.List.{append-nil}
use Rattle.rpc_model.specs.declared.event.End.{End}
use Rattle.rpc_model.specs.Effects.{Send, Mark}
use Rattle.rpc_model.specs.Kinds.{Kinds}
use Rattle.rpc_model.specs.Plan.{Plan, Plans, plan_then, last_plan}
use Rattle.rpc_model.specs.Versions.{nodes}
use Rattle.rpc_model.specs.Selective.{next_try}
use Rattle.rpc_model.specs.State.{State, last_state, Run, Below, end_of, run_then, waiting_states}
use Rattle.rpc_model.specs.Machine.{try_ended, try_run, is_left, start_at, start_tries}
use Rattle.chan_tree.specs.Shown.{plans_of}
use Rattle.call_tree.specs.declared.nodes.SelNode.{SelNode}
use Rattle.call_tree.specs.declared.outbox.Outbox.{Outbox}
use Rattle.call_tree.specs.Growing.{IsGrown}
use Rattle.call_tree.specs.Starting.{joined, sub_run, after_end, after_try, tried, ask_while, are_left, tries_left, AreStarted}
use Rattle.call_tree.proofs.Subs.{ended-then, joined-then, append-last}

-- tries go on only where the node has no end
pub going-open : (going : Bool) (over : Option End) (left : Bool) (end : Option End) → (tried going over left end).0 ≡ true → (tried going over left end).1 ≡ None
going-open false over left end h = absurd (cc)
going-open true over left None h = absurd (cc)
going-open true over left (Some end) h = by (next_try left end) h
  where
    by : (o : Option End) → (after_end o).0 ≡ true → (after_end o).1 ≡ None
    by None h = refl
    by (Some up) h = absurd (cc)

module _ {M G : Type 0} where
  waiting-left : (ps : Plans M G) → is_left (waiting_states ps) ≡ are_left ps
  waiting-left last_plan = refl
  waiting-left (plan_then p ps) = refl

  -- how many are left tells whether one is
  pub left-is : (ts : List (Plan M G)) (i left : ℕ) → left + (i + 1) ≡ length ts → nat_lt 0 left ≡ are_left (plans_of (drop (i + 1) ts))
  left-is ts i left count = by ts (i + 1) left count
    where
      by : (ts : List (Plan M G)) (i left : ℕ) → left + i ≡ length ts → nat_lt 0 left ≡ are_left (plans_of (drop i ts))
      by [] zero left count = let none : left ≡ 0 = omega (arith, count) in ap (nat_lt 0) none
      by [] (suc i) left count = absurd (omega (arith, count))
      by (t ∷ ts) zero left count = let some : nat_lt 0 left ≡ true = (let more : 0 < left = omega (arith, count) in grind (arith, nat_tests)) in some
      by (t ∷ ts) (suc i) left count = by ts i left (omega (arith, count))

module _ {M G : Type 0} (kinds : Kinds M G) where
  abbrev tries_with : Bool × Option End → ℕ → Plans M G → ℕ → List ℕ → ℕ → Below M G
  tries_with r number ps call request moment = tries_left kinds r.0 r.1 number ps call request moment

  end-next : (run : Run M G) (number : ℕ) (ps : Plans M G) (call : ℕ) (request : List ℕ) (moment : ℕ) (o : Option End)
      → try_ended run (waiting_states ps) (start_tries kinds number ps call request moment) o ≡ run_then run (tries_with (after_end o) number ps call request moment)
  end-next run number ps call request moment None = refl
  end-next run number ps call request moment (Some up) = ended-then run (waiting_states ps) (Some up)

  try-next : (run : Run M G) (number : ℕ) (ps : Plans M G) (call : ℕ) (request : List ℕ) (moment : ℕ) (left : Bool) (o : Option End) → is_left (waiting_states ps) ≡ left
      → try_run run (waiting_states ps) (start_tries kinds number ps call request moment) o ≡ run_then run (tries_with (after_try left o) number ps call request moment)
  try-next run number ps call request moment left None h = ended-then run (waiting_states ps) None
  try-next run number ps call request moment left (Some end) h =
      ap (λ b. try_ended run (waiting_states ps) (start_tries kinds number ps call request moment) (next_try b end)) h ∙ end-next run number ps call request moment (next_try left end)

  tries-next : (going : Bool) (over : Option End) (number : ℕ) (p : Plan M G) (ps : Plans M G) (call : ℕ) (request : List ℕ) (moment : ℕ)
      → let run = sub_run kinds true number p call (ask_while going request) moment in
      tries_left kinds going over number (plan_then p ps) call request moment ≡ run_then run (tries_with (tried going over (are_left ps) (end_of run.state)) (number + nodes p) ps call request moment)
  tries-next true over number p ps call request moment =
      let run = start_at kinds number p call request moment in
      try-next run (number + nodes p) ps call request moment (are_left ps) (end_of run.state) (waiting-left ps)
  tries-next false over number p ps call request moment = refl

  -- the next try was started or waits, and joined those before it
  pub tries-turn : (sel now : SelNode M G) (old out : Outbox) (number : ℕ) (p : Plan M G) (ps : Plans M G) (call : ℕ) (request asked : List ℕ) (ask : Option (List ℕ))
      (going left goes : Bool) (end over up : Option End) (tree : State M G) (moment : ℕ) (all : Below M G)
      → ask ≡ ask_while going asked → asked ≡ request → left ≡ are_left ps → end ≡ end_of tree → over ≡ sel.end → (goes, up) ≡ tried going over left end
      → tree ≡ (sub_run kinds true number p call ask moment).state → IsGrown old out (sub_run kinds true number p call ask moment).sends (sub_run kinds true number p call ask moment).marks
      → now.kids.items ≡ sel.kids.items ++ tree ∷ [] → now.end ≡ up
      → joined sel.kids.items old.sends.items old.marks.items (tries_left kinds going sel.end number (plan_then p ps) call request moment) ≡ all
      → joined now.kids.items out.sends.items out.marks.items (tries_left kinds goes now.end (number + nodes p) ps call request moment) ≡ all
  tries-turn sel now old out number p ps call request asked ask going left goes end over up tree moment all asks request_is left_is end_is over_is after tree_is grown kids now_end before =
      let run = sub_run kinds true number p call (ask_while going request) moment in
      let ask_is : ask ≡ ask_while going request = asks ∙ ap (ask_while going) request_is in
      let run_is : sub_run kinds true number p call ask moment ≡ run = ap (λ r. sub_run kinds true number p call r moment) ask_is in
      let state_is : tree ≡ run.state = tree_is ∙ ap (λ (r : Run M G). r.state) run_is in
      let pair : (goes, now.end) ≡ tried going sel.end (are_left ps) (end_of run.state) =
      ap (λ o. (goes, o)) now_end ∙ after ∙ ap (λ o. tried going o left end) over_is ∙ ap (λ b. tried going sel.end b end) left_is
      ∙ ap (λ e. tried going sel.end (are_left ps) e) (end_is ∙ ap end_of state_is) in
      let next = λ (r : Bool × Option End). tries_left kinds r.0 r.1 (number + nodes p) ps call request moment in
      let kids_are : now.kids.items ≡ sel.kids.items ++ run.state ∷ [] = kids ∙ ap (λ (s : State M G). sel.kids.items ++ s ∷ []) state_is in
      let sends_are : out.sends.items ≡ old.sends.items ++ run.sends = grown.sent ∙ ap (λ (r : Run M G). old.sends.items ++ r.sends) run_is in
      let marks_are : out.marks.items ≡ old.marks.items ++ run.marks = grown.set ∙ ap (λ (r : Run M G). old.marks.items ++ r.marks) run_is in
      ap (λ (r : Bool × Option End). joined now.kids.items out.sends.items out.marks.items (next r)) pair
      ∙ ap (λ (ss : List (State M G)). joined ss out.sends.items out.marks.items (next (tried going sel.end (are_left ps) (end_of run.state)))) kids_are
      ∙ ap (λ (xs : List Send). joined (sel.kids.items ++ run.state ∷ []) xs out.marks.items (next (tried going sel.end (are_left ps) (end_of run.state)))) sends_are
      ∙ ap (λ (xs : List Mark). joined (sel.kids.items ++ run.state ∷ []) (old.sends.items ++ run.sends) xs (next (tried going sel.end (are_left ps) (end_of run.state)))) marks_are
      ∙ sym (joined-then sel.kids.items old.sends.items old.marks.items run (next (tried going sel.end (are_left ps) (end_of run.state))))
      ∙ sym (ap (joined sel.kids.items old.sends.items old.marks.items) (tries-next going sel.end number p ps call request moment))
      ∙ before

  none-left : (going : Bool) (over : Option End) (number call : ℕ) (request : List ℕ) (moment : ℕ) → (going ≡ true → over ≡ None)
      → tries_left kinds going over number last_plan call request moment ≡ record { states = last_state; sends = []; marks = []; end = over }
  none-left true over number call request moment h = ap (λ (o : Option End). let b : Below M G = record { states = last_state; sends = []; marks = []; end = o } in b) (sym (h refl))
  none-left false over number call request moment h = refl

  -- all tries have joined
  pub tries-all : (sel : SelNode M G) (old out : Outbox) (going : Bool) (number : ℕ) (ps : Plans M G) (call : ℕ) (request : List ℕ) (moment : ℕ) (all : Below M G)
      → (going ≡ true → sel.end ≡ None) → ps ≡ last_plan
      → joined sel.kids.items out.sends.items out.marks.items (tries_left kinds going sel.end number ps call request moment) ≡ joined [] old.sends.items old.marks.items all
      → AreStarted sel old out all
  tries-all sel old out going number ps call request moment all open_ none h =
      let left : Below M G = record { states = last_state; sends = []; marks = []; end = sel.end } in
      let over : joined sel.kids.items out.sends.items out.marks.items left ≡ joined [] old.sends.items old.marks.items all =
      sym (ap (λ (qs : Plans M G). joined sel.kids.items out.sends.items out.marks.items (tries_left kinds going sel.end number qs call request moment)) none
      ∙ ap (joined sel.kids.items out.sends.items out.marks.items) (none-left going sel.end number call request moment open_)) ∙ h in
      record {
        tries_are = sym (append-last sel.kids.items) ∙ ap (λ (b : Below M G). b.states) over;
        end_is = ap (λ (b : Below M G). b.end) over;
        grown = record { sent = sym (append-nil out.sends.items) ∙ ap (λ (b : Below M G). b.sends) over; set = sym (append-nil out.marks.items) ∙ ap (λ (b : Below M G). b.marks) over };
      }
