-- The subs of a parallel node start one after the other.
use Rattle.std.proofs.Common.{◌≡◌, ℕ, zero, suc, ◌+◌, ◌<◌, ◌≤◌, Bool, true, false, cond, not, List, [], ◌∷◌, ◌++◌, length, get_or, drop, count_by, Option, Some, None, is_none, is_some}
use Rattle.std.proofs.Common.{arith, refl, ap, sym, ◌∙◌, subst, add-one}
use Rattle.std.proofs.Math.Seq.{drop-cons}
use Rattle.std.proofs.lemmas.Bool.Decides.{nat_tests}
use Rattle.std.proofs.lemmas.List.{append-nil, append_assoc}
use Rattle.std.proofs.lemmas.List.Sums.{sum_by-cons}
use Rattle.std.specs.List.{list_any}
use Rattle.rpc_model.specs.declared.codes.TheConstants.{ECANCELED, EREQUEST}
use Rattle.rpc_model.specs.declared.event.End.{End}
use Rattle.rpc_model.specs.declared.event.End.TheVariants as end_word
use Rattle.rpc_model.specs.Effects.{Send, Mark}
use Rattle.rpc_model.specs.declared.mapper.Mapped.{Mapped}
use Rattle.rpc_model.specs.declared.mapper.Mapped.TheVariants as answer
use Rattle.rpc_model.specs.Kinds.{Kinds}
use Rattle.rpc_model.specs.Plan.{Rule, Plan, leaf_plan, par_plan, sel_plan, Plans, plan_then, last_plan}
use Rattle.rpc_model.specs.Versions.{nodes}
use Rattle.rpc_model.specs.Parallel.{Limits, limit, limits, is_asked, is_bad, mapped_from, mapped, refused, judged}
use Rattle.rpc_model.specs.State.{State, waits, leaf_state, par_state, sel_state, States, last_state, state_then, Run, Below, end_of, ends_of, size, size_of, run_then, run_beside}
use Rattle.rpc_model.specs.State.{waiting_states, still}
use Rattle.rpc_model.specs.Machine.{where_ended, sub_started, par_started, start_at, start_subs}
use Rattle.chan_tree.specs.Shown.{plans_of}
use Rattle.call_tree.specs.declared.counts.Counts.{Counts}
use Rattle.call_tree.specs.declared.nodes.ParNode.{ParNode}
use Rattle.call_tree.specs.declared.outbox.Outbox.{Outbox}
use Rattle.call_tree.specs.Counts.{limits_of, IsOpen}
use Rattle.call_tree.specs.Growing.{IsGrown}
use Rattle.call_tree.specs.Shown.{states_of}
use Rattle.call_tree.specs.Starting.{first_ask, rest_of, append_states, joined, IsStarted, sub_run, end_with, subs_left}
use Rattle.call_tree.proofs.Adding.{ends-push}
use Rattle.call_tree.proofs.Weights.{size-start}

-- ---- before any sub

some-counted : (asked : List Mapped) → list_any is_asked asked ≡ true → 1 ≤ count_by is_asked asked
some-counted [] h = absurd (cc)
some-counted (answer.Send request ∷ asked) h = let n = sum_by-cons (λ a. cond (is_asked a) 1 0) (answer.Send request) asked in omega (arith, n)
some-counted (answer.Skip ∷ asked) h = let n = sum_by-cons (λ a. cond (is_asked a) 1 0) answer.Skip asked in let m = some-counted asked h in omega (arith, n, m)
some-counted (answer.Bad ∷ asked) h = let n = sum_by-cons (λ a. cond (is_asked a) 1 0) answer.Bad asked in let m = some-counted asked h in omega (arith, n, m)

limit-some : (k n : ℕ) → 1 ≤ n → 1 ≤ limit k n
limit-some zero n h = h
limit-some (suc k) n h = grind (arith, nat_tests)

pub begun-open : {M G : Type 0} (rule : Rule M G) (asked : List Mapped) (c : Counts) (end : Option End) → limits_of c ≡ limits rule asked → c.goods ≡ 0 → c.bads ≡ 0 → end ≡ refused asked
    → IsOpen c end
begun-open rule asked c end lim goods bads is = subst (IsOpen c) (sym is) (by (list_any is_bad asked) (list_any is_asked asked) refl)
  where
    by : (b a : Bool) → list_any is_asked asked ≡ a → IsOpen c (cond b (Some (end_word.Bad EREQUEST)) (cond a None (Some (end_word.Bad ECANCELED))))
    by true a h = tt
    by false false h = tt
    by false true h =
        let n = some-counted asked h in
        let count : c.count ≡ count_by is_asked asked = ap (λ (l : Limits). l.count) lim in
        let fail : c.fail ≡ limit rule.fail (count_by is_asked asked) = ap (λ (l : Limits). l.fail) lim in
        let ok : c.ok ≡ limit rule.ok (count_by is_asked asked) = ap (λ (l : Limits). l.ok) lim in
        let f = limit-some rule.fail (count_by is_asked asked) n in
        let o = limit-some rule.ok (count_by is_asked asked) n in
        (omega (arith, bads, fail, f), omega (arith, goods, ok, o), omega (arith, goods, bads, count, n))

-- ---- one sub more

module _ {M G : Type 0} where
  append-push : (ss : List (State M G)) (s : State M G) (rest : States M G) → append_states ss (state_then s rest) ≡ append_states (ss ++ s ∷ []) rest
  append-push [] s rest = refl
  append-push (x ∷ ss) s rest = ap (state_then x) (append-push ss s rest)

  pub append-last : (ss : List (State M G)) → append_states ss last_state ≡ states_of ss
  append-last [] = refl
  append-last (x ∷ ss) = ap (state_then x) (append-last ss)

  below-is : (states now : States M G) (sends sent : List Send) (marks set : List Mark) (end : Option End) → states ≡ now → sends ≡ sent → marks ≡ set
      → (let b : Below M G = record { states = states; sends = sends; marks = marks; end = end } in b) ≡ record { states = now; sends = sent; marks = set; end = end }
  below-is states now sends sent marks set end p q r =
      ap (λ (s : States M G). let b : Below M G = record { states = s; sends = sends; marks = marks; end = end } in b) p
      ∙ ap (λ (s : List Send). let b : Below M G = record { states = now; sends = s; marks = marks; end = end } in b) q
      ∙ ap (λ (s : List Mark). let b : Below M G = record { states = now; sends = sent; marks = s; end = end } in b) r

  pub joined-then : (kids : List (State M G)) (sends : List Send) (marks : List Mark) (run : Run M G) (below : Below M G)
      → joined kids sends marks (run_then run below) ≡ joined (kids ++ run.state ∷ []) (sends ++ run.sends) (marks ++ run.marks) below
  joined-then kids sends marks run below =
      below-is (append_states kids (state_then run.state below.states)) (append_states (kids ++ run.state ∷ []) below.states) (sends ++ (run.sends ++ below.sends))
      ((sends ++ run.sends) ++ below.sends)
      (marks ++ (run.marks ++ below.marks)) ((marks ++ run.marks) ++ below.marks) below.end
      (append-push kids run.state below.states) (sym (append_assoc sends run.sends below.sends)) (sym (append_assoc marks run.marks below.marks))

  pub ended-then : (run : Run M G) (states : States M G) (end : Option End) → run_beside run states end ≡ run_then run (record (still states) { end = end })
  ended-then run states end =
      below-is (state_then run.state states) (state_then run.state states) run.sends (run.sends ++ []) run.marks (run.marks ++ []) end refl (sym (append-nil run.sends)) (sym (append-nil run.marks))

  pub nodes-drop : (ts : List (Plan M G)) (i : ℕ) (d : Plan M G) → i < length ts → plans_of (drop i ts) ≡ plan_then (get_or ts i d) (plans_of (drop (i + 1) ts))
  nodes-drop ts i d less = rw (add-one, drop-cons ts i d less) refl

  pub nodes-end : (ts : List (Plan M G)) (i : ℕ) → length ts ≤ i → plans_of (drop i ts) ≡ last_plan
  nodes-end [] zero h = refl
  nodes-end [] (suc i) h = refl
  nodes-end (t ∷ ts) zero h = absurd (omega (arith, h))
  nodes-end (t ∷ ts) (suc i) h = nodes-end ts i (omega (arith, h))

module _ {M G : Type 0} (kinds : Kinds M G) where
  started-next : (run : Run M G) (number : ℕ) (ps : Plans M G) (call : ℕ) (asked : List Mapped) (lim : Limits) (merges : List G) (moment : ℕ) (ends : List (Option End)) (over : Option End)
      → sub_started run ps (start_subs kinds number ps call asked lim merges moment ends) over ≡ run_then run (subs_left kinds over number ps call asked lim merges moment ends)
  started-next run number ps call asked lim merges moment ends None = refl
  started-next run number ps call asked lim merges moment ends (Some end) = ended-then run (waiting_states ps) (Some end)

  left-next : (o : Option End) (number : ℕ) (p : Plan M G) (ps : Plans M G) (call : ℕ) (asked : List Mapped) (lim : Limits) (merges : List G) (moment : ℕ) (ends : List (Option End))
      → let run = sub_run kinds (is_none o) number p call (first_ask asked) moment in
      subs_left kinds o number (plan_then p ps) call asked lim merges moment ends
      ≡ run_then run (subs_left kinds (end_with kinds o lim merges ends (end_of run.state)) (number + nodes p) ps call (rest_of asked) lim merges moment (ends ++ end_of run.state ∷ []))
  left-next None number p ps call [] lim merges moment ends = refl
  left-next None number p ps call (answer.Send request ∷ asked) lim merges moment ends =
      let run = start_at kinds number p call request moment in
      started-next run (number + nodes p) ps call asked lim merges moment (ends ++ end_of run.state ∷ []) (where_ended (end_of run.state) (judged kinds lim merges (ends ++ end_of run.state ∷ [])))
  left-next None number p ps call (answer.Skip ∷ asked) lim merges moment ends = refl
  left-next None number p ps call (answer.Bad ∷ asked) lim merges moment ends = refl
  left-next (Some end) number p ps call asked lim merges moment ends = refl

  -- the next sub was started or waits, and joined those before it
  pub left-turn : (par now : ParNode M G) (old out : Outbox) (number : ℕ) (p : Plan M G) (ps : Plans M G) (call : ℕ) (asked rest : List Mapped) (request : Option (List ℕ)) (is_open : Bool)
      (tree : State M G) (lim : Limits) (merges : List G) (moment : ℕ) (all : Below M G)
      → limits_of par.counts ≡ lim → par.merges ≡ merges → is_open ≡ is_none par.end → request ≡ first_ask asked → rest ≡ rest_of asked
      → tree ≡ (sub_run kinds is_open number p call request moment).state
      → IsGrown old out (sub_run kinds is_open number p call request moment).sends (sub_run kinds is_open number p call request moment).marks
      → now.kids.items ≡ par.kids.items ++ tree ∷ [] → now.end ≡ end_with kinds par.end (limits_of par.counts) par.merges (ends_of (states_of par.kids.items)) (end_of tree)
      → joined par.kids.items old.sends.items old.marks.items (subs_left kinds par.end number (plan_then p ps) call asked lim merges moment (ends_of (states_of par.kids.items))) ≡ all
      → joined now.kids.items out.sends.items out.marks.items (subs_left kinds now.end (number + nodes p) ps call rest lim merges moment (ends_of (states_of now.kids.items))) ≡ all
  left-turn par now old out number p ps call asked rest request is_open tree lim merges moment all limits_are merges_are open_ ask others tree_is grown kids over before =
      let run = sub_run kinds (is_none par.end) number p call (first_ask asked) moment in
      let run_is : sub_run kinds is_open number p call request moment ≡ run =
      ap (λ b. sub_run kinds b number p call request moment) open_ ∙ ap (λ r. sub_run kinds (is_none par.end) number p call r moment) ask in
      let state_is : tree ≡ run.state = tree_is ∙ ap (λ (r : Run M G). r.state) run_is in
      let ends = ends_of (states_of par.kids.items) in
      let next = λ (o : Option End) (es : List (Option End)). subs_left kinds o (number + nodes p) ps call (rest_of asked) lim merges moment es in
      let kids_are : now.kids.items ≡ par.kids.items ++ run.state ∷ [] = kids ∙ ap (λ (s : State M G). par.kids.items ++ s ∷ []) state_is in
      let ends_are : ends_of (states_of now.kids.items) ≡ ends ++ end_of run.state ∷ [] = ap (λ (ss : List (State M G)). ends_of (states_of ss)) kids_are ∙ ends-push par.kids.items run.state in
      let over_is : now.end ≡ end_with kinds par.end lim merges ends (end_of run.state) =
      over ∙ ap (λ l. end_with kinds par.end l par.merges ends (end_of tree)) limits_are ∙ ap (λ ms. end_with kinds par.end lim ms ends (end_of tree)) merges_are
      ∙ ap (λ (s : State M G). end_with kinds par.end lim merges ends (end_of s)) state_is in
      let sends_are : out.sends.items ≡ old.sends.items ++ run.sends = grown.sent ∙ ap (λ (r : Run M G). old.sends.items ++ r.sends) run_is in
      let marks_are : out.marks.items ≡ old.marks.items ++ run.marks = grown.set ∙ ap (λ (r : Run M G). old.marks.items ++ r.marks) run_is in
      ap (λ (r : List Mapped). joined now.kids.items out.sends.items out.marks.items
      (subs_left kinds now.end (number + nodes p) ps call r lim merges moment (ends_of (states_of now.kids.items)))) others
      ∙ ap (λ (es : List (Option End)). joined now.kids.items out.sends.items out.marks.items (next now.end es)) ends_are
      ∙ ap (λ (o : Option End). joined now.kids.items out.sends.items out.marks.items (next o (ends ++ end_of run.state ∷ []))) over_is
      ∙ ap (λ (ss : List (State M G)). joined ss out.sends.items out.marks.items (next (end_with kinds par.end lim merges ends (end_of run.state)) (ends ++ end_of run.state ∷ []))) kids_are
      ∙ ap (λ (xs : List Send). joined (par.kids.items ++ run.state ∷ []) xs out.marks.items
      (next (end_with kinds par.end lim merges ends (end_of run.state)) (ends ++ end_of run.state ∷ []))) sends_are
      ∙ ap (λ (xs : List Mark). joined (par.kids.items ++ run.state ∷ []) (old.sends.items ++ run.sends) xs
      (next (end_with kinds par.end lim merges ends (end_of run.state)) (ends ++ end_of run.state ∷ []))) marks_are
      ∙ sym (joined-then par.kids.items old.sends.items old.marks.items run (next (end_with kinds par.end lim merges ends (end_of run.state)) (ends ++ end_of run.state ∷ [])))
      ∙ sym (ap (joined par.kids.items old.sends.items old.marks.items) (left-next par.end number p ps call asked lim merges moment ends))
      ∙ before

  none-left : (o : Option End) (number call : ℕ) (asked : List Mapped) (lim : Limits) (merges : List G) (moment : ℕ) (ends : List (Option End))
      → subs_left kinds o number last_plan call asked lim merges moment ends ≡ record { states = last_state; sends = []; marks = []; end = o }
  none-left None number call asked lim merges moment ends = refl
  none-left (Some end) number call asked lim merges moment ends = refl

  -- all subs have joined
  pub left-all : (par : ParNode M G) (old out : Outbox) (number : ℕ) (ps : Plans M G) (call : ℕ) (asked : List Mapped) (lim : Limits) (merges : List G) (moment : ℕ) (all : Below M G) → ps ≡ last_plan
      → joined par.kids.items out.sends.items out.marks.items (subs_left kinds par.end number ps call asked lim merges moment (ends_of (states_of par.kids.items))) ≡ joined []
      old.sends.items old.marks.items all
      → IsStarted par old out all
  left-all par old out number ps call asked lim merges moment all none h =
      let left : Below M G = record { states = last_state; sends = []; marks = []; end = par.end } in
      let over : joined par.kids.items out.sends.items out.marks.items left ≡ joined [] old.sends.items old.marks.items all =
      sym (ap (λ (qs : Plans M G). joined par.kids.items out.sends.items out.marks.items (subs_left kinds par.end number qs call asked lim merges moment (ends_of (states_of par.kids.items)))) none
      ∙ ap (joined par.kids.items out.sends.items out.marks.items) (none-left par.end number call asked lim merges moment (ends_of (states_of par.kids.items)))) ∙ h in
      record {
        subs_are = sym (append-last par.kids.items) ∙ ap (λ (b : Below M G). b.states) over;
        end_is = ap (λ (b : Below M G). b.end) over;
        grown = record { sent = sym (append-nil out.sends.items) ∙ ap (λ (b : Below M G). b.sends) over; set = sym (append-nil out.marks.items) ∙ ap (λ (b : Below M G). b.marks) over };
      }

  pub started-is : (plans : Plans M G) (node call : ℕ) (asked : List Mapped) (lim : Limits) (merges : List G) (moment : ℕ) (o : Option End)
      → subs_left kinds o node plans call asked lim merges moment [] ≡ par_started plans (start_subs kinds node plans call asked lim merges moment []) o
  started-is plans node call asked lim merges moment None = refl
  started-is plans node call asked lim merges moment (Some end) = refl

pub none-is : (o : Option End) (b : Bool) → is_some o ≡ not b → b ≡ is_none o
none-is None true h = refl
none-is None false h = absurd (cc)
none-is (Some end) true h = absurd (cc)
none-is (Some end) false h = refl

-- ---- counts of subs and of mappers

mapped_from-length : {M : Type 0} (answer_of : M → ℕ → ℕ → List ℕ → Mapped) (index count : ℕ) (maps : List M) (request : List ℕ) → length (mapped_from answer_of index count maps request) ≡ length maps
mapped_from-length answer_of index count [] request = refl
mapped_from-length answer_of index count (map ∷ maps) request = ap suc (mapped_from-length answer_of (index + 1) count maps request)

pub mapped-length : {M : Type 0} (answer_of : M → ℕ → ℕ → List ℕ → Mapped) (maps : List M) (request : List ℕ) → length (mapped answer_of maps request) ≡ length maps
mapped-length answer_of maps request = mapped_from-length answer_of 0 (length maps) maps request

module _ {M G : Type 0} where
  nodes-some : (plan : Plan M G) → 1 ≤ nodes plan
  nodes-some (leaf_plan leaf) = omega arith
  nodes-some (par_plan rule plans) = omega arith
  nodes-some (sel_plan timeout plans) = omega arith

  pub size-some : (s : State M G) → 1 ≤ size s
  size-some (waits plan) = nodes-some plan
  size-some (leaf_state chan request leaf) = omega arith
  size-some (par_state par states) = omega arith
  size-some (sel_state sel states) = omega arith

  -- each sub has a node
  pub few-subs : (ss : List (State M G)) → length ss ≤ size_of (states_of ss)
  few-subs [] = omega arith
  few-subs (s ∷ ss) = let some = size-some s in let h = few-subs ss in omega (arith, some, h)

  sizes-push : (ss : List (State M G)) (s : State M G) → size_of (states_of (ss ++ s ∷ [])) ≡ size_of (states_of ss) + size s
  sizes-push [] s = omega arith
  sizes-push (x ∷ ss) s = let h = sizes-push ss s in omega (arith, h)

module _ {M G : Type 0} (kinds : Kinds M G) where
  pub sub-size : (is_open : Bool) (number : ℕ) (p : Plan M G) (call : ℕ) (request : Option (List ℕ)) (moment : ℕ) → size (sub_run kinds is_open number p call request moment).state ≡ nodes p
  sub-size true number p call (Some request) moment = size-start kinds number p call request moment
  sub-size true number p call None moment = refl
  sub-size false number p call request moment = refl

  -- where the next sub begins
  pub next-number : (kids before : List (State M G)) (tree : State M G) (node number : ℕ) (is_open : Bool) (p : Plan M G) (call : ℕ) (request : Option (List ℕ)) (moment : ℕ)
      → kids ≡ before ++ tree ∷ [] → tree ≡ (sub_run kinds is_open number p call request moment).state
      → number ≡ node + (1 + size_of (states_of before)) → number + nodes p ≡ node + (1 + size_of (states_of kids))
  next-number kids before tree node number is_open p call request moment are is at =
      let n = ap (λ (ss : List (State M G)). size_of (states_of ss)) are ∙ sizes-push before tree in
      let m = ap size is ∙ sub-size is_open number p call request moment in
      omega (arith, n, m, at)
