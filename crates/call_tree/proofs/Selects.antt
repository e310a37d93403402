-- What an event does at a selective node without an end.
use Rattle.std.proofs.Common.{◌≡◌, ℕ, zero, suc, ◌+◌, ◌<◌, ◌≤◌, Bool, true, false, cond, ◌==◌, nat_lt, List, [], ◌∷◌, ◌++◌, length, get_or, set, take, drop, Option, Some, None, is_some}
use Rattle.std.proofs.Common.{arith, refl, ap, sym, ◌∙◌, subst}
use Rattle.std.proofs.lemmas.Bool.Decides.{nat_tests}
use Rattle.std.proofs.lemmas.List.{append_assoc}
use Rattle.rpc_model.specs.declared.event.End.{End}
use Rattle.rpc_model.specs.declared.event.Event.{Event}
use Rattle.rpc_model.specs.Kinds.{Kinds}
use Rattle.rpc_model.specs.Versions.{nodes}
use Rattle.rpc_model.specs.Selective.{next_try}
use Rattle.rpc_model.specs.State.{Sel, State, waits, leaf_state, par_state, sel_state, States, Run, end_of, size, size_of, still, run_then}
use Rattle.rpc_model.specs.Machine.{node_of, new_end, while_open, sel_at, sel_stepped, is_left, start_at, start_waiting, step_at, step_tries}
use Rattle.call_tree.specs.declared.nodes.Node.{Node}
use Rattle.call_tree.specs.declared.nodes.Node.TheVariants as node
use Rattle.call_tree.specs.declared.nodes.SelNode.{SelNode}
use Rattle.call_tree.specs.Brought.{Brought, behind_end, behind_try, started_tries, brought_at, brought_tries, followed, put_from}
use Rattle.call_tree.specs.Brought as brought
use Rattle.call_tree.specs.Places.{firsts, IsAt}
use Rattle.call_tree.specs.Shown.{states_of, state_of, IsSound, IsSelNode}
use Rattle.call_tree.proofs.Folds.{other-number}
use Rattle.call_tree.proofs.Kids.{at-there}
use Rattle.call_tree.proofs.Leaves.{none-end}
use Rattle.call_tree.proofs.Followed.{behind, behind-end, put-behind, behind-firsts, followed-put, followed-firsts, rest_from, follows, brings_try, try-of, number-rest, none-past, drop-size}
use Rattle.call_tree.proofs.Weights.{size-step}

module _ {M G : Type 0} where
  pub record IsOpenSel (p : SelNode M G) (self : State M G) : Type 0 where
    pub is : self ≡ sel_state (record { request = p.request; end = p.end }) (states_of p.kids.items)
    pub sound : IsSelNode p
    pub none : p.end ≡ None

  pub open-sel : (n : Node M G) (p : SelNode M G) (self : State M G) → state_of n ≡ self → IsSound n → n ≡ node.Sel p → false ≡ is_some p.end → IsOpenSel p self
  open-sel n p self view sound is still = record { is = sym view ∙ ap state_of is; sound = subst IsSound is sound; none = none-end p.end still }

  pub sel-high : (p : SelNode M G) (self : State M G) (number to : ℕ) → IsOpenSel p self → to < number + size self → to < number + (1 + size_of (states_of p.kids.items))
  sel-high p self number to f high = let n = ap size f.is in omega (arith, n, high)

  drop-length : (ss : List (State M G)) (k : ℕ) → k ≤ length ss → length (drop k ss) + k ≡ length ss
  drop-length ss zero h = omega arith
  drop-length [] (suc k) h = absurd (omega (arith, h))
  drop-length (s ∷ ss) (suc k) h = let r = drop-length ss k (omega (arith, h)) in omega (arith, r)

module _ {M G : Type 0} (kinds : Kinds M G) where
  behind-length : (states : States M G) (o : Option End) (xs : List (State M G)) (n : ℕ) → length xs ≤ n → length (behind_try kinds states o xs) ≤ n
  behind-length states None xs n h = omega arith
  behind-length states (Some e) xs n h = by (next_try (is_left states) e)
    where
      by : (o : Option End) → length (behind_end kinds o xs) ≤ n
      by None = h
      by (Some up) = omega arith

  started-length : (n : ℕ) (ss : List (State M G)) (call : ℕ) (request : List ℕ) (moment : ℕ) → length (started_tries kinds n (states_of ss) call request moment) ≤ length ss
  started-length n [] call request moment = omega arith
  started-length n (waits plan ∷ ss) call request moment =
      let run = start_at kinds n plan call request moment in
      let later = started_tries kinds (n + nodes plan) (states_of ss) call request moment in
      let h = behind-length (states_of ss) (end_of run.state) later (length ss) (started-length (n + nodes plan) ss call request moment) in
      omega (arith, h)
  started-length n (leaf_state chan q leaf ∷ ss) call request moment = omega arith
  started-length n (par_state par below ∷ ss) call request moment = omega arith
  started-length n (sel_state sel below ∷ ss) call request moment = omega arith

  -- what an event below a selective node comes to, where the tries behind have this number
  pub record IsSelStep (p : SelNode M G) (self : State M G) (number : ℕ) (e : Event) (i first : ℕ) (s : State M G) (call moment : ℕ) : Type 0 where
    pub sends : (step_at kinds first s call e moment).sends ++ (follows kinds p.kids.items i (first + size s) call p.request moment
        (new_end (end_of s) (end_of (step_at kinds first s call e moment).state))).sends ≡ (step_at kinds number self call e moment).sends
    pub marks : (step_at kinds first s call e moment).marks ++ (follows kinds p.kids.items i (first + size s) call p.request moment
        (new_end (end_of s) (end_of (step_at kinds first s call e moment).state))).marks ≡ (step_at kinds number self call e moment).marks
    pub rises : (follows kinds p.kids.items i (first + size s) call p.request moment (new_end (end_of s) (end_of (step_at kinds first s call e moment).state))).end ≡ new_end (end_of self)
        (end_of (step_at kinds number self call e moment).state)
    pub brought : brought_at kinds number self call e moment
        ≡ brought_at kinds first s call e moment ++ brings_try kinds p.kids.items i (first + size s) call p.request moment
        (new_end (end_of s) (end_of (step_at kinds first s call e moment).state)) ∷ []
    pub after : (now : State M G) (ts : List (State M G)) (over : Option End) → now ≡ (step_at kinds first s call e moment).state
        → ts ≡ (brings_try kinds p.kids.items i (first + size s) call p.request moment (new_end (end_of s) (end_of (step_at kinds first s call e moment).state))).started
        → over ≡ new_end (end_of self) (end_of (step_at kinds number self call e moment).state)
        → sel_state (record { request = p.request; end = over }) (states_of (put_from (suc i) ts (set p.kids.items i now))) ≡ (step_at kinds number self call e moment).state
    pub kept : (now : State M G) (ts : List (State M G)) → now ≡ (step_at kinds first s call e moment).state
        → ts ≡ (brings_try kinds p.kids.items i (first + size s) call p.request moment (new_end (end_of s) (end_of (step_at kinds first s call e moment).state))).started
        → firsts 1 (states_of (put_from (suc i) ts (set p.kids.items i now))) ≡ firsts 1 (states_of p.kids.items)
    pub fits : (ts : List (State M G))
        → ts ≡ (brings_try kinds p.kids.items i (first + size s) call p.request moment (new_end (end_of s) (end_of (step_at kinds first s call e moment).state))).started
        → i + 1 + length ts ≤ length p.kids.items

  pub sel-step : (p : SelNode M G) (self : State M G) (number : ℕ) (e : Event) (i first : ℕ) (s : State M G) (call moment : ℕ) → IsOpenSel p self → (node_of e ≡ number → ⊥)
      → node_of e < number + size self
      → IsAt number (node_of e) (states_of p.kids.items) i first → s ≡ get_or p.kids.items i s → IsSelStep p self number e i first s call moment
  sel-step p self number e i first s call moment f differ high at is =
      let kids = p.kids.items in
      let place = at-there number (node_of e) kids i first at in
      let sub = try-of kinds number (node_of e) kids i first s at is (sel-high p self number (node_of e) f high) in
      let run = step_at kinds first s call e moment in
      let states = states_of kids in
      let up = new_end (end_of s) (end_of run.state) in
      let rest = drop (suc i) kids in
      let n = first + size s in
      let next = follows kinds kids i n call p.request moment up in
      let sel : Sel = record { request = p.request; end = p.end } in
      let test = other-number (node_of e) number differ in
      let before : end_of self ≡ None = ap end_of f.is ∙ f.none in
      let whole = behind (take i kids) (run_then run next) in
      let ends = behind-end (take i kids) (run_then run next) in
      let stepped : step_at kinds number self call e moment ≡ sel_stepped sel whole =
      ap (λ x. step_at kinds number x call e moment) f.is
      ∙ ap (λ o. while_open o (sel_state sel states) (cond (node_of e == number) (sel_at sel states e) (sel_stepped sel (step_tries kinds (number + 1) states call e moment p.request)))) f.none
      ∙ ap (λ b. cond b (sel_at sel states e) (sel_stepped sel (step_tries kinds (number + 1) states call e moment p.request))) test
      ∙ ap (sel_stepped sel) (sub.steps call e moment p.request refl) in
      let over_is : new_end (end_of self) (end_of (step_at kinds number self call e moment).state) ≡ next.end =
      ap (λ o. new_end o (end_of (step_at kinds number self call e moment).state)) before ∙ ap (λ (r : Run M G). end_of r.state) stepped ∙ ends.0 in
      let put : (λ (started : List (State M G)). whole.states ≡ states_of (put_from (suc i) started (set kids i run.state))) (brings_try kinds kids i n call p.request moment up).started =
      put-behind kids i run next (brings_try kinds kids i n call p.request moment up).started place (followed-put kinds n rest call p.request moment up) in
      record {
        sends = sym (ap (λ (r : Run M G). r.sends) stepped ∙ ends.1);
        marks = sym (ap (λ (r : Run M G). r.marks) stepped ∙ ends.2);
        rises = sym over_is;
        brought =
            ap (λ x. brought_at kinds number x call e moment) f.is
            ∙ ap (λ o. brought.while_open o (cond (node_of e == number) [] (brought_tries kinds (number + 1) states call e moment p.request))) f.none
            ∙ ap (λ b. cond b [] (brought_tries kinds (number + 1) states call e moment p.request)) test
            ∙ sub.brings call e moment p.request refl;
        after = λ now ts over now_is ts_is rose.
            ap (λ (x : State M G). sel_state (record { request = p.request; end = over }) (states_of (put_from (suc i) ts (set kids i x)))) now_is
            ∙ ap (λ (xs : List (State M G)). sel_state (record { request = p.request; end = over }) (states_of (put_from (suc i) xs (set kids i run.state)))) ts_is
            ∙ ap (sel_state (record { request = p.request; end = over })) (sym put)
            ∙ ap (λ o. sel_state (record { request = p.request; end = o }) whole.states) (rose ∙ over_is ∙ sym ends.0)
            ∙ sym (ap (λ (r : Run M G). r.state) stepped);
        kept = λ now ts now_is ts_is.
            ap (λ (x : State M G). firsts 1 (states_of (put_from (suc i) ts (set kids i x)))) now_is
            ∙ ap (λ (xs : List (State M G)). firsts 1 (states_of (put_from (suc i) xs (set kids i run.state)))) ts_is
            ∙ ap (firsts 1) (sym put)
            ∙ behind-firsts 1 kids i s run next place is (size-step kinds first s call e moment) (λ k. followed-firsts kinds k n (states_of rest) call p.request moment up);
        fits = λ ts ts_is.
            let t = ap length ts_is in
            let b = behind-length (states_of rest) up (started_tries kinds n (states_of rest) call p.request moment) (length rest) (started-length n rest call p.request moment) in
            let d = drop-length kids (suc i) (omega (arith, place)) in
            omega (arith, t, b, d);
      }

  -- the number that the code gives the next try
  pub next-same : (p : SelNode M G) (number to i first next : ℕ) (s : State M G) (call : ℕ) (request : List ℕ) (moment : ℕ) → IsSelNode p → IsAt number to (states_of p.kids.items) i first
      → s ≡ get_or p.kids.items i s → (i + 1 < length p.kids.items → next ≡ number + get_or p.firsts.items (i + 1) 0)
      → start_waiting kinds next (rest_from kinds p.kids.items i) call request moment ≡ start_waiting kinds (first + size s) (rest_from kinds p.kids.items i) call request moment
  next-same p number to i first next s call request moment sound at is known = by (nat_lt (i + 1) (length p.kids.items)) refl
    where
      by : (b : Bool) → nat_lt (i + 1) (length p.kids.items) ≡ b
          → start_waiting kinds next (rest_from kinds p.kids.items i) call request moment ≡ start_waiting kinds (first + size s) (rest_from kinds p.kids.items i) call request moment
      by true test =
          let kids = p.kids.items in
          let less : i + 1 < length kids = grind (arith, nat_tests) in
          let place = at-there number to kids i first at in
          let a = known less in
          let b = ap (λ fs. get_or fs (i + 1) 0) sound.places in
          let c = number-rest 1 kids (i + 1) less in
          let d = at.first_is in
          let e = number-rest (number + 1) kids i place in
          let g = drop-size kids i s place is in
          let one : suc i ≡ i + 1 = omega arith in
          let h = ap (λ k. size_of (states_of (drop k kids))) one in
          ap (λ n. start_waiting kinds n (rest_from kinds kids i) call request moment) (let same : next ≡ first + size s = omega (arith, a, b, c, d, e, g, h) in same)
      by false test =
          let kids = p.kids.items in
          let past : length kids ≤ suc i = grind (arith, nat_tests) in
          let none = none-past kids (suc i) past in
          ap (λ (ss : List (State M G)). start_waiting kinds next (states_of ss) call request moment) none
          ∙ sym (ap (λ (ss : List (State M G)). start_waiting kinds (first + size s) (states_of ss) call request moment) none)

module _ {M G : Type 0} where
  pub brought-pair : (xs ys : List (Brought M G)) (up end : Option End) (started st : List (State M G)) → xs ≡ ys → up ≡ end → started ≡ st
      → xs ++ record { end = up; started = started } ∷ [] ≡ ys ++ record { end = end; started = st } ∷ []
  brought-pair xs ys up end started st p q r =
      ap (λ (zs : List (Brought M G)). zs ++ record { end = up; started = started } ∷ []) p
      ∙ ap (λ (o : Option End). ys ++ record { end = o; started = started } ∷ []) q
      ∙ ap (λ (ss : List (State M G)). ys ++ record { end = end; started = ss } ∷ []) r

-- what a try sent, and then what those behind it did
pub both-sent : {X : Type 0} (now mid out sends next other all : List X) → now ≡ mid ++ other → mid ≡ out ++ sends → other ≡ next → sends ++ next ≡ all → now ≡ out ++ all
both-sent now mid out sends next other all is before same h = is ∙ ap (λ xs. xs ++ other) before ∙ append_assoc out sends other ∙ ap (λ xs. out ++ (sends ++ xs)) same ∙ ap (λ xs. out ++ xs) h
