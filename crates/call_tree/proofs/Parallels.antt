-- What an event does at a parallel node without an end.
use Rattle.std.proofs.Common.{◌≡◌, ℕ, zero, suc, ◌+◌, ◌<◌, true, false, cond, ◌==◌, List, [], ◌∷◌, ◌++◌, length, get_or, set, Option, Some, None, arith, refl, ap, sym, ◌∙◌, subst}
use Rattle.std.proofs.lemmas.List.{length-append}
use Rattle.std.specs.Option.{is_some}
use Rattle.rpc_model.specs.declared.event.End.{End}
use Rattle.rpc_model.specs.declared.event.Event.{Event}
use Rattle.rpc_model.specs.declared.event.Event.TheVariants as event
use Rattle.rpc_model.specs.Leaf.{Leaf, leaf_step}
use Rattle.rpc_model.specs.Kinds.{Kinds}
use Rattle.rpc_model.specs.Parallel.{goods, bads, judged}
use Rattle.rpc_model.specs.State.{Par, State, waits, leaf_state, par_state, sel_state, Run, end_of, ends_of, size, size_of, quiet}
use Rattle.rpc_model.specs.Machine.{node_of, new_end, where_ended, while_open, leaf_run, par_at, par_stepped, step_at, step_subs}
use Rattle.call_tree.specs.declared.nodes.Node.{Node}
use Rattle.call_tree.specs.declared.nodes.Node.TheVariants as node
use Rattle.call_tree.specs.declared.nodes.ParNode.{ParNode}
use Rattle.call_tree.specs.Brought.{Brought, brought_at, brought_subs}
use Rattle.call_tree.specs.Brought as brought
use Rattle.call_tree.specs.Counts.{limits_of, IsOpen, AreCounts, with_end, with_some}
use Rattle.call_tree.specs.Judging.{brought_up}
use Rattle.call_tree.specs.Places.{firsts, IsAt}
use Rattle.call_tree.specs.Shown.{states_of, state_of, IsSound, IsParNode}
use Rattle.call_tree.proofs.Counting.{counted, limits-some, judged-open}
use Rattle.call_tree.proofs.Folds.{ends-length, ends-get, other-number}
use Rattle.call_tree.proofs.Kids.{with_run, brought_by, IsSub, sub-of, firsts-set, ends-set}
use Rattle.call_tree.proofs.Leaves.{none-end}
use Rattle.call_tree.proofs.Weights.{size-step}

pub was-open : (o n : Option End) (e : End) → new_end o n ≡ Some e → o ≡ None
was-open None n e h = refl
was-open (Some end) n e h = absurd (cc)

pub now-ended : (o n : Option End) (e : End) → new_end o n ≡ Some e → n ≡ Some e
now-ended None n e h = h
now-ended (Some end) n e h = absurd (cc)

leaf-ended : (retry : ℕ) (leaf : Leaf) (e : Event) (end : End) → leaf.end ≡ Some end → leaf_step retry leaf e ≡ leaf
leaf-ended retry leaf (event.Reply node attempt code text) end h = rw h refl
leaf-ended retry leaf (event.Lost node attempt code) end h = rw h refl
leaf-ended retry leaf (event.Backup node) end h = rw h refl
leaf-ended retry leaf (event.Deadline node) end h = rw h refl
leaf-ended retry leaf event.Cancel end h = refl

set-same : {X : Type 0} (xs : List X) (i : ℕ) (d : X) → set xs i (get_or xs i d) ≡ xs
set-same [] i d = refl
set-same (x ∷ xs) zero d = refl
set-same (x ∷ xs) (suc i) d = ap (λ ys. x ∷ ys) (set-same xs i d)

-- two names of one element
pub same-item : {X : Type 0} (xs : List X) (i : ℕ) (a b : X) → i < length xs → a ≡ get_or xs i a → b ≡ get_or xs i b → a ≡ b
same-item [] i a b h p q = absurd (omega (arith, h))
same-item (x ∷ xs) zero a b h p q = p ∙ sym q
same-item (x ∷ xs) (suc i) a b h p q = same-item xs i a b (omega (arith, h)) p q

-- an element is there whatever stands for it past the end
pub get-any : {X : Type 0} (xs : List X) (i : ℕ) (d e : X) → i < length xs → get_or xs i d ≡ get_or xs i e
get-any [] i d e h = absurd (omega (arith, h))
get-any (x ∷ xs) zero d e h = refl
get-any (x ∷ xs) (suc i) d e h = get-any xs i d e (omega (arith, h))

-- what stands last, and what stands before it
pub last-item : {X : Type 0} (xs ys : List X) (x y : X) → xs ++ x ∷ [] ≡ ys ++ y ∷ [] → (xs ≡ ys) × (x ≡ y)
last-item [] [] x y h = (refl, (let e : x ≡ y = cc in e))
last-item [] (z ∷ []) x y h = absurd (cc)
last-item [] (z ∷ w ∷ ys) x y h = absurd (cc)
last-item (z ∷ []) [] x y h = absurd (cc)
last-item (z ∷ w ∷ xs) [] x y h = absurd (cc)
last-item (z ∷ xs) (w ∷ ys) x y h =
    let head : z ≡ w = cc in
    let tail : xs ++ x ∷ [] ≡ ys ++ y ∷ [] = cc in
    let rest = last-item xs ys x y tail in
    (ap (λ v. v ∷ xs) head ∙ ap (λ vs. w ∷ vs) rest.0, rest.1)

module _ {M G : Type 0} where
  pub record IsOpenPar (p : ParNode M G) (self : State M G) : Type 0 where
    pub is : self ≡ par_state (record { limits = limits_of p.counts; merges = p.merges; end = p.end }) (states_of p.kids.items)
    pub sound : IsParNode p
    pub none : p.end ≡ None

  pub open-par : (n : Node M G) (p : ParNode M G) (self : State M G) → state_of n ≡ self → IsSound n → n ≡ node.Par p → false ≡ is_some p.end → IsOpenPar p self
  open-par n p self view sound is still = record { is = sym view ∙ ap state_of is; sound = subst IsSound is sound; none = none-end p.end still }

  pub par-high : (p : ParNode M G) (self : State M G) (number to : ℕ) → IsOpenPar p self → to < number + size self → to < number + (1 + size_of (states_of p.kids.items))
  par-high p self number to f high = let n = ap size f.is in omega (arith, n, high)

module _ {M G : Type 0} (kinds : Kinds M G) where
  -- an end stays
  step-ended : (number : ℕ) (state : State M G) (call : ℕ) (e : Event) (moment : ℕ) (end : End) → end_of state ≡ Some end → (step_at kinds number state call e moment).state ≡ state
  step-ended number (waits plan) call e moment end h = refl
  step-ended number (leaf_state chan request leaf) call e moment end h =
      elim (node_of e == number) as (λ v. (cond v (leaf_run chan call number request leaf (leaf_step chan.retry leaf e)) (quiet {M = M} {G = G} (leaf_state chan request leaf))).state ≡
      leaf_state chan request leaf)
      [ true ↦ ap (leaf_state chan request) (leaf-ended chan.retry leaf e end h) | false ↦ refl ]
  step-ended number (par_state par states) call e moment end h = rw h refl
  step-ended number (sel_state sel states) call e moment end h = rw h refl

  -- a node that an event brings no end has the end that it had
  pub same-end : (first : ℕ) (s : State M G) (call : ℕ) (e : Event) (moment : ℕ) (o : Option End) → end_of s ≡ o → None ≡ new_end o (end_of (step_at kinds first s call e moment).state)
      → end_of (step_at kinds first s call e moment).state ≡ o
  same-end first s call e moment None is up = sym up
  same-end first s call e moment (Some end) is up = ap end_of (step-ended first s call e moment end is) ∙ is

  up-is : (p : ParNode M G) (i : ℕ) (o n up : Option End) → up ≡ new_end o n → let ends = ends_of (states_of p.kids.items) in
      brought_up kinds (limits_of p.counts) p.merges ends i up ≡ where_ended (new_end o n) (judged kinds (limits_of p.counts) p.merges (set ends i n))
  up-is p i o n None h = ap (λ x. where_ended x (judged kinds (limits_of p.counts) p.merges (set (ends_of (states_of p.kids.items)) i n))) h
  up-is p i o n (Some e) h =
      let ends = ends_of (states_of p.kids.items) in
      ap (λ x. judged kinds (limits_of p.counts) p.merges (set ends i x)) (sym (now-ended o n e (sym h))) ∙ ap (λ x. where_ended x (judged kinds (limits_of p.counts) p.merges (set ends i n))) h

  -- what an event below a parallel node comes to
  pub record IsParStep (p : ParNode M G) (self : State M G) (number : ℕ) (e : Event) (i first : ℕ) (s : State M G) (call moment : ℕ) : Type 0 where
    pub sends : (step_at kinds first s call e moment).sends ≡ (step_at kinds number self call e moment).sends
    pub marks : (step_at kinds first s call e moment).marks ≡ (step_at kinds number self call e moment).marks
    pub rises : (up : Option End) → up ≡ new_end (end_of s) (end_of (step_at kinds first s call e moment).state)
        → brought_up kinds (limits_of p.counts) p.merges (ends_of (states_of p.kids.items)) i up ≡ new_end (end_of self) (end_of (step_at kinds number self call e moment).state)
    pub brought : brought_at kinds number self call e moment ≡ brought_at kinds first s call e moment ++ brought_by kinds s (step_at kinds first s call e moment) ∷ []
    pub after : (now : State M G) (over : Option End) → now ≡ (step_at kinds first s call e moment).state → over ≡ new_end (end_of self) (end_of (step_at kinds number self call e moment).state)
        → par_state (record { limits = limits_of p.counts; merges = p.merges; end = over }) (states_of (set p.kids.items i now)) ≡ (step_at kinds number self call e moment).state

  pub par-step : (p : ParNode M G) (self : State M G) (number : ℕ) (e : Event) (i first : ℕ) (s : State M G) (call moment : ℕ) → IsOpenPar p self → (node_of e ≡ number → ⊥)
      → node_of e < number + size self
      → IsAt number (node_of e) (states_of p.kids.items) i first → s ≡ get_or p.kids.items i s → IsParStep p self number e i first s call moment
  par-step p self number e i first s call moment f differ high at is =
      let sub = sub-of kinds number (node_of e) p.kids.items i first s at is (par-high p self number (node_of e) f high) in
      let run = step_at kinds first s call e moment in
      let states = states_of p.kids.items in
      let par : Par G = record { limits = limits_of p.counts; merges = p.merges; end = p.end } in
      let test = other-number (node_of e) number differ in
      let before : end_of self ≡ None = ap end_of f.is ∙ f.none in
      let stepped : step_at kinds number self call e moment ≡ par_stepped kinds par (with_run kinds p.kids.items i s run) =
      ap (λ x. step_at kinds number x call e moment) f.is
      ∙ ap (λ o. while_open o (par_state par states) (cond (node_of e == number) (par_at kinds par states e) (par_stepped kinds par (step_subs kinds (number + 1) states call e moment)))) f.none
      ∙ ap (λ b. cond b (par_at kinds par states e) (par_stepped kinds par (step_subs kinds (number + 1) states call e moment))) test
      ∙ ap (par_stepped kinds par) (sub.steps call e moment refl) in
      let over_is : new_end (end_of self) (end_of (step_at kinds number self call e moment).state) ≡ where_ended (new_end (end_of s) (end_of run.state))
      (judged kinds (limits_of p.counts) p.merges (ends_of (states_of (set p.kids.items i run.state)))) =
      ap (λ o. new_end o (end_of (step_at kinds number self call e moment).state)) before ∙ ap (λ (r : Run M G). end_of r.state) stepped in
      record {
        sends = sym (ap (λ (r : Run M G). r.sends) stepped);
        marks = sym (ap (λ (r : Run M G). r.marks) stepped);
        rises = λ up rose. up-is p i (end_of s) (end_of run.state) up rose
            ∙ sym (over_is ∙ ap (λ es. where_ended (new_end (end_of s) (end_of run.state)) (judged kinds (limits_of p.counts) p.merges es)) (ends-set p.kids.items i run.state));
        brought =
            ap (λ x. brought_at kinds number x call e moment) f.is
            ∙ ap (λ o. brought.while_open o (cond (node_of e == number) [] (brought_subs kinds (number + 1) states call e moment))) f.none
            ∙ ap (λ b. cond b [] (brought_subs kinds (number + 1) states call e moment)) test
            ∙ sub.brings call e moment refl;
        after = λ now over now_is rose.
            ap (λ (x : State M G). par_state (record { limits = limits_of p.counts; merges = p.merges; end = over }) (states_of (set p.kids.items i x))) now_is
            ∙ ap (λ o. par_state (record { limits = limits_of p.counts; merges = p.merges; end = o }) (states_of (set p.kids.items i run.state))) (rose ∙ over_is)
            ∙ sym (ap (λ (r : Run M G). r.state) stepped);
      }

  -- the bounds of the sub
  pub par-sub : (p : ParNode M G) (self : State M G) (number : ℕ) (e : Event) (i first : ℕ) (s : State M G) → IsOpenPar p self → node_of e < number + size self
      → IsAt number (node_of e) (states_of p.kids.items) i first → s ≡ get_or p.kids.items i s
      → IsSub kinds (number + 1) (node_of e) p.kids.items i first s
  par-sub p self number e i first s f high at is = sub-of kinds number (node_of e) p.kids.items i first s at is (par-high p self number (node_of e) f high)

  -- the invariant after it
  pub par-kept : (p now : ParNode M G) (i first : ℕ) (s item : State M G) (call : ℕ) (e : Event) (moment : ℕ) (up : Option End) → IsParNode p → p.end ≡ None → i < length p.kids.items
      → s ≡ get_or p.kids.items i s → item ≡ (step_at kinds first s call e moment).state
      → up ≡ new_end (end_of s) (end_of (step_at kinds first s call e moment).state) → now.counts ≡ with_some p.counts up
      → now.end ≡ brought_up kinds (limits_of p.counts) p.merges (ends_of (states_of p.kids.items)) i up
      → now.firsts.items ≡ p.firsts.items → now.kids.items ≡ set p.kids.items i item → IsParNode now
  par-kept p now i first s item call e moment None sound none h is item_is up counts over places kids =
      let ends = ends_of (states_of p.kids.items) in
      let same : end_of item ≡ end_of s = ap end_of item_is ∙ same-end first s call e moment (end_of s) refl up in
      let ends_are : ends_of (states_of now.kids.items) ≡ ends =
      ap (λ (ss : List (State M G)). ends_of (states_of ss)) kids ∙ ends-set p.kids.items i item ∙ ap (set ends i) (same ∙ sym (ends-get p.kids.items i s h is)) ∙ set-same ends i None in
      record {
        open_ = subst (λ o. IsOpen now.counts o) (sym (over ∙ sym none)) (subst (λ c. IsOpen c p.end) (sym counts) sound.open_);
        goods = ap (λ c. c.goods) counts ∙ sound.goods ∙ sym (ap goods ends_are);
        bads = ap (λ c. c.bads) counts ∙ sound.bads ∙ sym (ap bads ends_are);
        places = places ∙ sound.places
            ∙ sym (ap (λ (ss : List (State M G)). firsts 1 (states_of ss)) kids ∙ firsts-set 1 p.kids.items i s item is (ap size item_is ∙ size-step kinds first s call e moment));
      }
  par-kept p now i first s item call e moment (Some end) sound none h is item_is up counts over places kids =
      let ends = ends_of (states_of p.kids.items) in
      let run = step_at kinds first s call e moment in
      let ended : end_of item ≡ Some end = ap end_of item_is ∙ now-ended (end_of s) (end_of run.state) end (sym up) in
      let fresh : get_or ends i None ≡ None = ends-get p.kids.items i s h is ∙ was-open (end_of s) (end_of run.state) end (sym up) in
      let a : AreCounts (with_end p.counts end) (set ends i (Some end)) =
      counted ends i end p.counts (let n = ends-length p.kids.items in omega (arith, n, h)) fresh (record { goods_are = sound.goods; bads_are = sound.bads }) in
      let ends_are : ends_of (states_of now.kids.items) ≡ set ends i (Some end) = ap (λ (ss : List (State M G)). ends_of (states_of ss)) kids ∙ ends-set p.kids.items i item ∙ ap (set ends i) ended in
      let over_is : now.end ≡ judged kinds (limits_of (with_end p.counts end)) p.merges (set ends i (Some end)) =
      over ∙ sym (ap (λ l. judged kinds l p.merges (set ends i (Some end))) (limits-some p.counts (Some end))) in
      record {
        open_ = subst (λ o. IsOpen now.counts o) (sym over_is) (subst (λ c. IsOpen c (judged kinds (limits_of (with_end p.counts end)) p.merges (set ends i (Some end)))) (sym counts)
            (judged-open kinds (with_end p.counts end) p.merges (set ends i (Some end)) a));
        goods = ap (λ c. c.goods) counts ∙ a.goods_are ∙ sym (ap goods ends_are);
        bads = ap (λ c. c.bads) counts ∙ a.bads_are ∙ sym (ap bads ends_are);
        places = places ∙ sound.places
            ∙ sym (ap (λ (ss : List (State M G)). firsts 1 (states_of ss)) kids ∙ firsts-set 1 p.kids.items i s item is (ap size item_is ∙ size-step kinds first s call e moment));
      }

pub some-last : {X : Type 0} (all xs : List X) (x : X) → all ≡ xs ++ x ∷ [] → 0 < length all
some-last all xs x h = let n = ap length h in let m = length-append xs (x ∷ []) in omega (arith, n, m)

module _ {M G : Type 0} where
  -- what stands last is the sub's, and what stands before it that of the nodes below the sub
  pub below-is : (before left above : List (Brought M G)) (last by : Brought M G) → before ≡ above ++ by ∷ [] → before ≡ left ++ last ∷ [] → (left ≡ above) × (last ≡ by)
  below-is before left above last by p q = last-item left above last by (sym q ∙ p)

  -- a sub that gets an end had none
  pub fresh-sub : (p : ParNode M G) (i : ℕ) (s : State M G) (n up : Option End) → i < length p.kids.items → s ≡ get_or p.kids.items i s → up ≡ new_end (end_of s) n → is_some up ≡ true
      → get_or (ends_of (states_of p.kids.items)) i None ≡ None
  fresh-sub p i s n None h is rose some = absurd (cc)
  fresh-sub p i s n (Some end) h is rose some = ends-get p.kids.items i s h is ∙ was-open (end_of s) n end (sym rose)

  pub brought-with : (xs ys : List (Brought M G)) (up end : Option End) (started : List (State M G)) → xs ≡ ys → up ≡ end → started ≡ []
      → xs ++ record { end = up; started = started } ∷ [] ≡ ys ++ record { end = end; started = [] } ∷ []
  brought-with xs ys up end started p q r =
      ap (λ (zs : List (Brought M G)). zs ++ record { end = up; started = started } ∷ []) p
      ∙ ap (λ (o : Option End). ys ++ record { end = o; started = started } ∷ []) q
      ∙ ap (λ (ss : List (State M G)). ys ++ record { end = end; started = ss } ∷ []) r
