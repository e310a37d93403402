-- A parallel node's end is that of its completions, in the order in which they came.
use Rattle.std.proofs.Common.{◌≡◌, ℕ, zero, suc, ◌+◌, ◌<◌, ◌⊎◌, inl, inr, Bool, true, false, cond, ◌==◌, ◌||◌, nat_lt, nat_le, List, [], ◌∷◌, ◌++◌, length, Option, Some, None, arith, refl}
use Rattle.std.proofs.Common.{ap, sym, ◌∙◌, subst, length-append}
use Rattle.std.proofs.lemmas.List.{append_assoc}
use Rattle.rpc_model.specs.declared.codes.TheConstants.{ETOOMANYFAILS}
use Rattle.rpc_model.specs.declared.event.End.{End}
use Rattle.rpc_model.specs.declared.event.End.TheVariants.{Bad}
use Rattle.rpc_model.specs.declared.event.Event.{Event}
use Rattle.rpc_model.specs.declared.mapper.Mapped.{Mapped}
use Rattle.rpc_model.specs.declared.mapper.Mapped.TheVariants as answer
use Rattle.model_laws.specs.Paths.{children}
use Rattle.model_laws.specs.Completions.{and_done, newly, count_of}
use Rattle.model_laws.proofs.Ended.{node-ended}
use Rattle.rpc_model.specs.declared.part.Part.{Part}
use Rattle.rpc_model.specs.Kinds.{Kinds}
use Rattle.rpc_model.specs.Plan.{Rule, Plan, par_plan, Plans, last_plan, plan_then}
use Rattle.rpc_model.specs.Versions.{nodes}
use Rattle.rpc_model.specs.Parallel.{Limits, and_part, bads, count_bad, count_good, end_at, ends_from, fold_parts, goods, parts_from, judged, limits, mapped, or_else, par_deadline, par_end}
use Rattle.rpc_model.specs.Parallel.{parts_of, refused}
use Rattle.rpc_model.specs.State.{State, waits, leaf_state, par_state, sel_state, States, last_state, state_then, Run, Below, Par, end_of, ends_of, waiting_states, run_beside, beside, quiet, size}
use Rattle.rpc_model.specs.Machine.{par_run, par_started, sub_started, where_ended, start_at, start_subs, node_of, is_deadline, new_end, par_at, par_stepped, while_open, step_at, step_subs}

module _ {M G : Type 0} (kinds : Kinds M G) where
  -- ---- the completions of a step

  new-same : (o : Option End) → new_end o o ≡ None
  new-same None = refl
  new-same (Some end) = refl

  pub newly-same : (k : ℕ) (ss : States M G) (done : List (ℕ × End)) → newly k ss ss done ≡ done
  newly-same k last_state done = refl
  newly-same k (state_then s ss) done = ap (λ o. newly (k + 1) ss ss (and_done k o done)) (new-same (end_of s)) ∙ newly-same (k + 1) ss done

  -- no sub ended
  record Unchanged (k : ℕ) (states : States M G) (below : Below M G) (done : List (ℕ × End)) : Type 0 where
    up : below.end ≡ None
    ends : ends_of below.states ≡ ends_of states
    adds : newly k states below.states done ≡ done

  -- one did
  record OneMore (k : ℕ) (states : States M G) (below : Below M G) (done : List (ℕ × End)) : Type 0 where
    end : End
    xs : List (Option End)
    zs : List (Option End)
    up : below.end ≡ Some end
    was : ends_of states ≡ xs ++ None ∷ zs
    now : ends_of below.states ≡ xs ++ Some end ∷ zs
    adds : newly k states below.states done ≡ (k + length xs, end) ∷ done

  sub-new : (k : ℕ) (s : State M G) (run : Run M G) (states : States M G) (done : List (ℕ × End)) (o p : Option End) → end_of s ≡ o → end_of run.state ≡ p
      → ((end : End) → end_of s ≡ Some end → run.state ≡ s)
      → Unchanged k (state_then s states) (run_beside run states (new_end (end_of s) (end_of run.state))) done ⊎ OneMore k (state_then s states)
      (run_beside run states (new_end (end_of s) (end_of run.state))) done
  sub-new k s run states done (Some end) p ho hp stays =
      let none : new_end (end_of s) (end_of run.state) ≡ None = ap (λ o. new_end o (end_of run.state)) ho in
      inl (record {
        up = none;
        ends = ap (λ (t : State M G). end_of t ∷ ends_of states) (stays end ho);
        adds = ap (λ o. newly (k + 1) states states (and_done k o done)) none ∙ newly-same (k + 1) states done;
      })
  sub-new k s run states done None None ho hp stays =
      let none : new_end (end_of s) (end_of run.state) ≡ None = ap (λ o. new_end o (end_of run.state)) ho ∙ hp in
      inl (record {
        up = none;
        ends = ap (λ o. o ∷ ends_of states) (hp ∙ sym ho);
        adds = ap (λ o. newly (k + 1) states states (and_done k o done)) none ∙ newly-same (k + 1) states done;
      })
  sub-new k s run states done None (Some end) ho hp stays =
      let one : new_end (end_of s) (end_of run.state) ≡ Some end = ap (λ o. new_end o (end_of run.state)) ho ∙ hp in
      let place : k ≡ k + 0 = omega arith in
      inr (record {
        end = end;
        xs = [];
        zs = ends_of states;
        up = one;
        was = ap (λ o. o ∷ ends_of states) ho;
        now = ap (λ o. o ∷ ends_of states) hp;
        adds = ap (λ o. newly (k + 1) states states (and_done k o done)) one ∙ newly-same (k + 1) states ((k, end) ∷ done) ∙ ap (λ i. (i, end) ∷ done) place;
      })

  beside-new : (k : ℕ) (s : State M G) (states : States M G) (below : Below M G) (done : List (ℕ × End)) → Unchanged (k + 1) states below done ⊎ OneMore (k + 1) states below done
      → Unchanged k (state_then s states) (beside s below) done ⊎ OneMore k (state_then s states) (beside s below) done
  beside-new k s states below done (inl h) =
      inl (record {
        up = h.up;
        ends = ap (λ os. end_of s ∷ os) h.ends;
        adds = ap (λ o. newly (k + 1) states below.states (and_done k o done)) (new-same (end_of s)) ∙ h.adds;
      })
  beside-new k s states below done (inr h) =
      let place : k + 1 + length h.xs ≡ k + suc (length h.xs) = omega arith in
      inr (record {
        end = h.end;
        xs = end_of s ∷ h.xs;
        zs = h.zs;
        up = h.up;
        was = ap (λ os. end_of s ∷ os) h.was;
        now = ap (λ os. end_of s ∷ os) h.now;
        adds = ap (λ o. newly (k + 1) states below.states (and_done k o done)) (new-same (end_of s)) ∙ h.adds ∙ ap (λ i. (i, h.end) ∷ done) place;
      })

  -- A step ends at most one sub, and brings the node that one's end.
  step-new : (k node : ℕ) (states : States M G) (call : ℕ) (e : Event) (m : ℕ) (done : List (ℕ × End)) → Unchanged k states (step_subs kinds node states call e m) done
      ⊎ OneMore k states (step_subs kinds node states call e m) done
  step-new k node last_state call e m done = inl (record { up = refl; ends = refl; adds = refl })
  step-new k node (state_then s states) call e m done = by (nat_lt (node_of e) (node + size s)) (step-new (k + 1) (node + size s) states call e m done)
    where
      by : (v : Bool) → Unchanged (k + 1) states (step_subs kinds (node + size s) states call e m) done ⊎ OneMore (k + 1) states (step_subs kinds (node + size s) states call e m) done
          → Unchanged k (state_then s states) (cond v (run_beside (step_at kinds node s call e m) states (new_end (end_of s) (end_of (step_at kinds node s call e m).state)))
          (beside s (step_subs kinds (node + size s) states call e m))) done
          ⊎ OneMore k (state_then s states) (cond v (run_beside (step_at kinds node s call e m) states (new_end (end_of s) (end_of (step_at kinds node s call e m).state)))
          (beside s (step_subs kinds (node + size s) states call e m))) done
      by true h = sub-new k s (step_at kinds node s call e m) states done (end_of s) (end_of (step_at kinds node s call e m).state) refl refl
          (λ end ended. node-ended kinds node s call e m end ended)
      by false h = beside-new k s states (step_subs kinds (node + size s) states call e m) done h

  -- ---- the ends by index after one more completion

  ends-skip : (j n i : ℕ) (end : End) (done : List (ℕ × End)) → i < j → ends_from j n ((i, end) ∷ done) ≡ ends_from j n done
  ends-skip j zero i end done less = refl
  ends-skip j (suc n) i end done less =
      let other : (i == j) ≡ false = grind arith in
      ap (λ v. cond v (Some end) (end_at done j) ∷ ends_from (j + 1) n ((i, end) ∷ done)) other ∙ ap (λ os. end_at done j ∷ os) (ends-skip (j + 1) n i end done (omega (arith, less)))

  ends-set : (j n i : ℕ) (end : End) (done : List (ℕ × End)) (xs zs : List (Option End)) (y : Option End) → i ≡ j + length xs → ends_from j n done ≡ xs ++ y ∷ zs
      → ends_from j n ((i, end) ∷ done) ≡ xs ++ Some end ∷ zs
  ends-set j zero i end done [] zs y place h = absurd (cc)
  ends-set j zero i end done (x ∷ xs) zs y place h = absurd (cc)
  ends-set j (suc n) i end done [] zs y place h =
      let here : (i == j) ≡ true = grind arith in
      let tail : ends_from (j + 1) n done ≡ zs = cc in
      ap (λ v. cond v (Some end) (end_at done j) ∷ ends_from (j + 1) n ((i, end) ∷ done)) here ∙ ap (λ os. Some end ∷ os) (ends-skip (j + 1) n i end done (omega (arith, place)) ∙ tail)
  ends-set j (suc n) i end done (x ∷ xs) zs y place h =
      let other : (i == j) ≡ false = grind arith in
      let head : end_at done j ≡ x = cc in
      let tail : ends_from (j + 1) n done ≡ xs ++ y ∷ zs = cc in
      ap (λ v. cond v (Some end) (end_at done j) ∷ ends_from (j + 1) n ((i, end) ∷ done)) other
      ∙ ap (λ o. o ∷ ends_from (j + 1) n ((i, end) ∷ done)) head
      ∙ ap (λ os. x ∷ os) (ends-set (j + 1) n i end done xs zs y (omega (arith, place)) tail)

  -- ---- a step of the node

  -- the completions give the subs' ends by index, and the node's end
  pub record IsJudged (lim : Limits) (merges : List G) (done : List (ℕ × End)) (par : Par G) (states : States M G) : Type 0 where
    pub same_limits : par.limits ≡ lim
    pub same_merges : par.merges ≡ merges
    pub by_index : ends_of states ≡ ends_from 0 (length merges) done
    pub judgement : par.end ≡ par_end kinds lim merges done

  abbrev pub AreDone : Limits → List G → List (ℕ × End) → State M G → Type 0
  AreDone lim merges done (waits plan) = ⊥
  AreDone lim merges done (leaf_state chan request leaf) = ⊥
  AreDone lim merges done (par_state par states) = IsJudged lim merges done par states
  AreDone lim merges done (sel_state sel states) = ⊥

  stepped-judged : (lim : Limits) (merges : List G) (done : List (ℕ × End)) (par : Par G) (states : States M G) (below : Below M G) → par.end ≡ None → IsJudged lim merges done par states
      → Unchanged 0 states below done ⊎ OneMore 0 states below done → IsJudged lim merges (newly 0 states below.states done)
      (record par { end = where_ended below.end (judged kinds par.limits par.merges (ends_of below.states)) }) below.states
  stepped-judged lim merges done par states below open_ j (inl h) =
      subst (λ ds. IsJudged lim merges ds (record par { end = where_ended below.end (judged kinds par.limits par.merges (ends_of below.states)) }) below.states) (sym h.adds)
      (record {
        same_limits = j.same_limits;
        same_merges = j.same_merges;
        by_index = h.ends ∙ j.by_index;
        judgement = ap (λ o. where_ended o (judged kinds par.limits par.merges (ends_of below.states))) h.up ∙ sym open_ ∙ j.judgement;
      })
  stepped-judged lim merges done par states below open_ j (inr h) =
      let ends : ends_of below.states ≡ ends_from 0 (length merges) ((0 + length h.xs, h.end) ∷ done) =
      h.now ∙ sym (ends-set 0 (length merges) (0 + length h.xs) h.end done h.xs h.zs None refl (sym j.by_index ∙ h.was)) in
      subst (λ ds. IsJudged lim merges ds (record par { end = where_ended below.end (judged kinds par.limits par.merges (ends_of below.states)) }) below.states) (sym h.adds)
      (record {
        same_limits = j.same_limits;
        same_merges = j.same_merges;
        by_index = ends;
        judgement =
            ap (λ o. where_ended o (judged kinds par.limits par.merges (ends_of below.states))) h.up
            ∙ ap (λ l. judged kinds l par.merges (ends_of below.states)) j.same_limits
            ∙ ap (λ ms. judged kinds lim ms (ends_of below.states)) j.same_merges
            ∙ ap (judged kinds lim merges) ends
            ∙ ap (λ o. or_else o (judged kinds lim merges (ends_from 0 (length merges) ((0 + length h.xs, h.end) ∷ done)))) (sym open_ ∙ j.judgement);
      })

  -- what is judged by its completions is so after a step
  abbrev pub Goes : Limits → List G → List (ℕ × End) → States M G → Run M G → Type 0
  Goes lim merges done states run = AreDone lim merges (newly 0 states (children run.state) done) run.state

  goes-quiet : (lim : Limits) (merges : List G) (done : List (ℕ × End)) (par : Par G) (states : States M G) → IsJudged lim merges done par states
      → Goes lim merges done states (quiet (par_state par states))
  goes-quiet lim merges done par states j = subst (λ ds. IsJudged lim merges ds par states) (sym (newly-same 0 states done)) j

  pub step-judged : (lim : Limits) (merges : List G) (done : List (ℕ × End)) (node : ℕ) (par : Par G) (states : States M G) (call : ℕ) (e : Event) (m : ℕ) → IsJudged lim merges done par states
      → ((node_of e == node) ≡ true → is_deadline e ≡ false) → Goes lim merges done states (step_at kinds node (par_state par states) call e m)
  step-judged lim merges done node par states call e m j no_deadline = open_or par.end refl
    where
      at : (v : Bool) → (node_of e == node) ≡ v → par.end ≡ None
          → Goes lim merges done states (cond v (par_at kinds par states e) (par_stepped kinds par (step_subs kinds (node + 1) states call e m)))
      at true h none =
          let same : cond (is_deadline e) (record par { end = Some (par_deadline kinds par.limits par.merges (ends_of states)) }) par ≡ par = ap
          (λ v. cond v (record par { end = Some (par_deadline kinds par.limits par.merges (ends_of states)) }) par) (no_deadline h) in
          subst (λ (p : Par G). Goes lim merges done states (quiet (par_state p states))) (sym same) (goes-quiet lim merges done par states j)
      at false h none = stepped-judged lim merges done par states (step_subs kinds (node + 1) states call e m) none j (step-new 0 (node + 1) states call e m done)

      open_or : (o : Option End) → par.end ≡ o
          → Goes lim merges done states (while_open o (par_state par states)
          (cond (node_of e == node) (par_at kinds par states e) (par_stepped kinds par (step_subs kinds (node + 1) states call e m))))
      open_or None h = at (node_of e == node) refl h
      open_or (Some end) h = goes-quiet lim merges done par states j

  -- ---- the start of the node

  goods-none : (plans : Plans M G) → goods (ends_of (waiting_states plans)) ≡ 0
  goods-none last_plan = refl
  goods-none (plan_then plan plans) = goods-none plans

  bads-none : (plans : Plans M G) → bads (ends_of (waiting_states plans)) ≡ 0
  bads-none last_plan = refl
  bads-none (plan_then plan plans) = bads-none plans

  goods-waiting : (xs : List (Option End)) (plans : Plans M G) → goods (xs ++ ends_of (waiting_states plans)) ≡ goods xs
  goods-waiting [] plans = goods-none plans
  goods-waiting (x ∷ xs) plans = ap (count_good x) (goods-waiting xs plans)

  bads-waiting : (xs : List (Option End)) (plans : Plans M G) → bads (xs ++ ends_of (waiting_states plans)) ≡ bads xs
  bads-waiting [] plans = bads-none plans
  bads-waiting (x ∷ xs) plans = ap (count_bad x) (bads-waiting xs plans)

  parts-none : (index : ℕ) (merges : List G) (plans : Plans M G) → parts_from index merges (ends_of (waiting_states plans)) ≡ []
  parts-none index [] plans = refl
  parts-none index (merge ∷ merges) last_plan = refl
  parts-none index (merge ∷ merges) (plan_then plan plans) = parts-none (index + 1) merges plans

  parts-waiting : (index : ℕ) (merges : List G) (xs : List (Option End)) (plans : Plans M G) → parts_from index merges (xs ++ ends_of (waiting_states plans)) ≡ parts_from index merges xs
  parts-waiting index [] xs plans = refl
  parts-waiting index (merge ∷ merges) [] plans = parts-none index (merge ∷ merges) plans
  parts-waiting index (merge ∷ merges) (x ∷ xs) plans = ap (and_part index merge x) (parts-waiting (index + 1) merges xs plans)

  -- the judgement of so many failures and successes, and these parts
  judgement_of : Limits → ℕ → ℕ → List (Part G) → Option End
  judgement_of lim fails oks parts =
      cond (nat_le lim.fail fails) (Some (Bad ETOOMANYFAILS)) (cond (nat_le lim.ok oks || nat_le lim.count (oks + fails)) (Some (fold_parts kinds.merge parts fails lim.fail)) None)

  -- Subs that haven't started count for nothing.
  judged-waiting : (lim : Limits) (merges : List G) (xs : List (Option End)) (plans : Plans M G) → judged kinds lim merges (xs ++ ends_of (waiting_states plans)) ≡ judged kinds lim merges xs
  unfolding judgement_of
  judged-waiting lim merges xs plans =
      let ys = xs ++ ends_of (waiting_states plans) in
      let a : judgement_of lim (bads ys) (goods ys) (parts_of merges ys) ≡ judgement_of lim (bads xs) (goods ys) (parts_of merges ys) = ap (λ n. judgement_of lim n (goods ys) (parts_of merges ys))
      (bads-waiting xs plans) in
      let b : judgement_of lim (bads xs) (goods ys) (parts_of merges ys) ≡ judgement_of lim (bads xs) (goods xs) (parts_of merges ys) = ap (λ n. judgement_of lim (bads xs) n (parts_of merges ys))
      (goods-waiting xs plans) in
      let c : judgement_of lim (bads xs) (goods xs) (parts_of merges ys) ≡ judgement_of lim (bads xs) (goods xs) (parts_of merges xs) = ap (judgement_of lim (bads xs) (goods xs))
      (parts-waiting 0 merges xs plans) in
      a ∙ b ∙ c

  -- Behind subs with these ends, those that were started give the completions, and the end that they bring the node.
  record IsStarted (lim : Limits) (merges : List G) (ends : List (Option End)) (before now : States M G) (end : Option End) (done : List (ℕ × End)) : Type 0 where
    by_index : ends_from 0 (length merges) (newly (length ends) before now done) ≡ ends ++ ends_of now
    judgement : end ≡ par_end kinds lim merges (newly (length ends) before now done)

  started-then : (lim : Limits) (merges : List G) (ends : List (Option End)) (s t : State M G) (ss ts : States M G) (end : Option End) (done : List (ℕ × End))
      → IsStarted lim merges (ends ++ end_of t ∷ []) ss ts end (and_done (length ends) (new_end (end_of s) (end_of t)) done) → IsStarted lim merges ends (state_then s ss) (state_then t ts) end done
  started-then lim merges ends s t ss ts end done h =
      let d = and_done (length ends) (new_end (end_of s) (end_of t)) done in
      let l : length (ends ++ end_of t ∷ []) ≡ length ends + 1 = length-append ends (end_of t ∷ []) in
      let same = ap (λ k. newly k ss ts d) l in
      record {
        by_index = ap (ends_from 0 (length merges)) (sym same) ∙ h.by_index ∙ (append_assoc ends (end_of t ∷ []) (ends_of ts));
        judgement = h.judgement ∙ ap (par_end kinds lim merges) same;
      }

  -- the sub behind those with these ends has this end or none at its start
  one-ended : (lim : Limits) (merges : List G) (ends : List (Option End)) (done : List (ℕ × End)) (o : Option End) (plans : Plans M G)
      → ends_from 0 (length merges) done ≡ ends ++ None ∷ ends_of (waiting_states plans) → ends_from 0 (length merges) (and_done (length ends) o done) ≡ (ends ++ o ∷ []) ++ ends_of
      (waiting_states plans)
  one-ended lim merges ends done None plans h = h ∙ sym (append_assoc ends (None ∷ []) (ends_of (waiting_states plans)))
  one-ended lim merges ends done (Some end) plans h =
      ends-set 0 (length merges) (length ends) end done ends (ends_of (waiting_states plans)) None (omega arith) h ∙ sym (append_assoc ends (Some end ∷ []) (ends_of (waiting_states plans)))

  one-judged : (lim : Limits) (merges : List G) (ends : List (Option End)) (done : List (ℕ × End)) (o : Option End) (plans : Plans M G)
      → ends_from 0 (length merges) (and_done (length ends) o done) ≡ (ends ++ o ∷ []) ++ ends_of (waiting_states plans) → par_end kinds lim merges done ≡ None
      → par_end kinds lim merges (and_done (length ends) o done) ≡ where_ended o (judged kinds lim merges (ends ++ o ∷ []))
  one-judged lim merges ends done None plans h none = none
  one-judged lim merges ends done (Some end) plans h none =
      ap (λ o. or_else o (judged kinds lim merges (ends_from 0 (length merges) ((length ends, end) ∷ done)))) none ∙ ap (judged kinds lim merges) h ∙ judged-waiting lim merges
      (ends ++ Some end ∷ []) plans

  started-sub : (lim : Limits) (merges : List G) (ends : List (Option End)) (run : Run M G) (plan : Plan M G) (plans : Plans M G) (next : Below M G) (up : Option End) (done : List (ℕ × End))
      → ends_from 0 (length merges) (and_done (length ends) (end_of run.state) done) ≡ (ends ++ end_of run.state ∷ []) ++ ends_of (waiting_states plans)
      → par_end kinds lim merges (and_done (length ends) (end_of run.state) done) ≡ up
      → (par_end kinds lim merges (and_done (length ends) (end_of run.state) done) ≡ None → IsStarted lim merges (ends ++ end_of run.state ∷ []) (waiting_states plans) next.states next.end
      (and_done (length ends) (end_of run.state) done))
      → IsStarted lim merges ends (state_then (waits plan) (waiting_states plans)) (sub_started run plans next up).states (sub_started run plans next up).end done
  started-sub lim merges ends run plan plans next None done h e again = started-then lim merges ends (waits plan) run.state (waiting_states plans) next.states next.end done (again e)
  started-sub lim merges ends run plan plans next (Some end) done h e again =
      let d = and_done (length ends) (end_of run.state) done in
      let same = newly-same (length (ends ++ end_of run.state ∷ [])) (waiting_states plans) d in
      started-then lim merges ends (waits plan) run.state (waiting_states plans) (waiting_states plans) (Some end) done
      (record { by_index = ap (ends_from 0 (length merges)) same ∙ h; judgement = sym e ∙ ap (par_end kinds lim merges) (sym same) })

  start-subs : (lim : Limits) (merges : List G) (node : ℕ) (plans : Plans M G) (call : ℕ) (asked : List Mapped) (m : ℕ) (ends : List (Option End)) (done : List (ℕ × End))
      → ends_from 0 (length merges) done ≡ ends ++ ends_of (waiting_states plans) → par_end kinds lim merges done ≡ None
      → IsStarted lim merges ends (waiting_states plans) (start_subs kinds node plans call asked lim merges m ends).states (start_subs kinds node plans call asked lim merges m ends).end done
  start-subs lim merges node last_plan call asked m ends done h none = record { by_index = h; judgement = sym none }
  start-subs lim merges node (plan_then plan plans) call (answer.Send request ∷ asked) m ends done h none =
      let run = start_at kinds node plan call request m in
      let now = ends ++ end_of run.state ∷ [] in
      let d = and_done (length ends) (end_of run.state) done in
      let by_index = one-ended lim merges ends done (end_of run.state) plans h in
      let one = one-judged lim merges ends done (end_of run.state) plans by_index none in
      started-sub lim merges ends run plan plans (start_subs kinds (node + nodes plan) plans call asked lim merges m now)
      (where_ended (end_of run.state) (judged kinds lim merges now)) done by_index one
      (λ n. start-subs lim merges (node + nodes plan) plans call asked m now d by_index n)
  start-subs lim merges node (plan_then plan plans) call (answer.Skip ∷ asked) m ends done h none =
      let more = start_subs kinds (node + nodes plan) plans call asked lim merges m (ends ++ None ∷ []) in
      started-then lim merges ends (waits plan) (waits plan) (waiting_states plans) more.states more.end done
      (start-subs lim merges (node + nodes plan) plans call asked m (ends ++ None ∷ []) done (one-ended lim merges ends done None plans h) none)
  start-subs lim merges node (plan_then plan plans) call (answer.Bad ∷ asked) m ends done h none =
      let more = start_subs kinds (node + nodes plan) plans call asked lim merges m (ends ++ None ∷ []) in
      started-then lim merges ends (waits plan) (waits plan) (waiting_states plans) more.states more.end done
      (start-subs lim merges (node + nodes plan) plans call asked m (ends ++ None ∷ []) done (one-ended lim merges ends done None plans h) none)
  start-subs lim merges node (plan_then plan plans) call [] m ends done h none =
      let more = start_subs kinds (node + nodes plan) plans call [] lim merges m (ends ++ None ∷ []) in
      started-then lim merges ends (waits plan) (waits plan) (waiting_states plans) more.states more.end done
      (start-subs lim merges (node + nodes plan) plans call [] m (ends ++ None ∷ []) done (one-ended lim merges ends done None plans h) none)

  pub ends-waiting : (j n : ℕ) (plans : Plans M G) → count_of plans ≡ n → ends_from j n [] ≡ ends_of (waiting_states plans)
  ends-waiting j zero last_plan h = refl
  ends-waiting j zero (plan_then plan plans) h = absurd (omega (arith, h))
  ends-waiting j (suc n) last_plan h = absurd (omega (arith, h))
  ends-waiting j (suc n) (plan_then plan plans) h = ap (λ os. None ∷ os) (ends-waiting (j + 1) n plans (omega (arith, h)))

  -- A parallel node that starts its subs has the end of their completions.
  pub start-judged : (node : ℕ) (rule : Rule M G) (plans : Plans M G) (call : ℕ) (request : List ℕ) (m : ℕ) → count_of plans ≡ length rule.merges → refused (mapped kinds.map rule.maps request)
      ≡ None
      → let now = (start_at kinds node (par_plan rule plans) call request m).state in
      AreDone (limits rule (mapped kinds.map rule.maps request)) rule.merges (newly 0 (waiting_states plans) (children now) []) now
  start-judged node rule plans call request m counts none =
      let asked = mapped kinds.map rule.maps request in
      let lim = limits rule asked in
      let below = start_subs kinds (node + 1) plans call asked lim rule.merges m [] in
      let h = start-subs lim rule.merges (node + 1) plans call asked m [] [] (ends-waiting 0 (length rule.merges) plans counts) refl in
      subst (λ o. let now = (par_run node rule.timeout m lim rule.merges (par_started plans below o)).state in AreDone lim rule.merges (newly 0 (waiting_states plans) (children now) []) now)
      (sym none)
      (record { same_limits = refl; same_merges = refl; by_index = sym h.by_index; judgement = h.judgement })
