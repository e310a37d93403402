-- An event for a node past the last one does nothing.
use Rattle.std.proofs.Common.{◌≡◌, ℕ, ◌+◌, ◌≤◌, false, cond, ◌==◌, nat_lt, List, Option, Some, None, arith, refl, ap, sym, ◌∙◌}
use Rattle.std.proofs.lemmas.Bool.Decides.{nat_tests}
use Rattle.rpc_model.specs.declared.event.End.{End}
use Rattle.rpc_model.specs.declared.event.Event.{Event}
use Rattle.rpc_model.specs.declared.event.Event.TheVariants as event
use Rattle.rpc_model.specs.Leaf.{leaf_step}
use Rattle.rpc_model.specs.Kinds.{Kinds}
use Rattle.rpc_model.specs.State.{Par, Sel, State, waits, leaf_state, par_state, sel_state, States, last_state, state_then, end_of, size, size_of, quiet, still, beside, run_beside}
use Rattle.rpc_model.specs.Machine.{node_of, new_end, leaf_run, while_open, par_at, par_stepped, sel_at, sel_stepped, try_run, start_waiting, step_at, step_subs, step_tries, step}

past : (a b : ℕ) → b + 1 ≤ a → (a == b) ≡ false
past a b less = grind (arith, nat_tests)

not-below : (a b : ℕ) → b ≤ a → nat_lt a b ≡ false
not-below a b le = grind (arith, nat_tests)

module _ {M G : Type 0} (kinds : Kinds M G) where
  par-outside : (number : ℕ) (par : Par G) (states : States M G) (call : ℕ) (e : Event) (moment : ℕ) (o : Option End) → par.end ≡ o → (node_of e == number) ≡ false
      → step_subs kinds (number + 1) states call e moment ≡ still states
      → step_at kinds number (par_state par states) call e moment ≡ quiet (par_state par states)
  par-outside number par states call e moment None is other below =
      ap (λ o. while_open o (par_state par states) (cond (node_of e == number) (par_at kinds par states e) (par_stepped kinds par (step_subs kinds (number + 1) states call e moment)))) is
      ∙ ap (λ b. cond b (par_at kinds par states e) (par_stepped kinds par (step_subs kinds (number + 1) states call e moment))) other
      ∙ ap (par_stepped kinds par) below
      ∙ ap (λ o. quiet (par_state (record par { end = o }) states)) (sym is)
  par-outside number par states call e moment (Some end) is other below =
      ap (λ o. while_open o (par_state par states) (cond (node_of e == number) (par_at kinds par states e) (par_stepped kinds par (step_subs kinds (number + 1) states call e moment)))) is

  sel-outside : (number : ℕ) (sel : Sel) (states : States M G) (call : ℕ) (e : Event) (moment : ℕ) (o : Option End) → sel.end ≡ o → (node_of e == number) ≡ false
      → step_tries kinds (number + 1) states call e moment sel.request ≡ still states
      → step_at kinds number (sel_state sel states) call e moment ≡ quiet (sel_state sel states)
  sel-outside number sel states call e moment None is other below =
      ap (λ o. while_open o (sel_state sel states) (cond (node_of e == number) (sel_at sel states e) (sel_stepped sel (step_tries kinds (number + 1) states call e moment sel.request)))) is
      ∙ ap (λ b. cond b (sel_at sel states e) (sel_stepped sel (step_tries kinds (number + 1) states call e moment sel.request))) other
      ∙ ap (sel_stepped sel) below
      ∙ ap (λ o. quiet (sel_state (record sel { end = o }) states)) (sym is)
  sel-outside number sel states call e moment (Some end) is other below =
      ap (λ o. while_open o (sel_state sel states) (cond (node_of e == number) (sel_at sel states e) (sel_stepped sel (step_tries kinds (number + 1) states call e moment sel.request)))) is

  mutual
    pub step_outside : (number : ℕ) (state : State M G) (call : ℕ) (e : Event) (moment : ℕ) → number + size state ≤ node_of e → step_at kinds number state call e moment ≡ quiet state
    step_outside number (waits plan) call e moment past_it = refl
    step_outside number (leaf_state chan request leaf) call e moment past_it =
        ap (λ b. cond b (leaf_run chan call number request leaf (leaf_step chan.retry leaf e)) (quiet (leaf_state chan request leaf))) (past (node_of e) number past_it)
    step_outside number (par_state par states) call e moment past_it =
        par-outside number par states call e moment par.end refl (past (node_of e) number (omega (arith, past_it))) (subs-outside (number + 1) states call e moment (omega (arith, past_it)))
    step_outside number (sel_state sel states) call e moment past_it =
        sel-outside number sel states call e moment sel.end refl (past (node_of e) number (omega (arith, past_it)))
        (tries-outside (number + 1) states call e moment sel.request (omega (arith, past_it)))

    subs-outside : (number : ℕ) (states : States M G) (call : ℕ) (e : Event) (moment : ℕ) → number + size_of states ≤ node_of e → step_subs kinds number states call e moment ≡ still states
    subs-outside number last_state call e moment past_it = refl
    subs-outside number (state_then state states) call e moment past_it =
        let run = step_at kinds number state call e moment in
        ap (λ b. cond b (run_beside run states (new_end (end_of state) (end_of run.state))) (beside state (step_subs kinds (number + size state) states call e moment)))
        (not-below (node_of e) (number + size state) (omega (arith, past_it)))
        ∙ ap (beside state) (subs-outside (number + size state) states call e moment (omega (arith, past_it)))

    tries-outside : (number : ℕ) (states : States M G) (call : ℕ) (e : Event) (moment : ℕ) (request : List ℕ) → number + size_of states ≤ node_of e
        → step_tries kinds number states call e moment request ≡ still states
    tries-outside number last_state call e moment request past_it = refl
    tries-outside number (state_then state states) call e moment request past_it =
        let run = step_at kinds number state call e moment in
        ap (λ b. cond b (try_run run states (start_waiting kinds (number + size state) states call request moment) (new_end (end_of state) (end_of run.state)))
        (beside state (step_tries kinds (number + size state) states call e moment request)))
        (not-below (node_of e) (number + size state) (omega (arith, past_it)))
        ∙ ap (beside state) (tries-outside (number + size state) states call e moment request (omega (arith, past_it)))

  -- every event but a cancel is one at the root or below it
  pub step_is : (state : State M G) (call : ℕ) (e : Event) (moment : ℕ) → (e ≡ event.Cancel → ⊥) → step kinds call state e moment ≡ step_at kinds 0 state call e moment
  step_is state call (event.Reply node attempt code text) moment other = refl
  step_is state call (event.Lost node attempt code) moment other = refl
  step_is state call (event.Backup node) moment other = refl
  step_is state call (event.Deadline node) moment other = refl
  step_is state call event.Cancel moment other = absurd (other refl)
