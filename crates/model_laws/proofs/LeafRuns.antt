-- The runs of a call on a plain channel: few attempts, each sent.
use Rattle.std.proofs.Common.{◌≡◌, ℕ, suc, ◌+◌, ◌≤◌, ◌⊎◌, inl, inr, Bool, true, false, cond, ◌==◌, nat_lt, List, [], ◌∷◌, ◌++◌, fold, is_none, arith, refl, ap, sym, subst, ◌∙◌}
use Rattle.std.proofs.lemmas.Bool.Decides.{nat_tests}
use Rattle.std.proofs.lemmas.List.{append-nil}
use Rattle.rpc_model.specs.declared.chan.LeafChan.{LeafChan}
use Rattle.rpc_model.specs.declared.codes.TheConstants.{ECANCELED}
use Rattle.rpc_model.specs.declared.event.End.TheVariants.{Bad}
use Rattle.rpc_model.specs.declared.event.Event.{Event}
use Rattle.rpc_model.specs.declared.event.Event.TheVariants.{Reply, Lost, Backup, Deadline, Cancel}
use Rattle.rpc_model.specs.Kinds.{Kinds}
use Rattle.rpc_model.specs.Leaf.{Leaf, leaf_step, ended, started}
use Rattle.model_laws.specs.LeafLaws.{first_sends}
use Rattle.rpc_model.specs.Plan.{leaf_plan}
use Rattle.rpc_model.specs.Effects.{Send, server_of, sent}
use Rattle.rpc_model.specs.State.{State, leaf_state, Run, quiet, and_then}
use Rattle.rpc_model.specs.Machine.{leaf_run, step, start, machine}
use Rattle.model_laws.proofs.Issues.{IssuesFew, leaf_step-issues, few-issues, few-bound}

sent-more : (leaf : LeafChan) (call : ℕ) (request : List ℕ) (before now : ℕ) → (now ≡ before) ⊎ (now ≡ before + 1)
    → first_sends leaf call request before ++ sent leaf call 0 request before now ≡ first_sends leaf call request now
sent-more leaf call request before now (inl same) =
    let none : nat_lt before now ≡ false = grind (arith, nat_tests) in
    let one : Send = record { node = 0; attempt = before; server = server_of leaf call before; payload = request } in
    ap (λ v. first_sends leaf call request before ++ cond v (one ∷ []) []) none ∙ append-nil (first_sends leaf call request before) ∙ ap (first_sends leaf call request) (sym same)
sent-more leaf call request before now (inr more) =
    let some : nat_lt before now ≡ true = grind (arith, nat_tests) in
    let one : Send = record { node = 0; attempt = before; server = server_of leaf call before; payload = request } in
    let next : suc before ≡ now = omega (arith, more) in
    ap (λ v. first_sends leaf call request before ++ cond v (one ∷ []) []) some ∙ ap (first_sends leaf call request) next

cancelled-issued : (leaf : Leaf) (b : Bool) → (cond b (ended leaf (Bad ECANCELED)) leaf).issued ≡ leaf.issued
cancelled-issued leaf true = refl
cancelled-issued leaf false = refl

module _ {M G : Type 0} where
  -- the call is at its one leaf, which issued few attempts, and each was sent
  pub record LeafRuns (leaf : LeafChan) (call : ℕ) (request : List ℕ) (run : Run M G) : Type 0 where
    pub now : Leaf
    pub is : run.state ≡ leaf_state leaf request now
    pub some : 1 ≤ now.issued
    pub few : now.issued ≤ 1 + leaf.retry
    pub sent : run.sends ≡ first_sends leaf call request now.issued

  leaf_run-keeps : (leaf : LeafChan) (call : ℕ) (request : List ℕ) (run : Run M G) (h : LeafRuns leaf call request run) (now : Leaf) → IssuesFew leaf.retry h.now now
      → LeafRuns leaf call request (and_then run (leaf_run leaf call 0 request h.now now))
  leaf_run-keeps leaf call request run h now issues =
      let bound = few-bound leaf.retry h.now now issues h.some h.few in
      record {
        now = now;
        is = refl;
        some = bound.0;
        few = bound.1;
        sent = ap (λ ss. ss ++ sent leaf call 0 request h.now.issued now.issued) h.sent ∙ sent-more leaf call request h.now.issued now.issued (few-issues leaf.retry h.now now issues);
      }

  quiet-keeps : (leaf : LeafChan) (call : ℕ) (request : List ℕ) (run : Run M G) (h : LeafRuns leaf call request run) (now : Leaf) → now.issued ≡ h.now.issued
      → LeafRuns leaf call request (and_then run (quiet (leaf_state leaf request now)))
  quiet-keeps leaf call request run h now same =
      record { now = now; is = refl; some = rw same h.some; few = rw same h.few; sent = append-nil run.sends ∙ h.sent ∙ ap (first_sends leaf call request) (sym same) }

module _ {M G : Type 0} (kinds : Kinds M G) where
  at-keeps : (leaf : LeafChan) (call : ℕ) (request : List ℕ) (run : Run M G) (h : LeafRuns leaf call request run) (e : Event) (b : Bool)
      → LeafRuns leaf call request (and_then run (cond b (leaf_run leaf call 0 request h.now (leaf_step leaf.retry h.now e)) (quiet (leaf_state leaf request h.now))))
  at-keeps leaf call request run h e true = leaf_run-keeps leaf call request run h (leaf_step leaf.retry h.now e) (leaf_step-issues leaf.retry h.now e)
  at-keeps leaf call request run h e false = quiet-keeps leaf call request run h h.now refl

  leaf-keeps : (leaf : LeafChan) (call : ℕ) (request : List ℕ) (run : Run M G) (h : LeafRuns leaf call request run) (e : Event) (m : ℕ)
      → LeafRuns leaf call request (and_then run (step kinds call (leaf_state leaf request h.now) e m))
  leaf-keeps leaf call request run h Cancel m =
      quiet-keeps leaf call request run h (cond (is_none h.now.end) (ended h.now (Bad ECANCELED)) h.now) (cancelled-issued h.now (is_none h.now.end))
  leaf-keeps leaf call request run h (Reply node attempt code text) m = at-keeps leaf call request run h (Reply node attempt code text) (node == 0)
  leaf-keeps leaf call request run h (Lost node attempt code) m = at-keeps leaf call request run h (Lost node attempt code) (node == 0)
  leaf-keeps leaf call request run h (Backup node) m = at-keeps leaf call request run h (Backup node) (node == 0)
  leaf-keeps leaf call request run h (Deadline node) m = at-keeps leaf call request run h (Deadline node) (node == 0)

  -- one event more
  abbrev one_more : ℕ → Run M G → Event × ℕ → Run M G
  one_more call run timed = and_then run (step kinds call run.state timed.0 timed.1)

  step-keeps : (leaf : LeafChan) (call : ℕ) (request : List ℕ) (run : Run M G) (e : Event) (m : ℕ) → LeafRuns leaf call request run
      → LeafRuns leaf call request (and_then run (step kinds call run.state e m))
  step-keeps leaf call request run e m h = subst (λ (s : State M G). LeafRuns leaf call request (and_then run (step kinds call s e m))) (sym h.is) (leaf-keeps leaf call request run h e m)

  run-keeps : (leaf : LeafChan) (call : ℕ) (request : List ℕ) (run : Run M G) (events : List (Event × ℕ)) → LeafRuns leaf call request run
      → LeafRuns leaf call request (fold (one_more call) run events)
  run-keeps leaf call request run [] h = h
  run-keeps leaf call request run (e ∷ events) h = run-keeps leaf call request (one_more call run e) events (step-keeps leaf call request run e.0 e.1 h)

  pub machine-runs : (leaf : LeafChan) (call : ℕ) (request : List ℕ) (begun : ℕ) (events : List (Event × ℕ))
      → LeafRuns leaf call request (machine kinds (leaf_plan leaf) call request begun events)
  machine-runs leaf call request begun events =
      run-keeps leaf call request (start kinds (leaf_plan leaf) call request begun) events (record { now = started; is = refl; some = omega arith; few = omega arith; sent = refl })
