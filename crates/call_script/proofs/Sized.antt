-- The size of a call's plan, and what its leaves may issue.
use Rattle.std.proofs.Common.{◌≡◌, ℕ, suc, ◌+◌, ◌<◌, ◌≤◌, ◌==◌, Bool, true, false, cond, List, [], ◌∷◌, length, find, Option, Some, None, arith, refl, sym, subst}
use Rattle.std.specs.Prelude.{All}
use Rattle.std.specs.Option.{option_map}
use Rattle.std.proofs.lemmas.Bool.Decides.{nat_tests}
use Rattle.rpc_model.specs.declared.chan.Chan.{Chan}
use Rattle.rpc_model.specs.declared.kinds.MapKind.{MapKind}
use Rattle.rpc_model.specs.declared.kinds.MergeKind.{MergeKind}
use Rattle.rpc_model.specs.declared.script.Act.{Act}
use Rattle.rpc_model.specs.declared.script.Act.TheVariants.{Call, Cancel, Reply, Lose, Tick, Join}
use Rattle.rpc_model.specs.Plan.{Plan, plan}
use Rattle.rpc_model.specs.Versions.{width}
use Rattle.rpc_model.proofs.Versions.{width-is}
use Rattle.rpc_model.specs.Before.{calls_of, chan_of}
use Rattle.rpc_model.specs.CallLines.{has_attempt, is_narrow}
use Rattle.rpc_model.specs.Limits.{IsAct}
use Rattle.rpc_model.specs.Fits.{IsNarrow, BeginsNarrow}
use Rattle.chan_tree.specs.Sound.{AreSound}
use Rattle.chan_tree.specs.Sizes.{IsSize, IsSizeOf, nodes_if, attempts_if, nodes_at, retry_of, leaf_if, retry_in}
use Rattle.chan_tree.specs.declared.walking.Size.{Size}
use Rattle.chan_tree.proofs.Widths.{plan-there}
use Rattle.chan_tree.proofs.Issued.{may_issue, issued}
use Rattle.call_script.specs.Sized.{IsSized}

by-size : (size : Option Size) (p : Plan MapKind MergeKind) → width p ≡ nodes_if (Some p) + attempts_if (Some p) → IsSize size (nodes_if (Some p)) (attempts_if (Some p)) → IsSized size (Some p)
by-size None p w h = grind (arith, nat_tests, w, h)
by-size (Some size) p w h = ((let few = h.2 in grind (arith, nat_tests, w, few)), h.1, omega (arith, h.1, h.2))

pub sized : (chans : List (Chan MapKind MergeKind)) (number call : ℕ) (size : Option Size) → AreSound 0 chans → number < length chans
    → IsSizeOf chans number call size → IsSized size (plan chans number call)
unfolding IsSizeOf
sized chans number call size sound there h =
    let p = plan-there chans call sound number there in
    subst (IsSized size) (sym p.1) (by-size size p.0 (width-is p.0) (subst (λ o. IsSize size (nodes_if o) (attempts_if o)) p.1 h))

narrow-if : (o : Option (Plan MapKind MergeKind)) → is_narrow o ≡ true → IsNarrow o
narrow-if None h = tt
narrow-if (Some p) h = grind (arith, nat_tests, h)

pub narrow_plan : (chans : List (Chan MapKind MergeKind)) (number call : ℕ) → is_narrow (plan chans number call) ≡ true → IsNarrow (plan chans number call)
narrow_plan chans number call h = narrow-if (plan chans number call) h

few-nodes : (o : Option (Plan MapKind MergeKind)) → IsNarrow o → nodes_if o ≤ 1024
few-nodes None h = omega arith
few-nodes (Some p) h = let w = width-is p in omega (arith, w, h)

-- ---- the channel of a call that a line begins

abbrev pub IsCall : List (Chan MapKind MergeKind) → ℕ → ℕ → Type 0
IsCall chans chan call = (chan < length chans) × IsNarrow (plan chans chan call)

found-call : (chans : List (Chan MapKind MergeKind)) (acts : List Act) (call chan : ℕ) → All (IsAct (length chans)) acts
    → All (BeginsNarrow chans) acts → chan_of acts call ≡ Some chan → IsCall chans chan call
found-call chans [] call chan fit narrow e = absurd cc
found-call chans (Call at c number text ∷ acts) call chan fit narrow e =
    by (c == call) refl e (λ h. found-call chans acts call chan (λ k d less. fit (suc k) d (omega (arith, less))) (λ k d less. narrow (suc k) d (omega (arith, less))) h)
  where
    first-fit : (number < length chans) × (length text ≤ 60000)
    first-fit = fit 0 (Call at c number text) (omega arith)

    first-narrow : IsNarrow (plan chans number c)
    first-narrow = narrow 0 (Call at c number text) (omega arith)

    by : (b : Bool) → (c == call) ≡ b → option_map (λ x. x.1) (cond b (Some (c, number)) (find (λ x. x.0 == call) (calls_of acts))) ≡ Some chan
        → (chan_of acts call ≡ Some chan → IsCall chans chan call) → IsCall chans chan call
    by true same h others =
        let number_is : number ≡ chan = cc in
        let call_is : c ≡ call = grind (arith, nat_tests, same) in
        subst (λ n. IsCall chans n call) number_is (first-fit.0, subst (λ m. IsNarrow (plan chans number m)) call_is first-narrow)
    by false other h others = others h
found-call chans (Cancel at c ∷ acts) call chan fit narrow e = found-call chans acts call chan (λ k d less. fit (suc k) d (omega (arith, less))) (λ k d less. narrow (suc k) d (omega (arith, less))) e
found-call chans (Reply at c node attempt code text ∷ acts) call chan fit narrow e =
    found-call chans acts call chan (λ k d less. fit (suc k) d (omega (arith, less))) (λ k d less. narrow (suc k) d (omega (arith, less))) e
found-call chans (Lose at c node attempt code ∷ acts) call chan fit narrow e =
    found-call chans acts call chan (λ k d less. fit (suc k) d (omega (arith, less))) (λ k d less. narrow (suc k) d (omega (arith, less))) e
found-call chans (Tick at ∷ acts) call chan fit narrow e = found-call chans acts call chan (λ k d less. fit (suc k) d (omega (arith, less))) (λ k d less. narrow (suc k) d (omega (arith, less))) e
found-call chans (Join c ∷ acts) call chan fit narrow e = found-call chans acts call chan (λ k d less. fit (suc k) d (omega (arith, less))) (λ k d less. narrow (suc k) d (omega (arith, less))) e

pub call_there : (chans : List (Chan MapKind MergeKind)) (acts : List Act) (call chan : ℕ) → All (IsAct (length chans)) acts
    → All (BeginsNarrow chans) acts → chan_of acts call ≡ Some chan → chan < length chans
call_there chans acts call chan fit narrow e = (found-call chans acts call chan fit narrow e).0

pub call_few : (chans : List (Chan MapKind MergeKind)) (acts : List Act) (call chan : ℕ) → All (IsAct (length chans)) acts
    → All (BeginsNarrow chans) acts → chan_of acts call ≡ Some chan → nodes_at chans call chan ≤ 1024
call_few chans acts call chan fit narrow e = few-nodes (plan chans chan call) (found-call chans acts call chan fit narrow e).1

-- ---- its attempts

pub attempt_is : (chans : List (Chan MapKind MergeKind)) (number call node attempt : ℕ) → may_issue (retry_in chans number call 0 node) attempt ≡ has_attempt (plan chans number call) node attempt
unfolding retry_in
attempt_is chans number call node attempt = by (plan chans number call)
  where
    by : (o : Option (Plan MapKind MergeKind)) → may_issue (retry_of (leaf_if 0 o node)) attempt ≡ has_attempt o node attempt
    by None = refl
    by (Some p) = sym (issued p node attempt)
