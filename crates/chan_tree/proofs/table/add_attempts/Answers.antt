-- One more attempt.
use Rattle.std.proofs.Common.{◌≡◌, ◌+◌, suc, ◌++◌, [], ◌∷◌, arith, ap, sym, ◌∙◌}
use Rattle.std.proofs.lemmas.List.{append_assoc}
use Rattle.rpc_model.specs.declared.meaning.Meaning.TheVariants.{Attempt}
use Rattle.rpc_model.specs.Versions.{leaf_versions}
use Rattle.chan_tree.proofs.Tables.{one-more-attempt}
use Rattle.chan_tree.proofs.table.add_attempts.Goals as goal

pub loop-attempt-preserved : goal.loop-attempt-preserved
loop-attempt-preserved c =
    let n = c.loop-attempt.attempt in
    let old = c.args.meanings.now.items in
    let more : suc n ≡ n + 1 = omega arith in
    c.in_ok-push.ensures.items ∙ ap (λ xs. xs ++ Attempt c.args.leaf n ∷ []) c.loop-attempt.invariant
    ∙ append_assoc old (leaf_versions c.args.leaf 0 n) (Attempt c.args.leaf n ∷ [])
    ∙ ap (λ xs. old ++ xs) (sym (one-more-attempt c.args.leaf n))
    ∙ ap (λ k. old ++ leaf_versions c.args.leaf 0 k) more
