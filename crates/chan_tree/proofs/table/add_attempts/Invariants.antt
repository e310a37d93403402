-- The attempts before this one stand behind those that were there.
use Rattle.std.proofs.Common.{◌≡◌, ◌++◌}
use Rattle.rpc_model.specs.Versions.{leaf_versions}
use Rattle.chan_tree.proofs.table.add_attempts.Given as goal

abbrev pub invariant-loop-attempt : goal.invariant-loop-attempt
invariant-loop-attempt l = l.meanings.items ≡ l.fn.meanings.items ++ leaf_versions l.leaf 0 l.attempt
