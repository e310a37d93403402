use Rattle.std.proofs.Common.{All, vec_len}
use Rattle.id_shared.specs.Standing.{IsAtRest}
use Rattle.id_shared.proofs.thread_tests.opens.Given as goal

abbrev pub invariant-loop-pass : goal.invariant-loop-pass
invariant-loop-pass g l = All (IsAtRest l.ids) l.passes.items × All (λ d. IsAtRest l.ids d.pass) l.desks.items

abbrev pub decreases-loop-pass : goal.decreases-loop-pass
decreases-loop-pass g l = vec_len l.passes
