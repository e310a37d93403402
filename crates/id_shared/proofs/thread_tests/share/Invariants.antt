use Rattle.std.proofs.Common.{All}
use Rattle.id_shared.specs.Standing.{IsAtRest}
use Rattle.id_shared.proofs.thread_tests.share.Given as goal

abbrev pub invariant-loop : goal.invariant-loop
invariant-loop l = All (IsAtRest l.ids) l.passes.items × All (IsAtRest l.ids) l.some.items
