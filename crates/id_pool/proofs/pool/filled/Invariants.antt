use Rattle.id_pool.specs.Vacancies.{IsFilled}
use Rattle.id_pool.proofs.pool.filled.Given as goal

abbrev pub invariant-loop-number : goal.invariant-loop-number
invariant-loop-number l = IsFilled l.number l.numbers
