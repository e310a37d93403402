use Rattle.std.proofs.Common.{◌≡◌, ◌-◌, ◌≤◌, vec_len}
use Rattle.id_pool.specs.Ranges.{opened}
use Rattle.id_pool.proofs.pool.Pool.open.Given as goal

abbrev pub invariant-loop-cells : goal.invariant-loop-cells
invariant-loop-cells g l = record {
  few : vec_len l.cells ≤ l.slots;
  so_far : l.cells.items ≡ opened (vec_len l.cells);
}

abbrev pub decreases-loop-cells : goal.decreases-loop-cells
decreases-loop-cells g l = l.slots - vec_len l.cells
