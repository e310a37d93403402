-- What is merged so far goes on to the end that all parts have.
use Rattle.std.proofs.Common.{◌≡◌, ◌<◌, drop}
use Rattle.rpc_model.specs.Parallel as spec
use Rattle.fan_out.proofs.folding.fold_parts.Given as goal

abbrev pub invariant-loop-part : goal.invariant-loop-part
invariant-loop-part g l = record {
  merged : spec.fold_from g.G.Merger.answer (drop l.part-index l.parts) l.limit l.so_far l.failed ≡ spec.fold_parts g.G.Merger.answer l.parts l.fails l.limit;
  open_ : l.failed < l.limit;
}
