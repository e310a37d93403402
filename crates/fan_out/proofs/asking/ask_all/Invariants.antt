-- The answers so far, and those of the mappers that are left.
use Rattle.std.proofs.Common.{◌≡◌, ◌++◌, drop, length}
use Rattle.rpc_model.specs.Parallel as spec
use Rattle.fan_out.proofs.asking.ask_all.Given as goal

abbrev pub invariant-loop-map : goal.invariant-loop-map
invariant-loop-map g l = record {
  asked : l.asked.items ++ spec.mapped_from g.M.Mapper.answer l.index (length l.maps) (drop l.map-index l.maps) l.request ≡ spec.mapped g.M.Mapper.answer l.maps l.request;
  index : l.index ≡ l.map-index;
}
