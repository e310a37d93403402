-- What is merged so far goes on to the end that all parts have.
use Rattle.std.proofs.Common.{◌≡◌, ◌<◌, drop}
use Rattle.std.specs.Option.{option_map}
use Rattle.rpc_model.specs.State.{ends_of}
use Rattle.rpc_model.specs.Parallel as spec
use Rattle.call_tree.specs.Shown.{states_of}
use Rattle.call_tree.specs.Folding.{with_last}
use Rattle.call_tree.proofs.folding.fold.Given as goal

abbrev pub invariant-loop-kid : goal.invariant-loop-kid
invariant-loop-kid g l =
    let ends = with_last (ends_of (states_of l.kids)) l.at (option_map (λ e. e.now) l.end) in
    record {
      merged : spec.fold_from g.G.Merger.answer (spec.parts_from l.kid-index (drop l.kid-index l.merges) (drop l.kid-index ends)) l.limit l.so_far l.failed ≡ spec.fold_parts
          g.G.Merger.answer (spec.parts_of l.merges ends) l.fails l.limit;
      open_ : l.failed < l.limit;
      index : l.index ≡ l.kid-index;
    }
