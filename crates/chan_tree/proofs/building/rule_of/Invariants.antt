use Rattle.std.proofs.Common.{◌≡◌, ◌++◌, drop}
use Rattle.chan_tree.specs.Measures.{maps_of, merges_of}
use Rattle.chan_tree.proofs.building.rule_of.Given as goal

abbrev pub invariant-loop-sub : goal.invariant-loop-sub
invariant-loop-sub g l =
    record { maps : l.maps.items ++ maps_of (drop l.sub-index l.par.subs) ≡ maps_of l.par.subs; merges : l.merges.items ++ merges_of (drop l.sub-index l.par.subs) ≡ merges_of l.par.subs }
