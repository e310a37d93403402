use Rattle.std.proofs.Common.{◌≡◌, ◌++◌, drop}
use Rattle.rpc_model.specs.Plan.{servers_of}
use Rattle.chan_tree.proofs.building.servers.Given as goal

abbrev pub invariant-loop-tag : goal.invariant-loop-tag
invariant-loop-tag l = record { so_far : l.servers.items ++ servers_of (drop l.tag-index l.tags) l.parts l.part ≡ servers_of l.tags l.parts l.part }
