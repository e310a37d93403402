use Rattle.std.proofs.Common.{◌≡◌, drop}
use Rattle.chan_tree.specs.Measures.{is_some_server}
use Rattle.rpc_model.specs.Plan.{servers_of}
use Rattle.chan_tree.proofs.measuring.has_server.Given as goal

abbrev pub invariant-loop-tag : goal.invariant-loop-tag
invariant-loop-tag l = record { so_far : is_some_server (servers_of (drop l.tag-index l.tags) l.parts l.part) ≡ is_some_server (servers_of l.tags l.parts l.part) }
