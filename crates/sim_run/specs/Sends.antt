-- The requests that a call sends: which server each goes to, under which id, and what the wires are then. This project's own choice.
use Rattle.std.specs.Prelude.{ℕ, ◌+◌, List, [], ◌∷◌, Option, None, Some}
use Rattle.rpc_model.specs.declared.kinds.MapKind.{MapKind}
use Rattle.rpc_model.specs.declared.kinds.MergeKind.{MergeKind}
use Rattle.rpc_model.specs.declared.meaning.Meaning.TheVariants.{Attempt}
use Rattle.rpc_model.specs.Effects.{Send, server_of}
use Rattle.rpc_model.specs.declared.chan.LeafChan.{LeafChan}
use Rattle.rpc_model.specs.Plan.{Plan}
use Rattle.rpc_model.specs.Versions.{offset_of, leaf_at}
use Rattle.sim_run.specs.Link.{Link}
use Rattle.sim_run.specs.Wires.{on_wire, sent}

-- a request goes out under the id of this offset, on the wire of its server
abbrev pub posted_at : Option ℕ → ℕ → ℕ → Send → List Link → List Link
posted_at None first call send wires = wires
posted_at (Some offset) first call send wires = on_wire send.server (sent (first + offset) call send.payload) wires

-- a request of a call goes out under the id of its attempt
abbrev pub posted_one : ℕ → Plan MapKind MergeKind → ℕ → Send → List Link → List Link
posted_one first plan call send wires = posted_at (offset_of plan (Attempt send.node send.attempt)) first call send wires

-- the requests go out one after the other
abbrev pub posted : ℕ → Plan MapKind MergeKind → ℕ → List Send → List Link → List Link
posted first plan call [] wires = wires
posted first plan call (send ∷ sends) wires = posted first plan call sends (posted_one first plan call send wires)

abbrev pub leaf_server : Option LeafChan → ℕ → ℕ → ℕ
leaf_server None call attempt = 0
leaf_server (Some leaf) call attempt = server_of leaf call attempt

-- the server to which an attempt of a leaf of a call's plan goes
abbrev pub server_to : Plan MapKind MergeKind → ℕ → ℕ → ℕ → ℕ
server_to plan call node attempt = leaf_server (leaf_at 0 plan node) call attempt
