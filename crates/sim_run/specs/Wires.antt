-- The wires of a replay: what a request that is sent and a reply that comes in make of them. This project's own choice.
use Rattle.std.specs.Prelude.{ℕ, zero, suc, List, [], ◌∷◌, ◌++◌, length}
use Rattle.link_core.specs.Outstanding.{without}
use Rattle.prpc_frames.specs.Stream.Reading.{later}
use Rattle.prpc_frames.specs.Stream.Spelling.{frame_bytes}
use Rattle.sim_run.specs.declared.wire.Reply.{Reply}
use Rattle.sim_run.specs.Link.{Link, reply_frame}

-- a wire on which nothing passed yet
abbrev pub idle_wire : Link
idle_wire = record { out = []; waiting = []; read = 0 }

abbrev pub idle_wires : ℕ → List Link
idle_wires zero = []
idle_wires (suc count) = idle_wire ∷ idle_wires count

-- the wires after the one of this number was changed
abbrev pub on_wire : ℕ → (Link → Link) → List Link → List Link
on_wire server f [] = []
on_wire zero f (wire ∷ wires) = f wire ∷ wires
on_wire (suc server) f (wire ∷ wires) = wire ∷ on_wire server f wires

-- a wire on which a request went out: its id waits from then on, behind all others
abbrev pub sent : ℕ → ℕ → List ℕ → Link → Link
sent id call payload wire =
    record wire { out = wire.out ++ record { id = id; payload = payload } ∷ []; waiting = without id wire.waiting ++ (id, call) ∷ [] }

-- a wire on which a reply came in: its frame was read, and its id doesn't wait any more
abbrev pub received : Reply → Link → Link
received reply wire = record wire { waiting = without reply.id wire.waiting; read = later wire.read (length (frame_bytes (reply_frame reply))) }

-- a wire on which an attempt was lost: its id doesn't wait any more
abbrev pub lost : ℕ → Link → Link
lost id wire = record wire { waiting = without id wire.waiting }
