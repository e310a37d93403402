-- What a leaf sends, and the marks that a node sets. brpc's documents on the client; in which order a call's attempts go round its servers is this project's own choice.
use Rattle.std.specs.Prelude.{ℕ, ◌+◌, ◌%◌, Bool, true, false, nat_lt, List, [], ◌∷◌, ◌++◌, length, slice_index, Option, None, Some, if◌then◌else◌}
use Rattle.rpc_model.specs.declared.effects.Send as effect
use Rattle.rpc_model.specs.declared.effects.MarkAt.{MarkAt}
use Rattle.rpc_model.specs.declared.chan.LeafChan.{LeafChan}

-- a request goes out: which attempt of which leaf, to which server, with what payload
abbrev pub Send : Type 0
Send = effect.Send

-- a moment at which a node's deadline or backup request is due
abbrev pub Mark : Type 0
Mark = MarkAt

-- whether a mark is of a backup request
abbrev pub deadline : Bool
deadline = false

abbrev pub backup : Bool
backup = true

-- attempt k of a leaf goes to the leaf's server number (call + k), counted round its servers
abbrev pub server_of : LeafChan → ℕ → ℕ → ℕ
server_of leaf call attempt = slice_index leaf.servers ((call + attempt) % length leaf.servers)

-- the attempt that a step of a leaf issued, if it issued one
abbrev pub sent : LeafChan → ℕ → ℕ → List ℕ → ℕ → ℕ → List Send
sent leaf call node request before now =
    if nat_lt before now then record { node = node; attempt = before; server = server_of leaf call before; payload = request } ∷ [] else []

abbrev pub mark_after : Option ℕ → ℕ → ℕ → Bool → List Mark
mark_after None node moment kind = []
mark_after (Some wait) node moment kind = record { moment = moment + wait; node = node; backup = kind } ∷ []

-- the marks that starting a leaf at a moment sets
abbrev pub leaf_marks : LeafChan → ℕ → ℕ → List Mark
leaf_marks leaf node moment = mark_after leaf.timeout node moment deadline ++ mark_after leaf.backup node moment backup
