-- What passes on the wires of a replay, one after the other: the requests of its calls, and the replies and losses of their attempts. This project's
-- own choice.
use Rattle.std.specs.Prelude.{◌≡◌, ℕ, ◌+◌, Bool, false, ◌==◌, List, [], ◌∷◌, ◌++◌, filter, Option, None, Some}
use Rattle.rpc_model.specs.declared.kinds.MapKind.{MapKind}
use Rattle.rpc_model.specs.declared.kinds.MergeKind.{MergeKind}
use Rattle.rpc_model.specs.declared.meaning.Meaning.TheVariants.{Attempt}
use Rattle.rpc_model.specs.Effects.{Send}
use Rattle.rpc_model.specs.Plan.{Plan}
use Rattle.rpc_model.specs.Versions.{offset_of}
use Rattle.sim_run.specs.declared.wire.Reply.{Reply}
use Rattle.sim_run.specs.Link.{Link}
use Rattle.sim_run.specs.Wires.{on_wire, sent, received, lost}

-- of a call and on the wire of a server: a request goes out under an id, a reply comes in, or the attempt with this id is lost
pub data Passage : Type 0 where
  went_out : ℕ → ℕ → ℕ → List ℕ → Passage
  came_in : ℕ → ℕ → Reply → Passage
  was_lost : ℕ → ℕ → ℕ → Passage

abbrev pub passed_one : Passage → List Link → List Link
passed_one (went_out call server id payload) wires = on_wire server (sent id call payload) wires
passed_one (came_in call server r) wires = on_wire server (received r) wires
passed_one (was_lost call server id) wires = on_wire server (lost id) wires

-- the wires after all these
abbrev pub passed : List Passage → List Link → List Link
passed [] wires = wires
passed (p ∷ ps) wires = passed ps (passed_one p wires)

-- these wires are those after more passed
abbrev pub HavePassed : List Link → List Link → Type 0
HavePassed before after = (more : List Passage) × (after ≡ passed more before)

abbrev pub request_at : Option ℕ → ℕ → ℕ → Send → List Passage
request_at None first call send = []
request_at (Some offset) first call send = went_out call send.server (first + offset) send.payload ∷ []

-- what a call with this first id and plan sends goes out so: each attempt to its server, under its own id
abbrev pub requests : ℕ → Plan MapKind MergeKind → ℕ → List Send → List Passage
requests first plan call [] = []
requests first plan call (send ∷ sends) = request_at (offset_of plan (Attempt send.node send.attempt)) first call send ++ requests first plan call sends

-- whether it is a request of this call
abbrev pub is_request : ℕ → Passage → Bool
is_request call (went_out c server id payload) = c == call
is_request call (came_in c server r) = false
is_request call (was_lost c server id) = false

-- the call's requests among all that passed
abbrev pub requests_in : ℕ → List Passage → List Passage
requests_in call log = filter (is_request call) log
