-- A selective node: what follows the end of a try. brpc's documents on selective channels; that every failure but EREQUEST is tried again is this project's own choice.
use Rattle.std.specs.Prelude.{Bool, ◌==◌, ◌&&◌, not, Option, None, Some, if◌then◌else◌}
use Rattle.rpc_model.specs.declared.codes.TheConstants.{EREQUEST}
use Rattle.rpc_model.specs.declared.event.End.{End}
use Rattle.rpc_model.specs.declared.event.End.TheVariants.{Good, Bad}

-- the node's end at the end of a try, or none where the next try starts, which needs that one is left
abbrev pub next_try : Bool → End → Option End
next_try is_left (Good text) = Some (Good text)
next_try is_left (Bad code) = if is_left && not (code == EREQUEST) then None else Some (Bad code)
