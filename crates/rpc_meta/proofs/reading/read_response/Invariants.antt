use Rattle.std.proofs.Common.{◌≡◌, length}
use Rattle.rpc_meta.specs.Meta.Reading.{response_field}
use Rattle.rpc_meta.specs.Meta.Wire.{said}
use Rattle.rpc_meta.specs.Parts.{response_seen}
use Rattle.rpc_meta.proofs.reading.read_response.Given as goal

abbrev pub invariant-fields : goal.invariant-fields
invariant-fields l = said response_field (response_seen l.response) l.fields.list l.fields.fault ≡ said response_field (response_seen l.initial.response) l.initial.fields.list l.initial.fields.fault

abbrev pub decreases-fields : goal.decreases-fields
decreases-fields l = length l.fields.list
