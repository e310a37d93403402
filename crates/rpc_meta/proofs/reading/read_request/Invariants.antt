use Rattle.std.proofs.Common.{◌≡◌, length}
use Rattle.rpc_meta.specs.Meta.Reading.{request_field}
use Rattle.rpc_meta.specs.Meta.Wire.{said}
use Rattle.rpc_meta.specs.Parts.{request_seen}
use Rattle.rpc_meta.proofs.reading.read_request.Given as goal

abbrev pub invariant-fields : goal.invariant-fields
invariant-fields l = said request_field (request_seen l.request) l.fields.list l.fields.fault ≡ said request_field (request_seen l.initial.request) l.initial.fields.list l.initial.fields.fault

abbrev pub decreases-fields : goal.decreases-fields
decreases-fields l = length l.fields.list
