use Rattle.std.proofs.Common.{◌≡◌, length}
use Rattle.rpc_meta.specs.Meta.Reading.{meta_field}
use Rattle.rpc_meta.specs.Meta.Wire.{said}
use Rattle.rpc_meta.specs.Parts.{meta_seen}
use Rattle.rpc_meta.proofs.reading.read_fields.Given as goal

abbrev pub invariant-fields : goal.invariant-fields
invariant-fields l = said meta_field (meta_seen l.meta) l.fields.list l.fields.fault ≡ said meta_field (meta_seen l.initial.meta) l.initial.fields.list l.initial.fields.fault

abbrev pub decreases-fields : goal.decreases-fields
decreases-fields l = length l.fields.list
