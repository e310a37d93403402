use Rattle.std.proofs.Common.{Some, None}
use Rattle.std.proofs.lemmas.Result.{err_from_is_err_and}
use Rattle.rpc_meta.specs.Meta.Reading.{response_field}
use Rattle.rpc_meta.specs.Seen.{field_seen}
use Rattle.rpc_meta.specs.Parts.{response_seen}
use Rattle.rpc_meta.proofs.Said.{at_fault, at_field, goes_on, at_end, next_is}
use Rattle.rpc_meta.proofs.reading.read_response.Goals as goal

pub returns-in_err-field : goal.returns-in_err-field
returns-in_err-field c =
    let p = err_from_is_err_and c.from_residual.result c.from_residual.ensures.1 in
    rw (p.1, p.2) (at_fault response_field (response_seen c.fields.response) c.fields.fields _ c.in_err-field.field-0.0 c.in_err-field.ensures.next c.fields.invariant)

pub returns-in_err-response : goal.returns-in_err-response
returns-in_err-response c =
    let p = err_from_is_err_and c.from_residual-in_err-response.result c.from_residual-in_err-response.ensures.1 in
    let next = next_is c.fields.fields c.next.new.self c.in_ok-field.field-0 (Some c.in-Some.field) c.in-Some.is c.in_ok-field.ensures.next in
    rw (p.1, p.2) (at_field response_field (response_seen c.fields.response) (field_seen c.in-Some.field) c.fields.fields c.next.new.self _ c.in_err-response.field-0.0 next
    c.in_err-response.ensures c.fields.invariant)

pub fields-preserved : goal.fields-preserved
fields-preserved c =
    let next = next_is c.fields.fields c.next.new.self c.in_ok-field.field-0 (Some c.in-Some.field) c.in-Some.is c.in_ok-field.ensures.next in
    goes_on response_field (response_seen c.fields.response) (response_seen c.in_ok-response.response) (field_seen c.in-Some.field) c.fields.fields c.next.new.self _ next
    c.in_ok-response.ensures c.fields.invariant

pub returns : goal.returns
returns c =
    let next = next_is c.fields.fields c.next.new.self c.in_ok-field.field-0 None c.in_default.is c.in_ok-field.ensures.next in
    at_end response_field (response_seen c.fields.response) c.fields.fields _ next c.fields.invariant
