-- The texts of a meta are no longer than its spelling.
use Rattle.std.proofs.Common.{ℕ, ◌+◌, ◌*◌, ◌^◌, ◌≤◌, ◌<◌, List, ◌++◌, length, Option, Some, None, IfSome, arith}
use Rattle.std.proofs.lemmas.List.{length-append}
use Rattle.std.specs.Int.{w32, w64}
use Rattle.std.specs.Int.RustNames.{FitsSigned}
use Rattle.rpc_meta.specs.declared.meta.Meta as meta_type
use Rattle.rpc_meta.specs.declared.meta.RequestMeta.{RequestMeta}
use Rattle.rpc_meta.specs.declared.meta.ResponseMeta.{ResponseMeta}
use Rattle.rpc_meta.specs.Meta.Spelling.{varint_bytes, number_bytes, text_bytes, if_present, request_bytes, response_bytes, meta_bytes, IsSized}
use Rattle.prpc_frames.specs.Stream.Spelling.{IsTyped}

text_small : (k n : ℕ) (bytes : List ℕ) → length (text_bytes k bytes) ≤ n → length bytes ≤ n
unfolding text_bytes
text_small k n bytes h = omega (arith, h, length-append (varint_bytes (k * 8 + 2) ++ varint_bytes (length bytes)) bytes)

request_small : (r : RequestMeta) → IfSome r.log_id (FitsSigned w64) → length (request_bytes r) ≤ 16777216 → (length r.service < 2 ^ 32) × (length r.method < 2 ^ 32) × IfSome r.log_id (FitsSigned w64)
unfolding request_bytes
request_small r fits h =
    let two : ℕ = length (text_bytes 1 r.service ++ text_bytes 2 r.method) in
    let whole = length-append (text_bytes 1 r.service ++ text_bytes 2 r.method) (if_present (number_bytes 3) r.log_id) in
    let parts = length-append (text_bytes 1 r.service) (text_bytes 2 r.method) in
    let service : length r.service ≤ 16777216 = text_small 1 16777216 r.service (omega (arith, h, whole, parts)) in
    let method : length r.method ≤ 16777216 = text_small 2 16777216 r.method (omega (arith, h, whole, parts)) in
    (omega (arith, service), omega (arith, method), fits)

some_request : (o : Option RequestMeta) → IfSome o (λ r. IfSome r.log_id (FitsSigned w64)) → length (if_present (λ r. text_bytes 1 (request_bytes r)) o) ≤ 16777216
    → IfSome o (λ r. (length r.service < 2 ^ 32) × (length r.method < 2 ^ 32) × IfSome r.log_id (FitsSigned w64))
some_request None fits h = tt
some_request (Some r) fits h = request_small r fits (text_small 1 16777216 (request_bytes r) h)

some_text : (o : Option (List ℕ)) → length (if_present (text_bytes 2) o) ≤ 16777216 → IfSome o (λ t. length t < 2 ^ 32)
some_text None h = tt
some_text (Some t) h = let small : length t ≤ 16777216 = text_small 2 16777216 t h in omega (arith, small)

response_small : (r : ResponseMeta) → IfSome r.code (FitsSigned w32) → length (response_bytes r) ≤ 16777216 → IfSome r.code (FitsSigned w32) × IfSome r.text (λ t. length t < 2 ^ 32)
unfolding response_bytes
response_small r fits h = (fits, some_text r.text (omega (arith, h, length-append (if_present (number_bytes 1) r.code) (if_present (text_bytes 2) r.text))))

some_response : (o : Option ResponseMeta) → IfSome o (λ r. IfSome r.code (FitsSigned w32)) → length (if_present (λ r. text_bytes 2 (response_bytes r)) o) ≤ 16777216
    → IfSome o (λ r. IfSome r.code (FitsSigned w32) × IfSome r.text (λ t. length t < 2 ^ 32))
some_response None fits h = tt
some_response (Some r) fits h = response_small r fits (text_small 2 16777216 (response_bytes r) h)

-- a meta whose spelling is small has small texts
pub small_sized : (m : meta_type.Meta) → IsTyped m → length (meta_bytes m) ≤ 16777216 → IsSized m
unfolding meta_bytes
small_sized m typed h =
    let request : List ℕ = if_present (λ r. text_bytes 1 (request_bytes r)) m.request in
    let response : List ℕ = if_present (λ r. text_bytes 2 (response_bytes r)) m.response in
    let compress : List ℕ = if_present (number_bytes 3) m.compress in
    let correlation : List ℕ = if_present (number_bytes 4) m.correlation in
    let attachment : List ℕ = if_present (number_bytes 5) m.attachment in
    let e1 = length-append (request ++ response ++ compress ++ correlation) attachment in
    let e2 = length-append (request ++ response ++ compress) correlation in
    let e3 = length-append (request ++ response) compress in
    let e4 = length-append request response in
    record {
      request = some_request m.request typed.request (omega (arith, h, e1, e2, e3, e4));
      response = some_response m.response typed.response (omega (arith, h, e1, e2, e3, e4));
      compress = typed.compress;
      correlation = typed.correlation;
      attachment = typed.attachment;
    }
