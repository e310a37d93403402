-- What the bytes of an RpcMeta say, or the first fault from the left with its place: by brpc's baidu_std document and
-- the Protocol Buffers wire format. The faults, and the empty name where a request has none, are this project's own
-- choice.
use Rattle.std.specs.Prelude.{ℕ, ◌%◌, ◌^◌, ℤ, List, [], length, Some, None, Result, Ok, Err, ◌==◌, if◌then◌else◌, unwrap_or}
use Rattle.std.specs.Int.{w32, w64, cast_signed, is_negative}
use Rattle.std.specs.Str.{is_utf8}
use Rattle.rpc_meta.specs.declared.fault.MetaFault.{MetaFault}
use Rattle.rpc_meta.specs.declared.fault.MetaFault.TheVariants.{BadText, Range}
use Rattle.rpc_meta.specs.declared.meta.Meta.{Meta}
use Rattle.rpc_meta.specs.declared.meta.RequestMeta.{RequestMeta}
use Rattle.rpc_meta.specs.declared.meta.ResponseMeta.{ResponseMeta}
use Rattle.rpc_meta.specs.Meta.Wire.{◌>>=◌, Value, number, text, fixed, Field, fields, said}

-- the low 32 bits in two's complement, and all 64
abbrev pub int32 : ℕ → ℤ
int32 n = cast_signed w32 (n % 2 ^ 32)

abbrev pub int64 : ℕ → ℤ
int64 n = cast_signed w64 n

-- a service or method name
unfoldable pub name : ℕ → List ℕ → Result (List ℕ) MetaFault
name at bytes = if is_utf8 bytes then Ok bytes else Err (BadText at)

abbrev pub no_request : RequestMeta
no_request = record { service = []; method = []; log_id = None }

unfoldable pub request_says : RequestMeta → ℕ → ℕ → Value → Result RequestMeta MetaFault
request_says m at n (text bytes) =
    if n == 1 then (name at bytes >>= λ t. Ok (record m { service = t })) else (if n == 2 then (name at bytes >>= λ t. Ok (record m { method = t })) else Ok m)
request_says m at n (number v) = if n == 3 then Ok (record m { log_id = Some (int64 v) }) else Ok m
request_says m at n fixed = Ok m

-- what a field of a request says after those before it
abbrev pub request_field : RequestMeta → Field → Result RequestMeta MetaFault
request_field m f = request_says m f.at f.number f.value

abbrev pub no_response : ResponseMeta
no_response = record { code = None; text = None }

unfoldable pub response_says : ResponseMeta → ℕ → Value → Result ResponseMeta MetaFault
response_says m n (number v) = if n == 1 then Ok (record m { code = Some (int32 v) }) else Ok m
response_says m n (text bytes) = if n == 2 then Ok (record m { text = Some bytes }) else Ok m
response_says m n fixed = Ok m

-- what a field of a response says after those before it
abbrev pub response_field : ResponseMeta → Field → Result ResponseMeta MetaFault
response_field m f = response_says m f.number f.value

-- a message that ends at this place, merged into the one before
unfoldable pub request_at : RequestMeta → ℕ → List ℕ → Result RequestMeta MetaFault
request_at m end bytes = said request_field m (fields end bytes).list (fields end bytes).fault

unfoldable pub response_at : ResponseMeta → ℕ → List ℕ → Result ResponseMeta MetaFault
response_at m end bytes = said response_field m (fields end bytes).list (fields end bytes).fault

unfoldable pub meta_text : Meta → ℕ → ℕ → List ℕ → Result Meta MetaFault
meta_text m stop n bytes =
    if n == 1 then (request_at (unwrap_or m.request no_request) stop bytes >>= λ r. Ok (record m { request = Some r })) else
    (if n == 2 then (response_at (unwrap_or m.response no_response) stop bytes >>= λ r. Ok (record m { response = Some r })) else Ok m)

unfoldable pub meta_number : Meta → ℕ → ℕ → ℕ → Result Meta MetaFault
meta_number m at n v =
    if n == 3 then Ok (record m { compress = Some (int32 v) }) else
    (if n == 4 then Ok (record m { correlation = Some (int64 v) }) else
    (if n == 5 then (if is_negative (int32 v) then Err (Range at) else Ok (record m { attachment = Some (int32 v) })) else Ok m))

unfoldable pub meta_says : Meta → ℕ → ℕ → ℕ → Value → Result Meta MetaFault
meta_says m at stop n (text bytes) = meta_text m stop n bytes
meta_says m at stop n (number v) = meta_number m at n v
meta_says m at stop n fixed = Ok m

-- what a field of a meta says after those before it
abbrev pub meta_field : Meta → Field → Result Meta MetaFault
meta_field m f = meta_says m f.at f.stop f.number f.value

abbrev pub no_meta : Meta
no_meta = record { request = None; response = None; compress = None; correlation = None; attachment = None }

unfoldable pub meta : List ℕ → Result Meta MetaFault
meta bytes = said meta_field no_meta (fields (length bytes) bytes).list (fields (length bytes) bytes).fault
