-- The one spelling of a meta that is written: fields in rising order of number, each once, with shortest varints. By brpc's baidu_std document and the Protocol Buffers wire format.
use Rattle.std.specs.Prelude.{ℕ, zero, suc, ◌+◌, ◌*◌, ◌/◌, ◌%◌, ◌^◌, ◌<◌, ◌≤ℤ◌, ℤ, pos, List, [], ◌∷◌, ◌++◌, length, Option, Some, None, IfSome, nat_lt, if◌then◌else◌}
use Rattle.std.specs.Int.{w32, w64, cast_unsigned}
use Rattle.std.specs.Int.RustNames.{FitsSigned}
use Rattle.std.specs.Str.{IsUtf8}
use Rattle.rpc_meta.specs.declared.meta.Meta.{Meta}
use Rattle.rpc_meta.specs.declared.meta.RequestMeta.{RequestMeta}
use Rattle.rpc_meta.specs.declared.meta.ResponseMeta.{ResponseMeta}

-- the groups of seven bits of a number, lowest first, at most so many
unfoldable pub groups_of : ℕ → ℕ → List ℕ
groups_of zero n = []
groups_of (suc most) n = if nat_lt n 128 then n ∷ [] else (n % 128 + 128) ∷ groups_of most (n / 128)

-- the shortest varint of a number below 2 ^ 64
abbrev pub varint_bytes : ℕ → List ℕ
varint_bytes n = groups_of 10 n

-- a field of type 0; a negative number has all 64 bits
unfoldable pub number_bytes : ℕ → ℤ → List ℕ
number_bytes field z = varint_bytes (field * 8) ++ varint_bytes (cast_unsigned w64 z)

-- a field of type 2
unfoldable pub text_bytes : ℕ → List ℕ → List ℕ
text_bytes field bytes = varint_bytes (field * 8 + 2) ++ varint_bytes (length bytes) ++ bytes

-- how many bytes a field of type 2 with so many bytes has
abbrev pub text_size : ℕ → ℕ → ℕ
text_size field n = length (varint_bytes (field * 8 + 2)) + length (varint_bytes n) + n

-- a field that may be absent
abbrev pub if_present : {A : Type 0} → (A → List ℕ) → Option A → List ℕ
if_present spell None = []
if_present spell (Some x) = spell x

unfoldable pub request_bytes : RequestMeta → List ℕ
request_bytes m = text_bytes 1 m.service ++ text_bytes 2 m.method ++ if_present (number_bytes 3) m.log_id

unfoldable pub response_bytes : ResponseMeta → List ℕ
response_bytes m = if_present (number_bytes 1) m.code ++ if_present (text_bytes 2) m.text

unfoldable pub meta_bytes : Meta → List ℕ
meta_bytes m =
    if_present (λ r. text_bytes 1 (request_bytes r)) m.request ++ if_present (λ r. text_bytes 2 (response_bytes r)) m.response
    ++ if_present (number_bytes 3) m.compress ++ if_present (number_bytes 4) m.correlation ++ if_present (number_bytes 5) m.attachment

-- a meta whose spelling is read as it
pub record IsWritable (m : Meta) : Type 0 where
  pub names : IfSome m.request (λ r. IsUtf8 r.service × IsUtf8 r.method)
  pub attachment : IfSome m.attachment (λ z. pos 0 ≤ℤ z)

-- numbers of their types, and texts of fewer than 2 ^ 32 bytes
pub record IsSized (m : Meta) : Type 0 where
  pub request : IfSome m.request (λ r. (length r.service < 2 ^ 32) × (length r.method < 2 ^ 32) × IfSome r.log_id (FitsSigned w64))
  pub response : IfSome m.response (λ r. IfSome r.code (FitsSigned w32) × IfSome r.text (λ t. length t < 2 ^ 32))
  pub compress : IfSome m.compress (FitsSigned w32)
  pub correlation : IfSome m.correlation (FitsSigned w64)
  pub attachment : IfSome m.attachment (FitsSigned w32)
