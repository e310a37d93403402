-- The spelling of a meta is read as that meta.
use Rattle.std.proofs.Common.{◌≡◌, ℕ, ◌+◌, ◌*◌, ◌/◌, ◌%◌, ◌^◌, ◌<◌, ◌≤◌, true, false, ltb, List, [], ◌++◌, length, Option, Some, None, Result, Ok, refl, ap, ◌∙◌, append_assoc, arith}
use Rattle.std.specs.Prelude.{ℤ, pos, negsuc, IfSome, ◌≤ℤ◌}
use Rattle.std.specs.Int.{w32, w64, cast_signed, cast_unsigned, is_negative}
use Rattle.std.specs.Int.RustNames.{FitsSigned}
use Rattle.std.specs.Str.{IsUtf8, is_utf8}
use Rattle.std.proofs.lemmas.Bool.{le-ltb}
use Rattle.std.proofs.lemmas.Bool.Decides.{nat_tests}
use Rattle.std.proofs.lemmas.Int.{to_z-of_z}
use Rattle.std.proofs.lemmas.Str.{is_utf8-from_IsUtf8}
use Rattle.std.proofs.lemmas.List.{length-append, append-nil, take_at, drop_at}
use Rattle.rpc_meta.specs.declared.fault.MetaFault.{MetaFault}
use Rattle.rpc_meta.specs.declared.meta.Meta.{Meta}
use Rattle.rpc_meta.specs.declared.meta.RequestMeta.{RequestMeta}
use Rattle.rpc_meta.specs.declared.meta.ResponseMeta.{ResponseMeta}
use Rattle.rpc_meta.specs.Meta.Wire.{piece, Value, number, text, number_at, text_at, value_at, Field, place, is_bad_number, field, fields, said}
use Rattle.rpc_meta.specs.Meta.Reading.{int32, name, no_request, request_says, request_field, no_response, response_says, response_field, request_at, response_at, meta_text, meta_number}
use Rattle.rpc_meta.specs.Meta.Reading.{meta_says, meta_field, no_meta, meta}
use Rattle.rpc_meta.specs.Meta.Spelling.{groups_of, number_bytes, text_bytes, if_present, request_bytes, response_bytes, meta_bytes, IsWritable, IsSized}
use Rattle.rpc_meta.proofs.Shortest.{varint_again, length-groups_of, groups_some}
use Rattle.rpc_meta.proofs.Shorter.{fields_none, fields_some}

-- ---- a field

good_number : (k : ℕ) → 0 < k → k < 16 → is_bad_number k ≡ false
good_number k some few = grind (arith, nat_tests)

field_of : (k kind : ℕ) (after rest : List ℕ) (end : ℕ) (v : Value) → 0 < k → k < 16 → kind < 8 →
    value_at (place end (groups_of 10 (k * 8 + kind) ++ after)) kind after ≡ Ok (v, rest)
    → field end (groups_of 10 (k * 8 + kind) ++ after) ≡ Ok (record { at = place end (groups_of 10 (k * 8 + kind) ++ after); stop = place end rest; number = k; value = v }, rest)
unfolding field
field_of k kind after rest end v some few low value =
    let key = varint_again (place end (groups_of 10 (k * 8 + kind) ++ after)) (k * 8 + kind) after (omega arith) in
    let k-is : (k * 8 + kind) / 8 ≡ k = omega arith in
    let kind-is : (k * 8 + kind) % 8 ≡ kind = omega arith in
    let good : is_bad_number k ≡ false = good_number k some few in
    rw (key, k-is, kind-is, good, value) refl

number_again : (end k n : ℕ) (rest : List ℕ) → 0 < k → k < 16 → n < 2 ^ 64 →
    (at : ℕ) × (field end ((groups_of 10 (k * 8) ++ groups_of 10 n) ++ rest) ≡ Ok (record { at = at; stop = place end rest; number = k; value = number n }, rest))
unfolding value_at number_at
number_again end k n rest some few lt =
    let after = groups_of 10 n ++ rest in
    let zero-more : k * 8 ≡ k * 8 + 0 = omega arith in
    let at = place end (groups_of 10 (k * 8 + 0) ++ after) in
    let value : value_at at 0 after ≡ Ok (number n, rest) = rw (varint_again at n rest lt) refl in
    let whole : (groups_of 10 (k * 8) ++ groups_of 10 n) ++ rest ≡ groups_of 10 (k * 8 + 0) ++ after =
    ap (λ (x : ℕ). (groups_of 10 x ++ groups_of 10 n) ++ rest) zero-more ∙ append_assoc (groups_of 10 (k * 8 + 0)) (groups_of 10 n) rest in
    (at, ap (field end) whole ∙ field_of k 0 after rest end (number n) some few (omega arith) value)

piece_again : (at : ℕ) (bytes rest : List ℕ) → piece at (length bytes) (bytes ++ rest) ≡ Ok (bytes, rest)
unfolding piece
piece_again at bytes rest =
    let long : ltb (length (bytes ++ rest)) (length bytes) ≡ false = le-ltb _ _ (omega (arith, length-append bytes rest)) in
    rw (long, take_at bytes rest (length bytes) refl, drop_at bytes rest (length bytes) refl) refl

text_again : (end k : ℕ) (bytes rest : List ℕ) → 0 < k → k < 16 → length bytes < 2 ^ 64 →
    (at : ℕ) × (field end (((groups_of 10 (k * 8 + 2) ++ groups_of 10 (length bytes)) ++ bytes) ++ rest) ≡ Ok (record { at = at; stop = place end rest; number = k; value = text bytes }, rest))
unfolding value_at text_at
text_again end k bytes rest some few lt =
    let after = groups_of 10 (length bytes) ++ (bytes ++ rest) in
    let at = place end (groups_of 10 (k * 8 + 2) ++ after) in
    let value : value_at at 2 after ≡ Ok (text bytes, rest) = rw (varint_again at (length bytes) (bytes ++ rest) lt, piece_again at bytes rest) refl in
    let whole : ((groups_of 10 (k * 8 + 2) ++ groups_of 10 (length bytes)) ++ bytes) ++ rest ≡ groups_of 10 (k * 8 + 2) ++ after =
    append_assoc (groups_of 10 (k * 8 + 2) ++ groups_of 10 (length bytes)) bytes rest ∙ append_assoc (groups_of 10 (k * 8 + 2)) (groups_of 10 (length bytes)) (bytes ++ rest) in
    (at, ap (field end) whole ∙ field_of k 2 after rest end (text bytes) some few (omega arith) value)

-- ---- what a message says from here on

abbrev message : {M : Type 0} → (M → Field → Result M MetaFault) → M → ℕ → List ℕ → Result M MetaFault
message says m end bytes = said says m (fields end bytes).list (fields end bytes).fault

message_end : {M : Type 0} (says : M → Field → Result M MetaFault) (m : M) (end : ℕ) → message says m end [] ≡ Ok m
unfolding said
message_end says m end = let none = fields_none end [] refl in rw (none.0, none.1) refl

message_field : {M : Type 0} (says : M → Field → Result M MetaFault) (m next : M) (end : ℕ) (bytes rest : List ℕ) (f : Field) → 0 < length bytes → field end bytes ≡ Ok (f, rest) → says m f ≡ Ok next
    → message says m end bytes ≡ message says next end rest
unfolding said
message_field says m next end bytes rest f some here step = let first = fields_some end bytes f rest some here in rw (first.0, first.1, step) refl

message_number : {M : Type 0} (says : M → Field → Result M MetaFault) (m next : M) (end k : ℕ) (z : ℤ) (rest : List ℕ) → 0 < k → k < 16 → cast_unsigned w64 z < 2 ^ 64
    → ((at stop : ℕ) → says m (record { at = at; stop = stop; number = k; value = number (cast_unsigned w64 z) }) ≡ Ok next)
    → message says m end (number_bytes k z ++ rest) ≡ message says next end rest
unfolding number_bytes
message_number says m next end k z rest some few lt step =
    let again = number_again end k (cast_unsigned w64 z) rest some few lt in
    let n = cast_unsigned w64 z in
    let long : 0 < length ((groups_of 10 (k * 8) ++ groups_of 10 n) ++ rest) =
    omega (arith, length-append (groups_of 10 (k * 8) ++ groups_of 10 n) rest, length-append (groups_of 10 (k * 8)) (groups_of 10 n), groups_some 9 n) in
    message_field says m next end ((groups_of 10 (k * 8) ++ groups_of 10 n) ++ rest) rest _ long again.1 (step again.0 (place end rest))

message_text : {M : Type 0} (says : M → Field → Result M MetaFault) (m next : M) (end k : ℕ) (bytes rest : List ℕ) → 0 < k → k < 16 → length bytes < 2 ^ 64
    → ((at stop : ℕ) → says m (record { at = at; stop = stop; number = k; value = text bytes }) ≡ Ok next)
    → message says m end (text_bytes k bytes ++ rest) ≡ message says next end rest
unfolding text_bytes
message_text says m next end k bytes rest some few lt step =
    let again = text_again end k bytes rest some few lt in
    let key = groups_of 10 (k * 8 + 2) in
    let size = groups_of 10 (length bytes) in
    let long : 0 < length (((key ++ size) ++ bytes) ++ rest) =
    omega (arith, length-append ((key ++ size) ++ bytes) rest, length-append (key ++ size) bytes, length-append key size, groups_some 9 (length bytes)) in
    message_field says m next end (((key ++ size) ++ bytes) ++ rest) rest _ long again.1 (step again.0 (place end rest))

-- a field that may be absent
message_present : {A M : Type 0} (P : A → Type 0) (spell : A → List ℕ) (says : M → Field → Result M MetaFault) (with : Option A → M) (end : ℕ) (rest : List ℕ) (o : Option A) → IfSome o P
    → ((x : A) → P x → message says (with None) end (spell x ++ rest) ≡ message says (with (Some x)) end rest)
    → message says (with None) end (if_present spell o ++ rest) ≡ message says (with o) end rest
message_present P spell says with end rest None h step = refl
message_present P spell says with end rest (Some x) h step = step x h

-- ---- numbers

fits_wide : (z : ℤ) → FitsSigned w32 z → FitsSigned w64 z
fits_wide (pos n) fits = record { sfits = omega (arith, fits.sfits) }
fits_wide (negsuc n) fits = record { sfits = omega (arith, fits.sfits) }

unsigned_below : (z : ℤ) → FitsSigned w64 z → cast_unsigned w64 z < 2 ^ 64
unsigned_below (pos n) fits = omega (arith, fits.sfits)
unsigned_below (negsuc n) fits = omega (arith, fits.sfits)

low_half : (z : ℤ) → FitsSigned w32 z → cast_unsigned w64 z % 2 ^ 32 ≡ cast_unsigned w32 z
low_half (pos n) fits = omega (arith, fits.sfits)
low_half (negsuc n) fits = omega (arith, fits.sfits)

int32_again : (z : ℤ) → FitsSigned w32 z → int32 (cast_unsigned w64 z) ≡ z
int32_again z fits = ap (cast_signed w32) (low_half z fits) ∙ to_z-of_z w32 z fits

not_negative : (z : ℤ) → pos 0 ≤ℤ z → is_negative z ≡ false
not_negative (pos n) h = le-ltb n 0 (omega arith)
not_negative (negsuc n) h = absurd h.le

-- ---- the three messages

in_three : (a b c : List ℕ) → (a ++ b) ++ c ≡ a ++ (b ++ (c ++ []))
in_three a b c = simp (append_assoc, append-nil)

in_two : (a b : List ℕ) → a ++ b ≡ a ++ (b ++ [])
in_two a b = simp append-nil

in_five : (a b c d e : List ℕ) → (((a ++ b) ++ c) ++ d) ++ e ≡ a ++ (b ++ (c ++ (d ++ (e ++ []))))
in_five a b c d e = simp (append_assoc, append-nil)

-- what a request is to be
record IsSpelledRequest (r : RequestMeta) : Type 0 where
  service : IsUtf8 r.service
  method : IsUtf8 r.method
  service_len : length r.service < 2 ^ 32
  method_len : length r.method < 2 ^ 32
  log_id : IfSome r.log_id (FitsSigned w64)

record IsSpelledResponse (r : ResponseMeta) : Type 0 where
  code : IfSome r.code (FitsSigned w32)
  text : IfSome r.text (λ t. length t < 2 ^ 32)

request_again : (r : RequestMeta) (end : ℕ) → IsSpelledRequest r → request_at no_request end (request_bytes r) ≡ Ok r
unfolding request_at request_bytes request_says name
request_again r end is =
    let first : RequestMeta = record { service = r.service; method = []; log_id = None } in
    let second : RequestMeta = record { service = r.service; method = r.method; log_id = None } in
    let log = if_present (number_bytes 3) r.log_id ++ [] in
    let service-good : is_utf8 r.service ≡ true = is_utf8-from_IsUtf8 r.service is.service in
    let method-good : is_utf8 r.method ≡ true = is_utf8-from_IsUtf8 r.method is.method in
    ap (message request_field no_request end) (in_three (text_bytes 1 r.service) (text_bytes 2 r.method) (if_present (number_bytes 3) r.log_id))
    ∙ message_text request_field no_request first end 1 r.service (text_bytes 2 r.method ++ log) (omega arith) (omega arith) (omega (arith, is.service_len)) (λ at stop. rw service-good refl)
    ∙ message_text request_field first second end 2 r.method log (omega arith) (omega arith) (omega (arith, is.method_len)) (λ at stop. rw method-good refl)
    ∙ message_present (FitsSigned w64) (number_bytes 3) request_field (λ o. record { service = r.service; method = r.method; log_id = o }) end [] r.log_id is.log_id
    (λ z fits. message_number request_field second (record { service = r.service; method = r.method; log_id = Some z }) end 3 z [] (omega arith) (omega arith) (unsigned_below z fits)
    (λ at stop. ap (λ (x : ℤ). Ok (record { service = r.service; method = r.method; log_id = Some x })) (to_z-of_z w64 z fits)))
    ∙ message_end request_field r end

response_again : (r : ResponseMeta) (end : ℕ) → IsSpelledResponse r → response_at no_response end (response_bytes r) ≡ Ok r
unfolding response_at response_bytes response_says
response_again r end is =
    let words = if_present (text_bytes 2) r.text ++ [] in
    ap (message response_field no_response end) (in_two (if_present (number_bytes 1) r.code) (if_present (text_bytes 2) r.text))
    ∙ message_present (FitsSigned w32) (number_bytes 1) response_field (λ o. record { code = o; text = None }) end words r.code is.code
    (λ z fits. message_number response_field no_response (record { code = Some z; text = None }) end 1 z words (omega arith) (omega arith) (unsigned_below z (fits_wide z fits))
    (λ at stop. ap (λ (x : ℤ). Ok (record { code = Some x; text = None })) (int32_again z fits)))
    ∙ message_present (λ t. length t < 2 ^ 32) (text_bytes 2) response_field (λ o. record { code = r.code; text = o }) end [] r.text is.text
    (λ t few. message_text response_field (record { code = r.code; text = None }) (record { code = r.code; text = Some t }) end 2 t [] (omega arith) (omega arith) (omega arith) (λ at stop. refl))
    ∙ message_end response_field r end

number_len : (k : ℕ) (z : ℤ) → length (number_bytes k z) ≤ 20
unfolding number_bytes
number_len k z = omega (arith, length-append (groups_of 10 (k * 8)) (groups_of 10 (cast_unsigned w64 z)), length-groups_of 10 (k * 8), length-groups_of 10 (cast_unsigned w64 z))

text_len : (k : ℕ) (bytes : List ℕ) → length (text_bytes k bytes) ≤ 20 + length bytes
unfolding text_bytes
text_len k bytes =
    let key = groups_of 10 (k * 8 + 2) in
    let size = groups_of 10 (length bytes) in
    omega (arith, length-append (key ++ size) bytes, length-append key size, length-groups_of 10 (k * 8 + 2), length-groups_of 10 (length bytes))

present_len : {A : Type 0} (P : A → Type 0) (spell : A → List ℕ) (most : ℕ) (o : Option A) → IfSome o P → ((x : A) → P x → length (spell x) ≤ most) → length (if_present spell o) ≤ most
present_len P spell most None h each = omega arith
present_len P spell most (Some x) h each = each x h

request_len : (r : RequestMeta) → IsSpelledRequest r → length (request_bytes r) < 2 ^ 64
unfolding request_bytes
request_len r is =
    let log = if_present (number_bytes 3) r.log_id in
    let log-len : length log ≤ 20 = present_len (FitsSigned w64) (number_bytes 3) 20 r.log_id is.log_id (λ z _. number_len 3 z) in
    omega (
      arith,
      length-append (text_bytes 1 r.service ++ text_bytes 2 r.method) log,
      length-append (text_bytes 1 r.service) (text_bytes 2 r.method),
      text_len 1 r.service,
      text_len 2
          r.method,
      log-len,
      is.service_len,
      is.method_len,
    )

response_len : (r : ResponseMeta) → IsSpelledResponse r → length (response_bytes r) < 2 ^ 64
unfolding response_bytes
response_len r is =
    let code-len : length (if_present (number_bytes 1) r.code) ≤ 20 = present_len (FitsSigned w32) (number_bytes 1) 20 r.code is.code (λ z _. number_len 1 z) in
    let words-len : length (if_present (text_bytes 2) r.text) ≤ 20 + 2 ^ 32 = present_len (λ t. length t < 2 ^ 32) (text_bytes 2) (20 + 2 ^ 32) r.text is.text (λ t few. omega (arith, text_len 2 t)) in
    omega (arith, length-append (if_present (number_bytes 1) r.code) (if_present (text_bytes 2) r.text), code-len, words-len)

spelled_request : (o : Option RequestMeta) → IfSome o (λ r. IsUtf8 r.service × IsUtf8 r.method)
    → IfSome o (λ r. (length r.service < 2 ^ 32) × (length r.method < 2 ^ 32) × IfSome r.log_id (FitsSigned w64)) → IfSome o IsSpelledRequest
spelled_request None names sizes = tt
spelled_request (Some r) names sizes = record { service = names.0; method = names.1; service_len = sizes.0; method_len = sizes.1; log_id = sizes.2 }

spelled_response : (o : Option ResponseMeta) → IfSome o (λ r. IfSome r.code (FitsSigned w32) × IfSome r.text (λ t. length t < 2 ^ 32)) → IfSome o IsSpelledResponse
spelled_response None sizes = tt
spelled_response (Some r) sizes = record { code = sizes.0; text = sizes.1 }

-- what an attachment size is to be
record IsSize (z : ℤ) : Type 0 where
  some : pos 0 ≤ℤ z
  fits : FitsSigned w32 z

size : (o : Option ℤ) → IfSome o (λ z. pos 0 ≤ℤ z) → IfSome o (FitsSigned w32) → IfSome o IsSize
size None some fits = tt
size (Some z) some fits = record { some = some; fits = fits }

meta_again_at : (m : Meta) (end : ℕ) → IsWritable m → IsSized m → message meta_field no_meta end (meta_bytes m) ≡ Ok m
unfolding meta_bytes meta_says meta_text meta_number
meta_again_at m end writable sized =
    let five = if_present (number_bytes 5) m.attachment ++ [] in
    let four = if_present (number_bytes 4) m.correlation ++ five in
    let three = if_present (number_bytes 3) m.compress ++ four in
    let two = if_present (λ r. text_bytes 2 (response_bytes r)) m.response ++ three in
    ap (message meta_field no_meta end) (in_five (if_present (λ r. text_bytes 1 (request_bytes r)) m.request) (if_present (λ r. text_bytes 2 (response_bytes r)) m.response)
    (if_present (number_bytes 3) m.compress) (if_present (number_bytes 4) m.correlation) (if_present (number_bytes 5) m.attachment))
    ∙ message_present IsSpelledRequest (λ r. text_bytes 1 (request_bytes r)) meta_field (λ o. record { request = o; response = None; compress = None; correlation = None; attachment = None })
    end two m.request (spelled_request m.request writable.names sized.request)
    (λ r is. message_text meta_field no_meta (record { request = Some r; response = None; compress = None; correlation = None; attachment = None }) end 1 (request_bytes r) two (omega arith)
    (omega arith) (request_len r is)
    (λ at stop. rw (request_again r stop is) refl))
    ∙ message_present IsSpelledResponse (λ r. text_bytes 2 (response_bytes r)) meta_field
    (λ o. record { request = m.request; response = o; compress = None; correlation = None; attachment = None }) end three m.response (spelled_response m.response sized.response)
    (λ r is. message_text meta_field (record { request = m.request; response = None; compress = None; correlation = None; attachment = None })
    (record { request = m.request; response = Some r; compress = None; correlation = None; attachment = None }) end 2 (response_bytes r) three (omega arith) (omega arith) (response_len r is)
    (λ at stop. rw (response_again r stop is) refl))
    ∙ message_present (FitsSigned w32) (number_bytes 3) meta_field (λ o. record { request = m.request; response = m.response; compress = o; correlation = None; attachment = None }) end four
    m.compress sized.compress
    (λ z fits. message_number meta_field (record { request = m.request; response = m.response; compress = None; correlation = None; attachment = None })
    (record { request = m.request; response = m.response; compress = Some z; correlation = None; attachment = None }) end 3 z four (omega arith) (omega arith) (unsigned_below z (fits_wide z fits))
    (λ at stop. ap (λ (x : ℤ). Ok (record { request = m.request; response = m.response; compress = Some x; correlation = None; attachment = None })) (int32_again z fits)))
    ∙ message_present (FitsSigned w64) (number_bytes 4) meta_field (λ o. record { request = m.request; response = m.response; compress = m.compress; correlation = o; attachment = None }) end
    five m.correlation sized.correlation
    (λ z fits. message_number meta_field (record { request = m.request; response = m.response; compress = m.compress; correlation = None; attachment = None })
    (record { request = m.request; response = m.response; compress = m.compress; correlation = Some z; attachment = None }) end 4 z five (omega arith) (omega arith) (unsigned_below z fits)
    (λ at stop. ap (λ (x : ℤ). Ok (record { request = m.request; response = m.response; compress = m.compress; correlation = Some x; attachment = None })) (to_z-of_z w64 z fits)))
    ∙ message_present IsSize (number_bytes 5) meta_field (λ o. record { request = m.request; response = m.response; compress = m.compress; correlation = m.correlation; attachment = o }) end
    [] m.attachment (size m.attachment writable.attachment sized.attachment)
    (λ z is. message_number meta_field (record { request = m.request; response = m.response; compress = m.compress; correlation = m.correlation; attachment = None })
    (record { request = m.request; response = m.response; compress = m.compress; correlation = m.correlation; attachment = Some z }) end 5 z [] (omega arith) (omega arith)
    (unsigned_below z (fits_wide z is.fits))
    (λ at stop. rw (int32_again z is.fits, not_negative z is.some) refl))
    ∙ message_end meta_field m end

-- the law
pub meta_again : (m : Meta) → IsWritable m → IsSized m → meta (meta_bytes m) ≡ Ok m
unfolding meta
meta_again m writable sized = meta_again_at m (length (meta_bytes m)) writable sized
