-- How many bytes a spelling has.
use Rattle.std.proofs.Common.{◌≡◌, ℕ, ◌+◌, ◌-◌, ◌*◌, ◌/◌, ◌^◌, ◌<◌, ◌≤◌, min, List, ◌++◌, length, sym, ap, ◌∙◌, arith, inl, inr}
use Rattle.std.proofs.lemmas.Bool.{cases_lt}
use Rattle.std.proofs.lemmas.List.{length-append}
use Rattle.rpc_meta.specs.declared.meta.Meta.{Meta}
use Rattle.rpc_meta.specs.declared.meta.RequestMeta.{RequestMeta}
use Rattle.rpc_meta.specs.declared.meta.ResponseMeta.{ResponseMeta}
use Rattle.rpc_meta.specs.Meta.Spelling.{groups_of, number_bytes, text_bytes, text_size, if_present, request_bytes, response_bytes, meta_bytes}
use Rattle.rpc_meta.proofs.Shortest.{varint_more}

pub length-text_bytes : (k : ℕ) (bytes : List ℕ) → length (text_bytes k bytes) ≡ text_size k (length bytes)
unfolding text_bytes
length-text_bytes k bytes =
    let key = groups_of 10 (k * 8 + 2) in
    let size = groups_of 10 (length bytes) in
    omega (arith, length-append (key ++ size) bytes, length-append key size)

-- a size that is cut off at the greatest number is cut off with a field around it
pub text_size-cut : (k n : ℕ) → min (text_size k (min n (2 ^ 64 - 1))) (2 ^ 64 - 1) ≡ min (text_size k n) (2 ^ 64 - 1)
text_size-cut k n =
    elim (cases_lt n (2 ^ 64)) [
      | inl small ↦ let same : min n (2 ^ 64 - 1) ≡ n = omega arith in ap (λ (m : ℕ). min (text_size k m) (2 ^ 64 - 1)) same
      | inr big ↦ let top : min n (2 ^ 64 - 1) ≡ 2 ^ 64 - 1 = omega arith in ap (λ (m : ℕ). min (text_size k m) (2 ^ 64 - 1)) top ∙ omega arith
    ]

-- a step of counting groups
pub count_group : (len n total : ℕ) → n < 2 ^ 64 → 128 ≤ n → len + length (groups_of 10 n) ≡ total → len + 1 + length (groups_of 10 (n / 128)) ≡ total
count_group len n total lt le so_far = omega (arith, ap length (varint_more n lt le))

pub request_size : (r : RequestMeta) → length (request_bytes r) ≡ text_size 1 (length r.service) + text_size 2 (length r.method) + length (if_present (number_bytes 3) r.log_id)
unfolding request_bytes
request_size r =
    omega (
      arith,
      length-append (text_bytes 1 r.service ++ text_bytes 2 r.method) (if_present (number_bytes 3) r.log_id),
      length-append (text_bytes 1 r.service) (text_bytes 2 r.method),
      length-text_bytes 1 r.service,
      length-text_bytes 2 r.method,
    )

pub response_size : (r : ResponseMeta) → length (response_bytes r) ≡ length (if_present (number_bytes 1) r.code) + length (if_present (text_bytes 2) r.text)
unfolding response_bytes
response_size r = length-append (if_present (number_bytes 1) r.code) (if_present (text_bytes 2) r.text)

pub meta_size : (m : Meta) → length (meta_bytes m) ≡ length (if_present (λ r. text_bytes 1 (request_bytes r)) m.request) + length (if_present (λ r. text_bytes 2 (response_bytes r)) m.response)
    + length (if_present (number_bytes 3) m.compress) + length (if_present (number_bytes 4) m.correlation) + length (if_present (number_bytes 5) m.attachment)
unfolding meta_bytes
meta_size m =
    let a = if_present (λ r. text_bytes 1 (request_bytes r)) m.request in
    let b = if_present (λ r. text_bytes 2 (response_bytes r)) m.response in
    let c = if_present (number_bytes 3) m.compress in
    let d = if_present (number_bytes 4) m.correlation in
    let e = if_present (number_bytes 5) m.attachment in
    omega (arith, length-append (((a ++ b) ++ c) ++ d) e, length-append ((a ++ b) ++ c) d, length-append (a ++ b) c, length-append a b)

-- a message that is cut off at the greatest number, in its field
pub nested_size : (k n : ℕ) (bytes : List ℕ) → n ≡ min (length bytes) (2 ^ 64 - 1) → min (text_size k n) (2 ^ 64 - 1) ≡ min (length (text_bytes k bytes)) (2 ^ 64 - 1)
nested_size k n bytes e = ap (λ (m : ℕ). min (text_size k m) (2 ^ 64 - 1)) e ∙ text_size-cut k (length bytes) ∙ ap (λ (m : ℕ). min m (2 ^ 64 - 1)) (sym (length-text_bytes k bytes))

pub ruleset sizes = (length-text_bytes, request_size, response_size, meta_size, nested_size)
