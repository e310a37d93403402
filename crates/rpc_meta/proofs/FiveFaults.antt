-- Want of memory is no fault of the grammar.
use Rattle.std.proofs.Common.{◌≡◌, ℕ, zero, suc, ◌/◌, ◌%◌, Bool, true, false, cond, eqb, ltb, List, [], ◌∷◌, length, Option, Some, None, Result, Ok, Err, subst}
use Rattle.std.specs.Prelude.{IfSome, unwrap_or}
use Rattle.std.specs.Int.{is_negative}
use Rattle.std.specs.Str.{is_utf8}
use Rattle.rpc_meta.specs.declared.fault.MetaFault.{MetaFault}
use Rattle.rpc_meta.specs.declared.fault.MetaFault.TheVariants.{Cut, WireType, BadText, Range, Memory}
use Rattle.rpc_meta.specs.declared.meta.Meta.{Meta}
use Rattle.rpc_meta.specs.declared.meta.RequestMeta.{RequestMeta}
use Rattle.rpc_meta.specs.declared.meta.ResponseMeta.{ResponseMeta}
use Rattle.rpc_meta.specs.Meta.Wire.{◌>>=◌, groups, wrapped, piece, Value, number, text, fixed, number_at, text_at, fixed_at, value_at, Field, place, is_bad_number, field, Fields, first_of}
use Rattle.rpc_meta.specs.Meta.Wire.{fields_within, fields, said}
use Rattle.rpc_meta.specs.Meta.Reading.{int32, name, no_request, request_says, request_field, no_response, response_says, response_field, request_at, response_at, meta_text, meta_number}
use Rattle.rpc_meta.specs.Meta.Reading.{meta_says, meta_field, no_meta, meta}

-- one of the grammar's faults
abbrev IsFault : MetaFault → Type 0
IsFault Memory = ⊥
IsFault e = Unit {0}

abbrev Tells : {X : Type 0} → Result X MetaFault → Type 0
Tells (Ok x) = Unit {0}
Tells (Err e) = IsFault e

bind_tells : {X Y : Type 0} (r : Result X MetaFault) (f : X → Result Y MetaFault) → Tells r → ((x : X) → Tells (f x)) → Tells (r >>= f)
bind_tells (Ok x) f h g = g x
bind_tells (Err e) f h g = h

cond_tells : {X : Type 0} (b : Bool) (x y : Result X MetaFault) → Tells x → Tells y → Tells (cond b x y)
cond_tells true x y h k = h
cond_tells false x y h k = k

groups_tells : (at most : ℕ) (bytes : List ℕ) → Tells (groups at most bytes)
unfolding groups
groups_tells at zero bytes = tt
groups_tells at (suc most) [] = tt
groups_tells at (suc most) (b ∷ bytes) = cond_tells (ltb b 128) (Ok (b, bytes)) _ tt (bind_tells (groups at most bytes) _ (groups_tells at most bytes) (λ x. tt))

wrapped_tells : (at most : ℕ) (bytes : List ℕ) → Tells (wrapped at most bytes)
unfolding wrapped
wrapped_tells at most bytes = bind_tells (groups at most bytes) _ (groups_tells at most bytes) (λ x. tt)

piece_tells : (at n : ℕ) (bytes : List ℕ) → Tells (piece at n bytes)
unfolding piece
piece_tells at n bytes = cond_tells (ltb (length bytes) n) (Err (Cut at)) _ tt tt

value_tells : (at kind : ℕ) (bytes : List ℕ) → Tells (value_at at kind bytes)
unfolding value_at number_at text_at fixed_at
value_tells at kind bytes =
    let fixed-tells : (n : ℕ) → Tells (fixed_at at n bytes) = λ n. bind_tells (piece at n bytes) _ (piece_tells at n bytes) (λ p. tt) in
    cond_tells (eqb kind 0) _ _ (bind_tells (wrapped at 10 bytes) _ (wrapped_tells at 10 bytes) (λ n. tt))
    (cond_tells (eqb kind 1) _ _ (fixed-tells 8)
    (cond_tells (eqb kind 2) _ _ (bind_tells (wrapped at 10 bytes) _ (wrapped_tells at 10 bytes) (λ n. bind_tells (piece at n.0 n.1) _ (piece_tells at n.0 n.1) (λ p. tt)))
    (cond_tells (eqb kind 5) _ _ (fixed-tells 4) tt)))

field_tells : (end : ℕ) (bytes : List ℕ) → Tells (field end bytes)
unfolding field
field_tells end bytes =
    let at = place end bytes in
    bind_tells (wrapped at 10 bytes) _ (wrapped_tells at 10 bytes)
    (λ key. cond_tells (is_bad_number (key.0 / 8)) (Err (WireType at)) _ tt (bind_tells (value_at at (key.0 % 8) key.1) _ (value_tells at (key.0 % 8) key.1) (λ v. tt)))

first_tells : (r : Result (Field × List ℕ) MetaFault) (f : List ℕ → Fields) → Tells r → ((rest : List ℕ) → IfSome (f rest).fault IsFault) → IfSome (first_of r f).fault IsFault
first_tells (Ok x) f h g = g x.1
first_tells (Err e) f h g = h

fields_within_tells : (end most : ℕ) (bytes : List ℕ) → IfSome (fields_within end most bytes).fault IsFault
unfolding fields_within
fields_within_tells end zero bytes = tt
fields_within_tells end (suc most) [] = tt
fields_within_tells end (suc most) (b ∷ bytes) = first_tells (field end (b ∷ bytes)) (λ rest. fields_within end most rest) (field_tells end (b ∷ bytes)) (λ rest. fields_within_tells end most rest)

said_tells : {M : Type 0} (says : M → Field → Result M MetaFault) (m : M) (list : List Field) (fault : Option MetaFault) → ((m : M) (f : Field) → Tells (says m f)) → IfSome fault IsFault
    → Tells (said says m list fault)
unfolding said
said_tells says m [] None each h = tt
said_tells says m [] (Some e) each h = h
said_tells says m (f ∷ fs) fault each h = bind_tells (says m f) _ (each m f) (λ next. said_tells says next fs fault each h)

message_tells : {M : Type 0} (says : M → Field → Result M MetaFault) (m : M) (end : ℕ) (bytes : List ℕ) → ((m : M) (f : Field) → Tells (says m f))
    → Tells (said says m (fields end bytes).list (fields end bytes).fault)
unfolding fields
message_tells says m end bytes each = said_tells says m (fields end bytes).list (fields end bytes).fault each (fields_within_tells end (length bytes) bytes)

name_tells : (at : ℕ) (bytes : List ℕ) → Tells (name at bytes)
unfolding name
name_tells at bytes = cond_tells (is_utf8 bytes) (Ok bytes) (Err (BadText at)) tt tt

request_tells : (m : RequestMeta) (at n : ℕ) (v : Value) → Tells (request_says m at n v)
unfolding request_says
request_tells m at n (text bytes) =
    cond_tells (eqb n 1) _ _ (bind_tells (name at bytes) _ (name_tells at bytes) (λ t. tt)) (cond_tells (eqb n 2) _ _ (bind_tells (name at bytes) _ (name_tells at bytes) (λ t. tt)) tt)
request_tells m at n (number v) = cond_tells (eqb n 3) _ _ tt tt
request_tells m at n fixed = tt

response_tells : (m : ResponseMeta) (n : ℕ) (v : Value) → Tells (response_says m n v)
unfolding response_says
response_tells m n (number v) = cond_tells (eqb n 1) _ _ tt tt
response_tells m n (text bytes) = cond_tells (eqb n 2) _ _ tt tt
response_tells m n fixed = tt

meta_tells : (m : Meta) (at stop n : ℕ) (v : Value) → Tells (meta_says m at stop n v)
unfolding meta_says meta_text meta_number request_at response_at
meta_tells m at stop n (text bytes) =
    cond_tells (eqb n 1) _ _ (bind_tells (request_at (unwrap_or m.request no_request) stop bytes) _
    (message_tells request_field (unwrap_or m.request no_request) stop bytes (λ r f. request_tells r f.at f.number f.value)) (λ r. tt))
    (cond_tells (eqb n 2) _ _
    (bind_tells (response_at (unwrap_or m.response no_response) stop bytes) _
    (message_tells response_field (unwrap_or m.response no_response) stop bytes (λ r f. response_tells r f.number f.value)) (λ r. tt)) tt)
meta_tells m at stop n (number v) = cond_tells (eqb n 3) _ _ tt (cond_tells (eqb n 4) _ _ tt (cond_tells (eqb n 5) _ _ (cond_tells (is_negative (int32 v)) (Err (Range at)) _ tt tt) tt))
meta_tells m at stop n fixed = tt

read_tells : (bytes : List ℕ) → Tells (meta bytes)
unfolding meta
read_tells bytes = message_tells meta_field no_meta (length bytes) bytes (λ m f. meta_tells m f.at f.stop f.number f.value)

no_memory : (r : Result Meta MetaFault) → Tells r → r ≡ Err Memory → ⊥
no_memory (Ok m) h e = cc
no_memory (Err d) h e = let same : d ≡ Memory = cc in subst (λ (x : MetaFault). IsFault x) same h

-- the law
pub never_memory : (bytes : List ℕ) → meta bytes ≡ Err Memory → ⊥
never_memory bytes = no_memory (meta bytes) (read_tells bytes)
