-- What is left after a field is shorter, and so the fields of a message don't depend on how many there may be.
use Rattle.std.proofs.Common.{◌≡◌, ℕ, zero, suc, ◌+◌, ◌-◌, ◌*◌, ◌/◌, ◌%◌, ◌^◌, ◌<◌, ◌≤◌, Bool, true, false, cond, eqb, ltb, List, [], ◌∷◌, length, take, drop, Some, None, Result, Ok, Err}
use Rattle.std.proofs.Common.{refl, ap, ◌∙◌, arith}
use Rattle.std.proofs.lemmas.List.{length-drop}
use Rattle.rpc_meta.specs.declared.fault.MetaFault.{MetaFault}
use Rattle.rpc_meta.specs.declared.fault.MetaFault.TheVariants.{Cut, WireType}
use Rattle.rpc_meta.specs.Meta.Wire.{◌>>=◌, groups, wrapped, piece, number, text, fixed, number_at, text_at, fixed_at, value_at, Field, place, is_bad_number, field, Fields, first_of}
use Rattle.rpc_meta.specs.Meta.Wire.{fields_within, fields}

-- fewer than n bytes are left
abbrev pub Below : {X : Type 0} → ℕ → Result (X × List ℕ) MetaFault → Type 0
Below n (Ok x) = length x.1 < n
Below n (Err e) = Unit {0}

bind_below : {X Y : Type 0} (n m : ℕ) (r : Result (X × List ℕ) MetaFault) (f : X × List ℕ → Result (Y × List ℕ) MetaFault) → Below n r → ((x : X × List ℕ) → length x.1 < n → Below m (f x))
    → Below m (r >>= f)
bind_below n m (Ok x) f h g = g x h
bind_below n m (Err e) f h g = tt

cond_below : {X : Type 0} (n : ℕ) (b : Bool) (x y : Result (X × List ℕ) MetaFault) → Below n x → Below n y → Below n (cond b x y)
cond_below n true x y h k = h
cond_below n false x y h k = k

groups_below : (at most : ℕ) (bytes : List ℕ) → Below (length bytes) (groups at most bytes)
unfolding groups
groups_below at zero bytes = tt
groups_below at (suc most) [] = tt
groups_below at (suc most) (b ∷ bytes) =
    cond_below (suc (length bytes)) (ltb b 128) (Ok (b, bytes)) (groups at most bytes >>= λ high. Ok (b - 128 + 128 * high.0, high.1)) (omega arith)
    (bind_below (length bytes) (suc (length bytes)) (groups at most bytes) (λ high. Ok (b - 128 + 128 * high.0, high.1)) (groups_below at most bytes) (λ x h. omega arith))

wrapped_below : (at most : ℕ) (bytes : List ℕ) → Below (length bytes) (wrapped at most bytes)
unfolding wrapped
wrapped_below at most bytes = bind_below (length bytes) (length bytes) (groups at most bytes) (λ n. Ok (n.0 % 2 ^ 64, n.1)) (groups_below at most bytes) (λ x h. h)

piece_below : (at n : ℕ) (bytes : List ℕ) → Below (suc (length bytes)) (piece at n bytes)
unfolding piece
piece_below at n bytes = cond_below (suc (length bytes)) (ltb (length bytes) n) (Err (Cut at)) (Ok (take n bytes, drop n bytes)) tt (omega (arith, length-drop n bytes))

number_below : (at : ℕ) (bytes : List ℕ) → Below (length bytes) (number_at at bytes)
unfolding number_at
number_below at bytes = bind_below (length bytes) (length bytes) (wrapped at 10 bytes) (λ n. Ok (number n.0, n.1)) (wrapped_below at 10 bytes) (λ x h. h)

text_below : (at : ℕ) (bytes : List ℕ) → Below (length bytes) (text_at at bytes)
unfolding text_at
text_below at bytes =
    bind_below (length bytes) (length bytes) (wrapped at 10 bytes) (λ n. piece at n.0 n.1 >>= λ p. Ok (text p.0, p.1)) (wrapped_below at 10 bytes)
    (λ n h. bind_below (suc (length n.1)) (length bytes) (piece at n.0 n.1) (λ p. Ok (text p.0, p.1)) (piece_below at n.0 n.1) (λ p k. omega arith))

fixed_below : (at n : ℕ) (bytes : List ℕ) → Below (suc (length bytes)) (fixed_at at n bytes)
unfolding fixed_at
fixed_below at n bytes = bind_below (suc (length bytes)) (suc (length bytes)) (piece at n bytes) (λ p. Ok (fixed, p.1)) (piece_below at n bytes) (λ p h. h)

more_below : {X : Type 0} (n : ℕ) (r : Result (X × List ℕ) MetaFault) → Below n r → Below (suc n) r
more_below n (Ok x) h = omega arith
more_below n (Err e) h = tt

value_below : (at kind : ℕ) (bytes : List ℕ) → Below (suc (length bytes)) (value_at at kind bytes)
unfolding value_at
value_below at kind bytes =
    let n = suc (length bytes) in
    cond_below n (eqb kind 0) _ _ (more_below (length bytes) (number_at at bytes) (number_below at bytes))
    (cond_below n (eqb kind 1) _ _ (fixed_below at 8 bytes)
    (cond_below n (eqb kind 2) _ _ (more_below (length bytes) (text_at at bytes) (text_below at bytes))
    (cond_below n (eqb kind 5) _ _ (fixed_below at 4 bytes) tt)))

pub field_below : (end : ℕ) (bytes : List ℕ) → Below (length bytes) (field end bytes)
unfolding field
field_below end bytes =
    let at = place end bytes in
    bind_below (length bytes) (length bytes) (wrapped at 10 bytes) _ (wrapped_below at 10 bytes)
    (λ key h. cond_below (length bytes) (is_bad_number (key.0 / 8)) (Err (WireType at)) _ tt
    (bind_below (suc (length key.1)) (length bytes) (value_at at (key.0 % 8) key.1) _ (value_below at (key.0 % 8) key.1) (λ v k. omega arith)))

first_same : (n : ℕ) (r : Result (Field × List ℕ) MetaFault) (f g : List ℕ → Fields) → Below n r → ((rest : List ℕ) → length rest < n → f rest ≡ g rest) → first_of r f ≡ first_of r g
first_same n (Ok x) f g h same = ap (λ (others : Fields). first_of (Ok x) (λ _. others)) (same x.1 h)
first_same n (Err e) f g h same = refl

fields_same : (end n m : ℕ) (bytes : List ℕ) → length bytes ≤ n → length bytes ≤ m → fields_within end n bytes ≡ fields_within end m bytes
unfolding fields_within
fields_same end zero zero bytes h k = refl
fields_same end zero (suc m) [] h k = refl
fields_same end zero (suc m) (b ∷ bytes) h k = absurd (omega arith)
fields_same end (suc n) zero [] h k = refl
fields_same end (suc n) zero (b ∷ bytes) h k = absurd (omega arith)
fields_same end (suc n) (suc m) [] h k = refl
fields_same end (suc n) (suc m) (b ∷ bytes) h k =
    first_same (suc (length bytes)) (field end (b ∷ bytes)) (λ rest. fields_within end n rest) (λ rest. fields_within end m rest) (field_below end (b ∷ bytes))
    (λ rest lt. fields_same end n m rest (omega arith) (omega arith))

-- the first field, and then those of the rest
fields_first : (end b : ℕ) (bytes : List ℕ) → fields end (b ∷ bytes) ≡ first_of (field end (b ∷ bytes)) (λ rest. fields end rest)
unfolding fields fields_within
fields_first end b bytes =
    first_same (suc (length bytes)) (field end (b ∷ bytes)) (λ rest. fields_within end (length bytes) rest) (λ rest. fields end rest) (field_below end (b ∷ bytes))
    (λ rest lt. fields_same end (length bytes) (length rest) rest (omega arith) (omega arith))

-- no bytes are no fields
pub fields_none : (end : ℕ) (bytes : List ℕ) → length bytes ≡ 0 → ((fields end bytes).list ≡ []) × ((fields end bytes).fault ≡ None)
unfolding fields fields_within
fields_none end [] e = (refl, refl)
fields_none end (b ∷ bytes) e = absurd (omega arith)

pub fields_some : (end : ℕ) (bytes : List ℕ) (f : Field) (rest : List ℕ) → 0 < length bytes → field end bytes ≡ Ok (f, rest)
    → ((fields end bytes).list ≡ f ∷ (fields end rest).list) × ((fields end bytes).fault ≡ (fields end rest).fault)
fields_some end [] f rest h e = absurd (omega arith)
fields_some end (b ∷ bytes) f rest h e = let step : fields end (b ∷ bytes) ≡ first_of (Ok (f, rest)) (λ t. fields end t) = fields_first end b bytes
    ∙ ap (λ (r : Result (Field × List ℕ) MetaFault). first_of r (λ t. fields end t)) e in
    (ap (λ (fs : Fields). fs.list) step, ap (λ (fs : Fields). fs.fault) step)

pub fields_fault : (end : ℕ) (bytes : List ℕ) (e : MetaFault) → 0 < length bytes → field end bytes ≡ Err e → ((fields end bytes).list ≡ []) × ((fields end bytes).fault ≡ Some e)
fields_fault end [] d h e = absurd (omega arith)
fields_fault end (b ∷ bytes) d h e = let step : fields end (b ∷ bytes) ≡ first_of (Err d) (λ t. fields end t) = fields_first end b bytes
    ∙ ap (λ (r : Result (Field × List ℕ) MetaFault). first_of r (λ t. fields end t)) e in
    (ap (λ (fs : Fields). fs.list) step, ap (λ (fs : Fields). fs.fault) step)

pub ruleset field_steps = (fields_none, fields_some, fields_fault)
