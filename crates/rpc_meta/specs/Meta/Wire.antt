-- The fields of a message, by the Protocol Buffers wire format. The faults, their places and their order are this project's own choice.
use Rattle.std.specs.Prelude.{ℕ, zero, suc, ◌+◌, ◌-◌, ◌*◌, ◌/◌, ◌%◌, ◌^◌, Bool, List, [], ◌∷◌, length, take, drop, Option, Some, None, Result, Ok, Err, nat_lt, ◌==◌, ◌||◌, if◌then◌else◌}
use Rattle.rpc_meta.specs.declared.fault.MetaFault.{MetaFault}
use Rattle.rpc_meta.specs.declared.fault.MetaFault.TheVariants.{Cut, LongVarint, WireType}

infixl 10 ◌>>=◌
abbrev pub ◌>>=◌ : {A B : Type 0} → Result A MetaFault → (A → Result B MetaFault) → Result B MetaFault
(Ok x) >>= f = f x
(Err e) >>= f = Err e

-- ---- varints

-- at most so many groups of seven bits, lowest first, each but the last with its high bit set; and the bytes after them
unfoldable pub groups : ℕ → ℕ → List ℕ → Result (ℕ × List ℕ) MetaFault
groups at zero bytes = Err (LongVarint at)
groups at (suc most) [] = Err (Cut at)
groups at (suc most) (b ∷ bytes) = if nat_lt b 128 then Ok (b, bytes) else (groups at most bytes >>= λ high. Ok (b - 128 + 128 * high.0, high.1))

-- the value of a varint is taken modulo 2 ^ 64
unfoldable pub wrapped : ℕ → ℕ → List ℕ → Result (ℕ × List ℕ) MetaFault
wrapped at most bytes = groups at most bytes >>= λ n. Ok (n.0 % 2 ^ 64, n.1)

abbrev pub varint : ℕ → List ℕ → Result (ℕ × List ℕ) MetaFault
varint at bytes = wrapped at 10 bytes

-- ---- fields

-- so many bytes, and those after them
unfoldable pub piece : ℕ → ℕ → List ℕ → Result (List ℕ × List ℕ) MetaFault
piece at n bytes = if nat_lt (length bytes) n then Err (Cut at) else Ok (take n bytes, drop n bytes)

-- a value: of type 0, of type 2, or of type 1 or 5, which no field of a meta has
pub data Value : Type 0 where
  number : ℕ → Value
  text : List ℕ → Value
  fixed : Value

unfoldable pub number_at : ℕ → List ℕ → Result (Value × List ℕ) MetaFault
number_at at bytes = do
  n ← varint at bytes
  Ok (number n.0, n.1)

unfoldable pub text_at : ℕ → List ℕ → Result (Value × List ℕ) MetaFault
text_at at bytes = do
  n ← varint at bytes
  p ← piece at n.0 n.1
  Ok (text p.0, p.1)

unfoldable pub fixed_at : ℕ → ℕ → List ℕ → Result (Value × List ℕ) MetaFault
fixed_at at n bytes = do
  p ← piece at n bytes
  Ok (fixed, p.1)

-- the value of this type
unfoldable pub value_at : ℕ → ℕ → List ℕ → Result (Value × List ℕ) MetaFault
value_at at kind bytes =
    if kind == 0 then number_at at bytes else (if kind == 1 then fixed_at at 8 bytes else (if kind == 2 then text_at at bytes else (if kind == 5 then fixed_at at 4 bytes else Err (WireType at))))

-- a field: the place of its key's first byte, the place behind its last byte, its number and its value
pub record Field : Type 0 where
  pub at : ℕ
  pub stop : ℕ
  pub number : ℕ
  pub value : Value

-- what is left of a message that ends at this place begins here
abbrev pub place : ℕ → List ℕ → ℕ
place end bytes = end - length bytes

abbrev pub is_bad_number : ℕ → Bool
is_bad_number n = (n == 0) || nat_lt 536870911 n

-- the first field of a message that ends at this place, and the bytes after it
unfoldable pub field : ℕ → List ℕ → Result (Field × List ℕ) MetaFault
field end bytes = do
  key ← varint (place end bytes) bytes
  if is_bad_number (key.0 / 8) then Err (WireType (place end bytes)) else (do
    v ← value_at (place end bytes) (key.0 % 8) key.1
    Ok (record { at = place end bytes; stop = place end v.1; number = key.0 / 8; value = v.0 }, v.1))

-- the fields up to the first fault, and that fault
pub record Fields : Type 0 where
  pub list : List Field
  pub fault : Option MetaFault

abbrev pub first_of : Result (Field × List ℕ) MetaFault → (List ℕ → Fields) → Fields
first_of (Ok f) others = record { list = f.0 ∷ (others f.1).list; fault = (others f.1).fault }
first_of (Err e) others = record { list = []; fault = Some e }

-- at most so many fields
unfoldable pub fields_within : ℕ → ℕ → List ℕ → Fields
fields_within end zero bytes = record { list = []; fault = None }
fields_within end (suc most) [] = record { list = []; fault = None }
fields_within end (suc most) (b ∷ bytes) = first_of (field end (b ∷ bytes)) (λ rest. fields_within end most rest)

-- the fields of a message that ends at this place; each has a byte or more
unfoldable pub fields : ℕ → List ℕ → Fields
fields end bytes = fields_within end (length bytes) bytes

-- what fields say one after the other of a value that stood before, or the first fault
unfoldable pub said : {M : Type 0} → (M → Field → Result M MetaFault) → M → List Field → Option MetaFault → Result M MetaFault
said says m [] None = Ok m
said says m [] (Some e) = Err e
said says m (f ∷ fs) fault = says m f >>= λ next. said says next fs fault
