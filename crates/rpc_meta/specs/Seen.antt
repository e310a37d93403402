-- What the reader's fields are for the definition: this project's own choice.
use Rattle.std.specs.Prelude.{◌≡◌, ◌≤◌, ℕ, length, [], ◌∷◌, Option, Some, None, Result, Ok, Err}
use Rattle.rpc_meta.specs.declared.fault.MetaFault.{MetaFault}
use Rattle.rpc_meta.specs.declared.fields.Value.{Value}
use Rattle.rpc_meta.specs.declared.fields.Value.TheVariants as code
use Rattle.rpc_meta.specs.declared.fields.Field.{Field}
use Rattle.rpc_meta.specs.Meta.Wire

-- a value, wherever its bytes lie
abbrev pub value_seen : Value → Wire.Value
value_seen (code.Number n) = Wire.number n
value_seen (code.Text bytes) = Wire.text bytes.now
value_seen code.Fixed = Wire.fixed

abbrev pub field_seen : Field → Wire.Field
field_seen f = record { at = f.at; stop = f.stop; number = f.number; value = value_seen f.value }

-- how many bytes a text has
abbrev pub value_len : Value → ℕ
value_len (code.Number n) = 0
value_len (code.Text bytes) = length bytes.now
value_len code.Fixed = 0

-- the bytes of a text lie before the field's end
abbrev pub IsWithin : Field → Type 0
IsWithin f = value_len f.value ≤ f.stop

-- the next of these fields, or their end, or the fault after the last
abbrev pub IsNext : Wire.Fields → Result (Option Field) MetaFault → Wire.Fields → Type 0
IsNext old (Ok None) new = (old.list ≡ []) × (old.fault ≡ None)
IsNext old (Ok (Some f)) new = (old.list ≡ field_seen f ∷ new.list) × (old.fault ≡ new.fault)
IsNext old (Err e) new = (old.list ≡ []) × (old.fault ≡ Some e)
