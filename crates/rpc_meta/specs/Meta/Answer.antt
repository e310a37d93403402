-- How an answer of the code stands to the definition, and the code that a reply tells: this project's own choice.
use Rattle.std.specs.Prelude.{◌≡◌, ℕ, ℤ, pos, negsuc, Option, Some, None, Result, Ok, Err, nat_le, if◌then◌else◌}
use Rattle.rpc_meta.specs.declared.fault.MetaFault.{MetaFault}
use Rattle.rpc_meta.specs.declared.fault.MetaFault.TheVariants.{Memory}
use Rattle.rpc_meta.specs.declared.meta.Meta.{Meta}
use Rattle.rpc_meta.specs.declared.meta.ResponseMeta.{ResponseMeta}

-- a fault is the definition's, but for want of memory, which is free
abbrev pub Fails : {Y : Type 0} → MetaFault → Result Y MetaFault → Type 0
Fails Memory read = Unit {0}
Fails e read = read ≡ Err e

-- the answer of a call that takes no memory, seen by view, is the definition's
abbrev pub Reads : {X Y : Type 0} → (X → Y) → Result X MetaFault → Result Y MetaFault → Type 0
Reads view (Ok x) read = read ≡ Ok (view x)
Reads view (Err e) read = read ≡ Err e

-- the answer is the definition's, but for want of memory
abbrev pub Gives : {Y : Type 0} → Result Y MetaFault → Result Y MetaFault → Type 0
Gives (Ok x) read = read ≡ Ok x
Gives (Err e) read = Fails e read

-- a code of a reply: one outside 0 to 65535 counts as 2002
abbrev pub told_code : ℤ → ℕ
told_code (pos n) = if nat_le n 65535 then n else 2002
told_code (negsuc n) = 2002

abbrev pub code_of : Option ℤ → ℕ
code_of None = 0
code_of (Some z) = told_code z

abbrev pub response_code : Option ResponseMeta → ℕ
response_code None = 0
response_code (Some r) = code_of r.code

-- the code that a meta tells
abbrev pub reply_code_of : Meta → ℕ
reply_code_of m = response_code m.response
