-- What begins with more begins with less.
use Rattle.std.proofs.Common.{ℕ, List, ◌++◌}
use Rattle.rpc_meta.specs.Appending.{Begins}
use Rattle.rpc_meta.proofs.Begun as meta

pub begun_past : (before more now : List ℕ) → Begins (before ++ more) now → Begins before now
begun_past before more now h = meta.begun_past before more now h
