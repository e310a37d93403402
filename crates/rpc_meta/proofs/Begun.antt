-- Lists that begin with what stood there before.
use Rattle.std.proofs.Common.{ℕ, List, ◌++◌, length, take, arith, sym, ap, ◌∙◌}
use Rattle.std.proofs.lemmas.List.{length-append, take-take}
use Rattle.std.proofs.Math.Seq.{take-append_seam}
use Rattle.rpc_meta.specs.Appending.{Begins}

-- what begins with more begins with less
pub begun_past : (before more now : List ℕ) → Begins (before ++ more) now → Begins before now
begun_past before more now h =
    sym (take-take (length before) (length (before ++ more)) now (let e = length-append before more in omega (arith, e)))
    ∙ ap (take (length before)) h ∙ take-append_seam before more
