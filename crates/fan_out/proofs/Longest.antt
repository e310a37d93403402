-- A fold whose merger takes the longer text ends with the longest.
use Rattle.std.proofs.Common.{◌≡◌, ℕ, List, [], ◌∷◌, Option, Some, unwrap_or, refl}
use Rattle.rpc_model.specs.declared.event.End.TheVariants.{Good}
use Rattle.rpc_model.specs.declared.part.Part.{Part}
use Rattle.rpc_model.specs.Parallel as spec
use Rattle.fan_out.specs.Longest.{longer, longer_text, longest}

pub longest-fold : {G : Type 0} (so_far : Option (List ℕ)) (parts : List (Part G)) (limit fails : ℕ)
    → spec.fold_from (λ m so_far index part. longer so_far part) parts limit so_far fails ≡ Good (unwrap_or (longest so_far parts) [])
longest-fold so_far [] limit fails = refl
longest-fold so_far (part ∷ parts) limit fails = longest-fold (Some (longer_text so_far part.text)) parts limit fails
