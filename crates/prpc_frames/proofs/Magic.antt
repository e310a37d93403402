-- Bytes that begin with the whole magic.
use Rattle.std.proofs.Common.{◌≡◌, ℕ, ◌≤◌, List, [], ◌∷◌, length, get_or, Ok, refl, arith}
use Rattle.prpc_frames.specs.Stream.Reading.{magic, begins}

pub begins_whole : (at : ℕ) (bytes : List ℕ) → 4 ≤ length bytes → get_or bytes 0 0 ≡ 80 → get_or bytes 1 0 ≡ 82 → get_or bytes 2 0 ≡ 80 → get_or bytes 3 0 ≡ 67 → begins at magic bytes ≡ Ok tt
unfolding begins
begins_whole at [] h a b c d = absurd (omega arith)
begins_whole at (p ∷ []) h a b c d = absurd (omega arith)
begins_whole at (p ∷ q ∷ []) h a b c d = absurd (omega arith)
begins_whole at (p ∷ q ∷ r ∷ []) h a b c d = absurd (omega arith)
begins_whole at (p ∷ q ∷ r ∷ s ∷ rest) h a b c d = rw (a, b, c, d) refl
