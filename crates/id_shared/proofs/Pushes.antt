-- The word of a node that is pushed.
use Rattle.std.proofs.Common.{◌≡◌, ℕ, ◌<◌, arith}
use Rattle.id_rule.specs.Nodes.{node_word, offset_in, error_in}

-- the error's fields in the node's word
pub word_written : (w head offset code : ℕ) → w ≡ node_word head offset code → head < 65536 → offset < 2048 → code < 65536
    → (offset_in w ≡ offset) × (error_in w ≡ code)
word_written w head offset code is a b c = (omega (arith, is, a, b, c), omega (arith, is, a, b, c))
