-- The lines that are left go on from the draft as all lines do from the beginning.
use Rattle.std.proofs.Common.{◌≡◌, ◌+◌, [], ◌∷◌, ◌++◌, map, drop}
use Rattle.journal_text.specs.Drafts.{begun, with_pieces}
use Rattle.journal_text.proofs.reading.read_text.Given as goal

abbrev pub invariant-loop-before : goal.invariant-loop-before
invariant-loop-before l =
    with_pieces l.draft (l.before + 1) (map (λ t. t.now) (drop l.before l.lines) ++ l.rest.now ∷ []) ≡ with_pieces begun 1 (map (λ t. t.now) l.lines ++ l.rest.now ∷ [])
