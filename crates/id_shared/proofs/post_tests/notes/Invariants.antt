use Rattle.std.proofs.Common.{◌≡◌, ◌++◌, length}
use Rattle.id_shared.specs.Standing.{IsPassOf, HasErrorsOf, HasHold}
use Rattle.id_shared.specs.Views.{receipts_in_errors}
use Rattle.id_shared.proofs.post_tests.notes.Given as goal

abbrev pub invariant-loop-error : goal.invariant-loop-error
invariant-loop-error g l = IsPassOf l.ids l.pass
    × HasHold l.pass l.hold
    × HasErrorsOf l.pass l.hold
    × (l.pass ≡ record l.initial.pass { scratch = l.pass.scratch })
    × (l.hold ≡ l.initial.hold)
    × (l.book.first ≡ l.initial.book.first)
    × (l.book.taken.items ++ receipts_in_errors l.pass.scratch ≡ l.initial.book.taken.items ++ receipts_in_errors l.initial.pass.scratch)

abbrev pub decreases-loop-error : goal.decreases-loop-error
decreases-loop-error g l = length l.pass.scratch
