use Rattle.std.proofs.Common.{◌≡◌, length}
use Rattle.id_shared.specs.Standing.{IsPassOf, HasErrorsOf, HasHold}
use Rattle.ids_bench.specs.Books.{IsNoted}
use Rattle.ids_bench.proofs.book.notes.Given as goal

abbrev pub invariant-loop-pass : goal.invariant-loop-pass
invariant-loop-pass l = IsPassOf l.ids l.pass
    × HasHold l.pass l.hold
    × HasErrorsOf l.pass l.hold
    × (l.pass ≡ record l.initial.pass { scratch = l.pass.scratch })
    × (l.hold ≡ l.initial.hold)
    × (l.book.first ≡ l.initial.book.first)
    × IsNoted l.initial.pass l.initial.book.taken.items l.pass l.book.taken.items

abbrev pub decreases-loop-pass : goal.decreases-loop-pass
decreases-loop-pass l = length l.pass.scratch
