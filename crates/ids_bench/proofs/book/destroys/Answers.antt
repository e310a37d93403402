use Rattle.std.proofs.Common.{[], append-nil, ap, sym, ◌∙◌}
use Rattle.id_rule.specs.Parts.{part_of}
use Rattle.id_shared.specs.Views.{receipts_in_errors}
use Rattle.ids_bench.proofs.Books.{left_out}
use Rattle.ids_bench.proofs.book.destroys.Goals as goal

pub destroy-requires-clause-log : goal.destroy-requires-clause-log
destroy-requires-clause-log g c = let log = c.in-Locked.book.taken.items in (
  [],
  left_out c.lock.new.pass c.in-Locked.hold log [] [] log (sym (append-nil log)) (sym (ap receipts_in_errors (c.lock.ensures.errors.0 ∙ c.requires.own.1)))
      c.in-Locked.ensures.holding,
)

pub returns-in-Locked-clause-owners : goal.returns-in-Locked-clause-owners
returns-in-Locked-clause-owners g c = λ slot r h. ap (λ z. (part_of z slot).owner) c.forgets.ensures.same ∙ c.destroy.ensures.owners slot r ((c.lock.ensures.claims slot r).2 h)

pub returns-in-Gone-clause-owners : goal.returns-in-Gone-clause-owners
returns-in-Gone-clause-owners g c = λ slot r h. (c.lock.ensures.claims slot r).2 h
