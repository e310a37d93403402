use Rattle.std.proofs.Common.{ap, sym, ◌∙◌, None}
use Rattle.std.proofs.lemmas.Option.{none-some}
use Rattle.id_rule.specs.Steps.{value_in}
use Rattle.id_shared.specs.Standing.{IdTable}
use Rattle.id_shared.proofs.ids.Ids.put.Goals as goal

pub exchange-requires : goal.exchange-requires
exchange-requires g c = (c.requires.table ∙ sym (ap (λ (z : IdTable). z.table) c.self.view_is), (None, c.requires.empty))

pub unreachable-requires : goal.unreachable-requires
unreachable-requires g c = none-some c.in-Some.field-0 (sym (ap value_in c.requires.empty) ∙ ap value_in c.exchange.ensures.2 ∙ c.in-Some.is)
