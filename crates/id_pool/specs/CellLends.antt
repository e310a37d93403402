-- What an entry, its place in a cell and the cell end as where the value is lent.
use Rattle.std.specs.Borrow.{Lends, Fml, RattleType, MutBor}
use Rattle.id_pool.specs.Ranges.{Range, Slot, with_value, valued}
use Rattle.id_pool.specs.declared.cell.Content.{Content}
use Rattle.id_pool.specs.declared.cell.Content.TheVariants.{Vacant, Retired, Taken}
use Rattle.id_pool.specs.contracts.entry.Entry as entry
use Rattle.id_pool.specs.contracts.cell.Content as content
use Rattle.id_pool.specs.contracts.cell.Cell as cell

-- a content whose range, if it has one, has another value
abbrev pub content_valued : {T : Type 0} → Content T → T → Content T
content_valued (Vacant next) value = Vacant next
content_valued Retired value = Retired
content_valued (Taken r) value = Taken (with_value r value)

module _ (T : RattleType) where
  abbrev pub lends_entry : MutBor (Range T.Denot) → MutBor T.Denot → Fml
  lends_entry e r = Lends (entry.the_row T) T e r (with_value e.now)

  abbrev pub lends_content : MutBor (Content T.Denot) → MutBor T.Denot → Fml
  lends_content c r = Lends (content.the_row T) T c r (content_valued c.now)

  abbrev pub lends_cell : MutBor (Slot T.Denot) → MutBor T.Denot → Fml
  lends_cell c r = Lends (cell.the_row T) T c r (λ w. valued w c.now)
