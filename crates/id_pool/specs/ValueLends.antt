-- What a pool ends as where the value of a range is lent: that value is the last one written, and nothing else changes.
use Rattle.std.specs.Prelude.{ℕ}
use Rattle.std.specs.Borrow.{LendsIf, Lends, Fml, RattleType, MutBor}
use Rattle.std.specs.declared.option.Option.{Option}
use Rattle.id_pool.specs.Ranges.{Slot, changed, valued}
use Rattle.std.specs.Prelude.{List}
use Rattle.id_pool.specs.contracts.pool.Pool.{the_row}

module _ (T : RattleType) (pool : MutBor (List (Slot T.Denot))) (id : ℕ) where
  abbrev pub lends_held : MutBor T.Denot → Fml
  lends_held r = Lends (the_row T) T pool r (λ w. changed (valued w) id pool.now)

  -- at `None` the pool is as before
  abbrev pub lends_value : Option (MutBor T.Denot) → Fml
  lends_value r = LendsIf (the_row T) T pool r (λ w. changed (valued w) id pool.now) pool.now
