-- What the fields of an entry and of a cell stand for: a range and a slot.
use Rattle.id_pool.specs.Ranges.{Standing, Free, Held, Ended}
use Rattle.id_pool.specs.declared.entry.State.{State}
use Rattle.id_pool.specs.declared.entry.State.TheVariants.{Free as IsFree, Held as IsHeld, Ended as IsEnded}

abbrev pub standing_of : State → Standing
standing_of IsFree = Free
standing_of (IsHeld waiting) = Held waiting.items
standing_of IsEnded = Ended
