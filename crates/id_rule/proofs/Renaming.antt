-- A slot whose seats are others after a join is as it was otherwise.
use Rattle.std.proofs.Common.{◌≡◌, ◌≢◌, ℕ, ◌<◌, List, refl, Option}
use Rattle.id_rule.specs.declared.view.Receipt.{Receipt}
use Rattle.id_rule.specs.Nodes.{Place}
use Rattle.id_rule.specs.Receipts.{History}
use Rattle.id_rule.specs.Phases.{Phase, vacant, reserved, free, locked, ended, taken, retired, slot_word, home_value, IsSeated, IsSound}
use Rattle.id_rule.specs.Rule.{IsChained, IsTold}
use Rattle.id_rule.proofs.Seats.{seat_now, renamed, seat_low}

-- the history, with the seats after the join
abbrev pub ghost_now : {E : Type 0} → ℕ → ℕ → History E → History E
ghost_now other id g = record g { ender = λ s f. seat_now other id (g.ender s f) }

module _ {T E : Type 0} (log : T → List E) (first_id : T → ℕ) (rec : E → Option Receipt) (other id : ℕ) (apart : other ≢ id) where
  -- the join leaves the word
  pub face_now : (ph : Phase T E) → slot_word (renamed other id ph) ≡ slot_word ph
  face_now (vacant f) = refl
  face_now (reserved f r who) = refl
  face_now (free r x) = refl
  face_now (locked r who l qs got) = refl
  face_now (ended r x) = refl
  face_now (taken r l) = refl
  face_now (retired f) = refl

  -- the join leaves what lies in the slot
  pub home_now : (ph : Phase T E) → home_value (renamed other id ph) ≡ home_value ph
  home_now (vacant f) = refl
  home_now (reserved f r who) = refl
  home_now (free r x) = refl
  home_now (locked r who l qs got) = refl
  home_now (ended r x) = refl
  home_now (taken r l) = refl
  home_now (retired f) = refl

  -- the join leaves the numbers
  pub sound_now : (slot : ℕ) (ph : Phase T E) → IsSound first_id slot ph → IsSound first_id slot (renamed other id ph)
  sound_now slot (vacant f) h = h
  sound_now slot (reserved f r who) h = h
  sound_now slot (free r x) h = h
  sound_now slot (locked r who l qs got) h = h
  sound_now slot (ended r x) h = h
  sound_now slot (taken r l) h = h
  sound_now slot (retired f) h = h

  -- the seats after the join are among the same seats
  pub seated_now : (n : ℕ) (ph : Phase T E) → id < n → IsSeated ph n → IsSeated (renamed other id ph) n
  seated_now n (vacant f) low h = tt
  seated_now n (reserved f r who) low h = seat_low other id apart who n low h
  seated_now n (free r x) low h = seat_low other id apart r.owner n low h
  seated_now n (locked r who l qs got) low h = (seat_low other id apart r.owner n low h.0, seat_low other id apart who n low h.1)
  seated_now n (ended r x) low h = seat_low other id apart r.owner n low h
  seated_now n (taken r l) low h = seat_low other id apart r.owner n low h
  seated_now n (retired f) low h = tt

  -- the join leaves the chain
  pub chained_now : (k : ℕ) (place : ℕ → Place) (slot : ℕ) (ws : List ℕ) (ph : Phase T E) → IsChained k place slot ws ph → IsChained k place slot ws (renamed other id ph)
  chained_now k place slot ws (vacant f) h = h
  chained_now k place slot ws (reserved f r who) h = h
  chained_now k place slot ws (free r x) h = h
  chained_now k place slot ws (locked r who l qs got) h = h
  chained_now k place slot ws (ended r x) h = h
  chained_now k place slot ws (taken r l) h = h
  chained_now k place slot ws (retired f) h = h

  -- the join leaves the receipts of the slot
  pub told_now : (g : History E) (slot : ℕ) (ph : Phase T E) → IsTold log rec g slot ph → IsTold log rec (ghost_now other id g) slot (renamed other id ph)
  told_now g slot (vacant f) h = h
  told_now g slot (reserved f r who) h = h
  told_now g slot (free r x) h = h
  told_now g slot (locked r who l qs got) h = h
  told_now g slot (ended r x) h = h
  told_now g slot (taken r l) h = h
  told_now g slot (retired f) h = h
