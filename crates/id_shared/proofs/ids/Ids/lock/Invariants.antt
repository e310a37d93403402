use Rattle.id_shared.specs.Standing.{IsPassOf}
use Rattle.id_shared.proofs.Waits.{IsWaiting}
use Rattle.id_shared.proofs.ids.Ids.lock.Given as goal

abbrev pub invariant-loop : goal.invariant-loop
invariant-loop g l = IsPassOf l.self l.pass × IsWaiting l.self.sizes.slots l.id l.initial.pass l.pass
