use Rattle.std.proofs.Common.{◌≡◌}
use Rattle.id_shared.specs.Standing.{IsPassOf}
use Rattle.id_shared.proofs.Waits.{IsJoining}
use Rattle.id_shared.proofs.ids.Ids.join.Given as goal

abbrev pub invariant-loop : goal.invariant-loop
invariant-loop g l = IsPassOf l.self l.pass × (l.waits ≡ l.initial.waits) × IsJoining l.initial.pass l.initial.waits l.pass
