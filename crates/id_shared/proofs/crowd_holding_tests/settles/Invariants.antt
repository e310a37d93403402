use Rattle.std.proofs.Common.{◌≡◌, ◌++◌, List}
use Rattle.id_rule.specs.declared.view.Receipt.{Receipt}
use Rattle.id_shared.specs.Claims.{IsHoldingWith, KeepsOwners}
use Rattle.id_shared.specs.Standing.{IsAtRest, first_id_of}
use Rattle.id_shared.proofs.crowd_holding_tests.settles.Given as goal

abbrev pub invariant-loop : goal.invariant-loop
invariant-loop g l = IsAtRest l.ids l.pass
    × KeepsOwners l.initial.pass l.pass
    × (l.kept.1.first ≡ first_id_of l.kept.0)
    × ((old : List Receipt) × ((got : List Receipt) × IsHoldingWith l.pass l.kept.0 old got × (l.kept.1.taken.items ≡ old ++ got)))
