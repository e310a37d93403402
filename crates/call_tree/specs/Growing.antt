-- What goes out on a step, behind what went out before.
use Rattle.std.specs.Prelude.{◌≡◌, List, ◌++◌}
use Rattle.rpc_model.specs.Effects.{Send, Mark}
use Rattle.call_tree.specs.declared.outbox.Outbox.{Outbox}

-- these sends and marks came behind those before
pub record IsGrown (old now : Outbox) (sends : List Send) (marks : List Mark) : Type 0 where
  pub sent : now.sends.items ≡ old.sends.items ++ sends
  pub set : now.marks.items ≡ old.marks.items ++ marks
