-- What a net in memory keeps: this project's own choice.
use Rattle.std.specs.Prelude.{ℕ, List}
use Rattle.rpc_base.specs.declared.net.Ends.{Ends}
use Rattle.rpc_base.specs.declared.mem_wire.MemIn.{MemIn}
use Rattle.rpc_base.specs.declared.mem_wire.MemOut.{MemOut}

-- the connections that came back, each with its server, how many are out, the numbers of the opens that fail, and two counts
pub record Hub : Type 0 where
  pub back : List (ℕ × Ends MemIn MemOut)
  pub opened : ℕ
  pub failing : List ℕ
  pub calls : ℕ
  pub faults : ℕ
