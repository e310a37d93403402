-- What a sub's end brings its parallel node: this project's own choice.
use Rattle.std.specs.Prelude.{ℕ, List, set, Option, None, Some}
use Rattle.rpc_model.specs.declared.event.End.{End}
use Rattle.rpc_model.specs.Kinds.{Kinds}
use Rattle.rpc_model.specs.Parallel.{Limits, judged}

-- the node's end, where the sub of this index gets this end, or none
abbrev pub brought_up : {M G : Type 0} → Kinds M G → Limits → List G → List (Option End) → ℕ → Option End → Option End
brought_up kinds limits merges ends at None = None
brought_up kinds limits merges ends at (Some end) = judged kinds limits merges (set ends at (Some end))
